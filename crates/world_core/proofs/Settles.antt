-- One more open call stands on the floor as it stands in the world.
use Rattle.std.proofs.Common.{◌≡◌, ◌⊎◌, inl, inr, ℕ, zero, suc, ◌+◌, ◌<◌, ◌≤◌, Bool, true, false, List, [], ◌∷◌, Option, Some, None, refl, sym, ap, ◌∙◌, subst, length, map, slice_get, slice_set, get_or, option_map, arith}
use Rattle.std.specs.Prelude.{◌==◌, All, IfSome}
use Rattle.std.proofs.lemmas.Bool.{eqb-false, eqb-true}
use Rattle.std.proofs.lemmas.List.{length-map}
use Rattle.std.proofs.lemmas.Option.{slice_get-get_or, slice_get_cases}
use Rattle.faaslet_meaning.specs.Lists.{changed}
use Rattle.session_meaning.proofs.Kept.{get_map}
use Rattle.session_meaning.proofs.LegalEntries.{get_apart, get_here}
use Rattle.session_meaning.specs.Schedule.{is_awaited}
use Rattle.world_core.specs.Floor.{StandsSo}
use Rattle.world_core.specs.Living.{Lives, Settling, world_of}
use Rattle.world_core.specs.Seating.{KeepsQueued, with_stand}
use Rattle.world_core.specs.Settled.{SettledTo}
use Rattle.world_core.specs.declared.floor.Floor.{Floor}
use Rattle.world_core.specs.declared.floor.Seat.{Seat}
use Rattle.world_core.specs.declared.floor.Stand.{Stand}
use Rattle.world_core.specs.declared.floor.Waiting.{Waiting}
use Rattle.world_core.specs.declared.player.Player.{Player}
use Rattle.world_core.specs.declared.running.Running.{Running}

map_set : {A B : Type 0} (g : A → B) (xs : List A) (n : ℕ) (x y : A) → slice_get xs n ≡ Some x → g y ≡ g x → map g (slice_set xs n y) ≡ map g xs
map_set g [] n x y e same = refl
map_set g (z ∷ xs) zero x y e same = let is : z ≡ x = cc in ap (λ b. b ∷ map g xs) (same ∙ sym (ap g is))
map_set g (z ∷ xs) (suc n) x y e same = ap (λ l. g z ∷ l) (map_set g xs n x y e same)

pub map_changed : {A B : Type 0} (g : A → B) (xs : List A) (n : ℕ) (f : A → A) → ((x : A) → g (f x) ≡ g x) → map g (changed xs n f) ≡ map g xs
map_changed {A} g xs n f same = by (slice_get xs n) refl
  where
    by : (o : Option A) → slice_get xs n ≡ o → map g (elim o as (λ o. List A) [ None ↦ xs | Some x ↦ slice_set xs n (f x) ]) ≡ map g xs
    by None e = refl
    by (Some x) e = map_set g xs n x (f x) e (same x)

some_same : {A : Type 0} {x y : A} → Some x ≡ Some y → x ≡ y
some_same e = cc

-- an open call and its seat have one number
pub seat_number : (r : Running) (s : Settling r) (n : ℕ) (p : Player) (seat : Seat) → slice_get r.players.items n ≡ Some p → slice_get r.floor.open.items n ≡ Some seat → seat.call ≡ p.call
seat_number r s n p seat here there =
    some_same (sym (get_map (λ (x : Seat). x.call) r.floor.open.items n ∙ ap (option_map (λ (x : Seat). x.call)) there) ∙ ap (λ l. slice_get l n) (sym s.keeps.numbers) ∙ get_map (λ (x : Player). x.call) r.players.items n ∙ ap (option_map (λ (x : Player). x.call)) here)

pub as_many : (r : Running) → Settling r → length r.floor.open.items ≡ length r.players.items
as_many r s = sym (length-map r.floor.open.items (λ (x : Seat). x.call)) ∙ ap length (sym s.keeps.numbers) ∙ length-map r.players.items (λ (x : Player). x.call)

-- the floor has the same calls
pub floor_changed : (r : Running) (f : Floor) (n : ℕ) (st : Stand) → Settling r → f.open.items ≡ changed r.floor.open.items n (with_stand st) → KeepsQueued r.floor f → Settling (record r { floor = f })
floor_changed r f n st s is keeps =
    let same = ap (map (λ (x : Seat). x.call)) is ∙ map_changed (λ (x : Seat). x.call) r.floor.open.items n (with_stand st) (λ x. refl) in
    let has = s.keeps.floor in
    let queued = keeps.queued in
    record {
      formed = s.formed;
      stand = s.stand;
      keeps = record {
        table = s.keeps.table;
        objects = s.keeps.objects;
        floor = record {
          hosts = keeps.hosts ∙ has.hosts;
          workers = keeps.workers ∙ has.workers;
          queued = ap (λ q. map (λ x. x.call) q.items) queued ∙ has.queued;
          awaited = subst (λ q. All (λ (x : Waiting). x.awaited ≡ is_awaited (world_of r) x.call) q.items) (sym queued) has.awaited;
          open_so = same ∙ has.open_so;
          calls = has.calls;
        };
        numbers = s.keeps.numbers ∙ sym same;
        players = s.keeps.players;
      };
    }

module _ (before r : Running) (f : Floor) (n : ℕ) (p : Player) (st : Stand) (done : SettledTo n before r) (here : slice_get r.players.items n ≡ Some p) (so : StandsSo (world_of r) (record { call = p.call; stand = st })) (is : f.open.items ≡ changed r.floor.open.items n (with_stand st)) (keeps : KeepsQueued r.floor f) where
  new : Running
  new = record r { floor = f }

  stands_on : (m : ℕ) (s : Seat) (b : Bool) → (n == m) ≡ b → m < n + 1 → slice_get (changed r.floor.open.items n (with_stand st)) m ≡ Some s → StandsSo (world_of r) s
  stands_on m s false e l there =
      let apart = eqb-false n m e in
      done.stands m s (omega (arith, l, apart)) (sym (get_apart r.floor.open.items n m (with_stand st) (λ same. apart (sym same))) ∙ there)
  stands_on m s true e l there =
      let same : n ≡ m = eqb-true n m e in
      by (slice_get r.floor.open.items n) refl (sym (get_here r.floor.open.items n (with_stand st)) ∙ ap (slice_get (changed r.floor.open.items n (with_stand st))) same ∙ there)
    where
      by : (o : Option Seat) → slice_get r.floor.open.items n ≡ o → option_map (with_stand st) o ≡ Some s → StandsSo (world_of r) s
      by None h k = let no : ⊥ = cc in absurd no
      by (Some x) h k =
          let number : x.call ≡ p.call = seat_number r done.settling n p x here h in
          let whole : record { call = p.call; stand = st } ≡ s = ap (λ c. record { call = c; stand = st }) (sym number) ∙ some_same k in
          subst (StandsSo (world_of r)) whole so

  pub settled_more : SettledTo (n + 1) before (record r { floor = f })
  settled_more =
      record {
        settling = floor_changed r f n st done.settling is keeps;
        same = record { protos = done.same.protos; events = done.same.events };
        players = done.players;
        stands = λ m s l there. stands_on m s (n == m) refl l (ap (λ xs. slice_get xs m) (sym is) ∙ there);
      }

pub all_settled : (before r : Running) (n : ℕ) → SettledTo n before r → length r.players.items ≤ n → Lives r
all_settled before r n done l =
    let many = as_many r done.settling in
    record {
      settling = done.settling;
      stands = λ k d h. done.stands k _ (omega (arith, many, l, h)) (slice_get-get_or r.floor.open.items k d h);
    }

pub settle_step : (before r : Running) (f : Floor) (n : ℕ) (st : Stand) → SettledTo n before r → n < length r.players.items → IfSome (slice_get r.players.items n) (λ p. StandsSo (world_of r) (record { call = p.call; stand = st })) → f.open.items ≡ changed r.floor.open.items n (with_stand st) → KeepsQueued r.floor f → SettledTo (n + 1) before (record r { floor = f })
settle_step before r f n st done l so is keeps = by (slice_get_cases r.players.items n).1
  where
    by : ((x : Player) × (n < length r.players.items) × (slice_get r.players.items n ≡ Some x) × (get_or r.players.items n x ≡ x)) ⊎ ((length r.players.items ≤ n) × (slice_get r.players.items n ≡ None)) → SettledTo (n + 1) before (record r { floor = f })
    by (inl x) = settled_more before r f n x.0 st done x.2 (subst (λ o. IfSome o (λ p. StandsSo (world_of r) (record { call = p.call; stand = st }))) x.2 so) is keeps
    by (inr x) = let past = x.0 in let no : ⊥ = omega (arith, l, past) in absurd no

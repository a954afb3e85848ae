-- The calls that are kept back, one after another.
use Rattle.std.proofs.Common.{◌≡◌, ◌⊎◌, inl, inr, ℕ, zero, suc, ◌+◌, ◌<◌, ◌≤◌, List, [], ◌∷◌, ◌++◌, Option, Some, None, refl, sym, ap, ap₂, ◌∙◌, subst, length, map, take, slice_get, get_or, option_map, arith}
use Rattle.std.specs.Prelude.{IfSome, filter_map}
use Rattle.std.proofs.lemmas.List.{append-nil}
use Rattle.std.proofs.lemmas.List.Elements.{filter_map-append}
use Rattle.std.proofs.lemmas.Option.{slice_get_cases}
use Rattle.session_meaning.specs.Events as events
use Rattle.session_meaning.specs.SessionReport as report
use Rattle.session_meaning.specs.World.{World}
use Rattle.session_report.specs.Told as told
use Rattle.session_report.specs.Told.{AreBlocked, blocked_at, told_of}
use Rattle.session_report.specs.declared.reported.Blocked.{Blocked}
use Rattle.session_report.specs.declared.reported.Obstacle as coded
use Rattle.world_core.specs.Blocked.{BlockedTo}
use Rattle.world_core.specs.Living.{Settling, world_of}
use Rattle.world_core.specs.declared.player.Player.{Player}
use Rattle.world_core.specs.declared.running.Running.{Running}

take_more : {A : Type 0} (xs : List A) (n : ℕ) (x : A) → slice_get xs n ≡ Some x → take (n + 1) xs ≡ take n xs ++ x ∷ []
take_more [] n x e = let no : ⊥ = cc in absurd no
take_more (y ∷ xs) zero x e = let same : y ≡ x = cc in ap (λ z. z ∷ []) same
take_more {A} (y ∷ xs) (suc n) x e = let same : suc n + 1 ≡ suc (n + 1) = omega arith in ap (λ m. take m (y ∷ xs)) same ∙ ap (λ l. y ∷ l) (take_more xs n x e)

map_both : {A B : Type 0} (f : A → B) (xs ys : List A) → map f (xs ++ ys) ≡ map f xs ++ map f ys
map_both f [] ys = refl
map_both f (x ∷ xs) ys = ap (λ l. f x ∷ l) (map_both f xs ys)

module _ (w : World) (players : List Player) (n : ℕ) (p : Player) (here : slice_get players n ≡ Some p) (found : Option coded.Obstacle) (so : option_map told.obstacle_of found ≡ report.obstacle_of w p.call) where
  numbers_more : filter_map (blocked_at w) (map (λ (p : Player). p.call) (take (n + 1) players)) ≡ filter_map (blocked_at w) (map (λ (p : Player). p.call) (take n players)) ++ filter_map (blocked_at w) (p.call ∷ [])
  numbers_more =
      ap (λ l. filter_map (blocked_at w) (map (λ (p : Player). p.call) l)) (take_more players n p here)
      ∙ ap (filter_map (blocked_at w)) (map_both (λ (p : Player). p.call) (take n players) (p ∷ []))
      ∙ filter_map-append (blocked_at w) (map (λ (p : Player). p.call) (take n players)) (p.call ∷ [])

  abbrev of_one : Option events.Obstacle → List (ℕ × events.Obstacle)
  of_one o = filter_map (λ (x : Option events.Obstacle). option_map (λ y. (p.call, y)) x) (o ∷ [])

  one_so : (o : Option events.Obstacle) → report.obstacle_of w p.call ≡ o → filter_map (blocked_at w) (p.call ∷ []) ≡ of_one o
  one_so o e = ap of_one e

  pub one_blocked : (by : coded.Obstacle) (all : List Blocked) → found ≡ Some by → BlockedTo w players n all → BlockedTo w players (n + 1) (all ++ record { call = p.call; by = by } ∷ [])
  one_blocked by all e h =
      map_both told_of all (record { call = p.call; by = by } ∷ [])
      ∙ ap₂ (λ a b. a ++ b) h (sym (one_so (Some (told.obstacle_of by)) (sym so ∙ ap (option_map told.obstacle_of) e)))
      ∙ sym numbers_more

  pub none_blocked : (all : List Blocked) → found ≡ None → BlockedTo w players n all → BlockedTo w players (n + 1) all
  none_blocked all e h =
      h
      ∙ sym (append-nil (filter_map (blocked_at w) (map (λ (p : Player). p.call) (take n players))))
      ∙ ap (λ b. filter_map (blocked_at w) (map (λ (p : Player). p.call) (take n players)) ++ b) (sym (one_so None (sym so ∙ ap (option_map told.obstacle_of) e)))
      ∙ sym numbers_more

take_all : {A : Type 0} (xs : List A) (n : ℕ) → length xs ≤ n → take n xs ≡ xs
take_all [] zero l = refl
take_all [] (suc n) l = refl
take_all (x ∷ xs) zero l = let no : ⊥ = omega (arith, l) in absurd no
take_all (x ∷ xs) (suc n) l = ap (λ l. x ∷ l) (take_all xs n (omega (arith, l)))

pub all_blocked : (r : Running) (n : ℕ) (all : List Blocked) → Settling r → length r.players.items ≤ n → BlockedTo (world_of r) r.players.items n all → AreBlocked (world_of r) all
all_blocked r n all s l h =
    h ∙ ap (λ l. filter_map (blocked_at (world_of r)) (map (λ (p : Player). p.call) l)) (take_all r.players.items n l) ∙ ap (filter_map (blocked_at (world_of r))) (s.keeps.numbers ∙ s.keeps.floor.open_so)

pub player_there : (players : List Player) (n : ℕ) → n < length players → (p : Player) × (slice_get players n ≡ Some p)
player_there players n l = by (slice_get_cases players n).1
  where
    by : ((x : Player) × (n < length players) × (slice_get players n ≡ Some x) × (get_or players n x ≡ x)) ⊎ ((length players ≤ n) × (slice_get players n ≡ None)) → (p : Player) × (slice_get players n ≡ Some p)
    by (inl x) = (x.0, x.2)
    by (inr x) = let past = x.0 in let no : ⊥ = omega (arith, l, past) in absurd no

-- what is so of the call at a place
pub at_place : (players : List Player) (n : ℕ) (p : Player) (P : Player → Type 0) → slice_get players n ≡ Some p → IfSome (slice_get players n) P → P p
at_place players n p P e h = subst (λ o. IfSome o P) e h

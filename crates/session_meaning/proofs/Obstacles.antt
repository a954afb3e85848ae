-- What stands in the way of a kept call's question is a kept call, on a kept key.
use Rattle.std.proofs.Common.{◌≡◌, ◌⊎◌, inl, inr, ℕ, ◌<◌, Bool, true, false, cond, not, List, [], ◌∷◌, ◌++◌, Option, Some, None, refl, sym, ap, ◌∙◌, length, option_map, option_to_list, unwrap_or, filter, filter_map, min, arith}
use Rattle.std.specs.Prelude.{◌==◌, ◌&&◌}
use Rattle.std.specs.List.{list_all, cons_option}
use Rattle.std.proofs.lemmas.Bool.{and_parts, cases_order}
use Rattle.faaslet_meaning.specs.declared.grant.Channel.{Channel}
use Rattle.faaslet_meaning.specs.declared.grant.Channel.TheVariants.{Local, Global, Table as OnTable}
use Rattle.faaslet_meaning.specs.Lists.{first, least, passes_at}
use Rattle.faaslet_meaning.specs.Channels.{Operation, on_region, Question, ask, fills, pulls, pushes}
use Rattle.faaslet_meaning.specs.Region.{Region, Kind, reads, writes, always, holders, others, blocker, halves}
use Rattle.faaslet_meaning.specs.Records.{is_finished, child_of}
use Rattle.session_meaning.specs.World.{World}
use Rattle.session_meaning.specs.Events.{local_at, global_at, Obstacle, held, unfinished, unfinished_child, lock_on, obstacle}
use Rattle.session_meaning.specs.Cut.{Part}
use Rattle.session_meaning.proofs.Regions.{held_by}
use Rattle.session_meaning.proofs.Tables.{AllFit, child_of_kept}
use Rattle.session_meaning.proofs.WorldParts.{Held, local_at_held, global_at_held}
use Rattle.session_meaning.proofs.OneStep.{keeps_channel}
use Rattle.session_meaning.proofs.KeptAsks.{keeps_question}
use Rattle.session_meaning.proofs.Enabled.{keeps_half, halves_kept, locked}

-- ---- The least of kept calls is kept.

all_left : (calls : ℕ → Bool) (xs ys : List ℕ) → list_all calls (xs ++ ys) ≡ true → list_all calls xs ≡ true
all_left calls [] ys h = refl
all_left calls (x ∷ xs) ys h = let p = and_parts (calls x) (list_all calls (xs ++ ys)) h in ap (λ b. b && list_all calls xs) p.0 ∙ all_left calls xs ys p.1

holders_held : (calls : ℕ → Bool) (s : Region) (k : Kind) → held_by calls s ≡ true → list_all calls (holders s k) ≡ true
holders_held calls s reads h = all_left calls (option_to_list s.writer) s.readers h
holders_held calls s writes h = h
holders_held calls s always h = refl

all_less : (calls test : ℕ → Bool) (xs : List ℕ) → list_all calls xs ≡ true → list_all calls (filter test xs) ≡ true
all_less calls test [] h = refl
all_less calls test (x ∷ xs) h = let p = and_parts (calls x) (list_all calls xs) h in by (test x) p.0 (all_less calls test xs p.1)
  where
    by : (b : Bool) → calls x ≡ true → list_all calls (filter test xs) ≡ true → list_all calls (cond b (x ∷ filter test xs) (filter test xs)) ≡ true
    by true c e = ap (λ d. d && list_all calls (filter test xs)) c ∙ e
    by false c e = e

some_same : {A : Type 0} {x y : A} → Some x ≡ Some y → x ≡ y
some_same e = cc

min_kept : (calls : ℕ → Bool) (m n : ℕ) → calls m ≡ true → calls n ≡ true → calls (min m n) ≡ true
min_kept calls m n h k = by (cases_order m n)
  where
    by : (m ≡ n) ⊎ ((m < n) ⊎ (n < m)) → calls (min m n) ≡ true
    by (inl e) = let l : min m n ≡ m = omega (arith, e) in ap calls l ∙ h
    by (inr (inl f)) = let l : min m n ≡ m = omega (arith, f) in ap calls l ∙ h
    by (inr (inr f)) = let l : min m n ≡ n = omega (arith, f) in ap calls l ∙ k

least_kept : (calls : ℕ → Bool) (xs : List ℕ) (n : ℕ) → list_all calls xs ≡ true → least xs ≡ Some n → calls n ≡ true
least_kept calls [] n h e = let no : ⊥ = cc in absurd no
least_kept calls (x ∷ xs) n h e = let p = and_parts (calls x) (list_all calls xs) h in by (least xs) p.0 (λ m f. least_kept calls xs m p.1 f) e
  where
    by : (o : Option ℕ) → calls x ≡ true → ((m : ℕ) → o ≡ Some m → calls m ≡ true) → ◌≡◌ {A = Option ℕ} (elim o [ None ↦ Some x | Some y ↦ Some (min x y) ]) (Some n) → calls n ≡ true
    by None c go f = ap calls (sym (some_same f)) ∙ c
    by (Some y) c go f = ap calls (sym (some_same f)) ∙ min_kept calls x y c (go y refl)

blocker_kept : (calls : ℕ → Bool) (s : Region) (m n : ℕ) (k : Kind) → held_by calls s ≡ true → blocker s m k ≡ Some n → calls n ≡ true
blocker_kept calls s m n k h e = least_kept calls (others s m k) n (all_less calls (λ h. not (h == m)) (holders s k) (holders_held calls s k h)) e

-- ---- An obstacle names what is kept.

abbrev channel_kept : Part → Channel → Type 0
channel_kept part (Local key) = part.keys key ≡ true
channel_kept part (Global key) = part.keys key ≡ true
channel_kept part OnTable = Unit {0}

-- a child that is not there has the next number
abbrev pub ObstacleKept : Part → World → Obstacle → Type 0
ObstacleKept part w (held ch holder) = channel_kept part ch × (part.calls holder ≡ true)
ObstacleKept part w (unfinished child) = (part.calls child ≡ true) ⊎ (child ≡ length w.table.records)

abbrev pub MaybeKept : Part → World → Option Obstacle → Type 0
MaybeKept part w None = Unit {0}
MaybeKept part w (Some x) = ObstacleKept part w x

holder_kept : (part : Part) (w : World) (ch : Channel) (o : Option ℕ) → channel_kept part ch → ((n : ℕ) → o ≡ Some n → part.calls n ≡ true) → MaybeKept part w (option_map (λ holder. held ch holder) o)
holder_kept part w ch None k h = tt
holder_kept part w ch (Some n) k h = (k, h n refl)

child_kept : (part : Part) (w : World) (call child : ℕ) → AllFit part w.table.records → part.calls call ≡ true → MaybeKept part w (unfinished_child w.table.records (unwrap_or (child_of w.table.records call child) (length w.table.records)))
child_kept part w call child fit i = by (child_of w.table.records call child) refl
  where
    tested : (c : ℕ) (b : Bool) → ObstacleKept part w (unfinished c) → MaybeKept part w (cond b None (Some (unfinished c)))
    tested c true k = tt
    tested c false k = k

    by : (o : Option ℕ) → child_of w.table.records call child ≡ o → MaybeKept part w (unfinished_child w.table.records (unwrap_or o (length w.table.records)))
    by None e = tested (length w.table.records) (passes_at (λ r. is_finished r.state) w.table.records (length w.table.records)) (inr refl)
    by (Some c) e = tested c (passes_at (λ r. is_finished r.state) w.table.records c) (inl (child_of_kept part w.table.records call child c fit i e))

lock_kept : (part : Part) (w : World) (call host : ℕ) (ch : Channel) (k : Kind) → Held part w → keeps_channel part ch ≡ true → MaybeKept part w (lock_on w call host ch k)
lock_kept part w call host (Local key) k h g = holder_kept part w (Local key) (blocker (local_at w host key) call k) g (λ n e. blocker_kept part.calls (local_at w host key) call n k (local_at_held part w host key g h) e)
lock_kept part w call host (Global key) k h g = holder_kept part w (Global key) (blocker (global_at w key) call k) g (λ n e. blocker_kept part.calls (global_at w key) call n k (global_at_held part w key g h) e)
lock_kept part w call host OnTable k h g = tt

first_kept : (part : Part) (w : World) (call host : ℕ) (hs : List (Channel × Kind)) → Held part w → list_all (keeps_half part) hs ≡ true → MaybeKept part w (first (filter_map (λ x. lock_on w call host x.0 x.1) hs))
first_kept part w call host [] h k = tt
first_kept part w call host (x ∷ xs) h k =
    let g = and_parts (keeps_half part x) (list_all (keeps_half part) xs) k in
    by (lock_on w call host x.0 x.1) (lock_kept part w call host x.0 x.1 h g.0) (first_kept part w call host xs h g.1)
  where
    by : (o : Option Obstacle) → MaybeKept part w o → MaybeKept part w (first (filter_map (λ x. lock_on w call host x.0 x.1) xs)) → MaybeKept part w (first (cons_option o (filter_map (λ x. lock_on w call host x.0 x.1) xs)))
    by None a b = b
    by (Some y) a b = a

locked_kept : (part : Part) (w : World) (call host : ℕ) (q : Question) → Held part w → keeps_question part q ≡ true → MaybeKept part w (locked w call host q)
locked_kept part w call host q h k = first_kept part w call host (halves q) h (halves_kept part q k)

pub obstacle_kept : (part : Part) (w : World) (call host : ℕ) (q : Question) → AllFit part w.table.records → Held part w → part.calls call ≡ true → keeps_question part q ≡ true → MaybeKept part w (obstacle w call host q)
obstacle_kept part w call host (ask OnTable (Operation.look c)) fit h i k = child_kept part w call c fit i
obstacle_kept part w call host (ask OnTable (Operation.submit f input)) fit h i k = tt
obstacle_kept part w call host (ask OnTable (on_region op)) fit h i k = tt
obstacle_kept part w call host (ask (Local key) (on_region op)) fit h i k = locked_kept part w call host (ask (Local key) (on_region op)) h k
obstacle_kept part w call host (ask (Global key) (on_region op)) fit h i k = locked_kept part w call host (ask (Global key) (on_region op)) h k
obstacle_kept part w call host (ask (Local key) (Operation.submit f input)) fit h i k = tt
obstacle_kept part w call host (ask (Local key) (Operation.look c)) fit h i k = tt
obstacle_kept part w call host (ask (Global key) (Operation.submit f input)) fit h i k = tt
obstacle_kept part w call host (ask (Global key) (Operation.look c)) fit h i k = tt
obstacle_kept part w call host (fills key n) fit h i k = locked_kept part w call host (fills key n) h k
obstacle_kept part w call host (pulls key off len) fit h i k = locked_kept part w call host (pulls key off len) h k
obstacle_kept part w call host (pushes key off len) fit h i k = locked_kept part w call host (pushes key off len) h k

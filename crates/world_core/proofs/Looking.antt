-- Which open calls look at a call next.
use Rattle.std.proofs.Common.{◌≡◌, ℕ, Bool, false, List, [], ◌∷◌, Option, Some, None, refl, sym, ap, ◌∙◌, map}
use Rattle.std.specs.Prelude.{◌==◌, ◌||◌}
use Rattle.std.specs.List.{list_any}
use Rattle.faaslet_meaning.specs.declared.grant.Channel.TheVariants.{Table as OnTable}
use Rattle.faaslet_meaning.specs.CallState.{State, asks}
use Rattle.faaslet_meaning.specs.Channels.{Operation, Question, ask}
use Rattle.faaslet_meaning.specs.Records.{child_of}
use Rattle.session_meaning.specs.Events.{open_at}
use Rattle.session_meaning.specs.OpenCall.{Machine, Open, asking, stands}
use Rattle.session_meaning.specs.Schedule.{is_awaited, looked_at, looks_at, open_calls}
use Rattle.session_meaning.specs.World.{World}

-- where the question of a machine leads
abbrev pub looks_by : World → ℕ → ℕ → Option (State × Question) → Bool
looks_by w call other a = elim a [ None ↦ false | Some a ↦ elim (looked_at a.1) [ None ↦ false | Some child ↦ elim (child_of w.table.records call child) [ None ↦ false | Some c ↦ c == other ] ] ]

looks_there : (w : World) (call other : ℕ) (o : Open) (m : Machine) → open_at w call ≡ Some o → o.machine ≡ m → looks_at w call other ≡ looks_by w call other (asking m)
looks_there w call other o m at is =
    ap (λ x. elim x as (λ x. Bool) [ None ↦ false | Some o ↦ looks_by w call other (asking o.machine) ]) at ∙ ap (λ m. looks_by w call other (asking m)) is

-- at this child
pub looks_so : (w : World) (call other : ℕ) (o : Open) (s : State) (n k : ℕ) → open_at w call ≡ Some o → o.machine ≡ stands (asks s (ask OnTable (Operation.look n))) → child_of w.table.records call n ≡ Some k → looks_at w call other ≡ (k == other)
looks_so w call other o s n k at is child =
    looks_there w call other o (stands (asks s (ask OnTable (Operation.look n)))) at is
    ∙ ap (λ x. elim x as (λ x. Bool) [ None ↦ false | Some c ↦ c == other ]) child

-- at none, where its question is no Look
pub looks_not : (w : World) (call other : ℕ) (o : Open) (s : State) (q : Question) → open_at w call ≡ Some o → o.machine ≡ stands (asks s q) → looked_at q ≡ None → looks_at w call other ≡ false
looks_not w call other o s q at is none =
    looks_there w call other o (stands (asks s q)) at is
    ∙ ap (λ x. elim x as (λ x. Bool) [ None ↦ false | Some child ↦ elim (child_of w.table.records call child) [ None ↦ false | Some c ↦ c == other ] ]) none

-- at none, where it asks nothing
pub asks_nothing : (w : World) (call other : ℕ) (o : Open) (m : Machine) → open_at w call ≡ Some o → o.machine ≡ m → asking m ≡ None → looks_at w call other ≡ false
asks_nothing w call other o m at is none = looks_there w call other o m at is ∙ ap (looks_by w call other) none

-- over a list of calls
pub awaited_by : {A : Type 0} (w : World) (number : A → ℕ) (calls : List A) (call : ℕ) → map number calls ≡ open_calls w → is_awaited w call ≡ list_any (λ x. looks_at w (number x) call) calls
awaited_by w number calls call so = ap (list_any (λ other. looks_at w other call)) (sym so) ∙ any_map calls
  where
    any_map : (xs : List _) → list_any (λ other. looks_at w other call) (map number xs) ≡ list_any (λ x. looks_at w (number x) call) xs
    any_map [] = refl
    any_map (x ∷ xs) = ap (λ b. looks_at w (number x) call || b) (any_map xs)

-- Serving a question: no lock keeps a call from it, and its entries are what is done.
use Rattle.std.proofs.Common.{◌≡◌, ℕ, List, [], Some, Option, None, IfSome, IsSome, option_and_then, option_map, fold, refl, sym, ap, ◌∙◌, subst}
use Rattle.std.specs.List.{cons_option}
use Rattle.faaslet_meaning.specs.declared.ask.AskOp.{AskOp}
use Rattle.faaslet_meaning.specs.declared.ask.AskOp.TheVariants as op
use Rattle.faaslet_meaning.specs.declared.ask.Move.{Move}
use Rattle.faaslet_meaning.specs.declared.ask.Move.TheVariants as move
use Rattle.faaslet_meaning.specs.declared.grant.Channel.{Channel}
use Rattle.faaslet_meaning.specs.declared.grant.Channel.TheVariants.{Local, Global}
use Rattle.faaslet_meaning.specs.Channels.{RegionOperation, on_region, ask, fills, pulls, pushes, Question, entries}
use Rattle.faaslet_meaning.specs.Lists.{first}
use Rattle.faaslet_meaning.specs.Region.{Kind, reads, writes, kind, blocker}
use Rattle.session_meaning.specs.Events.{Obstacle, held}
use Rattle.shared_region.specs.Moves.{global_part, local_part, move_blocker, moved, first_blocker, question_of_move}
use Rattle.world_objects.specs.Asked.{asked_kind, operation}
use Rattle.world_objects.specs.Kept.{Kept, Objects, applied}
use Rattle.world_objects.specs.Served.{both_changed, entered_at, lock_at, locks_at, object_at, reply_at, reply_on_region, size_at}

-- ---- No lock.

none_before : (a : Option Obstacle) (rest : List Obstacle) → first (cons_option a rest) ≡ None → (a ≡ None) × (first rest ≡ None)
none_before None rest e = (refl, e)
none_before (Some x) rest e = let no : ⊥ = cc in absurd no

no_blocker : (o : Objects) (call host : ℕ) (ch : Channel) (k : Kind) (x : Kept) → object_at o host ch ≡ Some x → lock_at o call host ch k ≡ None → blocker x.region call k ≡ None
no_blocker o call host ch k x e h =
    by (blocker x.region call k) (sym (ap (λ (z : Option Kept). option_and_then (λ (y : Kept). option_map (λ holder. held ch holder) (blocker y.region call k)) z) e) ∙ h)
  where
    by : (b : Option ℕ) → option_map (λ holder. held ch holder) b ≡ None → b ≡ None
    by None i = refl
    by (Some n) i = let no : ⊥ = cc in absurd no

kind_so : (o : AskOp) (scratch : List ℕ) → kind (operation o scratch) ≡ asked_kind o
kind_so op.Probe scratch = refl
kind_so (op.Read off len) scratch = refl
kind_so (op.Write off len) scratch = refl
kind_so (op.Append len) scratch = refl
kind_so op.Size scratch = refl
kind_so op.LockRead scratch = refl
kind_so op.LockWrite scratch = refl
kind_so op.Unlock scratch = refl

pub free_region : (o : Objects) (call host : ℕ) (ch : Channel) (p : AskOp) (scratch : List ℕ) (x : Kept) → locks_at o call host (ask ch (on_region (operation p scratch))) ≡ None → object_at o host ch ≡ Some x → blocker x.region call (asked_kind p) ≡ None
free_region o call host ch p scratch x h e =
    subst (λ k. blocker x.region call k ≡ None) (kind_so p scratch) (no_blocker o call host ch (kind (operation p scratch)) x e (none_before (lock_at o call host ch (kind (operation p scratch))) [] h).0)

neither : (a b : Option ℕ) → a ≡ None → b ≡ None → first_blocker a b ≡ None
neither a b e f = subst (λ x. first_blocker x b ≡ None) (sym e) (subst (λ y. first_blocker None y ≡ None) (sym f) refl)

two_free : (o : Objects) (call host key : ℕ) (j k : Kind) (l g : Kept) → first (cons_option (lock_at o call host (Local key) j) (cons_option (lock_at o call host (Global key) k) [])) ≡ None → object_at o host (Local key) ≡ Some l → object_at o host (Global key) ≡ Some g → first_blocker (blocker l.region call j) (blocker g.region call k) ≡ None
two_free o call host key j k l g h e f =
    let one = none_before (lock_at o call host (Local key) j) (cons_option (lock_at o call host (Global key) k) []) h in
    let two = none_before (lock_at o call host (Global key) k) [] one.1 in
    neither _ _ (no_blocker o call host (Local key) j l e one.0) (no_blocker o call host (Global key) k g f two.0)

pub free_move : (o : Objects) (call host key size : ℕ) (k : Move) (l g : Kept) → locks_at o call host (question_of_move key size k) ≡ None → object_at o host (Local key) ≡ Some l → object_at o host (Global key) ≡ Some g → move_blocker l.region g.region call k ≡ None
free_move o call host key size move.Fill l g h e f = two_free o call host key reads reads l g h e f
free_move o call host key size (move.Pull off len) l g h e f = two_free o call host key writes reads l g h e f
free_move o call host key size (move.Push off len) l g h e f = two_free o call host key reads writes l g h e f

-- ---- The entries of a move.

abbrev pub done_by : Objects → ℕ → ℕ → Question → Objects
done_by o call host q = fold (entered_at call host) o (entries q (reply_at o call host q))

abbrev moved_by : Objects → ℕ → ℕ → ℕ → Move → Kept → Kept → Objects
moved_by o call host key k l g = both_changed o host key (applied call (local_part k (moved l.region g.region k))) (applied call (global_part k g.region.size (moved l.region g.region k)))

-- where the first operation is a Send on the object x
abbrev sent : Objects → ℕ → ℕ → Question → ℕ → ℕ → Option Kept → Objects
sent o call host q off len x = fold (entered_at call host) o (entries q (reply_on_region call (Some (RegionOperation.send off len)) x))

move_done : (o : Objects) (call host key : ℕ) (k : Move) (l g : Kept) → object_at o host (Local key) ≡ Some l → object_at o host (Global key) ≡ Some g → done_by o call host (question_of_move key (size_at o key) k) ≡ moved_by o call host key k l g
move_done o call host key move.Fill l g e f =
    let size : size_at o key ≡ g.region.size = ap (λ (z : Option Kept). elim z [ None ↦ 0 | Some y ↦ y.region.size ]) f in
    subst (λ n. done_by o call host (fills key n) ≡ moved_by o call host key move.Fill l g) (sym size) (ap (sent o call host (fills key g.region.size) 0 g.region.size) f)
move_done o call host key (move.Pull off len) l g e f = ap (sent o call host (pulls key off len) off len) f
move_done o call host key (move.Push off len) l g e f = ap (sent o call host (pushes key off len) off len) e

pub move_served : (o n : Objects) (call host key : ℕ) (k : Move) → IsSome (object_at o host (Local key)) → IsSome (object_at o host (Global key)) → IfSome (object_at o host (Local key)) (λ l. IfSome (object_at o host (Global key)) (λ g. n ≡ moved_by o call host key k l g)) → n ≡ done_by o call host (question_of_move key (size_at o key) k)
move_served o n call host key k = by (object_at o host (Local key)) (object_at o host (Global key)) refl refl
  where
    by : (a b : Option Kept) → object_at o host (Local key) ≡ a → object_at o host (Global key) ≡ b → IsSome a → IsSome b → IfSome a (λ l. IfSome b (λ g. n ≡ moved_by o call host key k l g)) → n ≡ done_by o call host (question_of_move key (size_at o key) k)
    by None b e f i j h = let no : ⊥ = cc in absurd no
    by (Some l) None e f i j h = let no : ⊥ = cc in absurd no
    by (Some l) (Some g) e f i j h = h ∙ sym (move_done o call host key k l g e f)

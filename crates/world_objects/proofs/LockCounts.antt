-- An operation leaves at most so many lock holders more.
use Rattle.std.proofs.Common.{ℕ, ◌+◌, ◌≤◌, Bool, true, false, List, [], ◌∷◌, ◌++◌, Option, Some, None, length, filter, take, option_to_list, eqb, cond, not, arith, length-append}
use Rattle.faaslet_meaning.proofs.CallParts.{length_filter}
use Rattle.faaslet_meaning.specs.declared.ask.AskOp.{AskOp}
use Rattle.faaslet_meaning.specs.declared.ask.AskOp.TheVariants as op
use Rattle.faaslet_meaning.specs.Region.{Region, after, has_room, holders, unless_held_by, writes}
use Rattle.world_objects.specs.Asked.{operation, lock_count}

abbrev held : Region → ℕ
held s = length (holders s writes)

either : (b : Bool) (x y : Region) (n : ℕ) → held x ≤ n → held y ≤ n → held (cond b x y) ≤ n
either true x y n h k = h
either false x y n h k = k

given_up : (maker : ℕ) (o : Option ℕ) → length (option_to_list (unless_held_by maker o)) ≤ length (option_to_list o)
given_up maker None = omega arith
given_up maker (Some holder) = by_test (eqb holder maker)
  where
    by_test : (b : Bool) → length (option_to_list (cond b None (Some holder))) ≤ 1
    by_test true = omega arith
    by_test false = omega arith

pub held_after : (s : Region) (maker : ℕ) (o : AskOp) (scratch : List ℕ) → held (after s maker (operation o scratch)) ≤ held s + lock_count o
held_after s maker op.Probe scratch = omega arith
held_after s maker (op.Read off len) scratch = omega arith
held_after s maker (op.Write off len) scratch = omega arith
held_after s maker (op.Append len) scratch = either (has_room s (take len scratch)) _ _ _ (omega arith) (omega arith)
held_after s maker op.Size scratch = omega arith
held_after s maker op.LockRead scratch =
    omega (arith, length-append (option_to_list s.writer) (s.readers ++ maker ∷ []), length-append s.readers (maker ∷ []), length-append (option_to_list s.writer) s.readers)
held_after s maker op.LockWrite scratch = omega (arith, length-append (option_to_list s.writer) s.readers)
held_after s maker op.Unlock scratch =
    let left = λ (h : ℕ). not (eqb h maker) in
    omega (arith, length-append (option_to_list s.writer) s.readers, length-append (option_to_list (unless_held_by maker s.writer)) (filter left s.readers), given_up maker s.writer, length_filter left s.readers)

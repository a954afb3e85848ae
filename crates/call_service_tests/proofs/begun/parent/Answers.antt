-- Both children were found.
use Rattle.std.proofs.Common.{◌≡◌, ℕ, zero, suc, ◌<◌, List, Some, sym, ◌∙◌, arith}
use Rattle.faaslet_meaning.specs.declared.call.CallRecord.{CallRecord}
use Rattle.faaslet_meaning.specs.Records.{child_of}
use Rattle.call_service_tests.proofs.begun.parent.Goals as goal

two : (rs : List CallRecord) (a b : ℕ) → child_of rs 0 0 ≡ Some a → child_of rs 0 1 ≡ Some b → (child : ℕ) → child < 2 → (n : ℕ) × (child_of rs 0 child ≡ Some n)
two rs a b e f zero low = (a, e)
two rs a b e f (suc zero) low = (b, f)
two rs a b e f (suc (suc child)) low = absurd (omega (arith, low))

pub returns : goal.returns
returns c = record {
  known = omega (arith, c.functions.ensures, c.if-functions-eq0.false);
  children = two c.begin.new.table.table.records c.in_ok-_first._first c.in_ok-_second._second (sym c.child_of.ensures ∙ c.in_ok-_first.was) (sym c.child_of-2.ensures ∙ c.in_ok-_second.was);
}

-- A bench on which a call runs: all its other calls were taken before, and ran with their parts of what was heard before the take. This
-- project's own.
use Rattle.std.specs.Prelude.{◌≡◌, ℕ, ◌<◌, true, List, Some, length, slice_get}
use Rattle.faaslet_meaning.specs.declared.call.CallRecord.{CallRecord}
use Rattle.faaslet_meaning.specs.declared.call.CallState.TheVariants.{Taken}
use Rattle.faaslet_meaning.specs.declared.grant.Channel.{Channel}
use Rattle.call_table.specs.Mine.{is_of}
use Rattle.session_meaning.specs.Own.{host_of_bench, order_of}
use Rattle.session_meaning.specs.Plan.{Plan}
use Rattle.bench_parts.specs.Parts.{Heard, made_by_all}
use Rattle.bench_parts.specs.Ran.{CallOn}

-- The call runs, of this function with this input. What was heard before is used up by the others.
pub record BenchRuns (plan : Plan) (records : List CallRecord) (bench : ℕ) (before : Heard) (call order function : ℕ) (input : List ℕ) : Type 0 where
  pub of : CallRecord
  pub there : slice_get records call ≡ Some of
  pub state_so : of.state ≡ Taken (host_of_bench plan bench) bench order
  pub function_so : of.function ≡ function
  pub input_so : of.input ≡ input
  pub calls : (n : ℕ) (r : CallRecord) → (n ≡ call → ⊥) → slice_get records n ≡ Some r → is_of bench r.state ≡ true → CallOn plan records bench before n r
  pub last : (n : ℕ) (r : CallRecord) → (n ≡ call → ⊥) → slice_get records n ≡ Some r → is_of bench r.state ≡ true → order_of r.state < order
  pub used_up : (ch : Channel) → length (before ch) ≡ made_by_all plan records bench ch

-- A bench on which no call runs: each of its calls ran with its part of what was heard, and the parts use it up. This project's own.
use Rattle.std.specs.Prelude.{◌≡◌, ℕ, true, List, Some, IsTrue, length, slice_get}
use Rattle.std.specs.List.{list_all}
use Rattle.faaslet_meaning.specs.declared.call.CallRecord.{CallRecord}
use Rattle.faaslet_meaning.specs.declared.call.CallState.TheVariants.{Finished}
use Rattle.faaslet_meaning.specs.declared.grant.Channel.{Channel}
use Rattle.faaslet_meaning.specs.declared.outcome.Outcome.{Outcome}
use Rattle.faaslet_meaning.specs.Channels.{counts}
use Rattle.faaslet_meaning.specs.Runs.{Runs}
use Rattle.call_table.specs.Mine.{is_of}
use Rattle.session_meaning.specs.Answered.{told_of}
use Rattle.session_meaning.specs.Own.{host_of_bench}
use Rattle.session_meaning.specs.Plan.{NamedFunction, Plan}
use Rattle.session_meaning.specs.Ran.{is_granted}
use Rattle.bench_parts.specs.Parts.{Heard, made_by_all, part_in}

-- The call was finished on the bench, with an outcome, a number of used fuel and an output that its module comes to from its part of
-- what was heard, which its counts count; each of its entries was granted.
pub record CallOn (plan : Plan) (records : List CallRecord) (bench : ℕ) (heard : Heard) (call : ℕ) (r : CallRecord) : Type 0 where
  pub function : NamedFunction
  pub function_so : slice_get plan.functions r.function ≡ Some function
  pub order : ℕ
  pub outcome : Outcome
  pub used : ℕ
  pub output : List ℕ
  pub finished : r.state ≡ Finished (host_of_bench plan bench) bench order outcome used output (counts function.function.grants (λ ch. told_of (part_in plan records bench heard r ch)))
  pub runs : ∥ Runs function.function r.input (λ ch. told_of (part_in plan records bench heard r ch)) outcome output used ∥₁
  pub granted : (ch : Channel) → IsTrue (list_all (is_granted call function.function.grants ch) (part_in plan records bench heard r ch))

pub record BenchRan (plan : Plan) (records : List CallRecord) (bench : ℕ) (heard : Heard) : Type 0 where
  pub calls : (call : ℕ) (r : CallRecord) → slice_get records call ≡ Some r → is_of bench r.state ≡ true → CallOn plan records bench heard call r
  pub used_up : (ch : Channel) → length (heard ch) ≡ made_by_all plan records bench ch

-- A bench on which no call runs takes one.
use Rattle.std.proofs.Common.{◌≡◌, ℕ, ◌+◌, ◌<◌, Bool, true, false, List, ◌++◌, refl, sym, ap, ◌∙◌, nat_lt, arith}
use Rattle.faaslet_meaning.specs.declared.call.CallRecord.{CallRecord}
use Rattle.faaslet_meaning.specs.declared.call.CallState.{CallState}
use Rattle.faaslet_meaning.specs.declared.call.CallState.TheVariants.{Queued, Taken, Finished}
use Rattle.faaslet_meaning.specs.declared.grant.Channel.{Channel}
use Rattle.faaslet_meaning.specs.Records.{takes}
use Rattle.call_table.specs.Mine.{is_of, childless, IsBelow}
use Rattle.held_calls.specs.Places.{TookAt}
use Rattle.session_meaning.specs.Own.{host_of_bench, order_of, count_on}
use Rattle.session_meaning.specs.Plan.{Plan}
use Rattle.session_meaning.proofs.CallsRan.{all_get}
use Rattle.bench_parts.specs.Parts.{Heard, made_in, made_by_all}
use Rattle.bench_parts.specs.Ran.{BenchRan}
use Rattle.bench_parts.specs.Runs.{BenchRuns}
use Rattle.bench_parts.proofs.Sums.{pick, sum_if, sum_put}
use Rattle.bench_parts.proofs.Counts.{made_of, all_of, made_mine, all_mine, uncounted}
use Rattle.bench_parts.proofs.Calls.{call_alike, part_same}

-- what was taken has an order below the number of takes
below_of : (n bench : ℕ) (s : CallState) → IsBelow n s → is_of bench s ≡ true → order_of s < n
below_of n bench Queued h is = let no : ⊥ = cc in absurd no
below_of n bench (Taken host b order) h is = h
below_of n bench (Finished host b order o used output ns) h is = h

picked_none : (b : Bool) (n : ℕ) → n ≡ 0 → pick b n ≡ 0
picked_none true n e = e
picked_none false n e = refl

module _ (plan : Plan) (host bench call : ℕ) (before after : List CallRecord) (took : TookAt host bench call before after) (ch : Channel) where
  running : CallRecord
  running = childless (record took.of { state = Taken host bench (takes before) })

  nothing : (b : Bool) → pick b (count_on plan (childless (record took.of { state = Taken host bench (takes before) })) ch) ≡ 0
  nothing b = picked_none b _ (uncounted plan (childless (record took.of { state = Taken host bench (takes before) })) ch refl)

  taken_made : (order : ℕ) → made_in plan after bench order ch ≡ made_in plan before bench order ch
  taken_made order =
      let test : CallRecord → Bool = λ r. nat_lt (order_of r.state) order in
      let count : CallRecord → ℕ = λ r. count_on plan r ch in
      made_mine plan ch after bench order ∙ ap (made_of plan ch order) took.new_is
      ∙ sum_put test count took.front took.back (childless (record took.of { state = Taken host bench (takes before) }))
      ∙ ap (λ n. n + sum_if test count (took.front ++ took.back)) (nothing (nat_lt (takes before) order))
      ∙ omega arith
      ∙ sym (made_mine plan ch before bench order ∙ ap (made_of plan ch order) took.old_is)

  taken_all : made_by_all plan after bench ch ≡ made_by_all plan before bench ch
  taken_all =
      let test : CallRecord → Bool = λ r. true in
      let count : CallRecord → ℕ = λ r. count_on plan r ch in
      all_mine plan ch after bench ∙ ap (all_of plan ch) took.new_is
      ∙ sum_put test count took.front took.back (childless (record took.of { state = Taken host bench (takes before) }))
      ∙ ap (λ n. n + sum_if test count (took.front ++ took.back)) (nothing true)
      ∙ omega arith
      ∙ sym (all_mine plan ch before bench ∙ ap (all_of plan ch) took.old_is)

pub takes_one : (plan : Plan) (bench call : ℕ) (before after : List CallRecord) (heard : Heard) → (took : TookAt (host_of_bench plan bench) bench call before after) → BenchRan plan before bench heard → BenchRuns plan after bench heard call (takes before) took.of.function took.of.input
takes_one plan bench call before after heard took ran =
    let host = host_of_bench plan bench in
    record {
      of = record took.of { state = Taken host bench (takes before) };
      there = took.now;
      state_so = refl;
      function_so = refl;
      input_so = refl;
      calls = λ n r other at is. call_alike plan before after bench heard heard n r r refl
          (λ ch. part_same plan before after bench heard r r ch refl (taken_made plan host bench call before after took ch (order_of r.state)))
          (ran.calls n r (took.others n r other at) is);
      last = λ n r other at is. below_of (takes before) bench r.state (all_get (λ r. IsBelow (takes before) r.state) before n r took.below (took.others n r other at)) is;
      used_up = λ ch. ran.used_up ch ∙ sym (taken_all plan host bench call before after took ch);
    }

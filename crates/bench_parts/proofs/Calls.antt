-- What is known of a bench goes over to records that have the same calls of it, and to whatever it heard that is the same.
use Rattle.std.proofs.Common.{◌≡◌, ℕ, List, Some, refl, sym, ap, ◌∙◌, length, slice_get, subst, ◌<◌, true, take, drop}
use Rattle.std.proofs.lemmas.Bool.{eq-eqb}
use Rattle.std.proofs.Math.Logic.{∥∥₁_map}
use Rattle.std.specs.Prelude.{IsTrue}
use Rattle.std.specs.List.{list_all}
use Rattle.faaslet_meaning.specs.declared.call.CallRecord.{CallRecord}
use Rattle.faaslet_meaning.specs.declared.call.CallState.TheVariants.{Taken, Finished}
use Rattle.faaslet_meaning.specs.declared.grant.Channel.{Channel}
use Rattle.faaslet_meaning.specs.Channels.{Told}
use Rattle.faaslet_meaning.specs.Runs.{Runs}
use Rattle.call_table.specs.Mine.{is_of, childless, mine}
use Rattle.held_calls.specs.Places.{SameOn}
use Rattle.session_meaning.specs.Answered.{told_of}
use Rattle.session_meaning.specs.Own.{host_of_bench, order_of, count_on}
use Rattle.session_meaning.specs.Plan.{Plan}
use Rattle.session_meaning.specs.Ran.{is_granted}
use Rattle.session_meaning.proofs.CallsAlike.{runs_alike, counts_alike}
use Rattle.bench_parts.specs.Parts.{Heard, made_in, made_by_all, part_in}
use Rattle.bench_parts.specs.Ran.{CallOn, BenchRan}
use Rattle.bench_parts.specs.Runs.{BenchRuns}
use Rattle.bench_parts.proofs.Counts.{made_of, all_of, made_mine, all_mine}

-- a call with the same part ran, whatever its number of children
pub call_alike : (plan : Plan) (before after : List CallRecord) (bench : ℕ) (heard other : Heard) (call : ℕ) (old r : CallRecord) → childless old ≡ childless r → ((ch : Channel) → part_in plan after bench other r ch ≡ part_in plan before bench heard old ch) → CallOn plan before bench heard call old → CallOn plan after bench other call r
call_alike plan before after bench heard other call old r kin same h =
    let grants = h.function.function.grants in
    let t : Told = λ ch. told_of (part_in plan before bench heard old ch) in
    let u : Told = λ ch. told_of (part_in plan after bench other r ch) in
    let told_same : (ch : Channel) → u ch ≡ t ch = λ ch. ap told_of (same ch) in
    record {
      function = h.function;
      function_so = ap (λ r. slice_get plan.functions r.function) (sym kin) ∙ h.function_so;
      order = h.order;
      outcome = h.outcome;
      used = h.used;
      output = h.output;
      finished = ap (λ r. r.state) (sym kin) ∙ h.finished ∙ ap (λ ns. Finished (host_of_bench plan bench) bench h.order h.outcome h.used h.output ns) (sym (counts_alike grants t u told_same));
      runs = ∥∥₁_map h.runs (λ run. subst (λ r. Runs h.function.function r.input u h.outcome h.output h.used) kin (runs_alike h.function.function old.input t u h.outcome h.output h.used told_same run));
      granted = λ ch. subst (λ es. IsTrue (list_all (is_granted call grants ch) es)) (sym (same ch)) (h.granted ch);
    }

-- ---- The same calls.

made_same : (plan : Plan) (before after : List CallRecord) (bench order : ℕ) (ch : Channel) → mine bench after ≡ mine bench before → made_in plan after bench order ch ≡ made_in plan before bench order ch
made_same plan before after bench order ch e = made_mine plan ch after bench order ∙ ap (made_of plan ch order) e ∙ sym (made_mine plan ch before bench order)

all_same : (plan : Plan) (before after : List CallRecord) (bench : ℕ) (ch : Channel) → mine bench after ≡ mine bench before → made_by_all plan after bench ch ≡ made_by_all plan before bench ch
all_same plan before after bench ch e = all_mine plan ch after bench ∙ ap (all_of plan ch) e ∙ sym (all_mine plan ch before bench)

-- the part of a call, where the calls of its bench made as many before it
pub part_same : (plan : Plan) (before after : List CallRecord) (bench : ℕ) (heard : Heard) (old r : CallRecord) (ch : Channel) → childless old ≡ childless r → made_in plan after bench (order_of old.state) ch ≡ made_in plan before bench (order_of old.state) ch → part_in plan after bench heard r ch ≡ part_in plan before bench heard old ch
part_same plan before after bench heard old r ch kin e =
    ap (λ r. take (count_on plan r ch) (drop (made_in plan after bench (order_of r.state) ch) (heard ch))) (sym kin)
    ∙ ap (λ n. take (count_on plan old ch) (drop n (heard ch))) e

same_call : (plan : Plan) (bench : ℕ) (before after : List CallRecord) (heard : Heard) (n : ℕ) (r : CallRecord) → SameOn bench before after → ((old : CallRecord) → slice_get before n ≡ Some old → is_of bench old.state ≡ true → CallOn plan before bench heard n old) → slice_get after n ≡ Some r → is_of bench r.state ≡ true → CallOn plan after bench heard n r
same_call plan bench before after heard n r same ran at is =
    let was = same.at n r at is in
    call_alike plan before after bench heard heard n was.0 r was.2
    (λ ch. part_same plan before after bench heard was.0 r ch was.2 (made_same plan before after bench (order_of was.0.state) ch same.mine_so))
    (ran was.0 was.1 (ap (λ r. is_of bench r.state) was.2 ∙ is))

pub others_leave_ran : (plan : Plan) (bench : ℕ) (before after : List CallRecord) (heard : Heard) → SameOn bench before after → BenchRan plan before bench heard → BenchRan plan after bench heard
others_leave_ran plan bench before after heard same ran = record {
  calls = λ n r at is. same_call plan bench before after heard n r same (λ old. ran.calls n old) at is;
  used_up = λ ch. ran.used_up ch ∙ sym (all_same plan before after bench ch same.mine_so);
}

pub on_its_bench : (bench : ℕ) (r : CallRecord) (host order : ℕ) → r.state ≡ Taken host bench order → is_of bench r.state ≡ true
on_its_bench bench r host order e = ap (is_of bench) e ∙ eq-eqb bench bench refl

pub others_leave_runs : (plan : Plan) (bench call order function : ℕ) (input : List ℕ) (before after : List CallRecord) (heard : Heard) → SameOn bench before after → BenchRuns plan before bench heard call order function input → BenchRuns plan after bench heard call order function input
others_leave_runs plan bench call order function input before after heard same runs =
    let now = same.stays call runs.of runs.there (on_its_bench bench runs.of (host_of_bench plan bench) order runs.state_so) in
    record {
      of = now.0;
      there = now.1;
      state_so = ap (λ r. r.state) (sym now.2) ∙ runs.state_so;
      function_so = ap (λ r. r.function) (sym now.2) ∙ runs.function_so;
      input_so = ap (λ r. r.input) (sym now.2) ∙ runs.input_so;
      calls = λ n r other at is. same_call plan bench before after heard n r same (λ old. runs.calls n old other) at is;
      last = λ n r other at is. let was = same.at n r at is in subst (λ r. order_of r.state < order) was.2 (runs.last n was.0 other was.1 (ap (λ r. is_of bench r.state) was.2 ∙ is));
      used_up = λ ch. runs.used_up ch ∙ sym (all_same plan before after bench ch same.mine_so);
    }

-- ---- The same was heard.

heard_call : (plan : Plan) (bench : ℕ) (records : List CallRecord) (heard other : Heard) (n : ℕ) (r : CallRecord) → ((ch : Channel) → heard ch ≡ other ch) → CallOn plan records bench heard n r → CallOn plan records bench other n r
heard_call plan bench records heard other n r same = call_alike plan records records bench heard other n r r refl (λ ch. ap (λ es. take (count_on plan r ch) (drop (made_in plan records bench (order_of r.state) ch) es)) (sym (same ch)))

pub heard_ran : (plan : Plan) (bench : ℕ) (records : List CallRecord) (heard other : Heard) → ((ch : Channel) → heard ch ≡ other ch) → BenchRan plan records bench heard → BenchRan plan records bench other
heard_ran plan bench records heard other same ran = record {
  calls = λ n r at is. heard_call plan bench records heard other n r same (ran.calls n r at is);
  used_up = λ ch. ap length (sym (same ch)) ∙ ran.used_up ch;
}

pub heard_runs : (plan : Plan) (bench call order function : ℕ) (input : List ℕ) (records : List CallRecord) (heard other : Heard) → ((ch : Channel) → heard ch ≡ other ch) → BenchRuns plan records bench heard call order function input → BenchRuns plan records bench other call order function input
heard_runs plan bench call order function input records heard other same runs = record {
  of = runs.of;
  there = runs.there;
  state_so = runs.state_so;
  function_so = runs.function_so;
  input_so = runs.input_so;
  last = runs.last;
  calls = λ n r others at is. heard_call plan bench records heard other n r same (runs.calls n r others at is);
  used_up = λ ch. ap length (sym (same ch)) ∙ runs.used_up ch;
}

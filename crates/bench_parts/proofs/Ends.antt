-- A call that runs on a bench ends: its part is what it was told, and the other parts stay.
use Rattle.std.proofs.Common.{◌≡◌, ℕ, ◌+◌, ◌≤◌, ◌⊎◌, inl, inr, Bool, true, false, Option, List, ◌++◌, Some, refl, sym, ap, ◌∙◌, length, length-append, slice_get, nat_lt, subst, take, drop, arith}
use Rattle.std.proofs.lemmas.Bool.{eqb-true, eqb-false, lt-ltb, le-ltb}
use Rattle.std.proofs.Math.Logic.{∥∥₁_map}
use Rattle.std.specs.Prelude.{IsTrue, ◌==◌}
use Rattle.std.specs.List.{list_all}
use Rattle.faaslet_meaning.specs.declared.call.CallRecord.{CallRecord}
use Rattle.faaslet_meaning.specs.declared.call.CallState.{CallState}
use Rattle.faaslet_meaning.specs.declared.call.CallState.TheVariants.{Taken, Finished}
use Rattle.faaslet_meaning.specs.declared.grant.Channel.{Channel}
use Rattle.faaslet_meaning.specs.declared.outcome.Outcome.{Outcome}
use Rattle.faaslet_meaning.specs.Channels.{Told, counts}
use Rattle.faaslet_meaning.specs.Runs.{Runs}
use Rattle.faaslet_meaning.specs.Table.{finished_state}
use Rattle.call_table.specs.Mine.{is_of, childless, mine}
use Rattle.held_calls.specs.Places.{EndedAt}
use Rattle.session_meaning.specs.Answered.{told_of}
use Rattle.session_meaning.specs.Own.{host_of_bench, order_of, counts_of, count_on, is_of_bench}
use Rattle.session_meaning.specs.Plan.{NamedFunction, Plan}
use Rattle.session_meaning.specs.Ran.{is_granted}
use Rattle.session_meaning.proofs.CallsAlike.{runs_alike, counts_alike}
use Rattle.bench_parts.specs.Parts.{Heard, made_in, made_by_all, part_in}
use Rattle.bench_parts.specs.Ran.{CallOn, BenchRan}
use Rattle.bench_parts.specs.Runs.{BenchRuns}
use Rattle.bench_parts.proofs.Sums.{pick, sum_if, sum_filter, sum_put, sum_besides, sum_all, part_kept, part_behind}
use Rattle.bench_parts.proofs.Counts.{made_of, made_mine, all_mine, counted, uncounted, of_bench}
use Rattle.bench_parts.proofs.Calls.{call_alike}

same_record : {A : Type 0} {o : Option A} {x y : A} → o ≡ Some x → o ≡ Some y → x ≡ y
same_record e f = cc

-- all that is known at the end of a call
record Ending (plan : Plan) (bench call order function : ℕ) (input : List ℕ) (f : NamedFunction) (outcome : Outcome) (used : ℕ) (output : List ℕ) (before after : List CallRecord) (heard told : Heard) : Type 0 where
  pub runs : BenchRuns plan before bench heard call order function input
  pub ended : EndedAt bench call outcome used output (counts f.function.grants (λ ch. told_of (told ch))) before after
  pub function_so : slice_get plan.functions function ≡ Some f
  pub ran : ∥ Runs f.function input (λ ch. told_of (told ch)) outcome output used ∥₁
  pub granted : (ch : Channel) → IsTrue (list_all (is_granted call f.function.grants ch) (told ch))

module _ (plan : Plan) (bench call order function : ℕ) (input : List ℕ) (f : NamedFunction) (outcome : Outcome) (used : ℕ) (output : List ℕ) (before after : List CallRecord) (heard told : Heard) (e : Ending plan bench call order function input f outcome used output before after heard told) where
  abbrev cs : List ℕ
  cs = counts f.function.grants (λ ch. told_of (told ch))

  -- its record at the end
  abbrev it : CallRecord
  it = record e.ended.of { state = finished_state e.ended.of.state outcome used output cs }

  abbrev all_heard : Heard
  all_heard ch = heard ch ++ told ch

  of_so : e.ended.of ≡ e.runs.of
  of_so = same_record e.ended.there e.runs.there

  state_was : e.ended.of.state ≡ Taken (host_of_bench plan bench) bench order
  state_was = ap (λ r. r.state) of_so ∙ e.runs.state_so

  state_is : finished_state e.ended.of.state outcome used output cs ≡ Finished (host_of_bench plan bench) bench order outcome used output cs
  state_is = ap (λ s. finished_state s outcome used output cs) state_was

  function_is : e.ended.of.function ≡ function
  function_is = ap (λ r. r.function) of_so ∙ e.runs.function_so

  input_is : e.ended.of.input ≡ input
  input_is = ap (λ r. r.input) of_so ∙ e.runs.input_so

  it_counts : (ch : Channel) → count_on plan it ch ≡ length (told ch)
  it_counts ch = counted plan it f call told ch (ap (slice_get plan.functions) function_is ∙ e.function_so) (ap counts_of state_is) e.granted

  was_none : (ch : Channel) → count_on plan (childless e.ended.of) ch ≡ 0
  was_none ch = uncounted plan (childless e.ended.of) ch (ap counts_of state_was)

  -- sums behind the end, by those before it
  sums : (ch : Channel) (test : CallState → Bool) → sum_if (λ r. test r.state) (λ r. count_on plan r ch) (mine bench after) ≡ pick (test (finished_state e.ended.of.state outcome used output cs)) (length (told ch)) + sum_if (λ r. test r.state) (λ r. count_on plan r ch) (mine bench before)
  sums ch test =
      let is : CallRecord → Bool = λ r. test r.state in
      let count : CallRecord → ℕ = λ r. count_on plan r ch in
      let new = ap (sum_if is count) e.ended.new_is ∙ sum_put is count e.ended.front e.ended.back (childless it) in
      let old = ap (sum_if is count) e.ended.old_is ∙ sum_put is count e.ended.front e.ended.back (childless e.ended.of) in
      let none : pick (test e.ended.of.state) (count_on plan (childless e.ended.of) ch) ≡ 0 = picked (test e.ended.of.state) (was_none ch) in
      let some : pick (test (finished_state e.ended.of.state outcome used output cs)) (count_on plan (childless it) ch) ≡ pick (test (finished_state e.ended.of.state outcome used output cs)) (length (told ch)) = ap (pick (test (finished_state e.ended.of.state outcome used output cs))) (it_counts ch) in
      new ∙ omega (arith, old, none, some)
    where
      picked : (b : Bool) {n : ℕ} → n ≡ 0 → pick b n ≡ 0
      picked true e = e
      picked false e = refl

  -- up to its order nothing changed
  made_kept : (ch : Channel) (n : ℕ) → n ≤ order → made_in plan after bench n ch ≡ made_in plan before bench n ch
  made_kept ch n l =
      let no : nat_lt (order_of (finished_state e.ended.of.state outcome used output cs)) n ≡ false = ap (λ s. nat_lt (order_of s) n) state_is ∙ le-ltb order n l in
      made_mine plan ch after bench n ∙ sums ch (λ s. nat_lt (order_of s) n) ∙ ap (λ b. pick b (length (told ch)) + made_of plan ch n (mine bench before)) no ∙ omega arith ∙ sym (made_mine plan ch before bench n)

  all_more : (ch : Channel) → made_by_all plan after bench ch ≡ length (told ch) + made_by_all plan before bench ch
  all_more ch = all_mine plan ch after bench ∙ sums ch (λ s. true) ∙ ap (λ n. length (told ch) + n) (sym (all_mine plan ch before bench))

  -- all others were taken before it, and it counted nothing
  made_whole : (ch : Channel) → made_in plan before bench order ch ≡ length (heard ch)
  made_whole ch =
      sum_all (is_of_bench bench) (λ r. count_on plan r ch) (λ r. nat_lt (order_of r.state) order) before others
      ∙ sym (sum_filter (is_of_bench bench) (λ r. count_on plan r ch) before) ∙ sym (e.runs.used_up ch)
    where
      others : (n : ℕ) (r : CallRecord) → slice_get before n ≡ Some r → is_of_bench bench r ≡ true → (nat_lt (order_of r.state) order ≡ true) ⊎ (count_on plan r ch ≡ 0)
      others n r at is = by (n == call) refl
        where
          by : (b : Bool) → (n == call) ≡ b → (nat_lt (order_of r.state) order ≡ true) ⊎ (count_on plan r ch ≡ 0)
          by true h =
              let place = eqb-true n call h in
              let same = same_record (ap (slice_get before) (sym place) ∙ at) e.ended.there in
              inr (uncounted plan r ch (ap (λ r. counts_of r.state) same ∙ ap counts_of state_was))
          by false h = inl (lt-ltb (order_of r.state) order (e.runs.last n r (eqb-false n call h) at (sym (of_bench bench r) ∙ is)))

  -- the part of an earlier call stays
  other_part : (n : ℕ) (r : CallRecord) (ch : Channel) → (n ≡ call → ⊥) → slice_get before n ≡ Some r → is_of bench r.state ≡ true → part_in plan after bench all_heard r ch ≡ part_in plan before bench heard r ch
  other_part n r ch other at is =
      let early = e.runs.last n r other at is in
      let fits = sum_besides (is_of_bench bench) (λ r. count_on plan r ch) (λ q. nat_lt (order_of q.state) (order_of r.state)) before n r at (of_bench bench r ∙ is) (le-ltb (order_of r.state) (order_of r.state) (omega arith)) in
      let whole = sym (sum_filter (is_of_bench bench) (λ r. count_on plan r ch) before) ∙ sym (e.runs.used_up ch) in
      ap (λ m. take (count_on plan r ch) (drop m (heard ch ++ told ch))) (made_kept ch (order_of r.state) (omega (arith, early)))
      ∙ part_kept (made_in plan before bench (order_of r.state) ch) (count_on plan r ch) (heard ch) (told ch) (omega (arith, fits, whole))

  -- and its own is what it was told
  own_part : (ch : Channel) → part_in plan after bench all_heard it ch ≡ told ch
  own_part ch =
      ap (λ s. take (count_on plan it ch) (drop (made_in plan after bench (order_of s) ch) (heard ch ++ told ch))) state_is
      ∙ part_behind (made_in plan after bench order ch) (count_on plan it ch) (heard ch) (told ch) (made_kept ch order (omega arith) ∙ made_whole ch) (it_counts ch)

  own_ran : CallOn plan after bench all_heard call it
  own_ran =
      let t : Told = λ ch. told_of (told ch) in
      let u : Told = λ ch. told_of (part_in plan after bench all_heard it ch) in
      let same : (ch : Channel) → u ch ≡ t ch = λ ch. ap told_of (own_part ch) in
      record {
        function = f;
        function_so = ap (slice_get plan.functions) function_is ∙ e.function_so;
        order = order;
        outcome = outcome;
        used = used;
        output = output;
        finished = state_is ∙ ap (λ ns. Finished (host_of_bench plan bench) bench order outcome used output ns) (sym (counts_alike f.function.grants t u same));
        runs = ∥∥₁_map e.ran (λ run. subst (λ i. Runs f.function i u outcome output used) (sym input_is) (runs_alike f.function input t u outcome output used same run));
        granted = λ ch. subst (λ es. IsTrue (list_all (is_granted call f.function.grants ch) es)) (sym (own_part ch)) (e.granted ch);
      }

  ended_calls : (n : ℕ) (r : CallRecord) → slice_get after n ≡ Some r → is_of bench r.state ≡ true → CallOn plan after bench all_heard n r
  ended_calls n r at is = by (n == call) refl
    where
      by : (b : Bool) → (n == call) ≡ b → CallOn plan after bench all_heard n r
      by true h =
          let place = eqb-true n call h in
          let same : r ≡ it = same_record (ap (slice_get after) (sym place) ∙ at) e.ended.now in
          subst (λ m. CallOn plan after bench all_heard m r) (sym place) (subst (λ r. CallOn plan after bench all_heard call r) (sym same) own_ran)
      by false h =
          let other = eqb-false n call h in
          let old = e.ended.others n r other at in
          call_alike plan before after bench heard all_heard n r r refl (λ ch. other_part n r ch other old is) (e.runs.calls n r other old is)

  ends_so : BenchRan plan after bench all_heard
  ends_so = record {
    calls = ended_calls;
    used_up = λ ch. let l = length-append (heard ch) (told ch) in let old = e.runs.used_up ch in let more = all_more ch in omega (arith, l, old, more);
  }

pub ends_one : (plan : Plan) (bench call order function : ℕ) (input : List ℕ) (f : NamedFunction) (outcome : Outcome) (used : ℕ) (output counted : List ℕ) (before after : List CallRecord) (heard told : Heard) → BenchRuns plan before bench heard call order function input → EndedAt bench call outcome used output counted before after → slice_get plan.functions function ≡ Some f → counted ≡ counts f.function.grants (λ ch. told_of (told ch)) → ∥ Runs f.function input (λ ch. told_of (told ch)) outcome output used ∥₁ → ((ch : Channel) → IsTrue (list_all (is_granted call f.function.grants ch) (told ch))) → BenchRan plan after bench (λ ch. heard ch ++ told ch)
ends_one plan bench call order function input f outcome used output counted before after heard told runs ended function_so counted_so ran granted =
    ends_so plan bench call order function input f outcome used output before after heard told
    (record { runs = runs; ended = subst (λ ns. EndedAt bench call outcome used output ns before after) counted_so ended; function_so = function_so; ran = ran; granted = granted })

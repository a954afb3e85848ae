-- Each call of an ended session ran, since its bench is left with what it heard.
use Rattle.std.proofs.Common.{◌≡◌, ℕ, zero, suc, ◌+◌, ◌<◌, Bool, true, false, cond, not, List, [], ◌∷◌, Some, refl, sym, ap, ◌∙◌, subst, length, take, drop, filter, slice_get, arith}
use Rattle.std.specs.Prelude.{IsTrue}
use Rattle.std.specs.List.{list_all}
use Rattle.std.proofs.lemmas.Bool.{eq-eqb}
use Rattle.faaslet_meaning.specs.declared.call.CallRecord.{CallRecord}
use Rattle.faaslet_meaning.specs.declared.call.CallState.{CallState}
use Rattle.faaslet_meaning.specs.declared.call.CallState.TheVariants.{Queued, Taken, Finished}
use Rattle.faaslet_meaning.specs.declared.grant.Channel.{Channel}
use Rattle.faaslet_meaning.specs.Channels.{counts}
use Rattle.faaslet_meaning.specs.Records.{host_of, is_finished, is_queued}
use Rattle.faaslet_meaning.specs.Runs.{Runs}
use Rattle.session_meaning.specs.Answered.{Answered, told_of}
use Rattle.session_meaning.specs.Own.{Session, benches, host_of_bench, heard, bench_of, order_of, count_on, made_before, own}
use Rattle.session_meaning.specs.Plan.{Plan}
use Rattle.session_meaning.specs.Ran.{CallRan, CallsRan, is_granted}
use Rattle.session_meaning.proofs.RanSections.{own_at}
use Rattle.turn_cell.specs.declared.view.Entry.{Entry}
use Rattle.turn_cell.specs.History.{Stands}
use Rattle.call_table.specs.Makers.{MakesTable}
use Rattle.call_table.specs.Mine.{is_of}
use Rattle.call_table.specs.Session.{SessionTable}
use Rattle.bench_parts.specs.Parts as parts
use Rattle.bench_parts.specs.Parts.{part_in}
use Rattle.bench_parts.specs.Ran.{CallOn}
use Rattle.session_ends.specs.Opened.{first_session}
use Rattle.session_ends.proofs.Makers.{Sits, well_led, good_first}

-- ---- One call.

pub one_ran : (plan : Plan) (s : Session) (bench : ℕ) (told : parts.Heard) (n : ℕ) (r : CallRecord) → bench < benches plan → ((ch : Channel) → heard plan s bench (host_of_bench plan bench) ch ≡ told ch) → CallOn plan s.records bench told n r → CallRan plan s n r
one_ran plan s bench told n r low heard_so c =
    let host = host_of_bench plan bench in
    let grants = c.function.function.grants in
    let same : (λ (ch : Channel). part_in plan s.records bench told r ch) ≡ (λ (ch : Channel). own plan s r ch) = λ i ch. sym (each host ch) i in
    record {
      function = c.function;
      function_so = c.function_so;
      host = host;
      bench = bench;
      order = c.order;
      outcome = c.outcome;
      used = c.used;
      output = c.output;
      finished = subst (λ (t : Channel → List Answered). r.state ≡ Finished host bench c.order c.outcome c.used c.output (counts grants (λ ch. told_of (t ch)))) same c.finished;
      on_bench = low;
      at_host = refl;
      runs = subst (λ (t : Channel → List Answered). ∥ Runs c.function.function r.input (λ ch. told_of (t ch)) c.outcome c.output c.used ∥₁) same c.runs;
      granted = subst (λ (t : Channel → List Answered). (ch : Channel) → IsTrue (list_all (is_granted n grants ch) (t ch))) same c.granted;
    }
  where
    each : (host : ℕ) (ch : Channel) → own plan s r ch ≡ part_in plan s.records bench told r ch
    each host ch =
        own_at plan s r ch (host_of_bench plan bench) bench (ap host_of c.finished) (ap bench_of c.finished)
        ∙ ap (λ xs. take (count_on plan r ch) (drop (made_before plan s bench (order_of r.state) ch) xs)) (heard_so ch)

-- ---- All of them.

pub calls_ran : (plan : Plan) (s : Session) (first : ℕ) (rs : List CallRecord) → ((n : ℕ) (r : CallRecord) → slice_get rs n ≡ Some r → CallRan plan s (first + n) r) → CallsRan plan s first rs
calls_ran plan s first [] each = tt
calls_ran plan s first (r ∷ rs) each =
    let here : first + 0 ≡ first = omega arith in (
      subst (λ m. CallRan plan s m r) here (each 0 r refl),
      calls_ran plan s (suc first) rs (λ n x at. let same : first + suc n ≡ suc first + n = omega arith in subst (λ m. CallRan plan s m x) same (each (suc n) x at)),
    )

-- where none is unfinished each is finished
pub all_finished : (rs : List CallRecord) (n : ℕ) (r : CallRecord) → length (filter (λ r. not (is_finished r.state)) rs) ≡ 0 → slice_get rs n ≡ Some r → is_finished r.state ≡ true
all_finished [] n r none e = let no : ⊥ = cc in absurd no
all_finished (x ∷ rs) n r none e = by (is_finished x.state) refl none n e (λ m k at. all_finished rs m r k at)
  where
    by : (b : Bool) → is_finished x.state ≡ b → length (cond (not b) (x ∷ filter (λ r. not (is_finished r.state)) rs) (filter (λ r. not (is_finished r.state)) rs)) ≡ 0 → (n : ℕ) → slice_get (x ∷ rs) n ≡ Some r
        → ((m : ℕ) → length (filter (λ r. not (is_finished r.state)) rs) ≡ 0 → slice_get rs m ≡ Some r → is_finished r.state ≡ true) → is_finished r.state ≡ true
    by true f k zero at go = let same : x ≡ r = cc in ap (λ (y : CallRecord). is_finished y.state) (sym same) ∙ f
    by true f k (suc m) at go = go m k at
    by false f k m at go = let no : ⊥ = omega (arith, k) in absurd no

pub its_bench : (plan : Plan) (s : CallState) → Sits plan s → is_queued s ≡ false → (bench : ℕ) × (bench < benches plan) × (is_of bench s ≡ true)
its_bench plan Queued sits f = let no : ⊥ = cc in absurd no
its_bench plan (Taken host b order) sits f = (b, sits, eq-eqb b b refl)
its_bench plan (Finished host b order o used output counts) sits f = (b, sits.0, eq-eqb b b refl)

pub finished_taken : (s : CallState) → is_finished s ≡ true → is_queued s ≡ false
finished_taken Queued f = let no : ⊥ = cc in absurd no
finished_taken (Taken host b order) f = refl
finished_taken (Finished host b order o used output counts) f = refl

pub taken_sits : (plan : Plan) (list : List Entry) (t : SessionTable) → Stands MakesTable (first_session plan) list t → (call : ℕ) (r : CallRecord) → slice_get t.table.records call ≡ Some r → is_queued r.state ≡ false → (bench : ℕ) × (bench < benches plan) × (is_of bench r.state ≡ true)
taken_sits plan list t st call r at taken = its_bench plan r.state ((well_led plan (first_session plan) t list (good_first plan) st).good.sit call r at) taken

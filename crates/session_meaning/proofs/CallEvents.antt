-- What a Take, an Ask and an End leave: the call of which they are goes on as its machine does, or has run.
use Rattle.std.proofs.Common.{◌≡◌, inl, ℕ, zero, suc, ◌-◌, ◌≤◌, ◌<◌, List, [], ◌∷◌, ◌++◌, length, map, refl, sym, subst, ap, ◌∙◌, Bool, true, false, Option, Some, None, slice_get, fold, arith}
use Rattle.std.proofs.lemmas.Bool.{eqb-false}
use Rattle.std.specs.Prelude.{IsTrue, option_map, ◌==◌, ◌&&◌}
use Rattle.faaslet_meaning.specs.declared.call.CallRecord.{CallRecord}
use Rattle.faaslet_meaning.specs.declared.call.CallState.{CallState}
use Rattle.faaslet_meaning.specs.declared.call.CallState.TheVariants.{Queued, Taken, Finished}
use Rattle.faaslet_meaning.specs.declared.grant.Channel.{Channel}
use Rattle.faaslet_meaning.specs.declared.grant.Channel.TheVariants.{Local, Global, Table as OnTable}
use Rattle.faaslet_meaning.specs.declared.outcome.Outcome.{Outcome}
use Rattle.faaslet_meaning.specs.declared.outcome.Outcome.TheVariants as outcome
use Rattle.faaslet_meaning.specs.Lists.{changed}
use Rattle.faaslet_meaning.specs.Channels.{Reply, Question, Told, entries, on_channel, counts, channels, has_form}
use Rattle.faaslet_meaning.specs.Configuration.{Configuration}
use Rattle.faaslet_meaning.specs.CallState.{Invocation, State, Progress, runs, asks, over, lost, fresh_state}
use Rattle.faaslet_meaning.specs.Call.{call_step, replied, comes, output_limit}
use Rattle.faaslet_meaning.specs.Fresh.{Function, Made, makes, breaks, nothing, fresh}
use Rattle.faaslet_meaning.specs.Runs.{invocation, RunOf, runs_by, Runs}
use Rattle.faaslet_meaning.specs.Records.{told_of, takes}
use Rattle.faaslet_meaning.specs.Table.{TableOperation, empty_table, take_this, finish, finished_state}
use Rattle.faaslet_meaning.specs.Bounds.{steps_left}
use Rattle.session_meaning.specs.Plan.{NamedFunction, Plan, callables}
use Rattle.session_meaning.specs.OpenCall.{steps, quiet, Machine, stands, is_broken, Open, machine_by, opened, Ended, ended_by, counted, answered}
use Rattle.session_meaning.specs.World.{World, on_table, entered}
use Rattle.session_meaning.specs.WorldTold.{told_at, told}
use Rattle.session_meaning.specs.Events.{answer, put_call, open_of, took, asked, finished}
use Rattle.session_meaning.proofs.AsksGranted.{first_ok}
use Rattle.session_meaning.proofs.GrantedAsks.{kids_after}
use Rattle.session_meaning.proofs.GrantedCalls.{ProgressOk, call_step_ok, replied_ok}
use Rattle.session_meaning.proofs.Goes.{goes_quiet, goes_on, goes_run, told_more}
use Rattle.session_meaning.proofs.OneEntry.{RegionsOk, Left}
use Rattle.session_meaning.proofs.TableEntries.{table_regions, table_opens}
use Rattle.session_meaning.proofs.OneQuestion.{KidsOk, Served}
use Rattle.session_meaning.proofs.OwnHistory.{told_on_table_none}
use Rattle.session_meaning.proofs.RecordsKept.{ChildrenStay, ShortOutput, kin_same, states_changed, children_changed}
use Rattle.session_meaning.proofs.LegalEntries.{get_here, get_apart}
use Rattle.session_meaning.proofs.CallsAlike.{Came, MachineOk, OpenOk, Through, CallOk, WorldOk, Calm, runs_alike, counts_alike, counted_more, calls_changed, put_apart, put_here, some_same}

-- ---- The machine goes on by itself.

steps_ok : (j : Invocation) (fuel : ℕ) (kids : List (Option ℕ)) (n : ℕ) (p : Progress) → ProgressOk j fuel kids p → ProgressOk j fuel kids (steps j n p)
steps_ok j fuel kids zero p h = h
steps_ok j fuel kids (suc n) (runs s) h = steps_ok j fuel kids n (call_step j s) (call_step_ok j fuel kids s h)
steps_ok j fuel kids (suc n) (asks s q) h = h
steps_ok j fuel kids (suc n) (over s o) h = h
steps_ok j fuel kids (suc n) lost h = h

came_stands : (f : Function) (input : List ℕ) (t : Told) (rs : List CallRecord) (call children : ℕ) (p : Progress) → Came f input t rs call children p → MachineOk f input t rs call children (stands p)
came_stands f input t rs call children (asks s q) h = h
came_stands f input t rs call children (over s o) h = h
came_stands f input t rs call children (runs s) h = tt
came_stands f input t rs call children lost h = tt

-- ---- A question is served.

both_true : (a b : Bool) → a ≡ true → b ≡ true → (a && b) ≡ true
both_true true b h k = k
both_true false b h k = h

put_regions : (plan : Plan) (w : World) (call : ℕ) (x : Option Open) → RegionsOk plan w → RegionsOk plan (put_call w call x)
put_regions plan w call x ok = record { hosts = ok.hosts; locals = ok.locals; globals = ok.globals; table = ok.table }

-- the question at which a call stands is answered
abbrev Answers : Plan → World → ℕ → Open → State → Question → Type 0
Answers plan w call o s q = Served plan w call o.host s q (answer w call o.host q)

came_on : (f : Function) (input : List ℕ) (t u : Told) (rs more : List CallRecord) (call m n : ℕ) (s : State) (q : Question) (r : Reply) → ((ch : Channel) → u ch ≡ t ch ++ on_channel ch (entries q r)) → IsTrue (has_form q r) → IsTrue (comes s q r) → KidsOk more call n (kids_after s.children q r) → Came f input t rs call m (asks s q)
    → Came f input u more call n (quiet (invocation f input) (replied (invocation f input) s r))
came_on f input t u rs more call m n s q r told form comes_so kids h =
    let j = invocation f input in
    let now = ap (λ l. kids_after l q r) h.ok.0.2 in
    record {
      config = h.config;
      made_so = h.made_so;
      transcript = h.transcript ++ (q, r) ∷ [];
      goes = goes_on j (runs (fresh_state h.config)) h.transcript s q r h.goes (both_true (has_form q r) (comes s q r) form comes_so);
      told_so = λ ch. told ch ∙ ap (λ l. l ++ on_channel ch (entries q r)) (h.told_so ch) ∙ sym (told_more h.transcript q r ch);
      kids = kids_after h.kids q r;
      ok = steps_ok j f.fuel (kids_after h.kids q r) (steps_left (replied j s r)) (replied j s r) (replied_ok j f.fuel h.kids s q r h.ok);
      kids_ok = subst (KidsOk more call n) now kids;
    }

pub asked_ok : (plan : Plan) (w : World) (call : ℕ) (o : Open) (s : State) (q : Question) → WorldOk plan w → (h : OpenOk plan w call o) → Came h.function.function h.r.input (told_at plan w o.host call) w.table.records call h.r.children (asks s q) → Answers plan w call o s q → WorldOk plan (asked w call o s q)
asked_ok plan w call o s q ok h came served =
    record {
      regions = put_regions plan w' call (Some o') left.regions;
      hosts = left.hosts ∙ ok.hosts;
      records = left.records;
      calls = calls_changed plan w (asked w call o s q) call left.children calm own ok.calls;
    }
  where
    r : Reply
    r = answer w call o.host q

    w' : World
    w' = fold (entered call o.host) w (entries q (answer w call o.host q))

    left : Left plan w call o.host (entries q (answer w call o.host q)) (fold (entered call o.host) w (entries q (answer w call o.host q)))
    left = served.left

    o' : Open
    o' = answered o s (answer w call o.host q) (entries q (answer w call o.host q))

    calm : (c : ℕ) → (call == c) ≡ false → Calm plan w (asked w call o s q) c
    calm c e =
        record {
          told = λ i ch. served.left.others c i ch e;
          forward = served.left.forward c;
          backward = served.left.backward c;
          opens = put_apart w' call c (Some o') e ∙ served.left.opens c;
        }

    open_so : OpenOk plan (asked w call o s q) call (answered o s (answer w call o.host q) (entries q (answer w call o.host q)))
    open_so =
        let f = served.left.forward call h.r h.here in
        let kin = f.2 in
        let g = h.function.function in
        let t = told_at plan w o.host call in
        let u = told_at plan w' o.host call in
        let j = invocation g h.r.input in
        let on = came_on g h.r.input t u w.table.records w'.table.records call h.r.children f.0.children s q r served.left.own served.form served.comes_so (served.kids f.0 f.1) came in
        let stood = came_stands g h.r.input u w'.table.records call f.0.children (quiet j (replied j s r)) on in
        record {
          r = f.0;
          here = f.1;
          bench = h.bench;
          order = h.order;
          state_so = kin.state ∙ h.state_so;
          within = h.within;
          function = h.function;
          function_so = ap (slice_get plan.functions) kin.function ∙ h.function_so;
          invocation_so = h.invocation_so ∙ ap (invocation g) (sym kin.input);
          fuel_so = h.fuel_so;
          counts_so = ap (λ i. counted i.program.grants o.counts (entries q r)) h.invocation_so ∙ ap (λ ns. counted g.grants ns (entries q r)) h.counts_so ∙ counted_more (channels g.grants) t u (entries q r) served.left.own;
          machine = subst (λ input. MachineOk g input u w'.table.records call f.0.children (stands (quiet o.invocation (replied o.invocation s r)))) (sym kin.input)
              (subst (λ i. MachineOk g h.r.input u w'.table.records call f.0.children (stands (quiet i (replied i s r)))) (sym h.invocation_so) stood);
        }

    taken : (x : CallRecord) → slice_get w'.table.records call ≡ Some x → x.state ≡ Taken o.host h.bench h.order
    taken x e = let f = served.left.forward call h.r h.here in ap (λ y. y.state) (some_same x f.0 (sym e ∙ f.1)) ∙ f.2.state ∙ h.state_so

    own : CallOk plan (asked w call o s q) call
    own =
        record {
          opens = λ p e. subst (OpenOk plan (asked w call o s q) call) (some_same o' p (put_here w' call (Some o') p e)) open_so;
          ran = λ x host bench order out used output ns e state_so. let k = taken x e in let no : ⊥ = cc in absurd no;
          idle = λ idle i ch. let f = served.left.forward call h.r h.here in let k = taken f.0 f.1 in let queued = idle f.0 f.1 in let no : ⊥ = cc in absurd no;
        }

-- ---- A call is taken.

pub take_ok : (plan : Plan) (w : World) (call host : ℕ) (r : CallRecord) → WorldOk plan w → slice_get w.table.records call ≡ Some r → r.state ≡ Queued → host < plan.hosts → WorldOk plan (took plan w call host r)
take_ok plan w call host r ok here queued within =
    record {
      regions = put_regions plan w' call x (table_regions plan w call op ok.regions);
      hosts = ok.hosts;
      records = states_changed w.table.records call change (λ y. (refl, refl, refl)) (λ y. refl) (λ y e short. tt) ok.records;
      calls = calls_changed plan w (took plan w call host r) call stay calm own ok.calls;
    }
  where
    op : TableOperation
    op = take_this call host call

    w' : World
    w' = on_table w call (take_this call host call)

    x : Option Open
    x = open_of plan r host

    change : CallRecord → CallRecord
    change y = record y { state = Taken host call (takes w.table.records) }

    stay : ChildrenStay w.table.records (changed w.table.records call (λ y. record y { state = Taken host call (takes w.table.records) }))
    stay = children_changed w.table.records call (λ y. record y { state = Taken host call (takes w.table.records) }) (λ y. (refl, refl, refl))
        (λ y o bs e told. let same = some_same r y (sym here ∙ e) in let so = ap (λ z. told_of z.state) same in let none = ap told_of queued in let no : ⊥ = cc in absurd no)

    told_same : (maker h : ℕ) (ch : Channel) → told_at plan (took plan w call host r) h maker ch ≡ told_at plan w h maker ch
    told_same maker h (Local i) = refl
    told_same maker h (Global i) = refl
    told_same maker h OnTable = told_on_table_none (empty_table plan.hosts (callables plan)) w.table_history maker call (take_this call host call) (λ r. refl)

    apart : (c : ℕ) → (call == c) ≡ false → slice_get (changed w.table.records call (λ y. record y { state = Taken host call (takes w.table.records) })) c ≡ slice_get w.table.records c
    apart c e = get_apart w.table.records call c (λ y. record y { state = Taken host call (takes w.table.records) }) (λ same. eqb-false call c e (sym same))

    calm : (c : ℕ) → (call == c) ≡ false → Calm plan w (took plan w call host r) c
    calm c e =
        record {
          told = told_same c;
          forward = λ y at. (y, apart c e ∙ at, kin_same y);
          backward = λ y at. inl (y, sym (apart c e) ∙ at, kin_same y);
          opens = put_apart (on_table w call (take_this call host call)) call c (open_of plan r host) e ∙ table_opens w call (take_this call host call) c;
        }

    now : slice_get (changed w.table.records call (λ y. record y { state = Taken host call (takes w.table.records) })) call ≡ Some (record r { state = Taken host call (takes w.table.records) })
    now = get_here w.table.records call (λ y. record y { state = Taken host call (takes w.table.records) }) ∙ ap (option_map {T = CallRecord} (λ y. record y { state = Taken host call (takes w.table.records) })) here

    nothing_told : (ch : Channel) → told_at plan (took plan w call host r) host call ch ≡ []
    nothing_told ch = told_same call host ch ∙ (ok.calls call).idle (λ y e. ap (λ z. z.state) (some_same y r (sym e ∙ here)) ∙ queued) host ch

    at_first : (f : NamedFunction) (m : Made Configuration) → fresh f.function ≡ m → MachineOk f.function r.input (told_at plan (took plan w call host r) host call) (took plan w call host r).table.records call r.children (machine_by (invocation f.function r.input) m)
    at_first f (makes c) made_so =
        let j = invocation f.function r.input in
        came_stands f.function r.input (told_at plan (took plan w call host r) host call) (took plan w call host r).table.records call r.children (quiet j (runs (fresh_state c)))
        (record {
          config = c;
          made_so = made_so;
          transcript = [];
          goes = goes_quiet j (runs (fresh_state c));
          told_so = nothing_told;
          kids = [];
          ok = steps_ok j f.function.fuel [] (steps_left (runs (fresh_state c))) (runs (fresh_state c)) (first_ok f.function r.input c made_so);
          kids_ok = (omega arith, λ n len e. let no : ⊥ = cc in absurd no);
        })
    at_first f (breaks k) made_so = (made_so, nothing_told)
    at_first f nothing made_so = tt

    zeros : (chs : List Channel) → map (λ ch. 0) chs ≡ map (λ ch. length (told_at plan (took plan w call host r) host call ch)) chs
    zeros [] = refl
    zeros (ch ∷ chs) = ap (λ n. n ∷ map (λ ch. 0) chs) (ap length (sym (nothing_told ch))) ∙ ap (λ ns. length (told_at plan (took plan w call host r) host call ch) ∷ ns) (zeros chs)

    open_so : (f : NamedFunction) → slice_get plan.functions r.function ≡ Some f → OpenOk plan (took plan w call host r) call (opened f.function r.input host)
    open_so f e =
        record {
          r = record r { state = Taken host call (takes w.table.records) };
          here = now;
          bench = call;
          order = takes w.table.records;
          state_so = refl;
          within = within;
          function = f;
          function_so = e;
          invocation_so = refl;
          fuel_so = refl;
          counts_so = zeros (channels f.function.grants);
          machine = at_first f (fresh f.function) refl;
        }

    opens : (o : Open) (f : Option NamedFunction) → slice_get plan.functions r.function ≡ f → option_map (λ f. opened f.function r.input host) f ≡ Some o → OpenOk plan (took plan w call host r) call o
    opens o None e h = let no : ⊥ = cc in absurd no
    opens o (Some f) e h = subst (OpenOk plan (took plan w call host r) call) (some_same (opened f.function r.input host) o h) (open_so f e)

    own : CallOk plan (took plan w call host r) call
    own =
        record {
          opens = λ o e. opens o (slice_get plan.functions r.function) refl (put_here (on_table w call (take_this call host call)) call (open_of plan r host) o e);
          ran = λ y h bench order o used output ns e state_so. let k = ap (λ z. z.state) (some_same (record r { state = Taken host call (takes w.table.records) }) y (sym now ∙ e)) in let no : ⊥ = cc in absurd no;
          idle = λ idle h ch. let k = idle (record r { state = Taken host call (takes w.table.records) }) now in let no : ⊥ = cc in absurd no;
        }

-- ---- A call is finished.

-- what is done with its record
abbrev ends_as : Open → Ended → CallRecord → CallRecord
ends_as o e y = record y { state = finished_state y.state e.outcome e.used e.output o.counts }

finished_told : (s : CallState) (e : Ended) (ns : List ℕ) (o : Outcome) (bs : List ℕ) → told_of s ≡ Reply.finished o bs → told_of (finished_state s e.outcome e.used e.output ns) ≡ Reply.finished o bs
finished_told (Finished h b i out used output counts) e ns o bs told = told
finished_told Queued e ns o bs told = let no : ⊥ = cc in absurd no
finished_told (Taken h b i) e ns o bs told = let no : ⊥ = cc in absurd no

finished_short : (s : CallState) (e : Ended) (ns : List ℕ) → length e.output ≤ output_limit → ShortOutput s → ShortOutput (finished_state s e.outcome e.used e.output ns)
finished_short (Finished h b i out used output counts) e ns few short = short
finished_short Queued e ns few short = tt
finished_short (Taken h b i) e ns few short = few

pub finish_ok : (plan : Plan) (w : World) (call : ℕ) (o : Open) (e : Ended) → WorldOk plan w → (h : OpenOk plan w call o) → length e.output ≤ output_limit → Runs h.function.function h.r.input (told_at plan w o.host call) e.outcome e.output e.used → WorldOk plan (finished w call o e)
finish_ok plan w call o e ok h few ran =
    record {
      regions = put_regions plan (on_table w call (finish call e.outcome e.used e.output o.counts)) call None (table_regions plan w call (finish call e.outcome e.used e.output o.counts) ok.regions);
      hosts = ok.hosts;
      records = states_changed w.table.records call (ends_as o e) (λ y. (refl, refl, refl)) (λ y. refl) (λ y at short. finished_short y.state e o.counts few short) ok.records;
      calls = calls_changed plan w (finished w call o e) call stay calm own ok.calls;
    }
  where
    stay : ChildrenStay w.table.records (changed w.table.records call (ends_as o e))
    stay = children_changed w.table.records call (ends_as o e) (λ y. (refl, refl, refl)) (λ y out bs at told. finished_told y.state e o.counts out bs told)

    told_same : (maker i : ℕ) (ch : Channel) → told_at plan (finished w call o e) i maker ch ≡ told_at plan w i maker ch
    told_same maker i (Local k) = refl
    told_same maker i (Global k) = refl
    told_same maker i OnTable = told_on_table_none (empty_table plan.hosts (callables plan)) w.table_history maker call (finish call e.outcome e.used e.output o.counts) (λ r. refl)

    apart : (c : ℕ) → (call == c) ≡ false → slice_get (changed w.table.records call (ends_as o e)) c ≡ slice_get w.table.records c
    apart c n = get_apart w.table.records call c (ends_as o e) (λ same. eqb-false call c n (sym same))

    calm : (c : ℕ) → (call == c) ≡ false → Calm plan w (finished w call o e) c
    calm c n =
        record {
          told = told_same c;
          forward = λ y at. (y, apart c n ∙ at, kin_same y);
          backward = λ y at. inl (y, sym (apart c n) ∙ at, kin_same y);
          opens = put_apart (on_table w call (finish call e.outcome e.used e.output o.counts)) call c None n ∙ table_opens w call (finish call e.outcome e.used e.output o.counts) c;
        }

    now : slice_get (changed w.table.records call (ends_as o e)) call ≡ Some (ends_as o e h.r)
    now = get_here w.table.records call (ends_as o e) ∙ ap (option_map (ends_as o e)) h.here

    state_now : finished_state h.r.state e.outcome e.used e.output o.counts ≡ Finished o.host h.bench h.order e.outcome e.used e.output o.counts
    state_now = ap (λ s. finished_state s e.outcome e.used e.output o.counts) h.state_so

    -- its record says what it came to
    through : Through plan (finished w call o e) call (ends_as o e h.r) o.host e.outcome e.used e.output o.counts
    through =
        record {
          function = h.function;
          function_so = h.function_so;
          ran = runs_alike h.function.function h.r.input (told_at plan w o.host call) (told_at plan (finished w call o e) o.host call) e.outcome e.output e.used (told_same call o.host) ran;
          counts_so = h.counts_so ∙ sym (counts_alike h.function.function.grants (told_at plan w o.host call) (told_at plan (finished w call o e) o.host call) (told_same call o.host));
        }

    through_as : (host bench order : ℕ) (out : Outcome) (used : ℕ) (output ns : List ℕ) → Finished o.host h.bench h.order e.outcome e.used e.output o.counts ≡ Finished host bench order out used output ns → Through plan (finished w call o e) call (ends_as o e h.r) host out used output ns
    through_as host bench order out used output ns same =
        let a : o.host ≡ host = cc in
        let b : e.outcome ≡ out = cc in
        let c : e.used ≡ used = cc in
        let d : e.output ≡ output = cc in
        let f : o.counts ≡ ns = cc in
        subst (λ x. Through plan (finished w call o e) call (ends_as o e h.r) x out used output ns) a
        (subst (λ x. Through plan (finished w call o e) call (ends_as o e h.r) o.host x used output ns) b
        (subst (λ x. Through plan (finished w call o e) call (ends_as o e h.r) o.host e.outcome x output ns) c
        (subst (λ x. Through plan (finished w call o e) call (ends_as o e h.r) o.host e.outcome e.used x ns) d
        (subst (λ x. Through plan (finished w call o e) call (ends_as o e h.r) o.host e.outcome e.used e.output x) f through))))

    own : CallOk plan (finished w call o e) call
    own =
        record {
          opens = λ p at. let no = put_here (on_table w call (finish call e.outcome e.used e.output o.counts)) call None p at in let wrong : ⊥ = cc in absurd wrong;
          ran = λ y host bench order out used output ns at state_so.
              let same = some_same (ends_as o e h.r) y (sym now ∙ at) in
              subst (λ z. Through plan (finished w call o e) call z host out used output ns) same (through_as host bench order out used output ns (sym state_now ∙ ap (λ z. z.state) same ∙ state_so));
          idle = λ idle i ch. let k = sym state_now ∙ idle (ends_as o e h.r) now in let no : ⊥ = cc in absurd no;
        }

-- how a machine ends is how its call ran
pub ends_ran : (f : Function) (input : List ℕ) (t : Told) (rs : List CallRecord) (call children fuel : ℕ) (m : Machine) (e : Ended) → f.room ≤ output_limit → fuel ≡ f.fuel → MachineOk f input t rs call children m → ended_by fuel m ≡ Some e → (length e.output ≤ output_limit) × Runs f input t e.outcome e.output e.used
ends_ran f input t rs call children fuel (stands (over s o)) e room fuel_so h is = subst (λ x. (length x.output ≤ output_limit) × Runs f input t x.outcome x.output x.used) (some_same _ e is) (short, subst (λ m. runs_by f m input t o s.output (fuel - s.config.fuel)) (sym h.made_so) ran)
  where
    short : length s.output ≤ output_limit
    short = let l = h.ok.1 in omega (arith, room, l)

    ran : RunOf f h.config input t o s.output (fuel - s.config.fuel)
    ran =
        let few = h.ok.0.1 in
        record {
          transcript = h.transcript;
          last = s;
          run = goes_run s o refl h.goes;
          told_so = h.told_so;
          output_so = refl;
          used_so = omega (arith, few, fuel_so);
        }
ends_ran f input t rs call children fuel (is_broken k) e room fuel_so h is =
    subst (λ x. (length x.output ≤ output_limit) × Runs f input t x.outcome x.output x.used) (some_same _ e is) (omega arith, subst (λ m. runs_by f m input t (outcome.Broken k) [] 0) (sym h.0) (refl, h.1, refl, refl))
ends_ran f input t rs call children fuel (stands (asks s q)) e room fuel_so h is = let no : ⊥ = cc in absurd no
ends_ran f input t rs call children fuel (stands (runs s)) e room fuel_so h is = let no : ⊥ = cc in absurd no
ends_ran f input t rs call children fuel (stands lost) e room fuel_so h is = let no : ⊥ = cc in absurd no

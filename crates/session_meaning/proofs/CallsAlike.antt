-- What holds of each call of a world, and that it goes on holding of a call that an event leaves alone.
use Rattle.std.proofs.Common.{◌≡◌, ◌⊎◌, inl, inr, ℕ, ◌≤◌, ◌<◌, List, [], ◌∷◌, ◌++◌, length, map, refl, sym, subst, ap, ◌∙◌, Bool, true, false, Option, Some, None, slice_get, arith}
use Rattle.std.proofs.lemmas.Bool.{eqb-true, eqb-false}
use Rattle.std.proofs.lemmas.List.{length-append}
use Rattle.std.specs.Prelude.{option_map, unwrap_or, ◌==◌}
use Rattle.faaslet_meaning.specs.declared.call.CallRecord.{CallRecord}
use Rattle.faaslet_meaning.specs.declared.call.CallState.TheVariants.{Queued, Taken, Finished}
use Rattle.faaslet_meaning.specs.declared.grant.Channel.{Channel}
use Rattle.faaslet_meaning.specs.declared.grant.Grant.{Grant}
use Rattle.faaslet_meaning.specs.declared.outcome.Outcome.{Outcome}
use Rattle.faaslet_meaning.specs.Channels.{Entry, Transcript, Told, told_by, on_channel, counts, channels}
use Rattle.faaslet_meaning.specs.Configuration.{Configuration}
use Rattle.faaslet_meaning.specs.CallState.{Progress, runs, asks, over, lost, fresh_state}
use Rattle.faaslet_meaning.specs.Fresh.{Function, Made, makes, breaks, nothing, fresh}
use Rattle.faaslet_meaning.specs.Runs.{invocation, runs_by, Runs}
use Rattle.session_meaning.specs.Plan.{NamedFunction, Plan}
use Rattle.session_meaning.specs.OpenCall.{Machine, stands, is_broken, Open, counted_on}
use Rattle.session_meaning.specs.World.{World}
use Rattle.session_meaning.specs.WorldTold.{told_at, told}
use Rattle.session_meaning.specs.Events.{open_at, put_call}
use Rattle.session_meaning.proofs.GrantedCalls.{ProgressOk}
use Rattle.faaslet_meaning.specs.Goes.{Goes}
use Rattle.session_meaning.proofs.OneEntry.{RegionsOk}
use Rattle.session_meaning.proofs.OneQuestion.{KidsOk}
use Rattle.session_meaning.proofs.RecordsKept.{RecordsOk, ChildrenStay, Kin}
use Rattle.session_meaning.proofs.LegalEntries.{get_here, get_apart}

-- ---- Runs under what is told alike.

pub runs_alike : (f : Function) (input : List ℕ) (t u : Told) (o : Outcome) (output : List ℕ) (used : ℕ) → ((ch : Channel) → u ch ≡ t ch) → Runs f input t o output used → Runs f input u o output used
runs_alike f input t u o output used same h = by (fresh f) h
  where
    by : (m : Made Configuration) → runs_by f m input t o output used → runs_by f m input u o output used
    by (makes c) k = record { transcript = k.transcript; last = k.last; run = k.run; told_so = λ ch. same ch ∙ k.told_so ch; output_so = k.output_so; used_so = k.used_so }
    by (breaks b) k = (k.0, λ ch. same ch ∙ k.1 ch, k.2, k.3)
    by nothing k = k

counts_on_alike : (chs : List Channel) (t u : Told) → ((ch : Channel) → u ch ≡ t ch) → map (λ ch. length (u ch)) chs ≡ map (λ ch. length (t ch)) chs
counts_on_alike [] t u same = refl
counts_on_alike (ch ∷ chs) t u same = ap (λ l. length l ∷ map (λ ch. length (u ch)) chs) (same ch) ∙ ap (λ ns. length (t ch) ∷ ns) (counts_on_alike chs t u same)

pub counts_alike : (gs : List Grant) (t u : Told) → ((ch : Channel) → u ch ≡ t ch) → counts gs u ≡ counts gs t
counts_alike gs t u same = counts_on_alike (channels gs) t u same

pub counted_more : (chs : List Channel) (t u : Told) (es : List Entry) → ((ch : Channel) → u ch ≡ t ch ++ on_channel ch es) → counted_on chs (map (λ ch. length (t ch)) chs) es ≡ map (λ ch. length (u ch)) chs
counted_more [] t u es more = refl
counted_more (ch ∷ chs) t u es more =
    ap (λ n. n ∷ counted_on chs (map (λ ch. length (t ch)) chs) es) (sym (length-append (t ch) (on_channel ch es)) ∙ ap length (sym (more ch)))
    ∙ ap (λ ns. length (u ch) ∷ ns) (counted_more chs t u es more)

-- ---- What holds of a call.

-- from a fresh state, by fitting replies, with what it was told on each channel
pub record Came (f : Function) (input : List ℕ) (told : Told) (records : List CallRecord) (call children : ℕ) (p : Progress) : Type 0 where
  pub config : Configuration
  pub made_so : fresh f ≡ makes config
  pub transcript : Transcript
  pub goes : Goes (invocation f input) (runs (fresh_state config)) transcript p
  pub told_so : (ch : Channel) → told ch ≡ told_by transcript ch
  pub kids : List (Option ℕ)
  pub ok : ProgressOk (invocation f input) f.fuel kids p
  pub kids_ok : KidsOk records call children kids

abbrev pub MachineOk : Function → List ℕ → Told → List CallRecord → ℕ → ℕ → Machine → Type 0
MachineOk f input told records call children (stands (asks s q)) = Came f input told records call children (asks s q)
MachineOk f input told records call children (stands (over s o)) = Came f input told records call children (over s o)
MachineOk f input told records call children (stands p) = Unit {0}
MachineOk f input told records call children (is_broken k) = (fresh f ≡ breaks k) × ((ch : Channel) → told ch ≡ [])

pub record OpenOk (plan : Plan) (w : World) (call : ℕ) (o : Open) : Type 0 where
  pub r : CallRecord
  pub here : slice_get w.table.records call ≡ Some r
  pub bench : ℕ
  pub order : ℕ
  pub state_so : r.state ≡ Taken o.host bench order
  pub within : o.host < plan.hosts
  pub function : NamedFunction
  pub function_so : slice_get plan.functions r.function ≡ Some function
  pub invocation_so : o.invocation ≡ invocation function.function r.input
  pub fuel_so : o.fuel ≡ function.function.fuel
  pub counts_so : o.counts ≡ counts function.function.grants (told_at plan w o.host call)
  pub machine : MachineOk function.function r.input (told_at plan w o.host call) w.table.records call r.children o.machine

pub record Through (plan : Plan) (w : World) (call : ℕ) (r : CallRecord) (host : ℕ) (o : Outcome) (used : ℕ) (output ns : List ℕ) : Type 0 where
  pub function : NamedFunction
  pub function_so : slice_get plan.functions r.function ≡ Some function
  pub ran : Runs function.function r.input (told_at plan w host call) o output used
  pub counts_so : ns ≡ counts function.function.grants (told_at plan w host call)

-- there is no such call, or it is queued
abbrev pub Idle : List CallRecord → ℕ → Type 0
Idle records call = (r : CallRecord) → slice_get records call ≡ Some r → r.state ≡ Queued

pub record CallOk (plan : Plan) (w : World) (call : ℕ) : Type 0 where
  pub opens : (o : Open) → open_at w call ≡ Some o → OpenOk plan w call o
  pub ran : (r : CallRecord) (host bench order : ℕ) (o : Outcome) (used : ℕ) (output ns : List ℕ) → slice_get w.table.records call ≡ Some r → r.state ≡ Finished host bench order o used output ns → Through plan w call r host o used output ns
  pub idle : Idle w.table.records call → (h : ℕ) (ch : Channel) → told_at plan w h call ch ≡ []

pub record WorldOk (plan : Plan) (w : World) : Type 0 where
  pub regions : RegionsOk plan w
  pub hosts : w.table.hosts ≡ plan.hosts
  pub records : RecordsOk w.table.records
  pub calls : (call : ℕ) → CallOk plan w call

-- ---- A call that is left alone.

pub record Calm (plan : Plan) (w w' : World) (call : ℕ) : Type 0 where
  pub told : (h : ℕ) (ch : Channel) → told_at plan w' h call ch ≡ told_at plan w h call ch
  pub forward : (r : CallRecord) → slice_get w.table.records call ≡ Some r → (s : CallRecord) × (slice_get w'.table.records call ≡ Some s) × Kin r s
  pub backward : (s : CallRecord) → slice_get w'.table.records call ≡ Some s → ((r : CallRecord) × (slice_get w.table.records call ≡ Some r) × Kin r s) ⊎ ((slice_get w.table.records call ≡ None) × (s.state ≡ Queued))
  pub opens : open_at w' call ≡ open_at w call

kids_alike : (rs more : List CallRecord) (call m n : ℕ) (kids : List (Option ℕ)) → ChildrenStay rs more → m ≤ n → KidsOk rs call m kids → KidsOk more call n kids
kids_alike rs more call m n kids stay grown ok = let few = ok.0 in (omega (arith, few, grown), λ c len e. let k = ok.1 c len e in (k.0, k.1, stay call c k.0 k.1 k.2, k.3))

came_alike : (f : Function) (input : List ℕ) (t u : Told) (rs more : List CallRecord) (call m n : ℕ) (p : Progress) → ((ch : Channel) → u ch ≡ t ch) → ChildrenStay rs more → m ≤ n → Came f input t rs call m p → Came f input u more call n p
came_alike f input t u rs more call m n p same stay grown h =
    record {
      config = h.config;
      made_so = h.made_so;
      transcript = h.transcript;
      goes = h.goes;
      told_so = λ ch. same ch ∙ h.told_so ch;
      kids = h.kids;
      ok = h.ok;
      kids_ok = kids_alike rs more call m n h.kids stay grown h.kids_ok;
    }

machine_alike : (f : Function) (input : List ℕ) (t u : Told) (rs more : List CallRecord) (call m n : ℕ) (x : Machine) → ((ch : Channel) → u ch ≡ t ch) → ChildrenStay rs more → m ≤ n → MachineOk f input t rs call m x → MachineOk f input u more call n x
machine_alike f input t u rs more call m n (stands (asks s q)) same stay grown h = came_alike f input t u rs more call m n (asks s q) same stay grown h
machine_alike f input t u rs more call m n (stands (over s o)) same stay grown h = came_alike f input t u rs more call m n (over s o) same stay grown h
machine_alike f input t u rs more call m n (stands (runs s)) same stay grown h = tt
machine_alike f input t u rs more call m n (stands lost) same stay grown h = tt
machine_alike f input t u rs more call m n (is_broken k) same stay grown h = (h.0, λ ch. same ch ∙ h.1 ch)

open_alike : (plan : Plan) (w w' : World) (call : ℕ) (o : Open) → Calm plan w w' call → ChildrenStay w.table.records w'.table.records → OpenOk plan w call o → OpenOk plan w' call o
open_alike plan w w' call o calm stay h =
    let f = calm.forward h.r h.here in
    let kin = f.2 in
    record {
      r = f.0;
      here = f.1;
      bench = h.bench;
      order = h.order;
      state_so = kin.state ∙ h.state_so;
      within = h.within;
      function = h.function;
      function_so = ap (slice_get plan.functions) kin.function ∙ h.function_so;
      invocation_so = h.invocation_so ∙ ap (invocation h.function.function) (sym kin.input);
      fuel_so = h.fuel_so;
      counts_so = h.counts_so ∙ sym (counts_alike h.function.function.grants (told_at plan w o.host call) (told_at plan w' o.host call) (calm.told o.host));
      machine = subst (λ input. MachineOk h.function.function input (told_at plan w' o.host call) w'.table.records call f.0.children o.machine) (sym kin.input)
          (machine_alike h.function.function h.r.input (told_at plan w o.host call) (told_at plan w' o.host call) w.table.records w'.table.records call h.r.children f.0.children o.machine (calm.told o.host) stay kin.children h.machine);
    }

pub call_alike : (plan : Plan) (w w' : World) (call : ℕ) → Calm plan w w' call → ChildrenStay w.table.records w'.table.records → CallOk plan w call → CallOk plan w' call
call_alike plan w w' call calm stay ok =
    record {
      opens = λ o e. open_alike plan w w' call o calm stay (ok.opens o (sym calm.opens ∙ e));
      ran = λ s host bench order o used output ns e state_so. through s host bench order o used output ns state_so (calm.backward s e);
      idle = λ idle h ch. calm.told h ch ∙ ok.idle (λ r e. let f = calm.forward r e in sym f.2.state ∙ idle f.0 f.1) h ch;
    }
  where
    through : (s : CallRecord) (host bench order : ℕ) (o : Outcome) (used : ℕ) (output ns : List ℕ) → s.state ≡ Finished host bench order o used output ns
        → ((r : CallRecord) × (slice_get w.table.records call ≡ Some r) × Kin r s) ⊎ ((slice_get w.table.records call ≡ None) × (s.state ≡ Queued)) → Through plan w' call s host o used output ns
    through s host bench order o used output ns state_so (inl h) =
        let kin = h.2 in
        let t = ok.ran h.0 host bench order o used output ns h.1 (sym kin.state ∙ state_so) in
        record {
          function = t.function;
          function_so = ap (slice_get plan.functions) kin.function ∙ t.function_so;
          ran = runs_alike t.function.function s.input (told_at plan w host call) (told_at plan w' host call) o output used (calm.told host)
              (subst (λ input. Runs t.function.function input (told_at plan w host call) o output used) (sym kin.input) t.ran);
          counts_so = t.counts_so ∙ sym (counts_alike t.function.function.grants (told_at plan w host call) (told_at plan w' host call) (calm.told host));
        }
    through s host bench order o used output ns state_so (inr h) = let queued = h.1 in let no : ⊥ = cc in absurd no

-- ---- One call is changed, and the others are left alone.

pub calls_changed : (plan : Plan) (w w' : World) (call : ℕ) → ChildrenStay w.table.records w'.table.records → ((c : ℕ) → (call == c) ≡ false → Calm plan w w' c) → CallOk plan w' call → ((c : ℕ) → CallOk plan w c) → (c : ℕ) → CallOk plan w' c
calls_changed plan w w' call stay calm own ok c = by (call == c) refl
  where
    by : (b : Bool) → (call == c) ≡ b → CallOk plan w' c
    by true e = subst (CallOk plan w') (eqb-true call c e) own
    by false e = call_alike plan w w' c (calm c e) stay (ok c)

pub put_apart : (w : World) (call c : ℕ) (x : Option Open) → (call == c) ≡ false → open_at (put_call w call x) c ≡ open_at w c
put_apart w call c x e = ap (λ g. unwrap_or g None) (get_apart w.calls call c (λ old. x) (λ same. eqb-false call c e (sym same)))

pub put_here : (w : World) (call : ℕ) (x : Option Open) (o : Open) → open_at (put_call w call x) call ≡ Some o → x ≡ Some o
put_here w call x o h = by (slice_get w.calls call) (sym (ap (λ g. unwrap_or g None) (get_here w.calls call (λ old. x))) ∙ h)
  where
    by : (g : Option (Option Open)) → unwrap_or (option_map (λ old. x) g) None ≡ Some o → x ≡ Some o
    by None h = let no : ⊥ = cc in absurd no
    by (Some old) h = h

pub some_same : {A : Type 0} (a b : A) → Some a ≡ Some b → a ≡ b
some_same a b e = cc

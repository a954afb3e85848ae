-- A call that is through is finished on the table as its open call has ended in the world.
use Rattle.std.proofs.Common.{◌≡◌, ℕ, zero, suc, ◌+◌, ◌-◌, ◌*◌, ◌≤◌, Bool, true, false, List, [], ◌∷◌, Some, None, length, map, take, replicate, refl, sym, ap, ap₂, ◌∙◌, slice_get, subst, arith}
use Rattle.std.specs.Prelude.{◌==◌, nat_le}
use Rattle.std.proofs.lemmas.Bool.{eq-eqb, le-leb}
use Rattle.std.proofs.lemmas.List.{length-map}
use Rattle.faaslet_meaning.specs.declared.call.CallRecord.{CallRecord}
use Rattle.faaslet_meaning.specs.declared.grant.Channel.{Channel}
use Rattle.faaslet_meaning.specs.declared.grant.Grant.{Grant}
use Rattle.faaslet_meaning.specs.declared.outcome.Broken.{Broken}
use Rattle.faaslet_meaning.specs.declared.outcome.Outcome.{Outcome}
use Rattle.faaslet_meaning.specs.declared.outcome.Outcome.TheVariants as outcome
use Rattle.faaslet_meaning.specs.CallState.{over}
use Rattle.faaslet_meaning.specs.Channels.{channels}
use Rattle.faaslet_meaning.specs.Lists.{passes_at}
use Rattle.faaslet_meaning.specs.Records.{is_open}
use Rattle.faaslet_meaning.specs.Table as table
use Rattle.faaslet_meaning.specs.Table.{Table, callable, finish}
use Rattle.faaslet_run.specs.Counted as kept
use Rattle.faaslet_run.specs.declared.faaslet.Faaslet.{Faaslet}
use Rattle.session_meaning.specs.declared.event.Event.{Event}
use Rattle.session_meaning.specs.Events.{Worlds, finished, open_at}
use Rattle.session_meaning.specs.OpenCall.{Open, ended, ended_by, is_broken}
use Rattle.session_meaning.specs.Plan.{Plan}
use Rattle.session_meaning.specs.WellFormed.{WellFormed}
use Rattle.session_meaning.specs.World.{World}
use Rattle.session_meaning.specs.WorldTold.{told_at}
use Rattle.session_meaning.proofs.CallsAlike.{MachineOk, OpenOk}
use Rattle.session_meaning.proofs.CallsRan.{world_ok}
use Rattle.session_meaning.proofs.OpenCalls.{calls_open}
use Rattle.session_meaning.proofs.WellFits.{calls_fit}
use Rattle.world_core.specs.Living.{KeepsWorld}
use Rattle.world_core.specs.Opened.{AtEnd}
use Rattle.world_core.specs.declared.running.Running.{Running}
use Rattle.world_core.proofs.Allotted.{has_allotted, known_is}
use Rattle.world_core.proofs.Starts.{fits_at}
use Rattle.world_core.proofs.Tallies.{counts_kept}

-- a call has two channels for each grant, and the table
many_channels : (gs : List Grant) → length (channels gs) ≡ 2 * length gs + 1
many_channels [] = refl
many_channels (g ∷ gs) = let more = many_channels gs in omega (arith, more)

zeros : {A : Type 0} (chs : List A) → map {B = ℕ} (λ ch. 0) chs ≡ replicate (length chs) 0
zeros [] = refl
zeros (ch ∷ chs) = ap (λ l. 0 ∷ l) (zeros chs)

pub take_zeros : (n m : ℕ) → n ≤ m → take {A = ℕ} n (replicate m 0) ≡ replicate n 0
take_zeros zero m l = refl
take_zeros (suc n) zero l = let bad : ⊥ = omega (arith, l) in absurd bad
take_zeros (suc n) (suc m) l = ap (λ l. 0 ∷ l) (take_zeros n m (omega (arith, l)))

module _ (plan : Plan) (events : List Event) (w : World) (formed : WellFormed plan) (made : Worlds plan events w) (c : Running) (keeps : KeepsWorld plan w c) (call : ℕ) (o : Open) (at : open_at w call ≡ Some o) where
  pub ok : OpenOk plan w call o
  ok = ((world_ok plan events w (calls_fit plan formed) made).calls call).opens o at

  -- of the call's record on the table that is kept
  on_record : (test : CallRecord → Bool) → test ok.r ≡ true → passes_at test c.table.table.records call ≡ true
  on_record test h = ap (λ t. passes_at test t.records call) keeps.table ∙ ap (λ x. elim x as (λ x. Bool) [ None ↦ false | Some r ↦ test r ]) ok.here ∙ h

  pub call_there : (r : CallRecord) → slice_get c.table.table.records call ≡ Some r → r ≡ ok.r
  call_there r here = let there = sym here ∙ ap (λ t. slice_get t.records call) keeps.table ∙ ok.here in cc

  pub is_open_there : passes_at (λ r. is_open r.state) c.table.table.records call ≡ true
  is_open_there = on_record (λ r. is_open r.state) (ap is_open ok.state_so)

  pub output_fits : (output : List ℕ) → length output ≤ ok.function.function.room → passes_at (λ r. nat_le (length output) r.room) c.table.table.records call ≡ true
  output_fits output few =
      let room = (has_allotted plan events w call ok.r ok.function formed made ok.here ok.function_so).1 in
      on_record (λ r. nat_le (length output) r.room) (le-leb (length output) ok.r.room (omega (arith, few, room)))

  channels_so : (callable c.table.table ok.r.function).channels ≡ length (channels ok.function.function.grants)
  channels_so =
      ap (λ t. (callable t ok.r.function).channels) keeps.table
      ∙ ap (λ k. k.channels) (known_is plan w.table.functions ok.r.function ok.function (calls_open plan events w formed made).functions ok.function_so)

  pub counts_fit : passes_at (λ r. length o.counts == (callable c.table.table r.function).channels) c.table.table.records call ≡ true
  counts_fit =
      on_record (λ r. length o.counts == (callable c.table.table r.function).channels)
      (eq-eqb (length o.counts) (callable c.table.table ok.r.function).channels (ap length ok.counts_so ∙ length-map (channels ok.function.function.grants) (λ ch. length (told_at plan w o.host call ch)) ∙ sym channels_so))

  few_grants : length ok.function.function.grants ≤ 32
  few_grants = (fits_at plan ok.r.function ok.function formed ok.function_so).few_grants

  pub few_channels : (callable c.table.table ok.r.function).channels ≤ 65
  few_channels =
      let so = channels_so in
      let many = many_channels ok.function.function.grants in
      let few = few_grants in
      omega (arith, so, many, few)

  -- the table behind its end
  pub table_finished : (end : Outcome) (used : ℕ) (output ns : List ℕ) (t : Table) → ns ≡ o.counts → t ≡ table.after c.table.table call (finish call end used output ns) → t ≡ (finished w call o (record { outcome = end; used = used; output = output })).table
  table_finished end used output ns t same is =
      is
      ∙ ap (λ t. table.after t call (finish call end used output ns)) keeps.table
      ∙ ap (λ ns. table.after w.table call (finish call end used output ns)) same

  -- ---- Its Faaslet is through.

  module _ (f : Faaslet) (end : Outcome) (through : AtEnd o f end) (used : ℕ) (output ns : List ℕ) (used_so : used + through.ended.state.config.fuel ≡ through.start.config.fuel) (output_so : output ≡ through.ended.state.output) (counts_so : ns ≡ kept.counted o.invocation.program.grants through.transcript) where
    pub ended_so : ended o ≡ Some (record { outcome = end; used = used; output = output })
    ended_so =
        let fuel = through.tallies.fuel in
        let spent : o.fuel - through.ended.state.config.fuel ≡ used = omega (arith, fuel, used_so) in
        ap (ended_by o.fuel) through.machine ∙ ap₂ (λ u out. Some (record { outcome = end; used = u; output = out })) spent (sym output_so)

    pub output_short : passes_at (λ r. nat_le (length output) r.room) c.table.table.records call ≡ true
    output_short =
        let came = subst (MachineOk ok.function.function ok.r.input (told_at plan w o.host call) w.table.records call ok.r.children) through.machine ok.machine in
        let few = came.ok.1 in
        let same = ap length output_so in
        output_fits output (omega (arith, few, same))

    pub counts_are : ns ≡ o.counts
    counts_are =
        let limit = (fits_at plan ok.r.function ok.function formed ok.function_so).fuel.1 in
        let fuel = through.tallies.fuel in
        let is = ok.fuel_so in
        let few = few_grants in
        let same = ap (λ j. length j.program.grants) ok.invocation_so in
        counts_so
        ∙ counts_kept o.invocation through.start through.transcript (over through.ended.state end) through.ended.at.way (omega (arith, limit, fuel, is)) (omega (arith, few, same))
        ∙ sym through.tallies.counts_so

  -- ---- It never ran.

  module _ (kind : Broken) (broken : o.machine ≡ is_broken kind) where
    pub broken_ended : ended o ≡ Some (record { outcome = outcome.Broken kind; used = 0; output = [] })
    broken_ended = ap (ended_by o.fuel) broken

    pub no_counts : o.counts ≡ replicate (callable c.table.table ok.r.function).channels 0
    no_counts =
        let told = (subst (MachineOk ok.function.function ok.r.input (told_at plan w o.host call) w.table.records call ok.r.children) broken ok.machine).1 in
        ok.counts_so
        ∙ none_on (channels ok.function.function.grants) told
        ∙ zeros (channels ok.function.function.grants)
        ∙ ap (λ n. replicate n 0) (sym channels_so)
      where
        none_on : (chs : List Channel) → ((ch : Channel) → told_at plan w o.host call ch ≡ []) → map (λ ch. length (told_at plan w o.host call ch)) chs ≡ map {B = ℕ} (λ ch. 0) chs
        none_on [] told = refl
        none_on (ch ∷ chs) told = ap₂ (λ a l. length a ∷ l) (told ch) (none_on chs told)

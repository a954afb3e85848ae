-- A call of a world that is queued has no children.
use Rattle.std.proofs.Common.{◌≡◌, ◌⊎◌, inl, inr, ℕ, Bool, true, false, cond, List, [], ◌∷◌, ◌++◌, Option, Some, None, refl, sym, ap, ◌∙◌, length, slice_get, option_map, subst, fold}
use Rattle.faaslet_meaning.specs.declared.call.CallRecord.{CallRecord}
use Rattle.faaslet_meaning.specs.declared.call.CallState.{CallState}
use Rattle.faaslet_meaning.specs.declared.call.CallState.TheVariants.{Queued, Taken, Finished}
use Rattle.faaslet_meaning.specs.declared.grant.Channel.{Channel}
use Rattle.faaslet_meaning.specs.declared.grant.Channel.TheVariants.{Local, Global, Table as OnTable}
use Rattle.faaslet_meaning.specs.declared.outcome.Outcome.{Outcome}
use Rattle.session_meaning.specs.declared.event.Event.{Event}
use Rattle.session_meaning.specs.declared.event.Event.TheVariants.{Take, Ask, End}
use Rattle.faaslet_meaning.specs.CallState.{State}
use Rattle.faaslet_meaning.specs.Channels.{Entry, Operation, Question, Reply, entry, on_region}
use Rattle.faaslet_meaning.specs.Lists.{changed}
use Rattle.faaslet_meaning.specs.Records.{takes}
use Rattle.faaslet_meaning.specs.Table as table
use Rattle.faaslet_meaning.specs.Table.{Table, child_record, finished_state, has_room, one_more_child, queued_record, submit}
use Rattle.session_meaning.specs.Events.{Stand, Worlds, entries_now, open_at, step}
use Rattle.session_meaning.specs.OpenCall.{Ended, Open, asking, ended}
use Rattle.session_meaning.specs.Plan.{Plan, Request}
use Rattle.session_meaning.specs.World.{World, entered, first_world, requested, start}
use Rattle.session_meaning.specs.WorldTold.{CallsFit}
use Rattle.session_meaning.proofs.CallsAlike.{OpenOk, WorldOk}
use Rattle.session_meaning.proofs.CallsRan.{world_ok, worlds_more}
use Rattle.session_meaning.proofs.Invariants.{Back, changed_back}
use Rattle.session_meaning.proofs.Later.{push_before}
use Rattle.session_meaning.proofs.LegalEntries.{get_here}
use Rattle.session_meaning.proofs.OneStep.{asked_at, asked_of, finished_at, finished_of, taken_by}
use Rattle.session_meaning.proofs.RecordsKept.{get_front}

abbrev pub Childless : List CallRecord → Type 0
Childless rs = (n : ℕ) (r : CallRecord) → slice_get rs n ≡ Some r → r.state ≡ Queued → r.children ≡ 0

take_childless : (rs : List CallRecord) (call host bench order : ℕ) → Childless rs → Childless (changed rs call (λ y. record y { state = Taken host bench order }))
take_childless rs call host bench order less m y e queued = by (changed_back rs call (λ y. record y { state = Taken host bench order }) m y e)
  where
    by : Back rs call (λ y. record y { state = Taken host bench order }) m y → y.children ≡ 0
    by (inl k) = less m y k queued
    by (inr k) = let now = ap (λ z. z.state) k.1.2 in let no : ⊥ = cc in absurd no

was_queued : (s : CallState) (o : Outcome) (used : ℕ) (output counts : List ℕ) → finished_state s o used output counts ≡ Queued → s ≡ Queued
was_queued Queued o used output counts e = refl
was_queued (Taken h b n) o used output counts e = let no : ⊥ = cc in absurd no
was_queued (Finished h b n p u out ns) o used output counts e = let no : ⊥ = cc in absurd no

end_childless : (rs : List CallRecord) (call : ℕ) (o : Outcome) (used : ℕ) (output counts : List ℕ) → Childless rs → Childless (changed rs call (λ y. record y { state = finished_state y.state o used output counts }))
end_childless rs call o used output counts less m y e queued = by (changed_back rs call (λ y. record y { state = finished_state y.state o used output counts }) m y e)
  where
    by : Back rs call (λ y. record y { state = finished_state y.state o used output counts }) m y → y.children ≡ 0
    by (inl k) = less m y k queued
    by (inr k) =
        let x = k.1.0 in
        let before : x.state ≡ Queued = was_queued x.state o used output counts (sym (ap (λ z. z.state) k.1.2) ∙ queued) in
        ap (λ z. z.children) k.1.2 ∙ less m x k.1.1 before

-- the call is there, and not queued
pub record IsTaken (rs : List CallRecord) (call : ℕ) : Type 0 where
  pub r : CallRecord
  pub here : slice_get rs call ≡ Some r
  pub taken : r.state ≡ Queued → ⊥

some_same : {A : Type 0} {x y : A} → Some x ≡ Some y → x ≡ y
some_same e = cc

child_childless : (t : Table) (parent : ℕ) (p : CallRecord) (f : ℕ) (input : List ℕ) → slice_get t.records parent ≡ Some p → (p.state ≡ Queued → ⊥) → Childless t.records → Childless (changed t.records parent one_more_child ++ child_record t parent p f input ∷ [])
child_childless t parent p f input here taken less m y e queued = by (push_before (changed t.records parent one_more_child) (child_record t parent p f input) m y e)
  where
    old : Back t.records parent one_more_child m y → y.children ≡ 0
    old (inl k) = less m y k queued
    old (inr k) =
        let x = k.1.0 in
        let there : slice_get t.records parent ≡ Some x = subst (λ n. slice_get t.records n ≡ Some x) k.0 k.1.1 in
        let same : x ≡ p = some_same (sym there ∙ here) in
        absurd (taken (sym (ap (λ z. z.state) same) ∙ sym (ap (λ z. z.state) k.1.2) ∙ queued))

    by : (slice_get (changed t.records parent one_more_child) m ≡ Some y) ⊎ ((m ≡ length (changed t.records parent one_more_child)) × (y ≡ child_record t parent p f input)) → y.children ≡ 0
    by (inl k) = old (changed_back t.records parent one_more_child m y k)
    by (inr k) = ap (λ z. z.children) k.1

abbrev Both : List CallRecord → ℕ → Type 0
Both rs call = Childless rs × IsTaken rs call

submit_both : (t : Table) (m call f : ℕ) (input : List ℕ) → Both t.records call → Both (table.after t m (submit call f input)).records call
submit_both t m call f input both = by (slice_get t.records call) refl
  where
    p : CallRecord
    p = both.1.r

    room : (b : Bool) → Both (cond b (record t { records = changed t.records call one_more_child ++ child_record t call both.1.r f input ∷ [] }) t).records call
    room true = (
      child_childless t call both.1.r f input both.1.here both.1.taken both.0,
      record {
        r = one_more_child both.1.r;
        here = get_front (changed t.records call one_more_child) (child_record t call both.1.r f input) call (one_more_child both.1.r) (get_here t.records call one_more_child ∙ ap (option_map one_more_child) both.1.here);
        taken = both.1.taken;
      },
    )
    room false = both

    by : (o : Option CallRecord) → slice_get t.records call ≡ o → Both (elim o as (λ o. Table) [ None ↦ t | Some p ↦ cond (has_room t p f input) (record t { records = changed t.records call one_more_child ++ child_record t call p f input ∷ [] }) t ]).records call
    by None e = both
    by (Some x) e =
        let same : both.1.r ≡ x = some_same (sym both.1.here ∙ e) in
        subst (λ p. Both (cond (has_room t p f input) (record t { records = changed t.records call one_more_child ++ child_record t call p f input ∷ [] }) t).records call) same (room (has_room t both.1.r f input))

entered_both : (w : World) (call host : ℕ) (ch : Channel) (op : Operation) (r : Reply) → Both w.table.records call → Both (entered call host w (entry ch op r)).table.records call
entered_both w call host (Local key) (on_region op) r p = p
entered_both w call host (Local key) (Operation.submit f input) r p = p
entered_both w call host (Local key) (Operation.look c) r p = p
entered_both w call host (Global key) (on_region op) r p = p
entered_both w call host (Global key) (Operation.submit f input) r p = p
entered_both w call host (Global key) (Operation.look c) r p = p
entered_both w call host OnTable (Operation.submit f input) r p = submit_both w.table call call f input p
entered_both w call host OnTable op r p = p

entries_both : (w : World) (call host : ℕ) (es : List Entry) → Both w.table.records call → Both (fold (entered call host) w es).table.records call
entries_both w call host [] p = p
entries_both w call host (e ∷ es) p = entries_both (entered call host w e) call host es (entered_both w call host e.channel e.operation e.reply p)

step_childless : (plan : Plan) (w : World) (e : Event) → WorldOk plan w → Childless w.table.records → Childless (step plan w e).table.records
step_childless plan w (Take call host) ok less = by (slice_get w.table.records call)
  where
    by : (o : Option CallRecord) → Childless (taken_by plan w call host o).table.records
    by None = less
    by (Some r) = take_childless w.table.records call host call (takes w.table.records) less
step_childless plan w (End call) ok less = by (open_at w call)
  where
    at : (o : Open) (e : Option Ended) → Childless (finished_of w call o e).table.records
    at o None = less
    at o (Some e) = end_childless w.table.records call e.outcome e.used e.output o.counts less

    by : (o : Option Open) → Childless (finished_at w call o).table.records
    by None = less
    by (Some o) = at o (ended o)
step_childless plan w (Ask call) ok less = by (open_at w call) refl
  where
    taken : (o : Open) → OpenOk plan w call o → IsTaken w.table.records call
    taken o h = record { r = h.r; here = h.here; taken = λ queued. let so = h.state_so in let no : ⊥ = cc in no }

    at : (o : Open) → OpenOk plan w call o → (a : Option (State × Question)) → Childless (asked_of w call o a).table.records
    at o h None = less
    at o h (Some a) = (entries_both w call o.host (entries_now w call o.host a.1) (less, taken o h)).0

    by : (o : Option Open) → open_at w call ≡ o → Childless (asked_at w call o).table.records
    by None e = less
    by (Some o) e = at o ((ok.calls call).opens o e) (asking o.machine)

childless_on : (plan : Plan) (before : List Event) (w : World) (es : List Event) → CallsFit plan → Worlds plan before w → Childless w.table.records → Stand plan w es → Childless (fold (step plan) w es).table.records
childless_on plan before w [] fit made less stand = less
childless_on plan before w (e ∷ es) fit made less stand =
    childless_on plan (before ++ e ∷ []) (step plan w e) es fit (worlds_more plan before w e made stand.0) (step_childless plan w e (world_ok plan before w fit made) less) stand.1

requests_childless : (w : World) (rs : List Request) → Childless w.table.records → Childless (fold requested w rs).table.records
requests_childless w [] less = less
requests_childless w (r ∷ rs) less = requests_childless (requested w r) rs more
  where
    x : CallRecord
    x = queued_record w.table r.function r.host r.input

    more : Childless (w.table.records ++ queued_record w.table r.function r.host r.input ∷ [])
    more m y e queued = by (push_before w.table.records (queued_record w.table r.function r.host r.input) m y e)
      where
        by : (slice_get w.table.records m ≡ Some y) ⊎ ((m ≡ length w.table.records) × (y ≡ queued_record w.table r.function r.host r.input)) → y.children ≡ 0
        by (inl k) = less m y k queued
        by (inr k) = ap (λ z. z.children) k.1

pub world_childless : (plan : Plan) (events : List Event) (w : World) → CallsFit plan → Worlds plan events w → Childless w.table.records
world_childless plan events w fit made =
    subst (λ v. Childless v.table.records) (sym made.world_so)
    (childless_on plan [] (first_world plan) events fit (record { stand = tt; world_so = refl }) (requests_childless (start plan) plan.requests (λ n r e queued. let no : ⊥ = cc in absurd no)) made.stand)

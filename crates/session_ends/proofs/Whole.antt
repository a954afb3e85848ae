-- An ended session ran.
use Rattle.std.proofs.Common.{◌≡◌, ℕ, ◌+◌, ◌<◌, false, List, [], ◌∷◌, Option, Some, None, refl, sym, ap, ◌∙◌, subst, length, slice_get, unwrap_or, arith}
use Rattle.std.proofs.lemmas.Bool.{eq-eqb}
use Rattle.std.proofs.lemmas.List.{length-map, nil_from_length}
use Rattle.std.proofs.lemmas.Option.{slice_get_within, slice_get-get_or}
use Rattle.faaslet_meaning.specs.declared.call.CallRecord.{CallRecord}
use Rattle.faaslet_meaning.specs.declared.grant.Channel.{Channel}
use Rattle.faaslet_meaning.specs.declared.grant.Channel.TheVariants.{Local, Global, Table as OnTable}
use Rattle.faaslet_meaning.specs.Channels.{RegionOperation}
use Rattle.faaslet_meaning.specs.History.{History}
use Rattle.faaslet_meaning.specs.Region.{replica, global_value}
use Rattle.faaslet_meaning.specs.Spelling.{spelled, Spells}
use Rattle.session_meaning.specs.Answered.{Answered, told_of, asked_on}
use Rattle.session_meaning.specs.Own as own
use Rattle.session_meaning.specs.Own.{Session, benches, host_of_bench, local_history, global_history, with_last_read, made_by, made, is_of_bench, used_up}
use Rattle.session_meaning.specs.Plan.{Key, Plan}
use Rattle.session_meaning.specs.Ran.{CallRan, Ran}
use Rattle.session_meaning.specs.Seen.{Seen, SpellsSession}
use Rattle.session_meaning.specs.WellFormed.{KeyFits, WellFormed}
use Rattle.session_meaning.proofs.CallsRan.{all_get}
use Rattle.session_meaning.proofs.Orders.{marks, InOrder}
use Rattle.session_meaning.proofs.RanSections.{made_told}
use Rattle.shared_region.specs.Entries.{MakesShared}
use Rattle.shared_region.specs.Shared.{Shared}
use Rattle.turn_cell.specs.declared.view.Entry.{Entry}
use Rattle.turn_cell.specs.History.{Stands}
use Rattle.region_tier.specs.Holding.{has_lock}
use Rattle.told_asks.specs.Leaves.{leaves_lock}
use Rattle.bench_parts.specs.Ran.{BenchRan}
use Rattle.session_ends.specs.Bench.{list_of, local_list}
use Rattle.session_ends.specs.Ended.{EndedHost}
use Rattle.session_ends.specs.Opened.{first_session, first_replica, first_value}
use Rattle.session_ends.specs.Session.{pairs, EndedSession}
use Rattle.session_ends.proofs.Calls.{one_ran, calls_ran, all_finished, its_bench, finished_taken}
use Rattle.session_ends.proofs.Counted.{OfKey, none_made}
use Rattle.session_ends.proofs.Hearing.{heard_region, heard_value, heard_table}
use Rattle.session_ends.proofs.Hosts.{AllReplicas, AllHosts, AllValues, all_replicas, all_hosts, all_values, spelled_at, spelled_local}
use Rattle.session_ends.proofs.Makers.{WellLed, well_led, good_first}
use Rattle.session_ends.proofs.Objects.{heard_unlocked, replica_ended, value_ended}
use Rattle.session_ends.proofs.Over.{ran_at_end}
use Rattle.session_ends.proofs.Requests.{table_ran, bench_asks}
use Rattle.session_ends.proofs.Unlocked.{led_in_order, bench_unlocked}

no_history : (list : List Entry) (h : History RegionOperation) → list ≡ [] → Spells spelled (pairs list) h → h ≡ []
no_history [] [] e s = refl
no_history [] (x ∷ h) e s = let no : ⊥ = cc in absurd no
no_history (r ∷ rs) h e s = let no : ⊥ = cc in absurd no

module _ (plan : Plan) (seen : Seen) (finals : List (List ℕ)) (fine : WellFormed plan) (x : EndedSession plan seen finals) where
  -- ---- The table, and the benches at the end.

  led : WellLed plan (first_session plan) x.end x.table
  led = well_led plan (first_session plan) x.end x.table (good_first plan) x.on_table.stands

  abbrev records : List CallRecord
  records = x.end.table.records

  at_end : (b : ℕ) (low : b < benches plan) → BenchRan plan records b (x.each_bench b low).heard
  at_end b low = ran_at_end plan x.locals x.globals x.table x.end b x.on_table.stands (x.each_bench b low)

  in_order : InOrder (marks records)
  in_order = led_in_order plan x.end x.table led

  unlocked : (b : ℕ) (low : b < benches plan) (ch : Channel) → leaves_lock false (told_of ((x.each_bench b low).heard ch)) ≡ false
  unlocked b low ch = bench_unlocked plan (record { records = records; locals = []; globals = []; table_history = [] }) b ch (x.each_bench b low).heard fine in_order (at_end b low)

  -- ---- Regions.

  local_at : (host n : ℕ) (lists : List (List Entry)) (list : List Entry) → slice_get x.locals host ≡ Some lists → slice_get lists n ≡ Some list → local_list x.locals host n ≡ list
  local_at host n lists list at at_list = ap (λ (o : Option (List (List Entry))). list_of (unwrap_or o []) n) at ∙ ap (λ (o : Option (List Entry)). unwrap_or o []) at_list

  host_ran : (host : ℕ) (lists : List (List Entry)) → slice_get x.locals host ≡ Some lists → AllReplicas plan host plan.keys lists
  host_ran host lists at = all_replicas plan host plan.keys lists (x.replicas host lists at).keys (λ n k list at_key at_list. replica_ended plan host k list ((x.replicas host lists at).each n k list at_key at_list) (λ m low here.
      let whole = local_list x.locals (host_of_bench plan m) n in
      let same : whole ≡ list = ap (λ h. local_list x.locals h n) here ∙ local_at host n lists list at at_list in
      subst (λ l. has_lock m l ≡ false) same (heard_unlocked (replica k.size) m whole ((x.each_bench m low).heard (Local n)) ((x.each_bench m low).on_local n k at_key) (unlocked m low (Local n)))))

  hosts : AllHosts plan 0 x.locals
  hosts = all_hosts plan 0 x.locals (λ n lists at. let same : n ≡ 0 + n = omega arith in subst (λ m. AllReplicas plan m plan.keys lists) same (host_ran n lists at))

  values : AllValues plan plan.keys x.globals finals
  values = all_values plan plan.keys x.globals finals x.values.keys x.values.finals_so (λ n k list final at_key at_list at_final. value_ended plan k list final (all_get KeyFits plan.keys n k fine.limits.keys at_key).init (x.values.each n k list final at_key at_list at_final) (λ m low.
      let whole = list_of x.globals n in
      let same : whole ≡ list = ap (λ (o : Option (List Entry)). unwrap_or o []) at_list in
      subst (λ l. has_lock m l ≡ false) same (heard_unlocked (global_value k.size k.init) m whole ((x.each_bench m low).heard (Global n)) ((x.each_bench m low).on_global n k at_key) (unlocked m low (Global n)))))

  abbrev ended : Session
  ended = record { records = records; locals = hosts.0; globals = values.0; table_history = led.history }

  -- ---- What the benches heard is what is told in the session.

  local_stands : (host key : ℕ) (k : Key) → slice_get plan.keys key ≡ Some k → (end : Shared) × Stands MakesShared (first_replica plan k) (local_list x.locals host key) end
  local_stands host key k at = by (slice_get x.locals host) refl
    where
      one : (lists : List (List Entry)) → EndedHost plan host lists → (o : Option (List Entry)) → slice_get lists key ≡ o → (end : Shared) × Stands MakesShared (first_replica plan k) (unwrap_or o []) end
      one lists h None e = (first_replica plan k, refl)
      one lists h (Some list) e = ((h.each key k list at e).end, (h.each key k list at e).ended.stands)

      by : (o : Option (List (List Entry))) → slice_get x.locals host ≡ o → (end : Shared) × Stands MakesShared (first_replica plan k) (list_of (unwrap_or o []) key) end
      by None e = (first_replica plan k, refl)
      by (Some lists) e = one lists (x.replicas host lists e) (slice_get lists key) refl

  global_stands : (key : ℕ) (k : Key) → slice_get plan.keys key ≡ Some k → (end : Shared) × Stands MakesShared (first_value plan k) (list_of x.globals key) end
  global_stands key k at = by (slice_get x.globals key) refl
    where
      with_final : (list : List Entry) → slice_get x.globals key ≡ Some list → (o : Option (List ℕ)) → slice_get finals key ≡ o → (end : Shared) × Stands MakesShared (first_value plan k) list end
      with_final list e None f =
          let there = slice_get_within plan.keys key k at in
          let long = x.values.finals_so in
          let some : slice_get finals key ≡ Some _ = slice_get-get_or finals key [] (omega (arith, there, long)) in
          let no : ⊥ = cc (some, f) in absurd no
      with_final list e (Some final) f = ((x.values.each key k list final at e f).end, (x.values.each key k list final at e f).ended.stands)

      by : (o : Option (List Entry)) → slice_get x.globals key ≡ o → (end : Shared) × Stands MakesShared (first_value plan k) (unwrap_or o []) end
      by None e = (first_value plan k, refl)
      by (Some list) e = with_final list e (slice_get finals key) refl

  nothing_heard : (b : ℕ) (low : b < benches plan) (key : ℕ) (ch : Channel) → slice_get plan.keys key ≡ None → OfKey key ch → (x.each_bench b low).heard ch ≡ []
  nothing_heard b low key ch past on = nil_from_length ((x.each_bench b low).heard ch) ((at_end b low).used_up ch ∙ none_made plan records (is_of_bench b) key ch fine past on)

  local_told : (b : ℕ) (low : b < benches plan) (key : ℕ) (k : Key) → slice_get plan.keys key ≡ Some k → asked_on b (replica k.size) (local_history ended (host_of_bench plan b) key) ≡ (x.each_bench b low).heard (Local key)
  local_told b low key k at =
      let host = host_of_bench plan b in
      let st = local_stands host key k at in
      heard_region (first_replica plan k) st.0 b (local_list x.locals host key) ((x.each_bench b low).heard (Local key)) (local_history ended host key) st.1 ((x.each_bench b low).on_local key k at) (spelled_local x.locals hosts.0 host key hosts.1)

  global_told : (b : ℕ) (low : b < benches plan) (key : ℕ) (k : Key) → slice_get plan.keys key ≡ Some k → asked_on b (global_value k.size k.init) (global_history plan ended k key) ≡ (x.each_bench b low).heard (Global key)
  global_told b low key k at =
      let st = global_stands key k at in
      let h = unwrap_or (slice_get values.0 key) [] in
      heard_value plan k b h low
      ∙ heard_region (first_value plan k) st.0 b (list_of x.globals key) ((x.each_bench b low).heard (Global key)) h st.1 ((x.each_bench b low).on_global key k at) (spelled_at x.globals values.0 key values.1)

  heard_so : (b : ℕ) (low : b < benches plan) (ch : Channel) → own.heard plan ended b (host_of_bench plan b) ch ≡ (x.each_bench b low).heard ch
  heard_so b low (Local key) = by (slice_get plan.keys key) refl
    where
      by : (o : Option Key) → slice_get plan.keys key ≡ o → elim o as (λ o. List Answered) [ None ↦ [] | Some k ↦ asked_on b (replica k.size) (local_history ended (host_of_bench plan b) key) ] ≡ (x.each_bench b low).heard (Local key)
      by None e = sym (nothing_heard b low key (Local key) e refl)
      by (Some k) e = local_told b low key k e
  heard_so b low (Global key) = by (slice_get plan.keys key) refl
    where
      by : (o : Option Key) → slice_get plan.keys key ≡ o → elim o as (λ o. List Answered) [ None ↦ [] | Some k ↦ asked_on b (global_value k.size k.init) (global_history plan ended k key) ] ≡ (x.each_bench b low).heard (Global key)
      by None e = sym (nothing_heard b low key (Global key) e refl)
      by (Some k) e = global_told b low key k e
  heard_so b low OnTable = heard_table plan x.end b x.table ((x.each_bench b low).heard OnTable) led.history x.on_table.stands (x.each_bench b low).on_table led.spells

  -- ---- As many entries as were heard.

  past_local : (host key : ℕ) → slice_get plan.keys key ≡ None → local_list x.locals host key ≡ []
  past_local host key past = by (slice_get x.locals host) refl
    where
      one : (lists : List (List Entry)) → EndedHost plan host lists → (o : Option (List Entry)) → slice_get lists key ≡ o → unwrap_or o [] ≡ []
      one lists h None e = refl
      one lists h (Some list) e =
          let there = slice_get_within lists key list e in
          let long = h.keys in
          let some : slice_get plan.keys key ≡ Some _ = slice_get-get_or plan.keys key (record { name = []; size = 0; init = [] }) (omega (arith, there, long)) in
          let no : ⊥ = cc (some, past) in absurd no

      by : (o : Option (List (List Entry))) → slice_get x.locals host ≡ o → list_of (unwrap_or o []) key ≡ []
      by None e = refl
      by (Some lists) e = one lists (x.replicas host lists e) (slice_get lists key) refl

  made_so : (b : ℕ) (low : b < benches plan) (ch : Channel) → made plan ended b (host_of_bench plan b) ch ≡ length ((x.each_bench b low).heard ch)
  made_so b low (Local key) = by (slice_get plan.keys key) refl
    where
      h : History RegionOperation
      h = local_history ended (host_of_bench plan b) key

      by : (o : Option Key) → slice_get plan.keys key ≡ o → made_by b h ≡ length ((x.each_bench b low).heard (Local key))
      by None e =
          ap (made_by b) (no_history (local_list x.locals (host_of_bench plan b) key) h (past_local (host_of_bench plan b) key e) (spelled_local x.locals hosts.0 (host_of_bench plan b) key hosts.1))
          ∙ sym (ap length (nothing_heard b low key (Local key) e refl))
      by (Some k) e = made_told b (replica k.size) h ∙ length-map (asked_on b (replica k.size) h) (λ (y : Answered). (y.operation, y.reply)) ∙ ap length (local_told b low key k e)
  made_so b low (Global key) = by (slice_get plan.keys key) refl
    where
      by : (o : Option Key) → slice_get plan.keys key ≡ o → elim o as (λ o. ℕ) [ None ↦ 0 | Some k ↦ made_by b (global_history plan ended k key) ] ≡ length ((x.each_bench b low).heard (Global key))
      by None e = sym (ap length (nothing_heard b low key (Global key) e refl))
      by (Some k) e =
          let h = global_history plan ended k key in
          made_told b (global_value k.size k.init) h ∙ length-map (asked_on b (global_value k.size k.init) h) (λ (y : Answered). (y.operation, y.reply)) ∙ ap length (global_told b low key k e)
  made_so b low OnTable = bench_asks plan b (first_session plan).table led.history low led.made ∙ ap length (heard_so b low OnTable)

  -- ---- The whole.

  each_ran : (n : ℕ) (r : CallRecord) → slice_get records n ≡ Some r → CallRan plan ended (0 + n) r
  each_ran n r at =
      let none = x.on_table.none_left in
      let f = all_finished records n r (omega (arith, none)) at in
      let b = its_bench plan r.state (led.good.sit n r at) (finished_taken r.state f) in
      let same : n ≡ 0 + n = omega arith in
      subst (λ m. CallRan plan ended m r) same (one_ran plan ended b.0 (x.each_bench b.0 b.1).heard n r b.1 (heard_so b.0 b.1) ((at_end b.0 b.1).calls n r at b.2))

  pub ended_ran : (s : Session) × SpellsSession seen s × Ran plan s finals
  ended_ran = (
    ended,
    subst (λ z. SpellsSession z ended) (sym x.seen_so) (record { records = refl; locals = hosts.1; globals = values.1; table = led.spells.spells }),
    record {
      hosts = hosts.3 ∙ x.hosts;
      replicas = hosts.2;
      globals = values.2;
      table = table_ran plan ended x.end x.table x.on_table led refl refl;
      calls = calls_ran plan ended 0 records each_ran;
      all_used = λ b ch low. eq-eqb (made plan ended b (host_of_bench plan b) ch) _ (made_so b low ch ∙ (at_end b low).used_up ch);
    },
  )

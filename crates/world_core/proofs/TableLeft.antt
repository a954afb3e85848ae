-- What an Ask leaves of the call table: all as it was, or one child more, which is queued.
use Rattle.std.proofs.Common.{◌≡◌, ◌⊎◌, inl, inr, ℕ, ◌+◌, Bool, true, false, cond, List, [], ◌∷◌, ◌++◌, Some, None, refl, ap, ap₂, ◌∙◌, length, slice_get, fold}
use Rattle.std.specs.Prelude.{◌==◌, ◌&&◌}
use Rattle.std.proofs.lemmas.Bool.{ne_eqb}
use Rattle.std.proofs.lemmas.List.{append-nil, length-append}
use Rattle.faaslet_meaning.specs.declared.call.CallRecord.{CallRecord}
use Rattle.faaslet_meaning.specs.declared.grant.Channel.{Channel}
use Rattle.faaslet_meaning.specs.declared.grant.Channel.TheVariants.{Local, Global, Table as OnTable}
use Rattle.faaslet_meaning.specs.Channels.{Operation, Question, RegionOperation, Reply, ask, entries, entry, fills, has_form, on_region, pulls, pushes}
use Rattle.faaslet_meaning.specs.Lists.{changed, first, places}
use Rattle.faaslet_meaning.specs.Records.{child_of, is_child, is_queued, queued_calls}
use Rattle.faaslet_meaning.specs.Table as table
use Rattle.faaslet_meaning.specs.Table.{Table, child_record, has_room, one_more_child, submit}
use Rattle.faaslet_meaning.specs.CallState.{Invocation}
use Rattle.session_meaning.specs.Events.{answer}
use Rattle.session_meaning.specs.World.{World, entered}
use Rattle.session_meaning.proofs.GrantedAsks.{Asked}
use Rattle.session_meaning.proofs.Kept.{length_changed}
use Rattle.world_objects.specs.Kept.{objects_of}
use Rattle.world_core.proofs.Moves.{one_more_queued, passes_as_before}
use Rattle.world_core.proofs.Places.{places_more}
use Rattle.world_core.proofs.Serving.{IsOffTable, entries_off, table_stays}

-- the table of what a question leaves that is answered so
abbrev pub world_left : World → ℕ → ℕ → Question → Reply → World
world_left w call host q r = fold (entered call host) w (entries q r)

abbrev pub child_told : Reply → Bool
child_told (Reply.child n) = true
child_told r = false

-- one child more, which stands behind all records
pub record HasChild (t : Table) (call : ℕ) (new : Table) (r : Reply) : Type 0 where
  pub function : ℕ
  pub input : List ℕ
  pub p : CallRecord
  pub here : slice_get t.records call ≡ Some p
  pub records : new.records ≡ changed t.records call one_more_child ++ child_record t call p function input ∷ []
  pub told : r ≡ Reply.child p.children

-- or all as it was
pub record IsSame (t new : Table) (r : Reply) : Type 0 where
  pub same : new ≡ t
  pub told : child_told r ≡ false

abbrev pub Leaves : Table → ℕ → Table → Reply → Type 0
Leaves t call new r = HasChild t call new r ⊎ IsSame t new r

-- ---- A Submit.

submit_leaves : (w : World) (call host f : ℕ) (input : List ℕ) (p : CallRecord) → slice_get w.table.records call ≡ Some p → (let q = ask OnTable (Operation.submit f input) in Leaves w.table call (world_left w call host q (answer w call host q)).table (answer w call host q))
submit_leaves w call host f input p here = by (has_room w.table p f input) refl
  where
    q : Question
    q = ask OnTable (Operation.submit f input)

    answer_is : (b : Bool) → has_room w.table p f input ≡ b → answer w call host (ask OnTable (Operation.submit f input)) ≡ cond b (Reply.child p.children) Reply.chain_full
    answer_is b room =
        ap (λ o. elim o as (λ o. Reply) [ None ↦ Reply.done | Some p ↦ cond (has_room w.table p f input) (Reply.child p.children) Reply.chain_full ]) here
        ∙ ap (λ b. cond b (Reply.child p.children) Reply.chain_full) room

    after_is : (b : Bool) → has_room w.table p f input ≡ b → table.after w.table call (submit call f input) ≡ cond b (record w.table { records = changed w.table.records call one_more_child ++ child_record w.table call p f input ∷ [] }) w.table
    after_is b room =
        ap (λ o. elim o as (λ o. Table) [ None ↦ w.table | Some p ↦ cond (has_room w.table p f input) (record w.table { records = changed w.table.records call one_more_child ++ child_record w.table call p f input ∷ [] }) w.table ]) here
        ∙ ap (λ b. cond b (record w.table { records = changed w.table.records call one_more_child ++ child_record w.table call p f input ∷ [] }) w.table) room

    by : (b : Bool) → has_room w.table p f input ≡ b → Leaves w.table call (world_left w call host (ask OnTable (Operation.submit f input)) (answer w call host (ask OnTable (Operation.submit f input)))).table (answer w call host (ask OnTable (Operation.submit f input)))
    by true room =
        inl (record {
          function = f;
          input = input;
          p = p;
          here = here;
          records = ap (λ r. (world_left w call host (ask OnTable (Operation.submit f input)) r).table.records) (answer_is true room) ∙ ap (λ (t : Table). t.records) (after_is true room);
          told = answer_is true room;
        })
    by false room =
        inr (record {
          same = ap (λ r. (world_left w call host (ask OnTable (Operation.submit f input)) r).table) (answer_is false room) ∙ after_is false room;
          told = ap child_told (answer_is false room);
        })

one_object : (w : World) (call host : ℕ) (op : Operation) (r : Reply) → objects_of (entered call host w (entry OnTable op r)) ≡ objects_of w
one_object w call host (on_region op) r = refl
one_object w call host (Operation.submit f input) r = refl
one_object w call host (Operation.look c) r = refl

-- its answer is one by which the table is what the Submit leaves
pub submit_table : (w : World) (call host f : ℕ) (input : List ℕ) (p : CallRecord) → slice_get w.table.records call ≡ Some p → (let q = ask OnTable (Operation.submit f input) in (world_left w call host q (answer w call host q)).table ≡ table.after w.table call (submit call f input))
submit_table w call host f input p here = by (has_room w.table p f input) refl
  where
    answer_is : (b : Bool) → has_room w.table p f input ≡ b → answer w call host (ask OnTable (Operation.submit f input)) ≡ cond b (Reply.child p.children) Reply.chain_full
    answer_is b room =
        ap (λ o. elim o as (λ o. Reply) [ None ↦ Reply.done | Some p ↦ cond (has_room w.table p f input) (Reply.child p.children) Reply.chain_full ]) here
        ∙ ap (λ b. cond b (Reply.child p.children) Reply.chain_full) room

    by : (b : Bool) → has_room w.table p f input ≡ b → (world_left w call host (ask OnTable (Operation.submit f input)) (answer w call host (ask OnTable (Operation.submit f input)))).table ≡ table.after w.table call (submit call f input)
    by true room = ap (λ r. (world_left w call host (ask OnTable (Operation.submit f input)) r).table) (answer_is true room)
    by false room = ap (λ r. (world_left w call host (ask OnTable (Operation.submit f input)) r).table) (answer_is false room)

-- no question on the table changes an object
pub table_objects : (w : World) (call host : ℕ) (op : Operation) (r : Reply) → objects_of (world_left w call host (ask OnTable op) r) ≡ objects_of w
table_objects w call host op Reply.want = refl
table_objects w call host op Reply.done = one_object w call host op Reply.done
table_objects w call host op Reply.full = one_object w call host op Reply.full
table_objects w call host op Reply.chain_full = one_object w call host op Reply.chain_full
table_objects w call host op (Reply.present b) = one_object w call host op (Reply.present b)
table_objects w call host op (Reply.bytes bs) = one_object w call host op (Reply.bytes bs)
table_objects w call host op (Reply.number n) = one_object w call host op (Reply.number n)
table_objects w call host op (Reply.child n) = one_object w call host op (Reply.child n)
table_objects w call host op (Reply.finished o bs) = one_object w call host op (Reply.finished o bs)

-- ---- Any other question.

pub look_table : (w : World) (call host c : ℕ) (r : Reply) → (world_left w call host (ask OnTable (Operation.look c)) r).table ≡ w.table
look_table w call host c Reply.want = refl
look_table w call host c Reply.done = refl
look_table w call host c Reply.full = refl
look_table w call host c Reply.chain_full = refl
look_table w call host c (Reply.present b) = refl
look_table w call host c (Reply.bytes bs) = refl
look_table w call host c (Reply.number n) = refl
look_table w call host c (Reply.child n) = refl
look_table w call host c (Reply.finished o bs) = refl

region_no_child : (op : RegionOperation) (n : ℕ) (ch : Channel) → has_form (ask ch (on_region op)) (Reply.child n) ≡ true → ⊥
region_no_child RegionOperation.probe n ch e = cc
region_no_child RegionOperation.size n ch e = cc
region_no_child RegionOperation.lock_read n ch e = cc
region_no_child RegionOperation.lock_write n ch e = cc
region_no_child RegionOperation.unlock n ch e = cc
region_no_child (RegionOperation.read off len) n ch e = cc
region_no_child (RegionOperation.send off len) n ch e = cc
region_no_child (RegionOperation.fill bs) n ch e = cc
region_no_child (RegionOperation.append bs) n ch e = cc
region_no_child (RegionOperation.write off bs) n ch e = cc
region_no_child (RegionOperation.take off bs) n ch e = cc
region_no_child (RegionOperation.put off bs) n ch e = cc

not_told : (q : Question) (r : Reply) → ((n : ℕ) → has_form q (Reply.child n) ≡ true → ⊥) → has_form q r ≡ true → child_told r ≡ false
not_told q Reply.want never form = refl
not_told q Reply.done never form = refl
not_told q Reply.full never form = refl
not_told q Reply.chain_full never form = refl
not_told q (Reply.present b) never form = refl
not_told q (Reply.bytes bs) never form = refl
not_told q (Reply.number n) never form = refl
not_told q (Reply.child n) never form = absurd (never n form)
not_told q (Reply.finished o bs) never form = refl

off_leaves : (w : World) (call host : ℕ) (q : Question) (r : Reply) → IsOffTable q → ((n : ℕ) → has_form q (Reply.child n) ≡ true → ⊥) → has_form q r ≡ true → Leaves w.table call (world_left w call host q r).table r
off_leaves w call host q r off never form = inr (record { same = table_stays w call host (entries q r) (entries_off q r off); told = not_told q r never form })

pub leaves : (w : World) (call host : ℕ) (q : Question) (j : Invocation) (p : CallRecord) → Asked j q → slice_get w.table.records call ≡ Some p → has_form q (answer w call host q) ≡ true → Leaves w.table call (world_left w call host q (answer w call host q)).table (answer w call host q)
leaves w call host (ask OnTable (Operation.submit f input)) j p asked here form = submit_leaves w call host f input p here
leaves w call host (ask OnTable (Operation.look c)) j p asked here form =
    inr (record {
      same = look_table w call host c (answer w call host (ask OnTable (Operation.look c)));
      told = not_told (ask OnTable (Operation.look c)) (answer w call host (ask OnTable (Operation.look c))) (λ n e. cc) form;
    })
leaves w call host (ask OnTable (on_region op)) j p asked here form = absurd asked
leaves w call host (ask (Local key) (on_region op)) j p asked here form = off_leaves w call host (ask (Local key) (on_region op)) (answer w call host (ask (Local key) (on_region op))) tt (λ n e. region_no_child op n (Local key) e) form
leaves w call host (ask (Global key) (on_region op)) j p asked here form = off_leaves w call host (ask (Global key) (on_region op)) (answer w call host (ask (Global key) (on_region op))) tt (λ n e. region_no_child op n (Global key) e) form
leaves w call host (ask (Local key) (Operation.submit f input)) j p asked here form = absurd asked
leaves w call host (ask (Local key) (Operation.look c)) j p asked here form = absurd asked
leaves w call host (ask (Global key) (Operation.submit f input)) j p asked here form = absurd asked
leaves w call host (ask (Global key) (Operation.look c)) j p asked here form = absurd asked
leaves w call host (fills key n) j p asked here form = off_leaves w call host (fills key n) (answer w call host (fills key n)) tt (λ n e. cc) form
leaves w call host (pulls key off len) j p asked here form = off_leaves w call host (pulls key off len) (answer w call host (pulls key off len)) tt (λ n e. cc) form
leaves w call host (pushes key off len) j p asked here form = off_leaves w call host (pushes key off len) (answer w call host (pushes key off len)) tt (λ n e. cc) form

-- ---- What that leaves of the queue, and of the children of others.

abbrev places_of : List CallRecord → ℕ → ℕ → List ℕ
places_of rs other n = places (is_child other n) rs

module _ (t : Table) (call : ℕ) (new : Table) (r : Reply) where
  pub child_queues : (h : HasChild t call new r) → queued_calls new.records ≡ queued_calls t.records ++ length t.records ∷ []
  child_queues h =
      ap queued_calls h.records
      ∙ one_more_queued (changed t.records call one_more_child) (child_record t call h.p h.function h.input) refl
      ∙ ap₂ (λ l n. l ++ n ∷ []) (passes_as_before (λ r. is_queued r.state) t.records call one_more_child (λ r. refl)) (length_changed t.records call one_more_child)

  pub child_counts : (h : HasChild t call new r) → length new.records ≡ length t.records + 1
  child_counts h =
      ap length h.records
      ∙ length-append (changed t.records call one_more_child) (child_record t call h.p h.function h.input ∷ [])
      ∙ ap (λ n. n + 1) (length_changed t.records call one_more_child)

  others_child : (h : HasChild t call new r) (other n : ℕ) → (call ≡ other → ⊥) → child_of new.records other n ≡ child_of t.records other n
  others_child h other n ne =
      let x = child_record t call h.p h.function h.input in
      let apart : is_child other n (child_record t call h.p h.function h.input) ≡ false = ap (λ b. b && (h.p.children == n)) (ne_eqb call other ne) in
      ap (λ rs. child_of rs other n) h.records
      ∙ ap first (places_more (is_child other n) 0 (changed t.records call one_more_child) x ∙ ap (λ b. places_of (changed t.records call one_more_child) other n ++ cond b ((0 + length (changed t.records call one_more_child)) ∷ []) []) apart ∙ append-nil (places_of (changed t.records call one_more_child) other n))
      ∙ ap first (passes_as_before (is_child other n) t.records call one_more_child (λ x. refl))

  pub same_children : Leaves t call new r → (other n : ℕ) → (call ≡ other → ⊥) → child_of new.records other n ≡ child_of t.records other n
  same_children (inl h) other n ne = others_child h other n ne
  same_children (inr h) other n ne = ap (λ (t : Table). child_of t.records other n) h.same

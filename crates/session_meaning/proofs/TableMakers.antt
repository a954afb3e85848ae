-- In every world an entry of the table is on a kept call exactly where its maker is one.
use Rattle.std.proofs.Common.{◌≡◌, ℕ, Bool, true, false, List, [], ◌∷◌, ◌++◌, Option, Some, None, refl, sym, ◌∙◌, length, slice_get, option_map, is_some, subst}
use Rattle.std.specs.Prelude.{fold}
use Rattle.std.specs.List.{AllByRecursion}
use Rattle.faaslet_meaning.specs.declared.call.CallRecord.{CallRecord}
use Rattle.session_meaning.specs.declared.event.Event.{Event}
use Rattle.session_meaning.specs.declared.event.Event.TheVariants.{Take, Ask, End}
use Rattle.faaslet_meaning.specs.declared.grant.Channel.{Channel}
use Rattle.faaslet_meaning.specs.declared.grant.Channel.TheVariants.{Local, Global, Table as OnTable}
use Rattle.faaslet_meaning.specs.Channels.{Operation, on_region, Reply, Question, Entry, entry}
use Rattle.faaslet_meaning.specs.CallState.{State}
use Rattle.faaslet_meaning.specs.Table.{TableOperation, queued_record}
use Rattle.session_meaning.specs.Plan.{Plan, Names, Request}
use Rattle.session_meaning.specs.OpenCall.{Open, asking, Ended, ended}
use Rattle.session_meaning.specs.World.{World, entered, requested, start, first_world}
use Rattle.session_meaning.specs.Events.{entries_now, open_at, step, Worlds}
use Rattle.session_meaning.specs.Cut.{Part, only, cut_table_entry, part_of}
use Rattle.session_meaning.proofs.OneStep.{taken_by, finished_at, finished_of, asked_at, asked_of}
use Rattle.session_meaning.proofs.Tables.{get_end}
use Rattle.session_meaning.proofs.Invariants.{Grows, grows_on, push_front}
use Rattle.session_meaning.proofs.TwoWorlds.{agrees_part}
use Rattle.session_meaning.proofs.WorldInvariants.{Agrees, agrees_before, agrees_first}

abbrev pub Owned : Part → ℕ × TableOperation → Type 0
Owned part e = is_some (cut_table_entry part e) ≡ part.calls e.0

abbrev pub AllOwned : Part → World → Type 0
AllOwned part w = AllByRecursion (Owned part) w.table_history

each_push : {A : Type 0} (P : A → Type 0) (xs : List A) (x : A) → AllByRecursion P xs → P x → AllByRecursion P (xs ++ x ∷ [])
each_push P [] x h k = (k, tt)
each_push P (y ∷ xs) x h k = (h.0, each_push P xs x h.1 k)

only_so : (b : Bool) (n : ℕ) (op : TableOperation) → is_some {T = ℕ × TableOperation} (option_map (λ o. (n, o)) (only b op)) ≡ b
only_so true n op = refl
only_so false n op = refl

entered_owned : (part : Part) (w : World) (call host : ℕ) (ch : Channel) (op : Operation) (r : Reply) → AllOwned part w → AllOwned part (entered call host w (entry ch op r))
entered_owned part w call host (Local key) (on_region op) r h = h
entered_owned part w call host (Local key) (Operation.submit f input) r h = h
entered_owned part w call host (Local key) (Operation.look c) r h = h
entered_owned part w call host (Global key) (on_region op) r h = h
entered_owned part w call host (Global key) (Operation.submit f input) r h = h
entered_owned part w call host (Global key) (Operation.look c) r h = h
entered_owned part w call host OnTable (Operation.submit f input) r h = each_push (Owned part) w.table_history _ h (only_so (part.calls call) _ _)
entered_owned part w call host OnTable (Operation.look c) r h = each_push (Owned part) w.table_history _ h (only_so (part.calls call) _ _)
entered_owned part w call host OnTable (on_region op) r h = h

entries_owned : (part : Part) (w : World) (call host : ℕ) (es : List Entry) → AllOwned part w → AllOwned part (fold (entered call host) w es)
entries_owned part w call host [] h = h
entries_owned part w call host (e ∷ es) h = entries_owned part (entered call host w e) call host es (entered_owned part w call host e.channel e.operation e.reply h)

step_owned : (part : Part) (plan : Plan) (w : World) (e : Event) → AllOwned part w → AllOwned part (step plan w e)
step_owned part plan w (Take call host) h = by (slice_get w.table.records call)
  where
    by : (o : Option CallRecord) → AllOwned part (taken_by plan w call host o)
    by None = h
    by (Some r) = each_push (Owned part) w.table_history _ h (only_so (part.calls call) _ _)
step_owned part plan w (End call) h = by (open_at w call)
  where
    at : (o : Open) (e : Option Ended) → AllOwned part (finished_of w call o e)
    at o None = h
    at o (Some e) = each_push (Owned part) w.table_history _ h (only_so (part.calls call) _ _)

    by : (o : Option Open) → AllOwned part (finished_at w call o)
    by None = h
    by (Some o) = at o (ended o)
step_owned part plan w (Ask call) h = by (open_at w call)
  where
    at : (o : Open) (a : Option (State × Question)) → AllOwned part (asked_of w call o a)
    at o None = h
    at o (Some a) = entries_owned part w call o.host (entries_now w call o.host a.1) h

    by : (o : Option Open) → AllOwned part (asked_at w call o)
    by None = h
    by (Some o) = at o (asking o.machine)

events_owned : (part : Part) (plan : Plan) (w : World) (es : List Event) → AllOwned part w → AllOwned part (fold (step plan) w es)
events_owned part plan w [] h = h
events_owned part plan w (e ∷ es) h = events_owned part plan (step plan w e) es (step_owned part plan w e h)

-- ---- The requests.

requests_grow : (w : World) (rs : List Request) → Grows w.table.records (fold requested w rs).table.records
requests_grow w [] = λ n r e. (r, e, refl)
requests_grow w (q ∷ rs) = grows_on w.table.records (requested w q).table.records (fold requested w (q ∷ rs)).table.records (push_front w.table.records (queued_record w.table q.function q.host q.input)) (requests_grow (requested w q) rs)

requests_owned : (part : Part) (w : World) (rs : List Request) → Agrees part (fold requested w rs).table.records → AllOwned part w → AllOwned part (fold requested w rs)
requests_owned part w [] agrees h = h
requests_owned part w (q ∷ rs) agrees h =
    let here = agrees_before part (requested w q).table.records (fold requested w (q ∷ rs)).table.records (requests_grow (requested w q) rs) agrees in
    let x = queued_record w.table q.function q.host q.input in
    let own = here (length w.table.records) x (get_end w.table.records x (length w.table.records) refl) in
    requests_owned part (requested w q) rs agrees (each_push (Owned part) w.table_history _ h (only_so (part.functions q.function) _ _ ∙ own))

pub world_owned : (plan : Plan) (functions keys : Names) (es : List Event) (w : World) → Worlds plan es w → AllOwned (part_of plan functions keys w) w
world_owned plan functions keys es w made =
    let part = part_of plan functions keys w in
    let agrees = subst (λ v. Agrees part v.table.records) made.world_so (agrees_part plan functions keys w) in
    subst (λ v. AllOwned part v) (sym made.world_so) (events_owned part plan (first_world plan) es (requests_owned part (start plan) plan.requests (agrees_first part plan (first_world plan) es agrees) tt))

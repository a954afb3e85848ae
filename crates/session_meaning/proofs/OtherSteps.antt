-- An event on a call that is not kept leaves the cut as it is.
use Rattle.std.proofs.Common.{◌≡◌, ℕ, Bool, true, false, cond, not, List, [], ◌∷◌, Option, Some, None, refl, ap, ◌∙◌, length, slice_get, subst}
use Rattle.std.specs.Prelude.{fold}
use Rattle.std.specs.List.{list_all}
use Rattle.std.proofs.lemmas.Bool.{and_parts}
use Rattle.faaslet_meaning.specs.declared.call.CallRecord.{CallRecord}
use Rattle.session_meaning.specs.declared.event.Event.{Event}
use Rattle.session_meaning.specs.declared.event.Event.TheVariants.{Take, Ask, End}
use Rattle.faaslet_meaning.specs.declared.grant.Channel.{Channel}
use Rattle.faaslet_meaning.specs.declared.grant.Channel.TheVariants.{Local, Global, Table as OnTable}
use Rattle.faaslet_meaning.specs.Channels.{Operation, on_region, Reply, Question, ask, fills, pulls, pushes, Entry, entry, entries}
use Rattle.faaslet_meaning.specs.CallState.{State}
use Rattle.faaslet_meaning.specs.Table as table
use Rattle.session_meaning.specs.Plan.{Plan}
use Rattle.session_meaning.specs.OpenCall.{Open, asking, Ended, ended}
use Rattle.session_meaning.specs.World.{World, on_table, entered}
use Rattle.session_meaning.specs.Events.{answer, entries_now, open_at, open_of, took, finished, step}
use Rattle.session_meaning.specs.Cut.{Part, rank, cut, call_of}
use Rattle.session_meaning.proofs.Tables.{AllFit, take_left, finish_left, submit_left}
use Rattle.session_meaning.proofs.WorldParts.{local_left, global_left, put_left, table_left}
use Rattle.session_meaning.proofs.OneStep.{asked_at, asked_of, finished_at, finished_of, single, taken_by, two_true}
use Rattle.session_meaning.proofs.KeptAsks.{Apart, Own, leaves_operation, leaves_question}

-- ---- An event on another call leaves the cut as it is.

abbrev leaves_region : Part → Entry → Bool
leaves_region part e = elim e.channel [ Local key ↦ not (part.keys key) | Global key ↦ not (part.keys key) | OnTable ↦ false ]

not_true : (b : Bool) → not b ≡ true → b ≡ false
not_true true h = let no : ⊥ = cc in absurd no
not_true false h = refl

entered_left : (part : Part) (w : World) (call host : ℕ) (ch : Channel) (op : Operation) (r : Reply) → leaves_region part (entry ch op r) ≡ true → cut part (entered call host w (entry ch op r)) ≡ cut part w
entered_left part w call host (Local key) (on_region op) r h = local_left part w host key call op (not_true (part.keys key) h)
entered_left part w call host (Global key) (on_region op) r h = global_left part w key call op (not_true (part.keys key) h)
entered_left part w call host (Local key) op r h = refl
entered_left part w call host (Global key) op r h = refl
entered_left part w call host OnTable op r h = let no : ⊥ = cc in absurd no

regions_left : (part : Part) (w : World) (call host : ℕ) (es : List Entry) → list_all (leaves_region part) es ≡ true → cut part (fold (entered call host) w es) ≡ cut part w
regions_left part w call host [] h = refl
regions_left part w call host (e ∷ es) h =
    let g = and_parts (leaves_region part e) (list_all (leaves_region part) es) h in
    regions_left part (entered call host w e) call host es g.1 ∙ entered_left part w call host e.channel e.operation e.reply g.0

table_entered_left : (part : Part) (w : World) (call host : ℕ) (op : Operation) (r : Reply) → length w.calls ≡ length w.table.records → AllFit part (entered call host w (entry OnTable op r)).table.records → part.calls call ≡ false → cut part (entered call host w (entry OnTable op r)) ≡ cut part w
table_entered_left part w call host (Operation.submit f input) r sizes fit' i =
    table_left part w call (table.submit call f input) sizes (submit_left part w.table call call f input fit' i) (ap (λ b. cond b (Some (table.submit (rank part.calls call) (rank part.functions f) input)) None) i)
table_entered_left part w call host (Operation.look c) r sizes fit' i = table_left part w call (table.look call c) sizes refl (ap (λ b. cond b (Some (table.look (rank part.calls call) c)) None) i)
table_entered_left part w call host op r sizes fit' i = refl

table_folded_left : (part : Part) (w : World) (call host : ℕ) (op : Operation) (r : Reply) → length w.calls ≡ length w.table.records → AllFit part (fold (entered call host) w (entries (ask OnTable op) r)).table.records → part.calls call ≡ false → cut part (fold (entered call host) w (entries (ask OnTable op) r)) ≡ cut part w
table_folded_left part w call host op Reply.want sizes fit' i = refl
table_folded_left part w call host op Reply.done sizes fit' i = table_entered_left part w call host op Reply.done sizes fit' i
table_folded_left part w call host op Reply.full sizes fit' i = table_entered_left part w call host op Reply.full sizes fit' i
table_folded_left part w call host op Reply.chain_full sizes fit' i = table_entered_left part w call host op Reply.chain_full sizes fit' i
table_folded_left part w call host op (Reply.present b) sizes fit' i = table_entered_left part w call host op (Reply.present b) sizes fit' i
table_folded_left part w call host op (Reply.bytes bs) sizes fit' i = table_entered_left part w call host op (Reply.bytes bs) sizes fit' i
table_folded_left part w call host op (Reply.number n) sizes fit' i = table_entered_left part w call host op (Reply.number n) sizes fit' i
table_folded_left part w call host op (Reply.child n) sizes fit' i = table_entered_left part w call host op (Reply.child n) sizes fit' i
table_folded_left part w call host op (Reply.finished o bs) sizes fit' i = table_entered_left part w call host op (Reply.finished o bs) sizes fit' i

folded_left : (part : Part) (w : World) (call host : ℕ) (q : Question) (r : Reply) → length w.calls ≡ length w.table.records → AllFit part (fold (entered call host) w (entries q r)).table.records → part.calls call ≡ false → leaves_question part q ≡ true → cut part (fold (entered call host) w (entries q r)) ≡ cut part w
folded_left part w call host (ask (Local key) op) r sizes fit' i k = regions_left part w call host (entries (ask (Local key) op) r) (single (leaves_region part) (Local key) op r (λ r. (and_parts (not (part.keys key)) (leaves_operation part op) k).0))
folded_left part w call host (ask (Global key) op) r sizes fit' i k = regions_left part w call host (entries (ask (Global key) op) r) (single (leaves_region part) (Global key) op r (λ r. (and_parts (not (part.keys key)) (leaves_operation part op) k).0))
folded_left part w call host (ask OnTable op) r sizes fit' i k = table_folded_left part w call host op r sizes fit' i
folded_left part w call host (fills key n) (Reply.bytes bs) sizes fit' i k = regions_left part w call host (entries (fills key n) (Reply.bytes bs)) (two_true _ k)
folded_left part w call host (pulls key off len) (Reply.bytes bs) sizes fit' i k = regions_left part w call host (entries (pulls key off len) (Reply.bytes bs)) (two_true _ k)
folded_left part w call host (pushes key off len) (Reply.bytes bs) sizes fit' i k = regions_left part w call host (entries (pushes key off len) (Reply.bytes bs)) (two_true _ k)
folded_left part w call host q Reply.want sizes fit' i k = refl
folded_left part w call host q r sizes fit' i k = refl

finished_left : (part : Part) (w : World) (call : ℕ) (o : Open) (e : Ended) → length w.calls ≡ length w.table.records → part.calls call ≡ false → cut part (finished w call o e) ≡ cut part w
finished_left part w call o e sizes i =
    let op = table.finish call e.outcome e.used e.output o.counts in
    put_left part (on_table w call op) call None i
    ∙ table_left part w call op sizes (finish_left part w.table call call e.outcome e.used e.output o.counts i) (ap (λ b. cond b (Some (table.finish (rank part.calls call) e.outcome e.used e.output o.counts)) None) i)

took_left : (part : Part) (plan : Plan) (w : World) (call host : ℕ) (r : CallRecord) → length w.calls ≡ length w.table.records → part.calls call ≡ false → cut part (took plan w call host r) ≡ cut part w
took_left part plan w call host r sizes i =
    put_left part (on_table w call (table.take_this call host call)) call (open_of plan r host) i
    ∙ table_left part w call (table.take_this call host call) sizes (take_left part w.table call call host call i) (ap (λ b. cond b (Some (table.take_this (rank part.calls call) host 0)) None) i)

pub step_left : (part : Part) (plan : Plan) (w : World) (e : Event) → part.calls (call_of e) ≡ false → Apart part w → AllFit part (step plan w e).table.records → cut part (step plan w e) ≡ cut part w
step_left part plan w (Take call host) i apart fit' = by (slice_get w.table.records call)
  where
    by : (o : Option CallRecord) → cut part (taken_by plan w call host o) ≡ cut part w
    by None = refl
    by (Some r) = took_left part plan w call host r apart.sizes i
step_left part plan w (End call) i apart fit' = by (open_at w call)
  where
    at : (o : Open) (e : Option Ended) → cut part (finished_of w call o e) ≡ cut part w
    at o None = refl
    at o (Some e) = finished_left part w call o e apart.sizes i

    by : (o : Option Open) → cut part (finished_at w call o) ≡ cut part w
    by None = refl
    by (Some o) = at o (ended o)
step_left part plan w (Ask call) i apart fit' = by (open_at w call) refl fit'
  where
    at : (o : Open) → Own part false o → (a : Option (State × Question)) → asking o.machine ≡ a → AllFit part (asked_of w call o a).table.records → cut part (asked_of w call o a) ≡ cut part w
    at o own None e fit = refl
    at o own (Some a) e fit =
        put_left part (fold (entered call o.host) w (entries_now w call o.host a.1)) call _ i
        ∙ folded_left part w call o.host a.1 (answer w call o.host a.1) apart.sizes fit i (own.asks a.0 a.1 e)

    by : (o : Option Open) → open_at w call ≡ o → AllFit part (asked_at w call o).table.records → cut part (asked_at w call o) ≡ cut part w
    by None e fit = refl
    by (Some o) e fit = at o (subst (λ b. Own part b o) i (apart.own call o e)) (asking o.machine) refl fit

-- What each table operation of a world keeps, every world keeps.
use Rattle.std.proofs.Common.{ℕ, List, [], ◌∷◌, Option, Some, None, slice_get}
use Rattle.std.specs.Prelude.{fold}
use Rattle.faaslet_meaning.specs.declared.call.CallRecord.{CallRecord}
use Rattle.session_meaning.specs.declared.event.Event.{Event}
use Rattle.session_meaning.specs.declared.event.Event.TheVariants.{Take, Ask, End}
use Rattle.faaslet_meaning.specs.declared.grant.Channel.{Channel}
use Rattle.faaslet_meaning.specs.declared.grant.Channel.TheVariants.{Local, Global, Table as OnTable}
use Rattle.faaslet_meaning.specs.declared.outcome.Outcome.{Outcome}
use Rattle.faaslet_meaning.specs.Channels.{Operation, on_region, Reply, Question, Entry, entry}
use Rattle.faaslet_meaning.specs.CallState.{State}
use Rattle.faaslet_meaning.specs.Table as table
use Rattle.faaslet_meaning.specs.Table.{Table}
use Rattle.session_meaning.specs.Plan.{Plan}
use Rattle.session_meaning.specs.OpenCall.{Open, asking, Ended, ended}
use Rattle.session_meaning.specs.World.{World, entered}
use Rattle.session_meaning.specs.Events.{entries_now, open_at, step}
use Rattle.session_meaning.proofs.OneStep.{taken_by, finished_at, finished_of, asked_at, asked_of}

-- a Look leaves the table as it is
pub record Keeps (P : List CallRecord → Type 0) : Type 0 where
  pub take : (t : Table) (m call host bench : ℕ) → P t.records → P (table.after t m (table.take_this call host bench)).records
  pub finish : (t : Table) (m call : ℕ) (o : Outcome) (used : ℕ) (output counts : List ℕ) → P t.records → P (table.after t m (table.finish call o used output counts)).records
  pub submit : (t : Table) (m parent f : ℕ) (input : List ℕ) → P t.records → P (table.after t m (table.submit parent f input)).records

entered_keeps : (P : List CallRecord → Type 0) → Keeps P → (w : World) (call host : ℕ) (ch : Channel) (op : Operation) (r : Reply) → P w.table.records → P (entered call host w (entry ch op r)).table.records
entered_keeps P keeps w call host (Local key) (on_region op) r p = p
entered_keeps P keeps w call host (Local key) (Operation.submit f input) r p = p
entered_keeps P keeps w call host (Local key) (Operation.look c) r p = p
entered_keeps P keeps w call host (Global key) (on_region op) r p = p
entered_keeps P keeps w call host (Global key) (Operation.submit f input) r p = p
entered_keeps P keeps w call host (Global key) (Operation.look c) r p = p
entered_keeps P keeps w call host OnTable (Operation.submit f input) r p = keeps.submit w.table call call f input p
entered_keeps P keeps w call host OnTable op r p = p

entries_keep : (P : List CallRecord → Type 0) → Keeps P → (w : World) (call host : ℕ) (es : List Entry) → P w.table.records → P (fold (entered call host) w es).table.records
entries_keep P keeps w call host [] p = p
entries_keep P keeps w call host (e ∷ es) p = entries_keep P keeps (entered call host w e) call host es (entered_keeps P keeps w call host e.channel e.operation e.reply p)

pub step_keeps : (P : List CallRecord → Type 0) → Keeps P → (plan : Plan) (w : World) (e : Event) → P w.table.records → P (step plan w e).table.records
step_keeps P keeps plan w (Take call host) p = by (slice_get w.table.records call)
  where
    by : (o : Option CallRecord) → P (taken_by plan w call host o).table.records
    by None = p
    by (Some r) = keeps.take w.table call call host call p
step_keeps P keeps plan w (End call) p = by (open_at w call)
  where
    at : (o : Open) (e : Option Ended) → P (finished_of w call o e).table.records
    at o None = p
    at o (Some e) = keeps.finish w.table call call e.outcome e.used e.output o.counts p

    by : (o : Option Open) → P (finished_at w call o).table.records
    by None = p
    by (Some o) = at o (ended o)
step_keeps P keeps plan w (Ask call) p = by (open_at w call)
  where
    at : (o : Open) (a : Option (State × Question)) → P (asked_of w call o a).table.records
    at o None = p
    at o (Some a) = entries_keep P keeps w call o.host (entries_now w call o.host a.1) p

    by : (o : Option Open) → P (asked_at w call o).table.records
    by None = p
    by (Some o) = at o (asking o.machine)

pub events_keep : (P : List CallRecord → Type 0) → Keeps P → (plan : Plan) (w : World) (es : List Event) → P w.table.records → P (fold (step plan) w es).table.records
events_keep P keeps plan w [] p = p
events_keep P keeps plan w (e ∷ es) p = events_keep P keeps plan (step plan w e) es (step_keeps P keeps plan w e p)

-- Which question an ask of the code is, where it is one on the call table, and the operation there. This project's own.
use Rattle.std.specs.Prelude.{ℕ, List, Option, Some, None, filter_map, option_map, slice_get}
use Rattle.faaslet_meaning.specs.declared.ask.Ask.{Ask}
use Rattle.faaslet_meaning.specs.declared.ask.Ask.TheVariants as an_ask
use Rattle.faaslet_meaning.specs.declared.grant.Channel.TheVariants.{Table}
use Rattle.faaslet_meaning.specs.Asks.{front, submit_of}
use Rattle.faaslet_meaning.specs.Channels.{Operation, on_region, submit, look, Reply, Question, ask}
use Rattle.faaslet_meaning.specs.Table as table
use Rattle.faaslet_meaning.specs.Table.{TableOperation}

-- the question that an ask is, of a call that may call these functions
abbrev pub question_of : List ℕ → Ask → List ℕ → Option Question
question_of callees (an_ask.Submit f len) scratch = submit_of (slice_get callees f) (front len scratch)
question_of callees (an_ask.Look child) scratch = Some (ask Table (look child))
question_of callees _ scratch = None

-- what a call does on its channel to the table is this operation there, with the call as the parent
abbrev pub by_call : ℕ → Operation → Option TableOperation
by_call call (submit function input) = Some (table.submit call function input)
by_call call (look child) = Some (table.look call child)
by_call call (on_region o) = None

abbrev pub told_as : ℕ → List (Operation × Reply) → List (TableOperation × Reply)
told_as call told = filter_map (λ x. option_map (λ o. (o, x.1)) (by_call call x.0)) told

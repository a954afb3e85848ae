-- What a maker asked on an object, each question with the reply at its place. This project's own.
use Rattle.std.specs.Prelude.{ℕ, List, Option, Some, None, map, filter_map}
use Rattle.faaslet_meaning.specs.Channels.{RegionOperation, Operation, on_region, Reply}
use Rattle.faaslet_meaning.specs.Region.{Region}
use Rattle.faaslet_meaning.specs.Table as table
use Rattle.faaslet_meaning.specs.Table.{Table, TableOperation}
use Rattle.faaslet_meaning.specs.History.{History, told_to, region_rules, table_rules}

-- On the table it is a call that asks; it is the parent of what it submits and looks at.
pub record Answered : Type 0 where
  pub parent : Option ℕ
  pub operation : Operation
  pub reply : Reply

abbrev pub of_region : RegionOperation × Reply → Answered
of_region x = record { parent = None; operation = on_region x.0; reply = x.1 }

abbrev pub of_call : ℕ → Operation → Reply → Option Answered
of_call parent op r = Some (record { parent = Some parent; operation = op; reply = r })

abbrev pub of_table : TableOperation × Reply → Option Answered
of_table x =
    elim x.0 [ table.submit parent function input ↦ of_call parent (Operation.submit function input) x.1 | table.look parent child ↦ of_call parent (Operation.look child) x.1 | _ ↦ None ]

-- a maker's questions on a region, and on the table
abbrev pub asked_on : ℕ → Region → History RegionOperation → List Answered
asked_on maker s history = map of_region (told_to region_rules maker s history)

abbrev pub asked_on_table : ℕ → Table → History TableOperation → List Answered
asked_on_table maker t history = filter_map of_table (told_to table_rules maker t history)

-- what it was told
abbrev pub told_of : List Answered → List (Operation × Reply)
told_of es = map (λ e. (e.operation, e.reply)) es

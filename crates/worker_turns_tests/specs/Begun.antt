-- A session of one host with one worker, of one function, and of two requests. This project's own.
use Rattle.std.specs.Prelude.{ℕ, List, [], ◌∷◌}
use Rattle.faaslet_meaning.specs.declared.call.Callable.{Callable}
use Rattle.turn_cell.specs.declared.view.Entry.{Entry}
use Rattle.call_table.specs.Session.{SessionTable, empty_session}
use Rattle.worker_turns.specs.Ending.{MayEndBy}

abbrev pub plain : Callable
plain = record { fuel = 10; room = 2; channels = 1 }

abbrev pub begun : SessionTable
begun = empty_session 1 (plain ∷ []) 1 2

-- by the worker's list the one call may end on bench 0, and the other on bench 1, each with two bytes and one count
abbrev pub BothMayEnd : SessionTable → List Entry → ℕ → ℕ → Type 0
BothMayEnd start list first second = MayEndBy start list first 0 2 1 × MayEndBy start list second 1 2 1

-- Words and commands of the program as contracts see them. This project's own.
use Rattle.std.specs.Prelude.{ℕ, ◌≤◌, List, String, length, map}
use Rattle.std.specs.String.{string_bytes}
use Rattle.std.specs.declared.alloc.Global.{Global}
use Rattle.faaslet_meaning.specs.Words as words
use Rattle.faasm_top.specs.declared.words.Command.{Command}
use Rattle.faasm_top.specs.declared.words.Command.TheVariants.{Check, Call, Trace, Run, Load}

-- the words as texts
abbrev pub texts : List (String Global) → List (List ℕ)
texts ws = map (λ w. string_bytes w) ws

-- a command without where its values lie in memory
abbrev pub command_of : Command → words.Command
command_of (Check file) = words.check file.now
command_of (Call file input fuel) = words.call file.now input fuel
command_of (Trace file seed) = words.trace file.now seed
command_of (Run file) = words.run file.now
command_of (Load count) = words.load count

-- its input is no longer than one may be
abbrev pub HasShortInput : words.Command → Type 0
HasShortInput (words.call file input fuel) = length input ≤ words.input_limit
HasShortInput _ = Unit {0}

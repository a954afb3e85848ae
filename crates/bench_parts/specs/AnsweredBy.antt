-- What a call was told by a transcript, as what its bench heard. This project's own.
use Rattle.std.specs.Prelude.{ℕ, List, Option, Some, None, map}
use Rattle.faaslet_meaning.specs.declared.grant.Channel.{Channel}
use Rattle.faaslet_meaning.specs.declared.grant.Channel.TheVariants.{Local, Global, Table as OnTable}
use Rattle.faaslet_meaning.specs.Channels.{Operation, Reply, Transcript, told_by}
use Rattle.session_meaning.specs.Answered.{Answered}

-- an operation with its reply, asked for a call or for none
abbrev pub answered : Option ℕ → Operation × Reply → Answered
answered parent x = record { parent = parent; operation = x.0; reply = x.1 }

-- on the table the call asks; of a key it is not seen for whom
abbrev pub parent_on : ℕ → Channel → Option ℕ
parent_on call (Local key) = None
parent_on call (Global key) = None
parent_on call OnTable = Some call

abbrev pub answered_by : ℕ → Transcript → Channel → List Answered
answered_by call transcript ch = map (answered (parent_on call ch)) (told_by transcript ch)

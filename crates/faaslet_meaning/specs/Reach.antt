-- Where a call comes to by its steps and by replies that fit. This project's own.
use Rattle.std.specs.Prelude.{IsTrue}
use Rattle.faaslet_meaning.specs.Channels.{Reply, Question}
use Rattle.faaslet_meaning.specs.CallState.{Invocation, State, Progress, runs, asks}
use Rattle.faaslet_meaning.specs.Call.{call_step, replied, fits}

pub data Reaches (j : Invocation) : Progress → Progress → Type 0 where
  here : {x : Progress} → Reaches j x x
  stepped : {s : State} {y : Progress} → Reaches j (call_step j s) y → Reaches j (runs s) y
  answered : {s : State} {q : Question} {y : Progress} (r : Reply) → IsTrue (fits s q r) → Reaches j (replied j s r) y → Reaches j (asks s q) y

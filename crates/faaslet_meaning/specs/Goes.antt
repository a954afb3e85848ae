-- How a call comes from one point to another, with its questions and their replies in order. Whole runs (`Runs`), and the points
-- that a call comes to (`Reach`), are cases of it. This project's own.
use Rattle.std.specs.Prelude.{◌≢◌, List, [], ◌∷◌, map, IsTrue}
use Rattle.faaslet_meaning.specs.Channels.{Reply, Question, Transcript}
use Rattle.faaslet_meaning.specs.CallState.{Invocation, State, Progress, runs, asks}
use Rattle.faaslet_meaning.specs.Call.{call_step, replied, fits}

-- by steps, and by replies that fit
pub data Goes (j : Invocation) : Progress → Transcript → Progress → Type 0 where
  here : {x : Progress} → Goes j x [] x
  stepped : {s : State} {transcript : Transcript} {y : Progress} → Goes j (call_step j s) transcript y → Goes j (runs s) transcript y
  answered : {s : State} {q : Question} {r : Reply} {transcript : Transcript} {y : Progress} → IsTrue (fits s q r) → Goes j (replied j s r) transcript y → Goes j (asks s q) ((q, r) ∷ transcript) y

-- no step comes next: the call waits for a reply, or it is over, or lost
abbrev pub Rests : Progress → Type 0
Rests (runs s) = ⊥
Rests _ = Unit {0}

-- the replies alone
abbrev pub replies_in : Transcript → List Reply
replies_in transcript = map (λ x. x.1) transcript

-- no Submit was answered by want of memory
abbrev pub NoWant : Transcript → Type 0
NoWant [] = Unit {0}
NoWant (x ∷ xs) = (x.1 ≢ Reply.want) × NoWant xs

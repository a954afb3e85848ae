-- The question at which a call stands, by its state alone; and what a question carries: numbers, and bytes. This project's
-- own.
use Rattle.std.specs.Prelude.{ℕ, ◌<◌, ◌≤◌, ◌^◌, List, [], ◌∷◌, ◌++◌, Option, Some, None, All, length, option_map}
use Rattle.faaslet_meaning.specs.declared.grant.Channel.{Channel}
use Rattle.faaslet_meaning.specs.declared.grant.Channel.TheVariants.{Local, Global, Table}
use Rattle.faaslet_meaning.specs.Memory.{touch_of}
use Rattle.faaslet_meaning.specs.ControlRules.{buffer_limit}
use Rattle.faaslet_meaning.specs.Channels.{RegionOperation, Operation, on_region, Question, ask, fills, pulls, pushes}
use Rattle.faaslet_meaning.specs.CallState.{Invocation, Act, passing, Work, Stage, running, touching, calling, releasing, State}
use Rattle.faaslet_meaning.specs.Serve.{question_of, touch_question, channel}
use Rattle.faaslet_meaning.specs.Call.{begun_touch}

-- a host call asks what its first act asks, and amid a buffer what the next shared piece is asked for
abbrev pub question_by : Invocation → State → Work → List Act → Option Question
question_by j s w [] = None
question_by j s w (passing access ∷ acts) = option_map (touch_question j) (touch_of access)
question_by j s w (act ∷ acts) = question_of j (record { held = w.held; result = w.result; state = s }) act

abbrev pub question_in : Invocation → State → Stage → Option Question
question_in j s running = None
question_in j s (touching begun) = option_map (touch_question j) (begun_touch begun)
question_in j s (calling work) = question_by j s work work.acts
question_in j s (releasing [] outcome) = None
question_in j s (releasing (lock ∷ locks) outcome) = Some (ask (channel j lock.tier lock.place) (on_region RegionOperation.unlock))

-- what a call that waits is waiting for
abbrev pub question_at : Invocation → State → Option Question
question_at j s = question_in j s s.stage

-- ---- What a question carries

abbrev pub operation_numbers : Operation → List ℕ
operation_numbers (on_region (RegionOperation.read off len)) = off ∷ len ∷ []
operation_numbers (on_region (RegionOperation.send off len)) = off ∷ len ∷ []
operation_numbers (on_region (RegionOperation.write off bytes)) = off ∷ []
operation_numbers (on_region (RegionOperation.take off bytes)) = off ∷ []
operation_numbers (on_region (RegionOperation.put off bytes)) = off ∷ []
operation_numbers (Operation.submit function input) = function ∷ []
operation_numbers (Operation.look child) = child ∷ []
operation_numbers _ = []

abbrev pub operation_bytes : Operation → List ℕ
operation_bytes (on_region (RegionOperation.fill bytes)) = bytes
operation_bytes (on_region (RegionOperation.append bytes)) = bytes
operation_bytes (on_region (RegionOperation.write off bytes)) = bytes
operation_bytes (on_region (RegionOperation.take off bytes)) = bytes
operation_bytes (on_region (RegionOperation.put off bytes)) = bytes
operation_bytes (Operation.submit function input) = input
operation_bytes _ = []

abbrev pub channel_numbers : Channel → List ℕ
channel_numbers (Local key) = key ∷ []
channel_numbers (Global key) = key ∷ []
channel_numbers Table = []

abbrev pub question_numbers : Question → List ℕ
question_numbers (ask channel operation) = channel_numbers channel ++ operation_numbers operation
question_numbers (fills key size) = key ∷ size ∷ []
question_numbers (pulls key off len) = key ∷ off ∷ len ∷ []
question_numbers (pushes key off len) = key ∷ off ∷ len ∷ []

abbrev pub question_bytes : Question → List ℕ
question_bytes (ask channel operation) = operation_bytes operation
question_bytes _ = []

-- its numbers are below 2 ^ 32, and it carries no more bytes than a buffer may have
pub record IsCarried (q : Question) : Type 0 where
  pub numbers : All (λ n. n < 2 ^ 32) (question_numbers q)
  pub bytes : length (question_bytes q) ≤ buffer_limit

-- the keys and their sizes that a call was granted, and the functions that it may call, are below 2 ^ 32
pub record IsNumbered (j : Invocation) : Type 0 where
  pub keys : All (λ g. g.key < 2 ^ 32) j.program.grants
  pub sizes : All (λ g. g.size < 2 ^ 32) j.program.grants
  pub callees : All (λ f. f < 2 ^ 32) j.callees

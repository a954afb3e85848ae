-- In which words the bounds on steps and on questions are proved.
use Rattle.std.specs.Prelude.{ℕ, ◌+◌, ◌*◌, ◌≤◌, Option, Some, None}
use Rattle.faaslet_meaning.specs.HostCalls.{Buffer, buffer_of}
use Rattle.faaslet_meaning.specs.Configuration.{Next}
use Rattle.faaslet_meaning.specs.CallState.{Stage, releasing, State, Progress, runs, asks, over, lost}
use Rattle.faaslet_meaning.specs.Bounds.{weight, call_questions, begun_asks, fuel_asks}
use Rattle.faaslet_meaning.proofs.StepWalk.{View, Good}

-- what a measure says where the run ends
abbrev pub Any : View → Type 0
Any v = Unit {0}

-- where the machine goes on or stops, its weight is at most this
abbrev pub Light : ℕ → View → Type 0
Light n v = 2 * v.fuel + v.labels ≤ n

abbrev pub Weighs : ℕ → Next → Type 0
Weighs n x = Good (Light n) Any (λ c b. weight c ≤ n) (λ c h. weight c ≤ n) x

-- the same of a call; once it has ended its machine makes no step
abbrev pub StageWeighs : ℕ → State → Stage → Type 0
StageWeighs n s (releasing ls o) = Unit {0}
StageWeighs n s stage = weight s.config ≤ n

abbrev pub ProgressWeighs : ℕ → Progress → Type 0
ProgressWeighs n (runs s) = weight s.config ≤ n
ProgressWeighs n (asks s q) = StageWeighs n s s.stage
ProgressWeighs n (over s o) = Unit {0}
ProgressWeighs n lost = Unit {0}

-- what a host call that begins asks at most
abbrev pub call_asks : Option Buffer → ℕ
call_asks None = 3
call_asks (Some b) = b.len + 3

-- where the machine goes on or stops, it and what it has begun ask at most this
abbrev pub Buys : ℕ → View → Type 0
Buys n v = v.fuel * call_questions ≤ n

abbrev pub NextAsks : ℕ → Next → Type 0
NextAsks n x = Good (Buys n) Any (λ c b. begun_asks b + fuel_asks c ≤ n) (λ c h. call_asks (buffer_of h) + fuel_asks c ≤ n) x

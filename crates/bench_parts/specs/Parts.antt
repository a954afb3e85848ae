-- What a bench was told, cut into the parts of its calls: as in a session's end, but of records and of what was heard, whatever they are
-- of. This project's own.
use Rattle.std.specs.Prelude.{ℕ, List, filter, take, drop}
use Rattle.faaslet_meaning.specs.declared.call.CallRecord.{CallRecord}
use Rattle.faaslet_meaning.specs.declared.grant.Channel.{Channel}
use Rattle.faaslet_meaning.specs.Lists.{total}
use Rattle.session_meaning.specs.Answered.{Answered}
use Rattle.session_meaning.specs.Own.{count_on, is_before, is_of_bench, order_of}
use Rattle.session_meaning.specs.Plan.{Plan}

-- what a bench was told on each channel
abbrev pub Heard : Type 0
Heard = Channel → List Answered

-- how many entries its calls made that were taken before this order
abbrev pub made_in : Plan → List CallRecord → ℕ → ℕ → Channel → ℕ
made_in plan records bench order ch = total (λ r. count_on plan r ch) (filter (is_before bench order) records)

-- and how many all of them made; a call that runs counts none
abbrev pub made_by_all : Plan → List CallRecord → ℕ → Channel → ℕ
made_by_all plan records bench ch = total (λ r. count_on plan r ch) (filter (is_of_bench bench) records)

-- the part of a call
abbrev pub part_in : Plan → List CallRecord → ℕ → Heard → CallRecord → Channel → List Answered
part_in plan records bench heard r ch = take (count_on plan r ch) (drop (made_in plan records bench (order_of r.state) ch) (heard ch))

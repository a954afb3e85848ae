-- Which reply may come to a question of a call that knows these children, and which children it knows then. This project's own.
use Rattle.std.specs.Prelude.{◌≡◌, ℕ, ◌<◌, ◌≤◌, List, [], ◌∷◌, ◌++◌, Option, Some, None, IsTrue, length, slice_get, slice_set}
use Rattle.faaslet_meaning.specs.declared.ask.Ask.{Ask}
use Rattle.faaslet_meaning.specs.declared.ask.Ask.TheVariants as an_ask
use Rattle.faaslet_meaning.specs.declared.ask.AskOp.{AskOp}
use Rattle.faaslet_meaning.specs.declared.ask.AskOp.TheVariants as op
use Rattle.faaslet_meaning.specs.declared.ask.Reply.{Reply}
use Rattle.faaslet_meaning.specs.declared.ask.Reply.TheVariants as a_reply
use Rattle.faaslet_meaning.specs.declared.grant.Channel.TheVariants.{Table}
use Rattle.faaslet_meaning.specs.Call.{child_limit, output_limit, same_length}
use Rattle.faaslet_meaning.specs.Channels.{Operation, Question, ask, Reply as Answer, Transcript}

-- to a question on a region
abbrev pub MayReply : AskOp → Reply → Type 0
MayReply op.Probe (a_reply.Present b) = Unit {0}
MayReply (op.Read off len) (a_reply.Bytes n) = (n ≡ len) × (n ≤ 65536)
MayReply op.Size (a_reply.Number n) = Unit {0}
MayReply (op.Append len) (a_reply.Number n) = Unit {0}
MayReply (op.Append len) a_reply.Full = Unit {0}
MayReply (op.Write off len) a_reply.Done = Unit {0}
MayReply op.LockRead a_reply.Done = Unit {0}
MayReply op.LockWrite a_reply.Done = Unit {0}
MayReply op.Unlock a_reply.Done = Unit {0}
MayReply _ _ = ⊥

-- the length of the output of a child, where the call has seen it
abbrev pub seen_of : List (Option ℕ) → ℕ → Option ℕ
seen_of kids child = elim (slice_get kids child) [ None ↦ None | Some n ↦ n ]

-- an output of this length may come of a child: it is within its limit, and as long as it was before
abbrev pub MayFinish : List (Option ℕ) → ℕ → ℕ → Type 0
MayFinish kids child len = (len ≤ output_limit) × IsTrue (same_length (seen_of kids child) len)

abbrev pub MayCome : Ask → Reply → List (Option ℕ) → Type 0
MayCome (an_ask.Region channel o) reply kids = MayReply o reply
MayCome (an_ask.Move key kind) a_reply.Done kids = Unit {0}
MayCome (an_ask.Submit f len) (a_reply.Child n) kids = length kids < child_limit
MayCome (an_ask.Submit f len) a_reply.ChainFull kids = Unit {0}
MayCome (an_ask.Submit f len) a_reply.Want kids = Unit {0}
MayCome (an_ask.Look child) (a_reply.Finished o len) kids = MayFinish kids child len
MayCome _ _ kids = ⊥

-- the children with the lengths that were seen, after the reply
abbrev pub known_then : Ask → Reply → List (Option ℕ) → List (Option ℕ)
known_then a (a_reply.Child n) kids = kids ++ None ∷ []
known_then (an_ask.Look child) (a_reply.Finished o len) kids = slice_set kids child (Some len)
known_then a r kids = kids

-- the same of the definitions' questions and replies
abbrev pub known_after : List (Option ℕ) → Question → Answer → List (Option ℕ)
known_after kids q (Answer.child n) = kids ++ None ∷ []
known_after kids (ask Table (Operation.look c)) (Answer.finished o bs) = slice_set kids c (Some (length bs))
known_after kids q r = kids

abbrev pub known_by : List (Option ℕ) → Transcript → List (Option ℕ)
known_by kids [] = kids
known_by kids (x ∷ xs) = known_by (known_after kids x.0 x.1) xs

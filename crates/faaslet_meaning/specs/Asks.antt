-- What the asks and the replies of the code stand for, with the bytes of the scratch. This project's own.
use Rattle.std.specs.Prelude.{◌≡◌, ℕ, List, Option, Some, None, length, take, find, option_map, slice_get, nat_le, ◌==◌, if◌then◌else◌}
use Rattle.faaslet_meaning.specs.declared.ask.Ask as code
use Rattle.faaslet_meaning.specs.declared.ask.Ask.TheVariants as an_ask
use Rattle.faaslet_meaning.specs.declared.ask.AskOp.{AskOp}
use Rattle.faaslet_meaning.specs.declared.ask.AskOp.TheVariants as op
use Rattle.faaslet_meaning.specs.declared.ask.Move.{Move}
use Rattle.faaslet_meaning.specs.declared.ask.Move.TheVariants as move
use Rattle.faaslet_meaning.specs.declared.ask.Reply as coded
use Rattle.faaslet_meaning.specs.declared.ask.Reply.TheVariants as a_reply
use Rattle.faaslet_meaning.specs.declared.grant.Channel.TheVariants.{Table}
use Rattle.faaslet_meaning.specs.declared.grant.Grant.{Grant}
use Rattle.faaslet_meaning.specs.Channels.{RegionOperation, Operation, on_region, Reply, Question, ask, fills, pulls, pushes}
use Rattle.faaslet_meaning.specs.CallState.{Invocation}

-- so many bytes at the front of the scratch, where it has as many
abbrev pub front : ℕ → List ℕ → Option (List ℕ)
front len scratch = if nat_le len (length scratch) then Some (take len scratch) else None

-- what is carried is the front of the scratch
abbrev pub operation_of : AskOp → List ℕ → Option Operation
operation_of op.Probe scratch = Some (on_region RegionOperation.probe)
operation_of (op.Read off len) scratch = Some (on_region (RegionOperation.read off len))
operation_of (op.Write off len) scratch = option_map (λ bytes. on_region (RegionOperation.write off bytes)) (front len scratch)
operation_of (op.Append len) scratch = option_map (λ bytes. on_region (RegionOperation.append bytes)) (front len scratch)
operation_of op.Size scratch = Some (on_region RegionOperation.size)
operation_of op.LockRead scratch = Some (on_region RegionOperation.lock_read)
operation_of op.LockWrite scratch = Some (on_region RegionOperation.lock_write)
operation_of op.Unlock scratch = Some (on_region RegionOperation.unlock)

-- the size of a key that is granted
abbrev pub size_of_key : List Grant → ℕ → Option ℕ
size_of_key grants key = option_map (λ g. g.size) (find (λ g. g.key == key) grants)

abbrev pub move_of : List Grant → ℕ → Move → Option Question
move_of grants key move.Fill = option_map (λ size. fills key size) (size_of_key grants key)
move_of grants key (move.Pull off len) = Some (pulls key off len)
move_of grants key (move.Push off len) = Some (pushes key off len)

-- A Submit names a place in the list of callable functions, and its question the function there.
abbrev pub submit_of : Option ℕ → Option (List ℕ) → Option Question
submit_of (Some function) (Some input) = Some (ask Table (Operation.submit function input))
submit_of _ _ = None

abbrev pub question_of_ask : Invocation → code.Ask → List ℕ → Option Question
question_of_ask j (an_ask.Region channel o) scratch = option_map (λ operation. ask channel operation) (operation_of o scratch)
question_of_ask j (an_ask.Move key kind) scratch = move_of j.program.grants key kind
question_of_ask j (an_ask.Submit f len) scratch = submit_of (slice_get j.callees f) (front len scratch)
question_of_ask j (an_ask.Look child) scratch = Some (ask Table (Operation.look child))

abbrev pub reply_of : coded.Reply → List ℕ → Option Reply
reply_of a_reply.Done scratch = Some Reply.done
reply_of (a_reply.Present is_so) scratch = Some (Reply.present is_so)
reply_of (a_reply.Bytes len) scratch = option_map (λ content. Reply.bytes content) (front len scratch)
reply_of (a_reply.Number n) scratch = Some (Reply.number n)
reply_of a_reply.Full scratch = Some Reply.full
reply_of (a_reply.Child n) scratch = Some (Reply.child n)
reply_of a_reply.ChainFull scratch = Some Reply.chain_full
reply_of (a_reply.Finished outcome len) scratch = option_map (λ output. Reply.finished outcome output) (front len scratch)
reply_of a_reply.Want scratch = Some Reply.want

-- A move is answered Done; the bytes that it moved do not pass through the call.
pub record IsMoved (reply : coded.Reply) (len : ℕ) (answer : Reply) : Type 0 where
  pub is_done : reply ≡ a_reply.Done
  pub moved : List ℕ
  pub is_long : length moved ≡ len
  pub is_answer : answer ≡ Reply.bytes moved

-- the code's reply to a question stands for this one
abbrev pub RepliesAs : Question → coded.Reply → List ℕ → Reply → Type 0
RepliesAs (ask channel o) reply scratch answer = reply_of reply scratch ≡ Some answer
RepliesAs (fills key size) reply scratch answer = IsMoved reply size answer
RepliesAs (pulls key off len) reply scratch answer = IsMoved reply len answer
RepliesAs (pushes key off len) reply scratch answer = IsMoved reply len answer

-- What a call asks, what it is told, and the operations that its questions are on each of its channels. This project's
-- own.
use Rattle.std.specs.Prelude.{ℕ, Bool, true, false, Option, Some, None, List, [], ◌∷◌, ◌++◌, map, length, ◌==◌, if◌then◌else◌}
use Rattle.faaslet_meaning.specs.declared.grant.Channel.{Channel}
use Rattle.faaslet_meaning.specs.declared.grant.Channel.TheVariants.{Local, Global, Table}
use Rattle.faaslet_meaning.specs.declared.grant.Grant.{Grant}
use Rattle.faaslet_meaning.specs.declared.outcome.Outcome.{Outcome}

-- an operation on a region
pub data RegionOperation : Type 0 where
  probe size lock_read lock_write unlock : RegionOperation
  read send : (off len : ℕ) → RegionOperation
  fill append : (bytes : List ℕ) → RegionOperation
  write take put : (off : ℕ) (bytes : List ℕ) → RegionOperation

-- what a call does on one of its channels: an operation on a region, or on the call table a Submit or a Look
pub data Operation : Type 0 where
  on_region : (operation : RegionOperation) → Operation
  submit : (function : ℕ) (input : List ℕ) → Operation
  look : (child : ℕ) → Operation

abbrev pub as_region : Operation → Option RegionOperation
as_region (on_region op) = Some op
as_region op = None

abbrev pub is_on_region : Operation → Bool
is_on_region (on_region op) = true
is_on_region op = false

pub data Reply : Type 0 where
  done full chain_full want : Reply
  present : (is_so : Bool) → Reply
  bytes : (content : List ℕ) → Reply
  number : (n : ℕ) → Reply
  child : (n : ℕ) → Reply
  finished : (outcome : Outcome) (output : List ℕ) → Reply

-- A question is one operation on a channel, or a move between the two values of a key. A move is answered by the bytes moved.
pub data Question : Type 0 where
  ask : (channel : Channel) (operation : Operation) → Question
  fills : (key size : ℕ) → Question
  pulls pushes : (key off len : ℕ) → Question

pub record Entry : Type 0 where
  pub channel : Channel
  pub operation : Operation
  pub reply : Reply

abbrev pub entry : Channel → Operation → Reply → Entry
entry ch op r = record { channel = ch; operation = op; reply = r }

-- A Fill is global Send of the whole, then local Fill; a Pull is global Send, then local Take; a Push is local Send, then
-- global Put: the second with the bytes of the first one's reply. A Submit for which there is no memory is no operation.
abbrev pub entries : Question → Reply → List Entry
entries q want = []
entries (ask ch op) r = entry ch op r ∷ []
entries (fills key n) (bytes bs) = entry (Global key) (on_region (send 0 n)) (bytes bs) ∷ entry (Local key) (on_region (fill bs)) done ∷ []
entries (pulls key off len) (bytes bs) = entry (Global key) (on_region (send off len)) (bytes bs) ∷ entry (Local key) (on_region (take off bs)) done ∷ []
entries (pushes key off len) (bytes bs) = entry (Local key) (on_region (send off len)) (bytes bs) ∷ entry (Global key) (on_region (put off bs)) done ∷ []
entries q r = []

-- questions and their replies, in order
abbrev pub Transcript : Type 0
Transcript = List (Question × Reply)

abbrev pub entries_of : Transcript → List Entry
entries_of [] = []
entries_of (x ∷ xs) = entries x.0 x.1 ++ entries_of xs

abbrev pub same_channel : Channel → Channel → Bool
same_channel (Local a) (Local b) = a == b
same_channel (Global a) (Global b) = a == b
same_channel Table Table = true
same_channel _ _ = false

-- what stands on one channel
abbrev pub on_channel : Channel → List Entry → List (Operation × Reply)
on_channel ch [] = []
on_channel ch (e ∷ es) = if same_channel ch e.channel then (e.operation, e.reply) ∷ on_channel ch es else on_channel ch es

abbrev pub replies_on : Channel → List Entry → List Reply
replies_on ch es = map (λ x. x.1) (on_channel ch es)

-- the channels of a call: those of each of its grants in order, and last the table
abbrev pub channels : List Grant → List Channel
channels [] = Table ∷ []
channels (g ∷ gs) = Local g.key ∷ Global g.key ∷ channels gs

-- what a call was told: on each channel its operations with their replies
abbrev pub Told : Type 0
Told = Channel → List (Operation × Reply)

abbrev pub told_by : Transcript → Told
told_by transcript ch = on_channel ch (entries_of transcript)

abbrev pub replies : Told → Channel → List Reply
replies told ch = map (λ x. x.1) (told ch)

abbrev pub told_nothing : Told
told_nothing ch = []

-- how many entries a call made on each of its channels
abbrev pub counts : List Grant → Told → List ℕ
counts gs told = map (λ ch. length (told ch)) (channels gs)

-- a reply has the form of its question
abbrev pub has_form : Question → Reply → Bool
has_form (ask ch (on_region probe)) (present b) = true
has_form (ask ch (on_region (read off len))) (bytes bs) = length bs == len
has_form (ask ch (on_region size)) (number n) = true
has_form (ask ch (on_region (append bs))) (number n) = true
has_form (ask ch (on_region (append bs))) full = true
has_form (ask ch (submit f bs)) (child n) = true
has_form (ask ch (submit f bs)) chain_full = true
has_form (ask ch (submit f bs)) want = true
has_form (ask ch (look c)) (finished o bs) = true
has_form (ask ch (on_region (write off bs))) done = true
has_form (ask ch (on_region lock_read)) done = true
has_form (ask ch (on_region lock_write)) done = true
has_form (ask ch (on_region unlock)) done = true
has_form (fills key n) (bytes bs) = length bs == n
has_form (pulls key off len) (bytes bs) = length bs == len
has_form (pushes key off len) (bytes bs) = length bs == len
has_form _ _ = false

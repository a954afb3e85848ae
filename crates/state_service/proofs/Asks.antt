-- What an operation made, and its answer.
use Rattle.std.proofs.Common.{◌≡◌, ℕ, ◌+◌, ◌<◌, ◌≤◌, Bool, true, false, cond, eq-eqb, List, [], ◌∷◌, ◌++◌, length, take, slice_range, Some, refl, sym, ap, ◌∙◌, subst, arith, length-take, if◌then◌else◌, ◌==◌}
use Rattle.std.proofs.lemmas.Bool.{le-leb}
use Rattle.std.proofs.lemmas.List.Elements.{All-nil, All-cons, All-head, All-tail}
use Rattle.std.specs.Prelude.{IsTrue}
use Rattle.std.specs.Prelude as std
use mathlib.Core.Option.{some}
use lib.ListN.{get_elem?}
use Rattle.faaslet_meaning.specs.declared.ask.Ask.TheVariants as an_ask
use Rattle.faaslet_meaning.specs.declared.ask.AskOp.{AskOp}
use Rattle.faaslet_meaning.specs.declared.ask.AskOp.TheVariants as op
use Rattle.faaslet_meaning.specs.declared.ask.RegionOp.{RegionOp}
use Rattle.faaslet_meaning.specs.declared.ask.RegionOp.TheVariants as a_op
use Rattle.faaslet_meaning.specs.declared.ask.Reply as coded
use Rattle.faaslet_meaning.specs.declared.ask.Reply.TheVariants as a_reply
use Rattle.faaslet_meaning.specs.declared.grant.Channel.{Channel}
use Rattle.faaslet_meaning.specs.declared.grant.Channel.TheVariants.{Local, Global}
use Rattle.faaslet_meaning.specs.declared.outcome.Outcome.{Outcome}
use Rattle.faaslet_meaning.specs.declared.ask.Move.{Move}
use Rattle.faaslet_meaning.specs.declared.ask.Move.TheVariants as move
use Rattle.faaslet_meaning.specs.declared.grant.Grant.{Grant}
use Rattle.faaslet_meaning.specs.Asks.{front, operation_of, reply_of, size_of_key, move_of}
use Rattle.faaslet_meaning.specs.Channels.{RegionOperation, on_region, Reply, ask, fills, entries, on_channel, same_channel, has_form}
use Rattle.faaslet_meaning.specs.Region as region
use Rattle.faaslet_meaning.specs.Region.{Region}
use Rattle.faaslet_meaning.specs.Spelling.{spelled}
use Rattle.shared_region.specs.Moves.{question_of_move}
use Rattle.shared_region.specs.Operations as access
use Rattle.shared_region.specs.Operations.{laid}
use Rattle.shared_region.specs.Shared.{Shared}
use Rattle.turn_cell.specs.declared.cell.Turns.{Turns}
use Rattle.turn_cell.specs.declared.view.Entry.{Entry}
use Rattle.turn_cell.specs.Cell.{pass_list, pass_number, start_of, numbers_of}
use Rattle.turn_cell.specs.History.{MakersBelow, entry}
use Rattle.region_tier.specs.Answered.{Answered, Told}
use Rattle.region_tier.specs.Holding.{has_lock, LocksInTurn}
use Rattle.region_tier.specs.Opened.{IsFree, IsOpened, InRange}
use Rattle.region_tier.specs.Tiers.{RegionPass, HasPass, Goes}
use Rattle.region_tier.proofs.At.{same_at}
use Rattle.region_tier.proofs.Sound.{sound_all, sound_start}
use Rattle.state_service.specs.Asked.{asked_operation, is_carrying}
use Rattle.state_service.specs.May.{Cells, Slots, AskFits, Carries, MayAsk}
use Rattle.state_service.specs.Served.{Made, Served}
use Rattle.state_service.proofs.Moves.{one_key, keys_stay, range_length}

-- ---- The question.

front_there : (len : ℕ) (scratch : List ℕ) → len ≤ length scratch → front len scratch ≡ Some (take len scratch)
front_there len scratch h = ap (λ b. cond b (Some (take len scratch)) std.None) (le-leb len (length scratch) h)

pub asked_so : (o : AskOp) (scratch : List ℕ) → Carries o (length scratch) → operation_of o scratch ≡ Some (on_region (asked_operation o scratch))
asked_so op.Probe scratch h = refl
asked_so (op.Read off len) scratch h = refl
asked_so (op.Write off len) scratch h = ap (std.option_map (λ bytes. on_region (RegionOperation.write off bytes))) (front_there len scratch h)
asked_so (op.Append len) scratch h = ap (std.option_map (λ bytes. on_region (RegionOperation.append bytes))) (front_there len scratch h)
asked_so op.Size scratch h = refl
asked_so op.LockRead scratch h = refl
asked_so op.LockWrite scratch h = refl
asked_so op.Unlock scratch h = refl

pub carries_so : (s : Shared) (o : AskOp) (scratch : ℕ) → AskFits s o scratch → Carries o scratch
carries_so s op.Probe scratch h = tt
carries_so s (op.Read off len) scratch h = tt
carries_so s (op.Write off len) scratch h = h.1
carries_so s (op.Append len) scratch h = h
carries_so s op.Size scratch h = tt
carries_so s op.LockRead scratch h = tt
carries_so s op.LockWrite scratch h = tt
carries_so s op.Unlock scratch h = tt

-- the question of a move is that of a call whose grant has the key's size
pub move_so : (grants : List Grant) (size key : ℕ) (kind : Move) → size_of_key grants key ≡ Some size → move_of grants key kind ≡ Some (question_of_move key size kind)
move_so grants size key move.Fill e = ap (std.option_map (λ n. fills key n)) e
move_so grants size key (move.Pull off len) e = refl
move_so grants size key (move.Push off len) e = refl

-- ---- Its reply.

-- so many bytes are read
abbrev pub Reads : AskOp → ℕ → Type 0
Reads (op.Read off len) n = off + len ≤ n
Reads _ n = Unit {0}

reads_so : (s : Shared) (o : AskOp) (scratch : ℕ) → AskFits s o scratch → Reads o (length s.region.bytes)
reads_so s op.Probe scratch h = tt
reads_so s (op.Read off len) scratch h = h.0
reads_so s (op.Write off len) scratch h = tt
reads_so s (op.Append len) scratch h = tt
reads_so s op.Size scratch h = tt
reads_so s op.LockRead scratch h = tt
reads_so s op.LockWrite scratch h = tt
reads_so s op.Unlock scratch h = tt

formed : (ch : Channel) (o : AskOp) (scratch : List ℕ) (s : Region) (m : ℕ) → Reads o (length s.bytes) → IsTrue (has_form (ask ch (on_region (asked_operation o scratch))) (region.reply s m (asked_operation o scratch)))
formed ch op.Probe scratch s m h = refl
formed ch (op.Read off len) scratch s m h = eq-eqb (length (slice_range s.bytes off (off + len))) len (range_length s.bytes off len h)
formed ch (op.Write off len) scratch s m h = refl
formed ch (op.Append len) scratch s m h = by (region.has_room s (take len scratch))
  where
    by : (b : Bool) → IsTrue (has_form (ask ch (on_region (RegionOperation.append (take len scratch)))) (cond b (Reply.number s.used) Reply.full))
    by true = refl
    by false = refl
formed ch op.Size scratch s m h = refl
formed ch op.LockRead scratch s m h = refl
formed ch op.LockWrite scratch s m h = refl
formed ch op.Unlock scratch s m h = refl

-- its one entry
one_entry : (at ch : Channel) (o : RegionOperation) (s : Region) (m : ℕ) → on_channel at (entries (ask ch (on_region o)) (region.reply s m o)) ≡ (if same_channel at ch then (on_region o, region.reply s m o) ∷ [] else [])
one_entry at ch RegionOperation.probe s m = refl
one_entry at ch RegionOperation.size s m = refl
one_entry at ch RegionOperation.lock_read s m = refl
one_entry at ch RegionOperation.lock_write s m = refl
one_entry at ch RegionOperation.unlock s m = refl
one_entry at ch (RegionOperation.read off len) s m = refl
one_entry at ch (RegionOperation.send off len) s m = refl
one_entry at ch (RegionOperation.fill bytes) s m = refl
one_entry at ch (RegionOperation.write off bytes) s m = refl
one_entry at ch (RegionOperation.take off bytes) s m = refl
one_entry at ch (RegionOperation.put off bytes) s m = refl
one_entry at ch (RegionOperation.append bytes) s m = by (region.has_room s bytes)
  where
    by : (b : Bool) → on_channel at (entries (ask ch (on_region (RegionOperation.append bytes))) (cond b (Reply.number s.used) Reply.full)) ≡ (if same_channel at ch then (on_region (RegionOperation.append bytes), cond b (Reply.number s.used) Reply.full) ∷ [] else [])
    by true = refl
    by false = refl

-- ---- Where nothing was lent to be written.

abbrev no_bytes : Reply → Bool
no_bytes (Reply.bytes content) = false
no_bytes (Reply.finished outcome output) = false
no_bytes _ = true

not_bytes : (o : std.Option (List ℕ)) (r : Reply) → std.option_map (λ c. Reply.bytes c) o ≡ Some r → no_bytes r ≡ true → ⊥
not_bytes std.None r e h = cc
not_bytes (Some c) r e h = let q : Reply.bytes c ≡ r = cc in let z : false ≡ true = ap no_bytes q ∙ h in cc

not_finished : (outcome : Outcome) (o : std.Option (List ℕ)) (r : Reply) → std.option_map (λ c. Reply.finished outcome c) o ≡ Some r → no_bytes r ≡ true → ⊥
not_finished outcome std.None r e h = cc
not_finished outcome (Some c) r e h = let q : Reply.finished outcome c ≡ r = cc in let z : false ≡ true = ap no_bytes q ∙ h in cc

same_reply : (code : coded.Reply) (a b : List ℕ) (r : Reply) → no_bytes r ≡ true → reply_of code a ≡ Some r → reply_of code b ≡ Some r
same_reply a_reply.Done a b r h e = e
same_reply (a_reply.Present is_so) a b r h e = e
same_reply (a_reply.Bytes len) a b r h e = absurd (not_bytes (front len a) r e h)
same_reply (a_reply.Number n) a b r h e = e
same_reply a_reply.Full a b r h e = e
same_reply (a_reply.Child n) a b r h e = e
same_reply a_reply.ChainFull a b r h e = e
same_reply (a_reply.Finished outcome len) a b r h e = absurd (not_finished outcome (front len a) r e h)
same_reply a_reply.Want a b r h e = e

laid_none : (r : Reply) (scratch : List ℕ) → no_bytes r ≡ true → scratch ≡ laid r scratch
laid_none Reply.done scratch h = refl
laid_none Reply.full scratch h = refl
laid_none Reply.chain_full scratch h = refl
laid_none Reply.want scratch h = refl
laid_none (Reply.present is_so) scratch h = refl
laid_none (Reply.bytes content) scratch h = cc
laid_none (Reply.number n) scratch h = refl
laid_none (Reply.child n) scratch h = refl
laid_none (Reply.finished outcome output) scratch h = refl

carried_reply : (o : AskOp) (scratch : List ℕ) (s : Region) (m : ℕ) → is_carrying o ≡ true → no_bytes (region.reply s m (asked_operation o scratch)) ≡ true
carried_reply op.Probe scratch s m h = cc
carried_reply (op.Read off len) scratch s m h = cc
carried_reply (op.Write off len) scratch s m h = refl
carried_reply (op.Append len) scratch s m h = by (region.has_room s (take len scratch))
  where
    by : (b : Bool) → no_bytes (cond b (Reply.number s.used) Reply.full) ≡ true
    by true = refl
    by false = refl
carried_reply op.Size scratch s m h = cc
carried_reply op.LockRead scratch s m h = cc
carried_reply op.LockWrite scratch s m h = cc
carried_reply op.Unlock scratch s m h = cc

-- what an operation that carries bytes was told, with nothing lent, it was told with the scratch as it is
pub told_apart : (o : AskOp) (scratch : List ℕ) (start : Shared) (n : ℕ) (a b : List Entry) (code : coded.Reply) (told : List ℕ) → is_carrying o ≡ true → Told start n (asked_operation o scratch) a b code [] told → Told start n (asked_operation o scratch) a b code scratch scratch
told_apart o scratch start n a b code told h x =
    let none : no_bytes x.answer ≡ true = ap no_bytes x.answered.reply_so ∙ carried_reply o scratch x.answered.region.region n h in
    record { answer = x.answer; stands_for = same_reply code told scratch x.answer none x.stands_for; laid_so = laid_none x.answer scratch none; answered = x.answered }

-- what carries nothing is the same operation with any scratch
pub plain_same : (o : AskOp) (a b : List ℕ) → is_carrying o ≡ false → asked_operation o a ≡ asked_operation o b
plain_same op.Probe a b h = refl
plain_same (op.Read off len) a b h = refl
plain_same (op.Write off len) a b h = cc
plain_same (op.Append len) a b h = cc
plain_same op.Size a b h = refl
plain_same op.LockRead a b h = refl
plain_same op.LockWrite a b h = refl
plain_same op.Unlock a b h = refl

pub goes_as : (cells : Cells) (old new : Slots) (key : ℕ) (P Q : Turns Shared → RegionPass → RegionPass → Type 0) → Goes cells old new key P → ((t : Turns Shared) (p q : RegionPass) → P t p q → Q t p q) → Goes cells old new key Q
goes_as cells old new key P Q g f = record { cell = g.cell; before = g.before; after = g.after; at_cell = g.at_cell; at_before = g.at_before; put = g.put; sits = g.sits; number = g.number; makers = g.makers; so = f g.cell g.before g.after g.so }

-- ---- What an access asks for.

-- the range of an operation lies in so many bytes, and what is read in so many
abbrev Ranged : ℕ → RegionOperation → ℕ → Type 0
Ranged n (RegionOperation.read off len) scratch = (off + len ≤ n) × (len ≤ scratch)
Ranged n (RegionOperation.write off bytes) scratch = off + length bytes ≤ n
Ranged n _ scratch = Unit {0}

in_range : (s : Shared) (r : RegionOp) (scratch : ℕ) → Ranged (length s.region.bytes) (access.operation_of r) scratch → InRange s r scratch
in_range s a_op.Probe scratch h = tt
in_range s (a_op.Read off len) scratch h = h
in_range s (a_op.Write off bytes) scratch h = h
in_range s (a_op.Append bytes) scratch h = tt
in_range s a_op.Size scratch h = tt
in_range s a_op.LockRead scratch h = tt
in_range s a_op.LockWrite scratch h = tt
in_range s a_op.Unlock scratch h = tt

ranged_carried : (s : Shared) (o : AskOp) (scratch : List ℕ) → is_carrying o ≡ true → AskFits s o (length scratch) → Ranged (length s.region.bytes) (asked_operation o scratch) 0
ranged_carried s op.Probe scratch h f = tt
ranged_carried s (op.Read off len) scratch h f = cc
ranged_carried s (op.Write off len) scratch h f = let k = f.0 in omega (arith, k, length-take len scratch)
ranged_carried s (op.Append len) scratch h f = tt
ranged_carried s op.Size scratch h f = tt
ranged_carried s op.LockRead scratch h f = tt
ranged_carried s op.LockWrite scratch h f = tt
ranged_carried s op.Unlock scratch h f = tt

ranged_plain : (s : Shared) (o : AskOp) (bytes : List ℕ) (scratch : ℕ) → is_carrying o ≡ false → AskFits s o scratch → Ranged (length s.region.bytes) (asked_operation o bytes) scratch
ranged_plain s op.Probe bytes scratch h f = tt
ranged_plain s (op.Read off len) bytes scratch h f = f
ranged_plain s (op.Write off len) bytes scratch h f = cc
ranged_plain s (op.Append len) bytes scratch h f = tt
ranged_plain s op.Size bytes scratch h f = tt
ranged_plain s op.LockRead bytes scratch h f = tt
ranged_plain s op.LockWrite bytes scratch h f = tt
ranged_plain s op.Unlock bytes scratch h f = tt

-- what `access` asks of a pass
abbrev Asks : RegionOp → ℕ → Turns Shared → RegionPass → Type 0
Asks r scratch t p = InRange (start_of t) r scratch × LocksInTurn (access.operation_of r) (has_lock (pass_number p) (pass_list p))

pub has_as : (cells : Cells) (slots : Slots) (key : ℕ) (P Q : Turns Shared → RegionPass → Type 0) → HasPass cells slots key P → ((t : Turns Shared) (p : RegionPass) → P t p → Q t p) → HasPass cells slots key Q
has_as cells slots key P Q h f = record { cell = h.cell; pass = h.pass; at_cell = h.at_cell; at_pass = h.at_pass; sits = h.sits; low = h.low; so = f h.cell h.pass h.so }

abbrev AsksFor : AskOp → List ℕ → Turns Shared → RegionPass → Type 0
AsksFor o scratch t p = AskFits (start_of t) o (length scratch) × LocksInTurn (asked_operation o scratch) (has_lock (pass_number p) (pass_list p))

pub carried_may : (cells : Cells) (slots : Slots) (key : ℕ) (o : AskOp) (r : RegionOp) (scratch : List ℕ) → is_carrying o ≡ true → access.operation_of r ≡ asked_operation o scratch → MayAsk cells slots key o scratch → HasPass cells slots key (Asks r 0)
carried_may cells slots key o r scratch h e may = has_as cells slots key (AsksFor o scratch) (Asks r 0) may (λ t p f. (
  in_range (start_of t) r 0 (subst (λ x. Ranged (length (start_of t).region.bytes) x 0) (sym e) (ranged_carried (start_of t) o scratch h f.0)),
  subst (λ x. LocksInTurn x (has_lock (pass_number p) (pass_list p))) (sym e) f.1,
))

pub plain_may : (cells : Cells) (slots : Slots) (key : ℕ) (o : AskOp) (r : RegionOp) (bytes scratch : List ℕ) → is_carrying o ≡ false → access.operation_of r ≡ asked_operation o bytes → MayAsk cells slots key o scratch → HasPass cells slots key (Asks r (length scratch))
plain_may cells slots key o r bytes scratch h e may = has_as cells slots key (AsksFor o scratch) (Asks r (length scratch)) may (λ t p f. (
  in_range (start_of t) r (length scratch) (subst (λ x. Ranged (length (start_of t).region.bytes) x (length scratch)) (sym e) (ranged_plain (start_of t) o bytes (length scratch) h f.0)),
  subst (λ x. LocksInTurn x (has_lock (pass_number p) (pass_list p))) (plain_same o scratch bytes h ∙ sym e) f.1,
))

pub carries_all : (cells : Cells) (slots : Slots) (key : ℕ) (o : AskOp) (scratch : List ℕ) → MayAsk cells slots key o scratch → Carries o (length scratch)
carries_all cells slots key o scratch may = carries_so (start_of may.cell) o (length scratch) may.so.0

pub plain_carries : (o : AskOp) (n : ℕ) → is_carrying o ≡ false → Carries o n
plain_carries op.Probe n h = tt
plain_carries (op.Read off len) n h = tt
plain_carries (op.Write off len) n h = cc
plain_carries (op.Append len) n h = cc
plain_carries op.Size n h = tt
plain_carries op.LockRead n h = tt
plain_carries op.LockWrite n h = tt
plain_carries op.Unlock n h = tt

-- what an access left
abbrev pub ToldOf : AskOp → coded.Reply → List ℕ → List ℕ → Turns Shared → RegionPass → RegionPass → Type 0
ToldOf o code scratch told t p q = Told (start_of t) (pass_number p) (asked_operation o scratch) (pass_list p) (pass_list q) code scratch told

abbrev Accessed : RegionOp → coded.Reply → List ℕ → List ℕ → Turns Shared → RegionPass → RegionPass → Type 0
Accessed r code scratch told t p q = Told (start_of t) (pass_number p) (access.operation_of r) (pass_list p) (pass_list q) code scratch told

pub carried_goes : (cells : Cells) (old new : Slots) (key : ℕ) (o : AskOp) (r : RegionOp) (code : coded.Reply) (scratch told : List ℕ) → is_carrying o ≡ true → access.operation_of r ≡ asked_operation o scratch → Goes cells old new key (Accessed r code [] told)
    → Goes cells old new key (ToldOf o code scratch scratch)
carried_goes cells old new key o r code scratch told h e g = goes_as cells old new key (Accessed r code [] told) (ToldOf o code scratch scratch) g
    (λ t p q x. told_apart o scratch (start_of t) (pass_number p) (pass_list p) (pass_list q) code told h (subst (λ k. Told (start_of t) (pass_number p) k (pass_list p) (pass_list q) code [] told) e x))

pub plain_goes : (cells : Cells) (old new : Slots) (key : ℕ) (o : AskOp) (r : RegionOp) (code : coded.Reply) (bytes scratch told : List ℕ) → is_carrying o ≡ false → access.operation_of r ≡ asked_operation o bytes → Goes cells old new key (Accessed r code scratch told)
    → Goes cells old new key (ToldOf o code scratch told)
plain_goes cells old new key o r code bytes scratch told h e g = goes_as cells old new key (Accessed r code scratch told) (ToldOf o code scratch told) g
    (λ t p q x. subst (λ k. Told (start_of t) (pass_number p) k (pass_list p) (pass_list q) code scratch told) (e ∙ plain_same o bytes scratch h) x)

-- ---- The operation was served.

makers_front : (k : ℕ) (a b : List Entry) → MakersBelow k (a ++ b) → MakersBelow k a
makers_front k [] b h = All-nil (λ (e : Entry). e.maker < k)
makers_front k (e ∷ es) b h = All-cons (λ (d : Entry). d.maker < k) e es (All-head (λ (d : Entry). d.maker < k) e (es ++ b) h) (makers_front k es b (All-tail (λ (d : Entry). d.maker < k) e (es ++ b) h))

still_long : (start : Shared) (numbers n : ℕ) (o : RegionOperation) (old new : List Entry) (r : Reply) → IsFree start numbers → MakersBelow numbers new → (a : Answered start n o old new r) → length a.region.region.bytes ≡ length start.region.bytes
still_long start numbers n o old new r free low a =
    let below = makers_front numbers a.before (entry n (spelled o) ∷ []) (subst (MakersBelow numbers) a.entered low) in
    (sound_all start start a.region numbers a.before free.whole below (sound_start start numbers free) a.leads).long.0

-- the parts of what was served
record Part (cells : Cells) (old new : Slots) (key : ℕ) (o : AskOp) (code : coded.Reply) (scratch told : List ℕ) : Type 0 where
  answer : Reply
  form : (ch : Channel) → IsTrue (has_form (ask ch (on_region (asked_operation o scratch))) answer)
  replies : reply_of code told ≡ Some answer
  told_so : told ≡ laid answer scratch
  keys : length new ≡ length old
  made : (at ch : Channel) (k : ℕ) → same_channel at ch ≡ (k == key) → Made cells old new k (on_channel at (entries (ask ch (on_region (asked_operation o scratch))) answer))
  none : (at ch : Channel) → same_channel at ch ≡ false → on_channel at (entries (ask ch (on_region (asked_operation o scratch))) answer) ≡ []

part : (cells : Cells) (old new : Slots) (key : ℕ) (o : AskOp) (code : coded.Reply) (scratch told : List ℕ) → ((t : Turns Shared) → get_elem? cells key ≡ some t → IsOpened t) → MayAsk cells old key o scratch → Goes cells old new key (ToldOf o code scratch told)
    → Part cells old new key o code scratch told
part cells old new key o code scratch told opened may g =
    let operation = asked_operation o scratch in
    let n = pass_number g.before in
    let x = g.so in
    let start = start_of g.cell in
    let long = still_long start (numbers_of g.cell) n operation (pass_list g.before) (pass_list g.after) x.answer (opened g.cell g.at_cell) g.makers x.answered in
    let fits = subst (λ (t : Turns Shared). AskFits (start_of t) o (length scratch)) (same_at cells key may.cell g.cell may.at_cell g.at_cell) may.so.0 in
    let reads = subst (Reads o) (sym long) (reads_so start o (length scratch) fits) in
    let one : (at ch : Channel) → on_channel at (entries (ask ch (on_region operation)) x.answer) ≡ (if same_channel at ch then (on_region operation, x.answer) ∷ [] else []) =
    λ at ch. subst (λ (r : Reply). on_channel at (entries (ask ch (on_region operation)) r) ≡ (if same_channel at ch then (on_region operation, r) ∷ [] else [])) (sym x.answered.reply_so) (one_entry at ch operation x.answered.region.region n) in
    record {
      answer = x.answer;
      form = λ ch. subst (λ (r : Reply). IsTrue (has_form (ask ch (on_region operation)) r)) (sym x.answered.reply_so) (formed ch o scratch x.answered.region.region n reads);
      replies = x.stands_for;
      told_so = x.laid_so;
      keys = keys_stay cells old new key (ToldOf o code scratch told) g;
      made = λ at ch k same. subst (Made cells old new k) (sym (one at ch ∙ ap (λ (b : Bool). if b then (on_region operation, x.answer) ∷ [] else []) same)) (one_key cells old new key k operation x.answer (ToldOf o code scratch told) g x.answered);
      none = λ at ch same. one at ch ∙ ap (λ (b : Bool). if b then (on_region operation, x.answer) ∷ [] else []) same;
    }

pub served_local : (locals globals : Cells) (l m g : Slots) (key : ℕ) (o : AskOp) (code : coded.Reply) (scratch told : List ℕ) → ((t : Turns Shared) → get_elem? locals key ≡ some t → IsOpened t) → MayAsk locals l key o scratch
    → Goes locals l m key (ToldOf o code scratch told) → Served (an_ask.Region (Local key) o) 0 locals globals l m g g code scratch told
served_local locals globals l m g key o code scratch told opened may goes =
    let p = part locals l m key o code scratch told opened may goes in
    record {
      question = ask (Local key) (on_region (asked_operation o scratch));
      question_so = ap (std.option_map (λ operation. ask (Local key) operation)) (asked_so o scratch (carries_all locals l key o scratch may));
      answer = p.answer;
      form = p.form (Local key);
      replies = p.replies;
      told_so = p.told_so;
      local_keys = p.keys;
      global_keys = refl;
      local_made = λ k. p.made (Local k) (Local key) k refl;
      global_made = λ k. subst (Made globals g g k) (sym (p.none (Global k) (Local key) refl)) refl;
    }

pub served_global : (locals globals : Cells) (l g h : Slots) (key : ℕ) (o : AskOp) (code : coded.Reply) (scratch told : List ℕ) → ((t : Turns Shared) → get_elem? globals key ≡ some t → IsOpened t) → MayAsk globals g key o scratch
    → Goes globals g h key (ToldOf o code scratch told) → Served (an_ask.Region (Global key) o) 0 locals globals l l g h code scratch told
served_global locals globals l g h key o code scratch told opened may goes =
    let p = part globals g h key o code scratch told opened may goes in
    record {
      question = ask (Global key) (on_region (asked_operation o scratch));
      question_so = ap (std.option_map (λ operation. ask (Global key) operation)) (asked_so o scratch (carries_all globals g key o scratch may));
      answer = p.answer;
      form = p.form (Global key);
      replies = p.replies;
      told_so = p.told_so;
      local_keys = refl;
      global_keys = p.keys;
      local_made = λ k. subst (Made locals l l k) (sym (p.none (Local k) (Global key) refl)) refl;
      global_made = λ k. p.made (Global k) (Global key) k refl;
    }

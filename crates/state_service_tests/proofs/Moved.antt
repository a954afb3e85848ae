-- What was served, as operations of one maker on the one key, and what they make of the bytes.
use Rattle.std.proofs.Common.{◌≡◌, ℕ, true, false, ◌+◌, ◌*◌, ◌<◌, List, [], ◌∷◌, length, slice_range, Some, refl, sym, ap, ◌∙◌, subst, arith}
use Rattle.std.proofs.lemmas.List.{length-replicate}
use Rattle.std.specs.Prelude as std
use Rattle.std.specs.Prelude.{IsTrue}
use mathlib.Core.List.{IsPrefix}
use mathlib.Core.Option.{some, some-injective, some-ne-none}
use lib.ListN.{get_elem?}
use Rattle.faaslet_meaning.specs.declared.ask.Ask.TheVariants as an_ask
use Rattle.faaslet_meaning.specs.declared.ask.AskOp.TheVariants as op
use Rattle.faaslet_meaning.specs.declared.ask.Move.{Move}
use Rattle.faaslet_meaning.specs.declared.ask.Move.TheVariants as move
use Rattle.faaslet_meaning.specs.declared.ask.Reply as coded
use Rattle.faaslet_meaning.specs.declared.grant.Channel.{Channel}
use Rattle.faaslet_meaning.specs.declared.grant.Channel.TheVariants.{Local, Global}
use Rattle.faaslet_meaning.specs.Asks.{RepliesAs}
use Rattle.faaslet_meaning.specs.Channels as channels
use Rattle.faaslet_meaning.specs.Channels.{has_form, RegionOperation, Operation, Reply, Question, ask, fills, pushes, entries, on_channel, on_region, fill, write, send, put}
use Rattle.faaslet_meaning.specs.Memory.{over, page_size, key_pages}
use Rattle.faaslet_meaning.specs.Region as region
use Rattle.faaslet_meaning.specs.Region.{Region, replica, global_value}
use Rattle.faaslet_meaning.specs.Spelling.{spelled}
use Rattle.faaslet_meaning.proofs.Spellings.{one_spelling}
use Rattle.shared_region.specs.Entries.{MakesShared}
use Rattle.shared_region.specs.Moves.{MoveFits}
use Rattle.shared_region.specs.Shared.{Shared}
use Rattle.turn_cell.specs.declared.cell.Turns.{Turns}
use Rattle.turn_cell.specs.declared.view.Entry.{Entry}
use Rattle.turn_cell.specs.Cell.{pass_list, pass_number, start_of}
use Rattle.turn_cell.specs.History.{entry, Extends, Stands}
use Rattle.region_tier.specs.Answered.{Answered}
use Rattle.region_tier.specs.Tiers.{RegionPass, Goes}
use Rattle.region_tier.proofs.At.{same_in}
use Rattle.state_service.specs.Asked.{moved_size}
use Rattle.state_service.specs.May.{Cells, Slots, MayMove, MayServe}
use Rattle.state_service.specs.Served.{Made, Served}
use Rattle.state_service_tests.specs.Makers.{IsOneKey, Sees}
use Rattle.state_service_tests.proofs.OneKey.{Enters, has, stays, goes, enters}

-- ---- What is asked for.

pub bytes_here : (n : ℕ) (s : Shared) → s ≡ record { region = replica n; room = 2 } → length s.region.bytes ≡ key_pages n * page_size
bytes_here n s e = ap (λ (z : Shared). length z.region.bytes) e ∙ length-replicate (key_pages n * page_size) 0

pub may_move : (locals globals : Cells) (l g : Slots) (n : ℕ) (a b : List Entry) (kind : Move) → IsOneKey locals (replica 2) → IsOneKey globals (global_value 2 (1 ∷ 2 ∷ [])) → Sees locals l n a → Sees globals g n b → n < 2 → MoveFits kind 2
    → MayMove locals globals l g 0 kind
may_move locals globals l g n a b kind k m s t low fits = has locals l (replica 2) n a _ k s low (λ x p start number list.
    has globals g (global_value 2 (1 ∷ 2 ∷ [])) n b _ m t low (λ y q begins maker more. (
      number ∙ sym maker,
      ap (λ (z : Shared). z.region.size) start ∙ sym (ap (λ (z : Shared). z.region.size) begins),
      subst (MoveFits kind) (sym (ap (λ (z : Shared). z.region.size) start)) fits,
    )))

pub may_write : (locals globals : Cells) (l g : Slots) (n : ℕ) (a : List Entry) → IsOneKey locals (replica 2) → Sees locals l n a → n < 2 → MayServe (an_ask.Region (Local 0) (op.Write 0 1)) locals globals l g (9 ∷ [])
may_write locals globals l g n a k s low = has locals l (replica 2) n a _ k s low (λ x p start number list.
    let long : length (start_of x).region.bytes ≡ 65536 = bytes_here 2 (start_of x) start in
    ((omega (arith, long), omega arith), tt))

-- ---- What was served.

pub some_so : (a b : Question) → std.Some a ≡ std.Some b → a ≡ b
some_so a b e = cc

got : (cells : Cells) (t : Turns Shared) → get_elem? cells 0 ≡ some t → std.slice_get cells 0 ≡ Some t
got [] t e = absurd (some-ne-none t (sym e))
got (x ∷ xs) t e = ap Some (some-injective x t e)

-- an operation on a region is one entry, since its answer is no Want
no_want : (ch : Channel) (o : RegionOperation) → has_form (ask ch (on_region o)) Reply.want ≡ false
no_want ch RegionOperation.probe = refl
no_want ch RegionOperation.size = refl
no_want ch RegionOperation.lock_read = refl
no_want ch RegionOperation.lock_write = refl
no_want ch RegionOperation.unlock = refl
no_want ch (RegionOperation.read off len) = refl
no_want ch (RegionOperation.send off len) = refl
no_want ch (RegionOperation.fill bytes) = refl
no_want ch (RegionOperation.append bytes) = refl
no_want ch (RegionOperation.write off bytes) = refl
no_want ch (RegionOperation.take off bytes) = refl
no_want ch (RegionOperation.put off bytes) = refl

pub one_entry : (ch : Channel) (o : RegionOperation) (r : Reply) → IsTrue (has_form (ask ch (on_region o)) r) → entries (ask ch (on_region o)) r ≡ channels.entry ch (on_region o) r ∷ []
one_entry ch o Reply.want h = let no : false ≡ true = sym (no_want ch o) ∙ h in cc
one_entry ch o Reply.done h = refl
one_entry ch o Reply.full h = refl
one_entry ch o Reply.chain_full h = refl
one_entry ch o (Reply.present b) h = refl
one_entry ch o (Reply.bytes bs) h = refl
one_entry ch o (Reply.number n) h = refl
one_entry ch o (Reply.child n) h = refl
one_entry ch o (Reply.finished outcome output) h = refl

size_here : (cells : Cells) (kind : Move) (start : Region) → IsOneKey cells start → moved_size cells (an_ask.Move 0 kind) ≡ start.size
size_here cells kind start k =
    ap (λ (o : std.Option (Turns Shared)). elim o [ Some t ↦ (start_of t).region.size | std.None ↦ 0 ]) (got cells k.cell k.at_cell) ∙ ap (λ (s : Shared). s.region.size) k.start_so

-- a Fill, with the bytes that were sent
pub record Filled (locals globals : Cells) (l m g h : Slots) (n : ℕ) (a b : List Entry) : Type 0 where
  pub bytes : List ℕ
  pub here : Enters locals m n (fill bytes) a Reply.done
  pub there : Enters globals h n (send 0 2) b (Reply.bytes bytes)

pub filled : (locals globals : Cells) (l m g h : Slots) (n : ℕ) (a b : List Entry) (code : coded.Reply) (told : List ℕ) → IsOneKey locals (replica 2) → Sees locals l n a → Sees globals g n b
    → Served (an_ask.Move 0 move.Fill) (moved_size locals (an_ask.Move 0 move.Fill)) locals globals l m g h code [] told → Filled locals globals l m g h n a b
filled locals globals l m g h n a b code told k s t d =
    let size = moved_size locals (an_ask.Move 0 move.Fill) in
    let two : size ≡ 2 = size_here locals move.Fill (replica 2) k in
    let is : d.question ≡ fills 0 2 = sym (some_so (fills 0 size) d.question d.question_so) ∙ ap (λ x. fills 0 x) two in
    let r = subst (λ q. RepliesAs q code told d.answer) is d.replies in
    let on_local : Made locals l m 0 (on_channel (Local 0) (entries (fills 0 2) (Reply.bytes r.moved))) =
    subst (λ x. Made locals l m 0 (on_channel (Local 0) (entries (fills 0 2) x))) r.is_answer (subst (λ q. Made locals l m 0 (on_channel (Local 0) (entries q d.answer))) is (d.local_made 0)) in
    let on_global : Made globals g h 0 (on_channel (Global 0) (entries (fills 0 2) (Reply.bytes r.moved))) =
    subst (λ x. Made globals g h 0 (on_channel (Global 0) (entries (fills 0 2) x))) r.is_answer (subst (λ q. Made globals g h 0 (on_channel (Global 0) (entries q d.answer))) is (d.global_made 0)) in
    record {
      bytes = r.moved;
      here = enters locals l m n a (fill r.moved) Reply.done s d.local_keys on_local;
      there = enters globals g h n b (send 0 2) (Reply.bytes r.moved) t d.global_keys on_global;
    }

-- a Push of both bytes
pub record Pushed (locals globals : Cells) (l m g h : Slots) (n : ℕ) (a b : List Entry) : Type 0 where
  pub bytes : List ℕ
  pub here : Enters locals m n (send 0 2) a (Reply.bytes bytes)
  pub there : Enters globals h n (put 0 bytes) b Reply.done

pub pushed : (locals globals : Cells) (l m g h : Slots) (n size : ℕ) (a b : List Entry) (code : coded.Reply) (told : List ℕ) → Sees locals l n a → Sees globals g n b
    → Served (an_ask.Move 0 (move.Push 0 2)) size locals globals l m g h code [] told → Pushed locals globals l m g h n a b
pushed locals globals l m g h n size a b code told s t d =
    let is : d.question ≡ pushes 0 0 2 = sym (some_so (pushes 0 0 2) d.question d.question_so) in
    let r = subst (λ q. RepliesAs q code told d.answer) is d.replies in
    let on_local : Made locals l m 0 (on_channel (Local 0) (entries (pushes 0 0 2) (Reply.bytes r.moved))) =
    subst (λ x. Made locals l m 0 (on_channel (Local 0) (entries (pushes 0 0 2) x))) r.is_answer (subst (λ q. Made locals l m 0 (on_channel (Local 0) (entries q d.answer))) is (d.local_made 0)) in
    let on_global : Made globals g h 0 (on_channel (Global 0) (entries (pushes 0 0 2) (Reply.bytes r.moved))) =
    subst (λ x. Made globals g h 0 (on_channel (Global 0) (entries (pushes 0 0 2) x))) r.is_answer (subst (λ q. Made globals g h 0 (on_channel (Global 0) (entries q d.answer))) is (d.global_made 0)) in
    record {
      bytes = r.moved;
      here = enters locals l m n a (send 0 2) (Reply.bytes r.moved) s d.local_keys on_local;
      there = enters globals g h n b (put 0 r.moved) Reply.done t d.global_keys on_global;
    }

-- a 9 was written at the front of the replica, and nothing else was done
pub record Written (locals globals : Cells) (l m g h : Slots) (n : ℕ) (a b : List Entry) : Type 0 where
  pub reply : Reply
  pub here : Enters locals m n (write 0 (9 ∷ [])) a reply
  pub there : Sees globals h n b

pub written : (locals globals : Cells) (l m g h : Slots) (n : ℕ) (a b : List Entry) (code : coded.Reply) (told : List ℕ) → Sees locals l n a → Sees globals g n b
    → Served (an_ask.Region (Local 0) (op.Write 0 1)) 0 locals globals l m g h code (9 ∷ []) told → Written locals globals l m g h n a b
written locals globals l m g h n a b code told s t d =
    let o = write 0 (9 ∷ []) in
    let is : d.question ≡ ask (Local 0) (on_region o) = sym (some_so (ask (Local 0) (on_region o)) d.question d.question_so) in
    let one = one_entry (Local 0) o d.answer (subst (λ q. IsTrue (has_form q d.answer)) is d.form) in
    let on_local : Made locals l m 0 ((on_region o, d.answer) ∷ []) =
    subst (λ (es : List channels.Entry). Made locals l m 0 (on_channel (Local 0) es)) one (subst (λ q. Made locals l m 0 (on_channel (Local 0) (entries q d.answer))) is (d.local_made 0)) in
    let on_global : get_elem? h 0 ≡ get_elem? g 0 =
    subst (λ (es : List channels.Entry). Made globals g h 0 (on_channel (Global 0) es)) one (subst (λ q. Made globals g h 0 (on_channel (Global 0) (entries q d.answer))) is (d.global_made 0)) in
    record {
      reply = d.answer;
      here = enters locals l m n a o d.answer s d.local_keys on_local;
      there = stays globals g h n b t d.global_keys on_global;
    }

-- ---- What the operations make of the bytes.

made_one : (n : ℕ) (o : RegionOperation) (s t : Shared) → MakesShared n (spelled o) s t → t.region ≡ region.after s.region n o
made_one n o s t k = k.region.after_so ∙ ap (λ p. region.after s.region n p) (sym (one_spelling o k.region.operation k.region.spelled_so))

content_so : (a b : List ℕ) → Reply.bytes a ≡ Reply.bytes b → a ≡ b
content_so a b e = cc

-- the first Send is of the bytes at the start
pub sent_first : (u : Shared) (bs : List ℕ) (g1 : List Entry) → (a : Answered u 0 (send 0 2) [] g1 (Reply.bytes bs)) → u ≡ record { region = global_value 2 (1 ∷ 2 ∷ []); room = 2 } → a.before ≡ [] → bs ≡ 1 ∷ 2 ∷ []
sent_first u bs g1 a start none =
    let same : u ≡ a.region = subst (λ l. Stands MakesShared u l a.region) none a.leads in
    let bytes : a.region.region.bytes ≡ 1 ∷ 2 ∷ [] = ap (λ (s : Shared). s.region.bytes) (sym same ∙ start) in
    content_so bs (1 ∷ 2 ∷ []) (a.reply_so ∙ ap (λ (l : List ℕ). Reply.bytes (slice_range l 0 (0 + 2))) bytes)

-- the second is of what was written over what was filled
pub sent_second : (s : Shared) (cs : List ℕ) (n1 n2 : List Entry) → (a : Answered s 0 (send 0 2) n1 n2 (Reply.bytes cs)) → s ≡ record { region = replica 2; room = 2 }
    → a.before ≡ entry 0 (spelled (fill (1 ∷ 2 ∷ []))) ∷ entry 1 (spelled (write 0 (9 ∷ []))) ∷ [] → cs ≡ 9 ∷ 2 ∷ []
sent_second s cs n1 n2 a start is =
    let st = subst (λ l. Stands MakesShared s l a.region) is a.leads in
    let one = made_one 0 (fill (1 ∷ 2 ∷ [])) s st.0 st.1 in
    let two = made_one 1 (write 0 (9 ∷ [])) st.0 st.2.0 st.2.1 in
    let begins : s.region ≡ replica 2 = ap (λ (z : Shared). z.region) start in
    let end : a.region.region ≡ region.after (region.after (replica 2) 0 (fill (1 ∷ 2 ∷ []))) 1 (write 0 (9 ∷ [])) =
    ap (λ (z : Shared). z.region) (sym st.2.2) ∙ (two ∙ ap (λ (r : Region). region.after r 1 (write 0 (9 ∷ []))) (one ∙ ap (λ (r : Region). region.after r 0 (fill (1 ∷ 2 ∷ []))) begins)) in
    content_so cs (9 ∷ 2 ∷ []) (a.reply_so ∙ (ap (λ (r : Region). Reply.bytes (slice_range r.bytes 0 (0 + 2))) end ∙ ap (λ l. Reply.bytes l) (front (std.replicate (key_pages 2 * page_size) 0))))
  where
    front : (r : List ℕ) → slice_range (over (over r 0 (1 ∷ 2 ∷ [])) 0 (9 ∷ [])) 0 (0 + 2) ≡ 9 ∷ 2 ∷ []
    front r = refl

-- ---- What a maker is told.

abbrev pub Same : Turns Shared → RegionPass → RegionPass → Type 0
Same t p q = pass_list q ≡ pass_list p

abbrev pub Hears : Slots → Turns Shared → RegionPass → RegionPass → Type 0
Hears from t p q = Extends (pass_number p) (pass_list p) (pass_list q) × ((r : RegionPass) → get_elem? from 0 ≡ some (Some r) → IsPrefix (pass_list r) (pass_list q))

-- who tells has seen what it had seen
pub tells : (cells : Cells) (old new : Slots) (n : ℕ) (l : List Entry) → Sees cells old n l → Goes cells old new 0 Same → Sees cells new n l
tells cells old new n l s g =
    let before : g.before ≡ s.pass = same_in old 0 g.before s.pass g.at_before s.at_pass in
    subst (λ (x : List Entry). Sees cells new n x) (g.so ∙ (ap pass_list before ∙ s.list_so)) (goes cells old new n l Same s g)

-- and who is told has seen that too
pub record Heard (cells : Cells) (new : Slots) (n : ℕ) (l m : List Entry) : Type 0 where
  pub list : List Entry
  pub sees : Sees cells new n list
  pub grows : Extends n l list
  pub told : IsPrefix m list

pub hears : (cells : Cells) (old new from : Slots) (n other : ℕ) (l m : List Entry) → Sees cells old n l → Sees cells from other m → Goes cells old new 0 (Hears from) → Heard cells new n l m
hears cells old new from n other l m s f g =
    let before : g.before ≡ s.pass = same_in old 0 g.before s.pass g.at_before s.at_pass in
    record {
      list = pass_list g.after;
      sees = goes cells old new n l (Hears from) s g;
      grows = subst (λ (x : List Entry). Extends n x (pass_list g.after)) (ap pass_list before ∙ s.list_so) (subst (λ k. Extends k (pass_list g.before) (pass_list g.after)) (ap pass_number before ∙ s.number) g.so.0);
      told = subst (λ (x : List Entry). IsPrefix x (pass_list g.after)) f.list_so (g.so.1 f.pass f.at_pass);
    }

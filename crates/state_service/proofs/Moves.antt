-- What a move made, on each key.
use Rattle.std.proofs.Common.{◌≡◌, ℕ, zero, suc, ◌+◌, ◌-◌, ◌≤◌, Bool, true, false, eq-eqb, List, [], ◌∷◌, length, drop, slice_range, Some, refl, sym, ap, ◌∙◌, subst, arith, length-take, length-drop, length-set, if◌then◌else◌, ◌==◌}
use Rattle.std.proofs.lemmas.Bool.{eqb-true, eqb-false}
use Rattle.std.specs.Prelude.{slice_get, IsTrue}
use Rattle.std.specs.Prelude as std
use mathlib.Core.Option.{some, some-injective, some-ne-none}
use lib.ListN.{get_elem?}
use Rattle.faaslet_meaning.specs.declared.ask.Ask.TheVariants as an_ask
use Rattle.faaslet_meaning.specs.declared.ask.Move.{Move}
use Rattle.faaslet_meaning.specs.declared.ask.Move.TheVariants as move
use Rattle.faaslet_meaning.specs.declared.ask.Reply.TheVariants as a_reply
use Rattle.faaslet_meaning.specs.declared.grant.Channel.TheVariants.{Local, Global}
use Rattle.faaslet_meaning.specs.Asks.{RepliesAs}
use Rattle.faaslet_meaning.specs.Channels.{RegionOperation, on_region, Reply, entries, on_channel, has_form}
use Rattle.faaslet_meaning.specs.Region as region
use Rattle.faaslet_meaning.specs.Region.{Region}
use Rattle.shared_region.specs.Moves.{local_part, global_part, moved, question_of_move, MoveFits}
use Rattle.shared_region.specs.Shared.{Shared}
use Rattle.turn_cell.specs.declared.cell.Turns.{Turns}
use Rattle.turn_cell.specs.Cell.{pass_list, pass_number, start_of}
use Rattle.region_tier.specs.Answered.{Answered}
use Rattle.region_tier.specs.Tiers.{RegionPass, Goes}
use Rattle.region_tier.proofs.Dealing.{at_other}
use Rattle.state_service.specs.Asked.{moved_size}
use Rattle.state_service.specs.May.{Cells, Slots}
use Rattle.state_service.specs.Moving.{moved_length, local_reply, global_reply, OnLocal, OnGlobal, Waited, Moved}
use Rattle.state_service.specs.Served.{Entered, Made, Served, left_by}
use Rattle.state_service.proofs.Turned.{after_at, goes_on, answered_later}

-- ---- The two operations at their places.

pub range_length : (xs : List ℕ) (off len : ℕ) → off + len ≤ length xs → length (slice_range xs off (off + len)) ≡ len
range_length xs off len h = omega (arith, length-take (off + len - off) (drop off xs), length-drop off xs)

pub moved_long : (l g : Region) (kind : Move) (size : ℕ) → l.size ≡ size → g.size ≡ size → size ≤ length l.bytes → size ≤ length g.bytes → MoveFits kind size → length (moved l g kind) ≡ moved_length kind size
moved_long l g move.Fill size a b c d f = range_length g.bytes 0 g.size (omega arith) ∙ b
moved_long l g (move.Pull off len) size a b c d f = range_length g.bytes off len (omega arith)
moved_long l g (move.Push off len) size a b c d f = range_length l.bytes off len (omega arith)

pub local_told : (l g : Region) (m : ℕ) (kind : Move) → local_reply kind (moved l g kind) ≡ region.reply l m (local_part kind (moved l g kind))
local_told l g m move.Fill = refl
local_told l g m (move.Pull off len) = refl
local_told l g m (move.Push off len) = refl

pub global_told : (l g : Region) (m : ℕ) (kind : Move) → global_reply kind (moved l g kind) ≡ region.reply g m (global_part kind g.size (moved l g kind))
global_told l g m move.Fill = refl
global_told l g m (move.Pull off len) = refl
global_told l g m (move.Push off len) = refl

-- ---- What was made on each key.

-- on its own key there is what was done, and on others nothing
pub one_key : (cells : Cells) (old new : Slots) (key k : ℕ) (o : RegionOperation) (r : Reply) (P : Turns Shared → RegionPass → RegionPass → Type 0) (g : Goes cells old new key P)
    → Answered (start_of g.cell) (pass_number g.before) o (pass_list g.before) (pass_list g.after) r → Made cells old new k (if k == key then (on_region o, r) ∷ [] else [])
one_key cells old new key k o r P g answered = by (k == key) refl
  where
    by : (b : Bool) → (k == key) ≡ b → Made cells old new k (if b then (on_region o, r) ∷ [] else [])
    by true e = subst (λ j. Entered cells old new j (on_region o, r)) (sym (eqb-true k key e)) (record {
      cell = g.cell;
      before = g.before;
      after = g.after;
      at_cell = g.at_cell;
      at_before = g.at_before;
      at_after = after_at cells old new key P g;
      sits = g.sits;
      number = g.number;
      makers = g.makers;
      operation = o;
      operation_so = refl;
      answered = answered;
    })
    by false e = ap (λ (l : Slots). get_elem? l k) g.put ∙ at_other old key k (Some g.after) (eqb-false k key e)

pub keys_stay : (cells : Cells) (old new : Slots) (key : ℕ) (P : Turns Shared → RegionPass → RegionPass → Type 0) → Goes cells old new key P → length new ≡ length old
keys_stay cells old new key P g = ap length g.put ∙ length-set old key (Some g.after)

local_ops : (k key size : ℕ) (kind : Move) (bs : List ℕ) → (if k == key then (on_region (local_part kind bs), local_reply kind bs) ∷ [] else []) ≡ on_channel (Local k) (entries (question_of_move key size kind) (Reply.bytes bs))
local_ops k key size move.Fill bs = refl
local_ops k key size (move.Pull off len) bs = refl
local_ops k key size (move.Push off len) bs = refl

global_ops : (k key size : ℕ) (kind : Move) (bs : List ℕ) → (if k == key then (on_region (global_part kind size bs), global_reply kind bs) ∷ [] else []) ≡ on_channel (Global k) (entries (question_of_move key size kind) (Reply.bytes bs))
global_ops k key size move.Fill bs = refl
global_ops k key size (move.Pull off len) bs = refl
global_ops k key size (move.Push off len) bs = refl

-- ---- The answer to a move.

formed : (key size : ℕ) (kind : Move) (bs : List ℕ) → length bs ≡ moved_length kind size → IsTrue (has_form (question_of_move key size kind) (Reply.bytes bs))
formed key size move.Fill bs h = eq-eqb (length bs) size h
formed key size (move.Pull off len) bs h = eq-eqb (length bs) len h
formed key size (move.Push off len) bs h = eq-eqb (length bs) len h

replied : (key size : ℕ) (kind : Move) (bs told : List ℕ) → length bs ≡ moved_length kind size → RepliesAs (question_of_move key size kind) a_reply.Done told (Reply.bytes bs)
replied key size move.Fill bs told h = record { is_done = refl; moved = bs; is_long = h; is_answer = refl }
replied key size (move.Pull off len) bs told h = record { is_done = refl; moved = bs; is_long = h; is_answer = refl }
replied key size (move.Push off len) bs told h = record { is_done = refl; moved = bs; is_long = h; is_answer = refl }

untouched : (key size : ℕ) (kind : Move) (bs scratch : List ℕ) → scratch ≡ left_by (question_of_move key size kind) (Reply.bytes bs) scratch
untouched key size move.Fill bs scratch = refl
untouched key size (move.Pull off len) bs scratch = refl
untouched key size (move.Push off len) bs scratch = refl

got : {A : Type 0} (xs : List A) (k : ℕ) (a : A) → get_elem? xs k ≡ some a → slice_get xs k ≡ Some a
got [] k a e = absurd (some-ne-none a (sym e))
got (x ∷ xs) zero a e = ap Some (some-injective x a e)
got (x ∷ xs) (suc k) a e = got xs k a e

served_at : (locals globals : Cells) (l m g h : Slots) (key size : ℕ) (kind : Move) (scratch : List ℕ) (d : Moved locals globals l m g h key kind) → size ≡ d.size → Served (an_ask.Move key kind) size locals globals l m g h a_reply.Done scratch scratch
served_at locals globals l m g h key size kind scratch d same =
    let long : length d.bytes ≡ moved_length kind size = subst (λ n. length d.bytes ≡ moved_length kind n) (sym same) d.on_local.so.1 in
    record {
      question = question_of_move key size kind;
      question_so = refl;
      answer = Reply.bytes d.bytes;
      form = formed key size kind d.bytes long;
      replies = replied key size kind d.bytes scratch long;
      told_so = untouched key size kind d.bytes scratch;
      local_keys = keys_stay locals l m key (OnLocal d.size kind d.bytes) d.on_local;
      global_keys = keys_stay globals g h key (OnGlobal d.size kind d.bytes) d.on_global;
      local_made = λ k. subst (Made locals l m k) (local_ops k key size kind d.bytes) (one_key locals l m key k (local_part kind d.bytes) (local_reply kind d.bytes) (OnLocal d.size kind d.bytes) d.on_local d.on_local.so.2);
      global_made = λ k. subst (Made globals g h k) (global_ops k key size kind d.bytes)
          (one_key globals g h key k (global_part kind size d.bytes) (global_reply kind d.bytes) (OnGlobal d.size kind d.bytes) d.on_global
          (subst (λ n. Answered (start_of d.on_global.cell) (pass_number d.on_global.before) (global_part kind n d.bytes) (pass_list d.on_global.before) (pass_list d.on_global.after) (global_reply kind d.bytes)) (sym same) d.on_global.so));
    }

pub moved_served : (locals globals : Cells) (l m g h : Slots) (key : ℕ) (kind : Move) (scratch : List ℕ) → Moved locals globals l m g h key kind → Served (an_ask.Move key kind) (moved_size locals (an_ask.Move key kind)) locals globals l m g h a_reply.Done scratch scratch
moved_served locals globals l m g h key kind scratch d =
    served_at locals globals l m g h key (moved_size locals (an_ask.Move key kind)) kind scratch d
    (ap (λ (o : std.Option (Turns Shared)). elim o [ Some t ↦ (start_of t).region.size | std.None ↦ 0 ]) (got locals key d.on_local.cell d.on_local.at_cell) ∙ sym d.on_local.so.0)

-- a move that was made after turns that made nothing
pub moved_later : (locals globals : Cells) (l m n g h i : Slots) (key : ℕ) (kind : Move) → Waited locals l m key → Waited globals g h key → Moved locals globals m n h i key kind → Moved locals globals l n g i key kind
moved_later locals globals l m n g h i key kind wl wg d = record {
  size = d.size;
  bytes = d.bytes;
  on_local = goes_on locals l m n key (OnLocal d.size kind d.bytes) (OnLocal d.size kind d.bytes) wl d.on_local (λ t p q r same x y. (
    y.0,
    y.1,
    answered_later (start_of t) (pass_number q) (pass_number p) (local_part kind d.bytes) (local_reply kind d.bytes) (pass_list p) (pass_list q) (pass_list r) same x y.2,
  ));
  on_global = goes_on globals g h i key (OnGlobal d.size kind d.bytes) (OnGlobal d.size kind d.bytes) wg d.on_global (λ t p q r same x y.
      answered_later (start_of t) (pass_number q) (pass_number p) (global_part kind d.size d.bytes) (global_reply kind d.bytes) (pass_list p) (pass_list q) (pass_list r) same x y);
}

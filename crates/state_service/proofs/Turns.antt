-- The turns of both regions of a key: the regions have one size, and the move that was made in them.
use Rattle.std.proofs.Common.{◌≡◌, ℕ, ◌≤◌, List, [], ◌∷◌, length, Some, None, sym, ap, ◌∙◌, subst}
use mathlib.Core.Option.{some}
use lib.ListN.{get_elem?}
use Rattle.faaslet_meaning.specs.declared.ask.Move.{Move}
use Rattle.faaslet_meaning.specs.Region as region
use Rattle.faaslet_meaning.specs.Region.{Region}
use Rattle.faaslet_meaning.specs.Spelling.{spelled}
use Rattle.shared_region.specs.Moves.{local_part, global_part, moved, MoveFits}
use Rattle.shared_region.specs.Shared.{Shared}
use Rattle.turn_cell.specs.declared.cell.Turns.{Turns}
use Rattle.turn_cell.specs.Cell.{IsTurnOf, pass_list, pass_number, turn_list, maker_of, taken_of, value_of, start_of, numbers_of}
use Rattle.turn_cell.specs.History.{entry}
use Rattle.turn_cell.proofs.Frames.{there}
use Rattle.region_tier.specs.declared.cells.Tier.{Tier}
use Rattle.region_tier.specs.Answered.{Answered}
use Rattle.region_tier.specs.Tiers.{RegionHeld, IsOut, Took, Gave, cells_of}
use Rattle.region_tier.proofs.At.{same_at, opened_at}
use Rattle.region_tier.proofs.Dealing.{at_put}
use Rattle.region_tier.proofs.Sound.{Long, sound_all, sound_start}
use Rattle.state_service.specs.May.{Cells, Slots, MayMove}
use Rattle.state_service.specs.Moving.{local_reply, global_reply, moved_length, OnLocal, OnGlobal, Moved}
use Rattle.state_service.proofs.Moves.{moved_long, local_told, global_told}
use Rattle.state_service.proofs.Turned.{went, enters}

-- the slot of a key whose turn was taken
pub out_at : (cells : Cells) (old new : Slots) (key : ℕ) (held : RegionHeld) → Took cells old new key held → get_elem? new key ≡ some None
out_at cells old new key held t = ap (λ (l : Slots). get_elem? l key) t.out ∙ at_put old key None (there old key (Some t.pass) t.at_pass)

pub is_out : (cells : Cells) (old new now : Slots) (key : ℕ) (held ended : RegionHeld) → Took cells old new key held → now ≡ new → ((t : Turns Shared) → IsTurnOf held t → IsTurnOf ended t) → IsOut cells now key ended
is_out cells old new now key held ended t same sits = record { cell = t.cell; at_cell = t.at_cell; out = ap (λ (l : Slots). get_elem? l key) same ∙ out_at cells old new key held t; sits = sits t.cell t.sits }

-- the region still has the size and the bytes with which it began
turn_long : (tier : Tier) (old new : Slots) (key : ℕ) (held : RegionHeld) (t : Took (cells_of tier) old new key held) → Long (length (start_of t.cell).region.bytes) (start_of t.cell).region.size (value_of held).region
turn_long tier old new key held t =
    let free = opened_at tier key t.cell t.at_cell in
    (sound_all (start_of t.cell) (start_of t.cell) (value_of held) (numbers_of t.cell) (turn_list held) free.whole t.makers (sound_start (start_of t.cell) (numbers_of t.cell) free) t.stands).long

whole_start : (tier : Tier) (key : ℕ) (t : Turns Shared) → get_elem? (cells_of tier) key ≡ some t → (start_of t).region.size ≤ length (start_of t).region.bytes
whole_start tier key t e = (opened_at tier key t e).whole

pub record Sized (size : ℕ) (l g : Region) (kind : Move) : Type 0 where
  pub local_size : l.size ≡ size
  pub global_size : g.size ≡ size
  pub local_long : size ≤ length l.bytes
  pub global_long : size ≤ length g.bytes
  pub fits : MoveFits kind size

pub sized : (locals globals : Tier) (l m g h : Slots) (key : ℕ) (kind : Move) (local global : RegionHeld) → MayMove (cells_of locals) (cells_of globals) l g key kind → (t : Took (cells_of locals) l m key local) → Took (cells_of globals) g h key global
    → Sized (start_of t.cell).region.size (value_of local).region (value_of global).region kind
sized locals globals l m g h key kind local global may t u =
    let same_local : may.cell ≡ t.cell = same_at (cells_of locals) key may.cell t.cell may.at_cell t.at_cell in
    let same_global : may.so.cell ≡ u.cell = same_at (cells_of globals) key may.so.cell u.cell may.so.at_cell u.at_cell in
    let size = λ (x : Turns Shared). (start_of x).region.size in
    let one : size u.cell ≡ size t.cell = ap size (sym same_global) ∙ (sym may.so.so.1 ∙ ap size same_local) in
    let a = turn_long locals l m key local t in
    let b = turn_long globals g h key global u in
    let c = whole_start locals key t.cell t.at_cell in
    let d = whole_start globals key u.cell u.at_cell in
    record {
      local_size = a.1;
      global_size = b.1 ∙ one;
      local_long = subst (λ n. size t.cell ≤ n) (sym a.0) c;
      global_long = subst (λ n. n ≤ length (value_of global).region.bytes) one (subst (λ n. size u.cell ≤ n) (sym b.0) d);
      fits = subst (λ (x : Turns Shared). MoveFits kind (size x)) same_local may.so.so.2;
    }

-- both turns ended with the entries of the move
pub move_made : (locals globals : Tier) (l m n g h i : Slots) (key : ℕ) (kind : Move) (local local_end global global_end : RegionHeld)
    → MayMove (cells_of locals) (cells_of globals) l g key kind → Took (cells_of locals) l m key local → Took (cells_of globals) g h key global → local_end.turn ≡ local.turn → global_end.turn ≡ global.turn
    → Gave (cells_of locals) m n key local_end (entry (maker_of local_end) (spelled (local_part kind (moved (taken_of local_end).region (taken_of global_end).region kind))) ∷ [])
    → Gave (cells_of globals) h i key global_end (entry (maker_of global_end) (spelled (global_part kind (taken_of global_end).region.size (moved (taken_of local_end).region (taken_of global_end).region kind))) ∷ [])
    → Moved (cells_of locals) (cells_of globals) l n g i key kind
move_made locals globals l m n g h i key kind local local_end global global_end may t u local_same global_same gave_local gave_global =
    let size : ℕ = (start_of t.cell).region.size in
    let lr : Region = (taken_of local_end).region in
    let gr : Region = (taken_of global_end).region in
    let bytes : List ℕ = moved lr gr kind in
    let local_value : taken_of local_end ≡ value_of local = ap (λ x. x.taken.value) local_same ∙ t.taken in
    let global_value : taken_of global_end ≡ value_of global = ap (λ x. x.taken.value) global_same ∙ u.taken in
    let z = sized locals globals l m g h key kind local global may t u in
    let long : length bytes ≡ moved_length kind size = moved_long lr gr kind size (ap (λ (s : Shared). s.region.size) local_value ∙ z.local_size) (ap (λ (s : Shared). s.region.size) global_value ∙ z.global_size)
    (subst (λ (s : Shared). size ≤ length s.region.bytes) (sym local_value) z.local_long) (subst (λ (s : Shared). size ≤ length s.region.bytes) (sym global_value) z.global_long) z.fits in
    let size_so : gr.size ≡ size = ap (λ (s : Shared). s.region.size) global_value ∙ z.global_size in
    record {
      size = size;
      bytes = bytes;
      on_local = went (cells_of locals) l m n key local local_end (entry (maker_of local_end) (spelled (local_part kind bytes)) ∷ []) (OnLocal size kind bytes) t gave_local (ap (λ x. x.number) local_same) (ap (λ x. x.seat.me.0.seen) local_same)
          (λ v p q at_cell at_pass maker list others stands. (
            ap (λ (x : Turns Shared). (start_of x).region.size) (same_at (cells_of locals) key t.cell v t.at_cell at_cell),
            long,
            enters (start_of v) (pass_number p) (maker_of local_end) (local_part kind bytes) (local_reply kind bytes) (pass_list p) (turn_list local) (pass_list q) (value_of local) (ap (λ x. x.number) local_same ∙ maker) list others stands
                (local_told lr gr (maker_of local_end) kind ∙ ap (λ (s : Shared). region.reply s.region (maker_of local_end) (local_part kind bytes)) local_value),
          ));
      on_global = went (cells_of globals) g h i key global global_end (entry (maker_of global_end) (spelled (global_part kind gr.size bytes)) ∷ []) (OnGlobal size kind bytes) u gave_global (ap (λ x. x.number) global_same) (ap (λ x. x.seat.me.0.seen) global_same)
          (λ v p q at_cell at_pass maker list others stands.
          subst (λ k. Answered (start_of v) (pass_number p) (global_part kind k bytes) (pass_list p) (pass_list q) (global_reply kind bytes)) size_so
          (enters (start_of v) (pass_number p) (maker_of global_end) (global_part kind gr.size bytes) (global_reply kind bytes) (pass_list p) (turn_list global) (pass_list q) (value_of global) (ap (λ x. x.number) global_same ∙ maker) list others stands
          (global_told lr gr (maker_of global_end) kind ∙ ap (λ (s : Shared). region.reply s.region (maker_of global_end) (global_part kind gr.size bytes)) global_value)));
    }

-- The first maker is told what the second has seen.
use Rattle.std.proofs.Common.{◌≡◌, ◌≢◌, ℕ, zero, suc, ◌+◌, ◌<◌, ◌≤◌, Bool, true, false, List, [], ◌∷◌, ◌++◌, length, set, take, drop, Some, None, refl, sym, ap, ◌∙◌, subst, arith}
use Rattle.std.proofs.Common as std
use Rattle.std.specs.Prelude.{slice_index_or, slice_range}
use Rattle.std.specs.List.{All}
use mathlib.Core.List.{IsPrefix}
use mathlib.Core.Option.{some, some-injective, some-ne-none}
use lib.ListN.{get_elem?}
use Rattle.faaslet_meaning.specs.declared.ask.Reply as coded
use Rattle.faaslet_meaning.specs.Channels.{Reply}
use Rattle.faaslet_meaning.specs.Channels.RegionOperation.{read, write}
use Rattle.faaslet_meaning.specs.Region.{global_value}
use Rattle.faaslet_meaning.specs.Spelling.{spelled}
use Rattle.shared_region.specs.Entries.{MakesShared}
use Rattle.shared_region.specs.Operations.{laid}
use Rattle.shared_region.specs.Shared.{Shared}
use Rattle.shared_region.specs.contracts.kept.RegionKept.TheImpl.{ghosts}
use Rattle.turn_cell.specs.declared.cell.Turns.{Turns}
use Rattle.turn_cell.specs.declared.cell.Note.{Note}
use Rattle.turn_cell.specs.declared.view.Entry.{Entry}
use Rattle.turn_cell.specs.Cell.{IsPassOf, IsNoteOf, note_list, pass_list, pass_number, start_of, numbers_of}
use Rattle.turn_cell.specs.History.{own, entry, Stands, Extends, MakersBelow, Each}
use Rattle.turn_cell.proofs.Frames.{there}
use Rattle.turn_cell.proofs.Places.{get_there}
use Rattle.turn_cell.proofs.Own.{own_adds, own_extends, own_others}
use Rattle.region_tier.specs.declared.cells.Passes.{Passes}
use Rattle.region_tier.specs.Answered.{Answered, Told}
use Rattle.region_tier.specs.Tiers.{RegionPass, AreGlobals, AreFreshRows, AreRows, IsFreshRow, IsRow, HasPass, Goes, slots_of}
use Rattle.region_tier.proofs.At.{same_at, same_in}
use Rattle.region_tier.proofs.Dealing.{at_put}
use Rattle.region_tier_tests.specs.Rows.{BeginsWith, IsOneByte}
use Rattle.region_tier_tests.proofs.Orders.{both_seen}
use Rattle.region_tier_tests.proofs.Pairs.{below_front, all_first}

abbrev Slots : Type 0
Slots = List (std.Option RegionPass)

-- a fresh pass is ready
pub fresh_ready : (cells : List (Turns Shared)) (slots : Slots) (n key : ℕ) (t : Turns Shared) (P : Turns Shared → RegionPass → Type 0) → IsFreshRow cells slots n → get_elem? cells key ≡ some t → n < numbers_of t → ((p : RegionPass) → P t p) → HasPass cells slots key P
fresh_ready cells slots n key t P f at low so =
    let o = f.1 key t at in
    record { cell = t; pass = o.0; at_cell = at; at_pass = o.1; sits = o.2; low = subst (λ m. m < numbers_of t) (sym o.3) low; so = so o.0 }

pub after_at : (cells : List (Turns Shared)) (old new : Slots) (key : ℕ) (P : Turns Shared → RegionPass → RegionPass → Type 0) (g : Goes cells old new key P) → get_elem? new key ≡ some (Some g.after)
after_at cells old new key P g = ap (λ (l : Slots). get_elem? l key) g.put ∙ at_put old key (Some g.after) (there old key (Some g.before) g.at_before)

-- a pass that came back is ready again
pub ready_again : (cells : List (Turns Shared)) (old new : Slots) (key : ℕ) (P : Turns Shared → RegionPass → RegionPass → Type 0) (Q R : Turns Shared → RegionPass → Type 0) (g : Goes cells old new key P) → HasPass cells old key Q → R g.cell g.after → HasPass cells new key R
ready_again cells old new key P Q R g h so =
    let cell : h.cell ≡ g.cell = same_at cells key h.cell g.cell h.at_cell g.at_cell in
    let number : pass_number h.pass ≡ pass_number g.after = ap pass_number (same_in old key h.pass g.before h.at_pass g.at_before) ∙ sym g.number in
    record {
      cell = g.cell;
      pass = g.after;
      at_cell = g.at_cell;
      at_pass = after_at cells old new key P g;
      sits = g.sits;
      low = subst (λ (t : Turns Shared). pass_number g.after < numbers_of t) cell (subst (λ n. n < numbers_of h.cell) number h.low);
      so = so;
    }

abbrev Wrote : coded.Reply → List ℕ → List ℕ → Turns Shared → RegionPass → RegionPass → Type 0
Wrote code x y t p q = Told (start_of t) (pass_number p) (write 0 (7 ∷ [])) (pass_list p) (pass_list q) code x y

abbrev Red : coded.Reply → List ℕ → List ℕ → Turns Shared → RegionPass → RegionPass → Type 0
Red code x y t p q = Told (start_of t) (pass_number p) (read 0 1) (pass_list p) (pass_list q) code x y

abbrev Noted : Note Shared ghosts → Turns Shared → RegionPass → RegionPass → Type 0
Noted note t p q = (pass_list q ≡ pass_list p) × IsNoteOf note t × (note_list note ≡ pass_list p)

abbrev Joined : Note Shared ghosts → Turns Shared → RegionPass → RegionPass → Type 0
Joined note t p q = IsPrefix (note_list note) (pass_list q) × Extends (pass_number p) (pass_list p) (pass_list q)

-- a read of the start gives a 0
read_start : (y z : List ℕ) (start region : Shared) → start ≡ record { region = global_value 1 []; room = 2 } → start ≡ region → z ≡ laid (Reply.bytes (slice_range region.region.bytes 0 (0 + 1))) y → slice_index_or z 0 0 ≡ 7 → ⊥
read_start y z start region is same laid_so seven =
    let bytes : region.region.bytes ≡ 0 ∷ [] = ap (λ (s : Shared). s.region.bytes) (sym same ∙ is) in
    let e : slice_index_or (laid (Reply.bytes (slice_range (0 ∷ []) 0 (0 + 1))) y) 0 0 ≡ 7 = subst (λ (bs : List ℕ). slice_index_or (laid (Reply.bytes (slice_range bs 0 (0 + 1))) y) 0 0 ≡ 7) bytes (ap (λ (l : List ℕ). slice_index_or l 0 0) (sym laid_so) ∙ seven) in
    let f : 0 ≡ 7 = e in
    cc

pub seen_both : (cells : List (Turns Shared)) (f0 f1 f2 s0 s1 s2 : Slots) (note : Note Shared ghosts) (code1 code2 : coded.Reply) (x y z : List ℕ) → IsOneByte cells → IsFreshRow cells f0 0 → IsFreshRow cells s0 1
    → Goes cells f0 f1 0 (Wrote code1 x y) → Goes cells s0 s1 0 (Red code2 y z) → Goes cells s1 s2 0 (Noted note) → Goes cells f1 f2 0 (Joined note) → slice_index_or z 0 0 ≡ 7
    → BeginsWith f2 0 (entry 0 (spelled (write 0 (7 ∷ []))) ∷ entry 1 (spelled (read 0 1)) ∷ [])
seen_both cells f0 f1 f2 s0 s1 s2 note code1 code2 x y z one fresh0 fresh1 a b n j seven =
    let t = one.0 in
    let w = entry 0 (spelled (write 0 (7 ∷ []))) in
    let r = entry 1 (spelled (read 0 1)) in
    let p0 = fresh0.1 0 t one.1 in
    let p1 = fresh1.1 0 t one.1 in
    let first : a.before ≡ p0.0 = same_in f0 0 a.before p0.0 a.at_before p0.1 in
    let second : b.before ≡ p1.0 = same_in s0 0 b.before p1.0 b.at_before p1.1 in
    let number0 : pass_number a.before ≡ 0 = ap pass_number first ∙ p0.3 in
    let number1 : pass_number b.before ≡ 1 = ap pass_number second ∙ p1.3 in
    let list0 : pass_list a.before ≡ [] = ap pass_list first ∙ p0.4 in
    let list1 : pass_list b.before ≡ [] = ap pass_list second ∙ p1.4 in
    let ma = a.so.answered in
    let mb = b.so.answered in
    let mine : pass_list a.after ≡ ma.before ++ w ∷ [] = subst (λ k. pass_list a.after ≡ ma.before ++ entry k (spelled (write 0 (7 ∷ []))) ∷ []) number0 ma.entered in
    let theirs : pass_list b.after ≡ mb.before ++ r ∷ [] = subst (λ k. pass_list b.after ≡ mb.before ++ entry k (spelled (read 0 1)) ∷ []) number1 mb.entered in
    let others0 : Extends 0 [] ma.before = subst (λ l. Extends 0 l ma.before) list0 (subst (λ k. Extends k (pass_list a.before) ma.before) number0 ma.others) in
    let others1 : Extends 1 [] mb.before = subst (λ l. Extends 1 l mb.before) list1 (subst (λ k. Extends k (pass_list b.before) mb.before) number1 mb.others) in
    let own_mine : own 0 (pass_list a.after) ≡ w ∷ [] = ap (own 0) mine ∙ (own_adds 0 (spelled (write 0 (7 ∷ []))) ma.before ∙ ap (λ l. l ++ w ∷ []) (own_extends 0 [] ma.before others0)) in
    let middle : j.before ≡ a.after = same_in f1 0 j.before a.after j.at_before (after_at cells f0 f1 0 (Wrote code1 x y) a) in
    let noted : n.before ≡ b.after = same_in s1 0 n.before b.after n.at_before (after_at cells s0 s1 0 (Red code2 y z) b) in
    let pre : IsPrefix (pass_list b.after) (pass_list j.after) = subst (λ l. IsPrefix l (pass_list j.after)) (n.so.2 ∙ ap pass_list noted) j.so.0 in
    let number : pass_number j.before ≡ 0 = ap pass_number middle ∙ (a.number ∙ number0) in
    let grows : Extends 0 (pass_list a.after) (pass_list j.after) = subst (λ (p : RegionPass). Extends 0 (pass_list p) (pass_list j.after)) middle (subst (λ k. Extends k (pass_list j.before) (pass_list j.after)) number j.so.1) in
    let same_cell : b.cell ≡ t = same_at cells 0 b.cell t b.at_cell one.1 in
    let two : numbers_of b.cell ≡ 2 = ap numbers_of same_cell ∙ one.3 in
    let low : MakersBelow 2 mb.before = below_front 2 mb.before (r ∷ []) (subst (MakersBelow 2) theirs (subst (λ k. MakersBelow k (pass_list b.after)) two b.makers)) in
    let own_before : own 0 mb.before ≡ mb.before = all_first mb.before low (subst (All (λ e. e.maker ≢ 1)) others1.1 others1.2) in
    let some_before : mb.before ≡ [] → ⊥ = λ e. read_start y z (start_of b.cell) mb.region (ap start_of same_cell ∙ one.2) (subst (λ l. Stands MakesShared (start_of b.cell) l mb.region) e mb.leads)
    (b.so.laid_so ∙ ap (λ (q : Reply). laid q y) mb.reply_so) seven in
    (j.after, after_at cells f1 f2 0 (Joined note) j, both_seen w r mb.before (pass_list a.after) (pass_list b.after) (pass_list j.after) refl own_mine grows theirs own_before some_before pre)

pub fresh_row : (cells : List (Turns Shared)) (slots : Slots) (n : ℕ) → IsFreshRow cells slots n → IsRow cells slots n
fresh_row cells slots n f = (f.0, λ k t e. let o = f.1 k t e in (o.0, o.1, o.2, o.3))

-- what is so of each of two rows
pub of_two : (rows : List Passes) (x y : Passes) (P : ℕ → Passes → Type 0) → rows ≡ x ∷ y ∷ [] → Each rows P → P 0 x × P 1 y
of_two rows x y P e all = let f = subst (λ l. Each l P) e all in (f 0 x refl, f 1 y refl)

pub two_of : (rows : List Passes) (x y : Passes) (P : ℕ → Passes → Type 0) → rows ≡ x ∷ y ∷ [] → P 0 x → P 1 y → Each rows P
two_of rows x y P e p q = subst (λ l. Each l P) (sym e) each
  where
    each : Each (x ∷ y ∷ []) P
    each zero z at = subst (P 0) (some-injective x z at) p
    each (suc zero) z at = subst (P 1) (some-injective y z at) q
    each (suc (suc k)) z at = absurd (some-ne-none z (sym at))

-- ---- The tier as it is opened, and its rows.

pub one_byte : (cells : List (Turns Shared)) (init : List ℕ) → init ≡ [] → length cells ≡ 1 → AreGlobals ((1, init) ∷ []) 2 cells → IsOneByte cells
one_byte cells init none one all =
    let t = get_there cells 0 (omega (arith, one)) in
    let o = all 0 t.0 t.1 in
    let v : ℕ × List ℕ = (1, init) in
    let same : v ≡ o.0 = some-injective v o.0 o.1 in
    let start : ℕ × List ℕ → Shared = λ n. record { region = global_value n.0 n.1; room = 2 } in
    let begins : start_of t.0 ≡ start o.0 = o.2 in
    let empty : start v ≡ start (1, []) = ap (λ (l : List ℕ). start (1, l)) none in
    (t.0, t.1, begins ∙ (ap start (sym same) ∙ empty), o.3)

pub fresh_two : (cells : List (Turns Shared)) (rows : List Passes) (x y : Passes) → rows ≡ x ∷ y ∷ [] → AreFreshRows cells 2 rows → IsFreshRow cells (slots_of x) 0 × IsFreshRow cells (slots_of y) 1
fresh_two cells rows x y e f = of_two rows x y (λ i r. IsFreshRow cells (slots_of r) i) e f.1

pub rows_two : (cells : List (Turns Shared)) (rows : List Passes) (x y : Passes) (n : ℕ) → n ≡ 2 → rows ≡ x ∷ y ∷ [] → IsRow cells (slots_of x) 0 → IsRow cells (slots_of y) 1 → AreRows cells n rows
rows_two cells rows x y n two e a b = (ap length e ∙ sym two, two_of rows x y (λ i r. IsRow cells (slots_of r) i) e a b)

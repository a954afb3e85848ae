-- A tier of one key, and what the passes of two makers see of it.
use Rattle.std.proofs.Common.{◌≡◌, ℕ, zero, suc, ◌<◌, ◌≤◌, List, [], ◌∷◌, ◌++◌, length, Some, refl, sym, ap, ◌∙◌, subst, arith, length-set, length-append}
use mathlib.Core.Option.{some, some-injective, some-ne-none}
use lib.ListN.{get_elem?}
use Rattle.faaslet_meaning.specs.Channels.{RegionOperation, Operation, Reply, on_region}
use Rattle.faaslet_meaning.specs.Region.{Region, replica, global_value}
use Rattle.shared_region.specs.Entries.{MakesShared}
use Rattle.shared_region.specs.Shared.{Shared}
use Rattle.turn_cell.specs.declared.cell.Seen.{Seen}
use Rattle.turn_cell.specs.declared.cell.Turns.{Turns}
use Rattle.turn_cell.specs.declared.view.Entry.{Entry}
use Rattle.turn_cell.specs.Cell.{IsPassOf, pass_list, pass_number, start_of, numbers_of, whole_list}
use Rattle.turn_cell.specs.History.{Each, MakersBelow, Stands}
use Rattle.turn_cell.proofs.Frames.{there}
use Rattle.turn_cell.proofs.Places.{get_there}
use Rattle.region_tier.specs.Answered.{Answered}
use Rattle.region_tier.specs.Tiers.{RegionPass, AreReplicas, AreGlobals, IsFreshRow, IsRow, HasPass, Goes, AreClosed, IsClosed, slots_of}
use Rattle.region_tier.specs.declared.cells.Passes.{Passes}
use Rattle.region_tier.proofs.At.{same_at, same_in}
use Rattle.region_tier.proofs.Dealing.{at_put}
use Rattle.state_service.specs.May.{Cells, Slots}
use Rattle.state_service.specs.Served.{Entered, Made}
use Rattle.state_service_tests.specs.Makers.{IsOneKey, Sees, Keeps, Closes}

-- ---- As it is opened.

pub one_replica : (cells : Cells) (size : ℕ) → length cells ≡ 1 → AreReplicas (size ∷ []) 2 cells → IsOneKey cells (replica size)
one_replica cells size one all =
    let t = get_there cells 0 (omega (arith, one)) in
    let o = all 0 t.0 t.1 in
    let same : size ≡ o.0 = some-injective size o.0 o.1 in
    let start : ℕ → Shared = λ n. record { region = replica n; room = 2 } in
    let begins : start_of t.0 ≡ start o.0 = o.2 in
    record { cell = t.0; at_cell = t.1; one = one; start_so = begins ∙ ap start (sym same); numbers_so = o.3 }

pub one_global : (cells : Cells) (init : List ℕ) → init ≡ 1 ∷ 2 ∷ [] → length cells ≡ 1 → AreGlobals ((2, init) ∷ []) 2 cells → IsOneKey cells (global_value 2 (1 ∷ 2 ∷ []))
one_global cells init is one all =
    let t = get_there cells 0 (omega (arith, one)) in
    let o = all 0 t.0 t.1 in
    let v : ℕ × List ℕ = (2, init) in
    let same : v ≡ o.0 = some-injective v o.0 o.1 in
    let start : ℕ × List ℕ → Shared = λ n. record { region = global_value n.0 n.1; room = 2 } in
    let begins : start_of t.0 ≡ start o.0 = o.2 in
    let known : start v ≡ start (2, 1 ∷ 2 ∷ []) = ap (λ (l : List ℕ). start (2, l)) is in
    record { cell = t.0; at_cell = t.1; one = one; start_so = begins ∙ (ap start (sym same) ∙ known); numbers_so = o.3 }

pub fits_two : (init : List ℕ) → init ≡ 1 ∷ 2 ∷ [] → Each {X = ℕ × List ℕ} ((2, init) ∷ []) (λ k v. length v.1 ≤ v.0)
fits_two init is zero v e =
    let w : ℕ × List ℕ = (2, init) in
    let same : w ≡ v = some-injective w v e in
    let n = ap length is in
    let small : length init ≤ 2 = omega (arith, n) in
    subst (λ (z : ℕ × List ℕ). length z.1 ≤ z.0) same small
fits_two init is (suc k) v e = absurd (some-ne-none v (sym e))

pub sees_nothing : (cells : Cells) (slots : Slots) (start : Region) (n : ℕ) → IsOneKey cells start → IsFreshRow cells slots n → Sees cells slots n []
sees_nothing cells slots start n k f =
    let o = f.1 0 k.cell k.at_cell in
    record { cell = k.cell; pass = o.0; at_cell = k.at_cell; keys = f.0 ∙ k.one; at_pass = o.1; sits = o.2; number = o.3; list_so = o.4 }

-- ---- What a maker sees.

pub has : (cells : Cells) (slots : Slots) (start : Region) (n : ℕ) (l : List Entry) (P : Turns Shared → RegionPass → Type 0) → IsOneKey cells start → Sees cells slots n l → n < 2
    → ((t : Turns Shared) (p : RegionPass) → start_of t ≡ record { region = start; room = 2 } → pass_number p ≡ n → pass_list p ≡ l → P t p) → HasPass cells slots 0 P
has cells slots start n l P k s low so =
    let same : k.cell ≡ s.cell = same_at cells 0 k.cell s.cell k.at_cell s.at_cell in
    let numbers : numbers_of s.cell ≡ 2 = ap numbers_of (sym same) ∙ k.numbers_so in
    let number = s.number in
    record {
      cell = s.cell;
      pass = s.pass;
      at_cell = s.at_cell;
      at_pass = s.at_pass;
      sits = s.sits;
      low = omega (arith, numbers, number, low);
      so = so s.cell s.pass (ap start_of (sym same) ∙ k.start_so) s.number s.list_so;
    }

pub row_of : (cells : Cells) (slots : Slots) (n : ℕ) (l : List Entry) → length cells ≡ 1 → Sees cells slots n l → IsRow cells slots n
row_of cells slots n l one s = (
  s.keys ∙ sym one,
  λ k t e.
      let low = there cells k t e in
      let first : 0 ≡ k = omega (arith, low, one) in
      let same : s.cell ≡ t = same_at cells 0 s.cell t s.at_cell (subst (λ j. get_elem? cells j ≡ some t) (sym first) e) in
      (s.pass, subst (λ j. get_elem? slots j ≡ some (Some s.pass)) first s.at_pass, subst (λ (u : Turns Shared). IsPassOf s.pass u) same s.sits, s.number),
)

-- ---- What it sees after a call.

pub stays : (cells : Cells) (old new : Slots) (n : ℕ) (l : List Entry) → Sees cells old n l → length new ≡ length old → get_elem? new 0 ≡ get_elem? old 0 → Sees cells new n l
stays cells old new n l s long same = record { cell = s.cell; pass = s.pass; at_cell = s.at_cell; keys = long ∙ s.keys; at_pass = same ∙ s.at_pass; sits = s.sits; number = s.number; list_so = s.list_so }

-- the pass has changed, and what is so of it
pub goes : (cells : Cells) (old new : Slots) (n : ℕ) (l : List Entry) (P : Turns Shared → RegionPass → RegionPass → Type 0) → Sees cells old n l → (g : Goes cells old new 0 P) → Sees cells new n (pass_list g.after)
goes cells old new n l P s g =
    let before : g.before ≡ s.pass = same_in old 0 g.before s.pass g.at_before s.at_pass in
    record {
      cell = g.cell;
      pass = g.after;
      at_cell = g.at_cell;
      keys = ap length g.put ∙ (length-set old 0 (Some g.after) ∙ s.keys);
      at_pass = ap (λ (z : Slots). get_elem? z 0) g.put ∙ at_put old 0 (Some g.after) (there old 0 (Some g.before) g.at_before);
      sits = g.sits;
      number = g.number ∙ (ap pass_number before ∙ s.number);
      list_so = refl;
    }

-- an operation was made, with this reply
pub record Enters (cells : Cells) (new : Slots) (n : ℕ) (o : RegionOperation) (l : List Entry) (r : Reply) : Type 0 where
  pub list : List Entry
  pub sees : Sees cells new n list
  pub answered : (t : Turns Shared) → get_elem? cells 0 ≡ some t → Answered (start_of t) n o l list r

one_region : (a b : RegionOperation) → on_region a ≡ on_region b → a ≡ b
one_region a b e = cc

pub enters : (cells : Cells) (old new : Slots) (n : ℕ) (l : List Entry) (o : RegionOperation) (r : Reply) → Sees cells old n l → length new ≡ length old → Entered cells old new 0 (on_region o, r) → Enters cells new n o l r
enters cells old new n l o r s long e =
    let before : e.before ≡ s.pass = same_in old 0 e.before s.pass e.at_before s.at_pass in
    let number : pass_number e.before ≡ n = ap pass_number before ∙ s.number in
    let list : pass_list e.before ≡ l = ap pass_list before ∙ s.list_so in
    let same : e.operation ≡ o = sym (one_region o e.operation e.operation_so) in
    let a1 = subst (λ m. Answered (start_of e.cell) m e.operation (pass_list e.before) (pass_list e.after) r) number e.answered in
    let a2 = subst (λ x. Answered (start_of e.cell) n e.operation x (pass_list e.after) r) list a1 in
    let a3 = subst (λ x. Answered (start_of e.cell) n x l (pass_list e.after) r) same a2 in
    record {
      list = pass_list e.after;
      sees = record { cell = e.cell; pass = e.after; at_cell = e.at_cell; keys = long ∙ s.keys; at_pass = e.at_after; sits = e.sits; number = e.number ∙ number; list_so = refl };
      answered = λ t at. subst (λ (u : Turns Shared). Answered (start_of u) n o l (pass_list e.after) r) (same_at cells 0 e.cell t e.at_cell at) a3;
    }

-- whatever was made, the pass is there
pub keeps_made : (cells : Cells) (old new : Slots) (n : ℕ) (l : List Entry) (made : List (Operation × Reply)) → Sees cells old n l → length new ≡ length old → Made cells old new 0 made → Keeps cells new n
keeps_made cells old new n l [] s long m = (l, stays cells old new n l s long m)
keeps_made cells old new n l (x ∷ []) s long m =
    let before : m.before ≡ s.pass = same_in old 0 m.before s.pass m.at_before s.at_pass in
    (pass_list m.after, record { cell = m.cell; pass = m.after; at_cell = m.at_cell; keys = long ∙ s.keys; at_pass = m.at_after; sits = m.sits; number = m.number ∙ (ap pass_number before ∙ s.number); list_so = refl })
keeps_made cells old new n l (x ∷ y ∷ more) s long m = absurd m

-- ---- As it is closed.

pub last_one : {A : Type 0} (xs rest : List A) (a : A) → length xs ≡ 1 → xs ≡ rest ++ a ∷ [] → get_elem? xs 0 ≡ some a
last_one xs [] a one e = ap (λ l. get_elem? l 0) e
last_one xs (r ∷ rs) a one e = absurd (let n = ap length e in let m = length-append rs (a ∷ []) in omega (arith, one, n, m))

pub closes_one : (cells : Cells) (start : Region) (rows : List Passes) (x y : Passes) (ends : List (Shared × Seen Shared)) (end : Shared × Seen Shared) → IsOneKey cells start → rows ≡ x ∷ y ∷ [] → AreClosed cells rows ends → get_elem? ends 0 ≡ some end
    → Closes cells (slots_of x) (slots_of y) (whole_list end.1) end.0
closes_one cells start rows x y ends end k e closed at =
    let o = closed.1 0 k.cell k.at_cell in
    let c = subst (λ (z : Shared × Seen Shared). IsClosed k.cell rows 0 z) (same_at ends 0 o.0 end o.1 at) o.2 in
    record {
      stands = λ t there_t. subst (λ (u : Turns Shared). Stands MakesShared (start_of u) (whole_list end.1) end.0) (same_at cells 0 k.cell t k.at_cell there_t) c.stands;
      makers = subst (λ n. MakersBelow n (whole_list end.1)) k.numbers_so c.makers;
      first_in = λ p there_p. c.lists 0 x (ap (λ l. get_elem? l 0) e) p there_p;
      second_in = λ p there_p. c.lists 1 y (ap (λ l. get_elem? l 1) e) p there_p;
    }

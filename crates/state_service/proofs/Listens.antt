-- What a maker was told, by lists of entries that grow.
use Rattle.std.proofs.Common.{◌≡◌, ◌≢◌, ℕ, Bool, true, false, not, cond, eq-eqb, ne_eqb, List, [], ◌∷◌, ◌++◌, refl, sym, ap, ◌∙◌, subst}
use Rattle.std.proofs.lemmas.List.{append-nil, map-append}
use Rattle.std.proofs.lemmas.List.Elements.{All-head, All-tail}
use Rattle.std.specs.Prelude.{IsTrue, map, ◌==◌, ◌&&◌}
use Rattle.std.specs.List.{All, list_all}
use Rattle.std.specs.Prelude as std
use mathlib.Core.Option.{some}
use lib.ListN.{get_elem?}
use Rattle.faaslet_meaning.specs.Channels.{RegionOperation, Operation, on_region, Reply}
use Rattle.faaslet_meaning.specs.History.{History, left, told_to, region_rules}
use Rattle.faaslet_meaning.specs.Region as region
use Rattle.faaslet_meaning.specs.Region.{Region}
use Rattle.faaslet_meaning.specs.Spelling.{spelled, MakeAll}
use Rattle.faaslet_meaning.proofs.Chains.{spells_a_history}
use Rattle.faaslet_meaning.proofs.Histories.{told_both}
use Rattle.faaslet_meaning.proofs.Spellings.{one_spelling}
use Rattle.shared_region.specs.Entries.{MakesShared}
use Rattle.shared_region.specs.Shared.{Shared}
use Rattle.turn_cell.specs.declared.cell.Turns.{Turns}
use Rattle.turn_cell.specs.declared.view.Entry.{Entry}
use Rattle.turn_cell.specs.Cell.{pass_list, pass_number, start_of}
use Rattle.turn_cell.specs.History.{Stands, Extends, entry}
use Rattle.region_tier.specs.Answered.{Answered}
use Rattle.region_tier.specs.Tiers.{RegionPass}
use Rattle.region_tier.proofs.At.{same_at, same_in}
use Rattle.state_service.specs.May.{Cells, Slots}
use Rattle.state_service.specs.Served.{Made}
use Rattle.state_service.specs.Heard.{SpellsHistory, Heard}

-- an entry as a pair of numbers, and an operation as such a pair
abbrev pair : Entry → ℕ × List ℕ
pair e = (e.maker, e.numbers)

abbrev spelling : ℕ × RegionOperation → ℕ × List ℕ
spelling x = (x.0, spelled x.1)

abbrev asked : RegionOperation × Reply → Operation × Reply
asked x = (on_region x.0, x.1)

-- ---- One history for a list, and its fronts.

head_so : {A : Type 0} (x y : A) (xs ys : List A) → (x ∷ xs) ≡ (y ∷ ys) → x ≡ y
head_so x y xs ys e = cc

tail_so : {A : Type 0} (x y : A) (xs ys : List A) → (x ∷ xs) ≡ (y ∷ ys) → xs ≡ ys
tail_so x y xs ys e = cc

one_entry : (x y : ℕ × RegionOperation) → spelling x ≡ spelling y → x ≡ y
one_entry x y e =
    let makers : x.0 ≡ y.0 = ap (λ (z : ℕ × List ℕ). z.0) e in
    let operations : x.1 ≡ y.1 = one_spelling x.1 y.1 (ap (λ (z : ℕ × List ℕ). z.1) e) in
    λ i. (makers i, operations i)

-- what stands in front of a history that is spelled in front, and what spells the rest
record Behind (front whole : History RegionOperation) (rest : List (ℕ × List ℕ)) : Type 0 where
  back : History RegionOperation
  parts : whole ≡ front ++ back
  spells : rest ≡ map spelling back

behind : (front whole : History RegionOperation) (rest : List (ℕ × List ℕ)) → map spelling front ++ rest ≡ map spelling whole → Behind front whole rest
behind [] whole rest e = record { back = whole; parts = refl; spells = e }
behind (x ∷ xs) [] rest e = cc
behind (x ∷ xs) (y ∷ ys) rest e =
    let b = behind xs ys rest (tail_so (spelling x) (spelling y) (map spelling xs ++ rest) (map spelling ys) e) in
    let same = one_entry x y (head_so (spelling x) (spelling y) (map spelling xs ++ rest) (map spelling ys) e) in
    record { back = b.back; parts = ap (λ l. y ∷ l) b.parts ∙ ap (λ (z : ℕ × RegionOperation). z ∷ (xs ++ b.back)) (sym same); spells = b.spells }

once : (a b : History RegionOperation) → map spelling a ≡ map spelling b → a ≡ b
once a b e =
    let x = behind a b [] (append-nil (map spelling a) ∙ e) in
    sym (x.parts ∙ (ap (λ l. a ++ l) (none x.back x.spells) ∙ append-nil a))
  where
    none : (h : History RegionOperation) → [] ≡ map spelling h → h ≡ []
    none [] e = refl
    none (y ∷ ys) e = cc

-- ---- Lists that lead from a start have a history.

made_all : (s t : Shared) (list : List Entry) → Stands MakesShared s list t → MakeAll region_rules spelled s.region (map pair list) t.region
made_all s t [] st = ap (λ (u : Shared). u.region) (sym st)
made_all s t (e ∷ es) st = (st.0.region, st.1.region, made_all st.0 t es st.2)

-- entries of others are others' operations
others_so : (n : ℕ) (rest : List Entry) (back : History RegionOperation) → map pair rest ≡ map spelling back → All (λ e. e.maker ≢ n) rest → IsTrue (list_all (λ e. not (e.0 == n)) back)
others_so n [] [] e all = refl
others_so n [] (x ∷ xs) e all = cc
others_so n (r ∷ rs) [] e all = cc
others_so n (r ∷ rs) (x ∷ xs) e all =
    let maker : r.maker ≡ x.0 = ap (λ (z : ℕ × List ℕ). z.0) (head_so (pair r) (spelling x) (map pair rs) (map spelling xs) e) in
    let apart : (x.0 == n) ≡ false = ap (λ (m : ℕ). m == n) (sym maker) ∙ ne_eqb r.maker n (All-head (λ (d : Entry). d.maker ≢ n) r rs all) in
    let more = others_so n rs xs (tail_so (pair r) (spelling x) (map pair rs) (map spelling xs) e) (All-tail (λ (d : Entry). d.maker ≢ n) r rs all) in
    ap (λ (b : Bool). not b && list_all (λ e. not (e.0 == n)) xs) apart ∙ more

-- the history of a list that grew by entries of others, and what the maker was told by it
record Grown (start : Region) (n : ℕ) (list : List Entry) (end : Region) (told : List (Operation × Reply)) : Type 0 where
  history : History RegionOperation
  spells : SpellsHistory list history
  end_so : end ≡ left region_rules start history
  told_so : told ≡ map asked (told_to region_rules n start history)

grown : (start end : Shared) (n : ℕ) (old new : List Entry) (told : List (Operation × Reply)) → Extends n old new → Stands MakesShared start new end → Heard start.region n old told → Grown start.region n new end.region told
grown start end n old new told x st h =
    let whole = spells_a_history region_rules spelled start.region end.region (map pair new) (made_all start end new st) in
    let parts : map spelling h.history ++ map pair x.0 ≡ map spelling whole.0 = ap (λ l. l ++ map pair x.0) (sym h.spells) ∙ (sym (map-append pair old x.0) ∙ (ap (map pair) x.1 ∙ whole.1)) in
    let b = behind h.history whole.0 (map pair x.0) parts in
    let same = told_both region_rules n start.region h.history b.back (others_so n x.0 b.back b.spells x.2) in
    record {
      history = whole.0;
      spells = whole.1;
      end_so = whole.2.end_so;
      told_so = h.told_so ∙ ap (map asked) (sym same ∙ ap (told_to region_rules n start.region) (sym b.parts));
    }

-- one operation more of the maker
told_one : (n : ℕ) (o : RegionOperation) (s : Region) (h : History RegionOperation) → told_to region_rules n s (h ++ (n, o) ∷ []) ≡ told_to region_rules n s h ++ (o, region.reply (left region_rules s h) n o) ∷ []
told_one n o s [] = ap (λ (b : Bool). cond b ((o, region.reply s n o) ∷ []) []) (eq-eqb n n refl)
told_one n o s (e ∷ es) = by (e.0 == n) (told_one n o (region.after s e.0 e.1) es)
  where
    by : (b : Bool) → told_to region_rules n (region.after s e.0 e.1) (es ++ (n, o) ∷ []) ≡ told_to region_rules n (region.after s e.0 e.1) es ++ (o, region.reply (left region_rules (region.after s e.0 e.1) es) n o) ∷ []
        → cond b ((e.1, region.reply s e.0 e.1) ∷ told_to region_rules n (region.after s e.0 e.1) (es ++ (n, o) ∷ [])) (told_to region_rules n (region.after s e.0 e.1) (es ++ (n, o) ∷ []))
        ≡ cond b ((e.1, region.reply s e.0 e.1) ∷ told_to region_rules n (region.after s e.0 e.1) es) (told_to region_rules n (region.after s e.0 e.1) es) ++ (o, region.reply (left region_rules (region.after s e.0 e.1) es) n o) ∷ []
    by true h = ap (λ l. (e.1, region.reply s e.0 e.1) ∷ l) h
    by false h = h

-- ---- The laws.

pub heard_none : (start : Shared) (n : ℕ) → Heard start.region n [] []
heard_none start n = record { history = []; spells = refl; told_so = refl }

pub heard_once : (start : Shared) (n : ℕ) (list : List Entry) (a b : List (Operation × Reply)) → Heard start.region n list a → Heard start.region n list b → a ≡ b
heard_once start n list a b x y = x.told_so ∙ (ap (λ h. map asked (told_to region_rules n start.region h)) (once x.history y.history (sym x.spells ∙ y.spells)) ∙ sym y.told_so)

pub heard_stays : (start end : Shared) (n : ℕ) (old new : List Entry) (told : List (Operation × Reply)) → Extends n old new → Stands MakesShared start new end → Heard start.region n old told → Heard start.region n new told
heard_stays start end n old new told x st h = let g = grown start end n old new told x st h in record { history = g.history; spells = g.spells; told_so = g.told_so }

pub heard_more : (start : Shared) (n : ℕ) (o : RegionOperation) (old new : List Entry) (r : Reply) (told : List (Operation × Reply)) → Answered start n o old new r → Heard start.region n old told → Heard start.region n new (told ++ (on_region o, r) ∷ [])
heard_more start n o old new r told a h =
    let g = grown start a.region n old a.before told a.others a.leads h in
    let reply_so : r ≡ region.reply (left region_rules start.region g.history) n o = a.reply_so ∙ ap (λ (s : Region). region.reply s n o) g.end_so in
    record {
      history = g.history ++ (n, o) ∷ [];
      spells = ap (map pair) a.entered ∙ (map-append pair a.before (entry n (spelled o) ∷ []) ∙ (ap (λ l. l ++ (n, spelled o) ∷ []) g.spells ∙ sym (map-append spelling g.history ((n, o) ∷ []))));
      told_so =
          ap (λ (l : List (Operation × Reply)). l ++ (on_region o, r) ∷ []) g.told_so
          ∙ (ap (λ (x : Reply). map asked (told_to region_rules n start.region g.history) ++ (on_region o, x) ∷ []) reply_so
          ∙ (sym (map-append asked (told_to region_rules n start.region g.history) ((o, region.reply (left region_rules start.region g.history) n o) ∷ []))
          ∙ ap (map asked) (sym (told_one n o start.region g.history))));
    }

pub made_heard : (cells : Cells) (old new : Slots) (key : ℕ) (made told : List (Operation × Reply)) (t : Turns Shared) (p : RegionPass) → Made cells old new key made → get_elem? cells key ≡ some t → get_elem? old key ≡ some (std.Some p) → Heard (start_of t).region (pass_number p) (pass_list p) told
    → (q : RegionPass) × (get_elem? new key ≡ some (std.Some q)) × (pass_number q ≡ pass_number p) × Heard (start_of t).region (pass_number p) (pass_list q) (told ++ made)
made_heard cells old new key [] told t p m at_cell at h = (p, m ∙ at, refl, subst (Heard (start_of t).region (pass_number p) (pass_list p)) (sym (append-nil told)) h)
made_heard cells old new key (x ∷ []) told t p m at_cell at h =
    let cell : m.cell ≡ t = same_at cells key m.cell t m.at_cell at_cell in
    let before : m.before ≡ p = same_in old key m.before p m.at_before at in
    let a = subst (λ (u : Turns Shared). Answered (start_of u) (pass_number p) m.operation (pass_list p) (pass_list m.after) x.1) cell
    (subst (λ (b : RegionPass). Answered (start_of m.cell) (pass_number b) m.operation (pass_list b) (pass_list m.after) x.1) before m.answered) in
    let so : (on_region m.operation, x.1) ≡ x = λ i. (sym m.operation_so i, x.1) in (
      m.after,
      m.at_after,
      m.number ∙ ap pass_number before,
      subst (λ (y : Operation × Reply). Heard (start_of t).region (pass_number p) (pass_list m.after) (told ++ y ∷ [])) so (heard_more (start_of t) (pass_number p) m.operation (pass_list p) (pass_list m.after) x.1 told a h),
    )
made_heard cells old new key (x ∷ y ∷ more) told t p m at_cell at h = absurd m

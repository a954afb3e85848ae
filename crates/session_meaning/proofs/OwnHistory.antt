-- What one more entry adds to what each maker was told: to its own maker the entry with its reply, to the others
-- nothing.
use Rattle.std.proofs.Common.{◌≡◌, ℕ, List, [], ◌∷◌, ◌++◌, refl, sym, ap, ◌∙◌, Bool, true, false, cond, Some, None, map}
use Rattle.std.proofs.lemmas.Bool.{eq-eqb}
use Rattle.std.proofs.lemmas.List.{append-nil, map-append}
use Rattle.std.proofs.lemmas.List.Elements.{filter_map-append}
use Rattle.std.specs.Prelude.{◌==◌, filter_map}
use Rattle.std.specs.List.{cons_option}
use Rattle.faaslet_meaning.specs.Channels.{RegionOperation, Operation, on_region, Reply}
use Rattle.faaslet_meaning.specs.Region as region
use Rattle.faaslet_meaning.specs.Region.{Region}
use Rattle.faaslet_meaning.specs.Table as table
use Rattle.faaslet_meaning.specs.Table.{Table, TableOperation}
use Rattle.faaslet_meaning.specs.History.{Rules, History, left, told_to, region_rules, table_rules}
use Rattle.session_meaning.specs.Answered.{of_region, of_call, of_table, asked_on, asked_on_table, told_of}

-- what a maker was told of a region, and of the table
abbrev pub told_on : ℕ → Region → History RegionOperation → List (Operation × Reply)
told_on maker s h = told_of (asked_on maker s h)

abbrev pub told_on_table : ℕ → Table → History TableOperation → List (Operation × Reply)
told_on_table maker t h = told_of (asked_on_table maker t h)

-- of one entry, which is its own or not
abbrev told_if : {S O : Type 0} → Rules S O → S → ℕ → O → Bool → List (O × Reply)
told_if rules s maker op own = cond own ((op, rules.reply s maker op) ∷ []) []

told_more : {S O : Type 0} (rules : Rules S O) (maker : ℕ) (s : S) (h : History O) (other : ℕ) (op : O) → told_to rules maker s (h ++ (other, op) ∷ []) ≡ told_to rules maker s h ++ told_if rules (left rules s h) other op (other == maker)
told_more rules maker s [] other op = refl
told_more {S} {O} rules maker s (e ∷ h) other op = by (e.0 == maker) (told_more rules maker (rules.after s e.0 e.1) h other op)
  where
    by : (b : Bool) → told_to rules maker (rules.after s e.0 e.1) (h ++ (other, op) ∷ []) ≡ told_to rules maker (rules.after s e.0 e.1) h ++ told_if rules (left rules (rules.after s e.0 e.1) h) other op (other == maker)
        → cond b ((e.1, rules.reply s e.0 e.1) ∷ told_to rules maker (rules.after s e.0 e.1) (h ++ (other, op) ∷ [])) (told_to rules maker (rules.after s e.0 e.1) (h ++ (other, op) ∷ []))
        ≡ cond b ((e.1, rules.reply s e.0 e.1) ∷ told_to rules maker (rules.after s e.0 e.1) h) (told_to rules maker (rules.after s e.0 e.1) h) ++ told_if rules (left rules (rules.after s e.0 e.1) h) other op (other == maker)
    by true k = ap (λ l. (e.1, rules.reply s e.0 e.1) ∷ l) k
    by false k = k

told_own : {S O : Type 0} (rules : Rules S O) (maker : ℕ) (s t : S) (h : History O) (op : O) → t ≡ left rules s h → told_to rules maker s (h ++ (maker, op) ∷ []) ≡ told_to rules maker s h ++ (op, rules.reply t maker op) ∷ []
told_own rules maker s t h op e =
    told_more rules maker s h maker op
    ∙ ap (λ b. told_to rules maker s h ++ told_if rules (left rules s h) maker op b) (eq-eqb maker maker refl)
    ∙ ap (λ x. told_to rules maker s h ++ (op, rules.reply x maker op) ∷ []) (sym e)

told_other : {S O : Type 0} (rules : Rules S O) (maker : ℕ) (s : S) (h : History O) (other : ℕ) (op : O) → (other == maker) ≡ false → told_to rules maker s (h ++ (other, op) ∷ []) ≡ told_to rules maker s h
told_other rules maker s h other op apart =
    told_more rules maker s h other op
    ∙ ap (λ b. told_to rules maker s h ++ told_if rules (left rules s h) other op b) apart
    ∙ append-nil (told_to rules maker s h)

-- ---- On a region.

pub told_on_own : (s t : Region) (h : History RegionOperation) (maker : ℕ) (op : RegionOperation) → t ≡ left region_rules s h → told_on maker s (h ++ (maker, op) ∷ []) ≡ told_on maker s h ++ (on_region op, region.reply t maker op) ∷ []
told_on_own s t h maker op e =
    ap (λ l. told_of (map of_region l)) (told_own region_rules maker s t h op e)
    ∙ ap told_of (map-append of_region (told_to region_rules maker s h) ((op, region.reply t maker op) ∷ []))
    ∙ map-append (λ x. (x.operation, x.reply)) (asked_on maker s h) (of_region (op, region.reply t maker op) ∷ [])

pub told_on_other : (s : Region) (h : History RegionOperation) (maker other : ℕ) (op : RegionOperation) → (other == maker) ≡ false → told_on maker s (h ++ (other, op) ∷ []) ≡ told_on maker s h
told_on_other s h maker other op apart = ap (λ l. told_of (map of_region l)) (told_other region_rules maker s h other op apart)

-- ---- On the table.

-- an operation is this question
abbrev pub AsksAs : TableOperation → Operation → Type 0
AsksAs op q = (parent : ℕ) × ((r : Reply) → of_table (op, r) ≡ of_call parent q r)

abbrev pub AsksNothing : TableOperation → Type 0
AsksNothing op = (r : Reply) → of_table (op, r) ≡ None

pub told_on_table_own : (s t : Table) (h : History TableOperation) (maker : ℕ) (op : TableOperation) (q : Operation) → t ≡ left table_rules s h → AsksAs op q → told_on_table maker s (h ++ (maker, op) ∷ []) ≡ told_on_table maker s h ++ (q, table.reply t maker op) ∷ []
told_on_table_own s t h maker op q e is =
    ap (λ l. told_of (filter_map of_table l)) (told_own table_rules maker s t h op e)
    ∙ ap told_of (filter_map-append of_table (told_to table_rules maker s h) ((op, table.reply t maker op) ∷ []))
    ∙ ap (λ o. told_of (asked_on_table maker s h ++ cons_option o [])) (is.1 (table.reply t maker op))
    ∙ map-append (λ x. (x.operation, x.reply)) (asked_on_table maker s h) (record { parent = Some is.0; operation = q; reply = table.reply t maker op } ∷ [])

pub told_on_table_other : (s : Table) (h : History TableOperation) (maker other : ℕ) (op : TableOperation) → (other == maker) ≡ false → told_on_table maker s (h ++ (other, op) ∷ []) ≡ told_on_table maker s h
told_on_table_other s h maker other op apart = ap (λ l. told_of (filter_map of_table l)) (told_other table_rules maker s h other op apart)

-- what is no question tells nobody
pub told_on_table_none : (s : Table) (h : History TableOperation) (maker other : ℕ) (op : TableOperation) → AsksNothing op → told_on_table maker s (h ++ (other, op) ∷ []) ≡ told_on_table maker s h
told_on_table_none s h maker other op is =
    ap (λ l. told_of (filter_map of_table l)) (told_more table_rules maker s h other op)
    ∙ ap told_of (filter_map-append of_table (told_to table_rules maker s h) (told_if table_rules (left table_rules s h) other op (other == maker)))
    ∙ ap (λ l. told_of (asked_on_table maker s h ++ l)) (by (other == maker))
    ∙ ap told_of (append-nil (asked_on_table maker s h))
  where
    by : (b : Bool) → filter_map of_table (told_if table_rules (left table_rules s h) other op b) ≡ []
    by true = ap (λ o. cons_option o []) (is (table.reply (left table_rules s h) other op))
    by false = refl

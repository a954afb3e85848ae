-- A list of entries leads to one table, by one history.
use Rattle.std.proofs.Common.{◌≡◌, ℕ, List, [], ◌∷◌, ◌++◌, refl, sym, ap, ◌∙◌, subst}
use Rattle.std.proofs.lemmas.List.{append-nil}
use Rattle.std.specs.Prelude.{map}
use Rattle.std.specs.List.{AllByRecursion}
use Rattle.faaslet_meaning.specs.History.{History, Legal, Leads, left, table_rules}
use Rattle.faaslet_meaning.specs.Spelling.{spelled_on_table, OperationFits}
use Rattle.faaslet_meaning.specs.Table as table
use Rattle.faaslet_meaning.specs.Table.{Table, TableOperation}
use Rattle.faaslet_meaning.proofs.Spellings.{one_spelling_on_table}
use Rattle.turn_cell.specs.declared.view.Entry.{Entry}
use Rattle.turn_cell.specs.History.{Stands}
use Rattle.call_table.specs.Makers.{MakesTable}
use Rattle.call_table.specs.Session.{SessionTable}
use Rattle.call_service.specs.Heard.{SpellsHistory}

-- ---- One table.

one_entry : (maker : ℕ) (entry : List ℕ) (s t u : SessionTable) → MakesTable maker entry s t → MakesTable maker entry s u → t ≡ u
one_entry maker entry s t u x y =
    let same : x.table.operation ≡ y.table.operation = one_spelling_on_table x.table.operation y.table.operation x.fits y.fits (sym x.table.spelled_so ∙ y.table.spelled_so) in
    let tables : t.table ≡ u.table = x.table.after_so ∙ (ap (table.after s.table maker) same ∙ sym y.table.after_so) in
    let workers : t.workers ≡ u.workers = x.workers_so ∙ sym y.workers_so in
    let requests : t.requests ≡ u.requests = x.requests_so ∙ sym y.requests_so in
    λ i. record { table = tables i; workers = workers i; requests = requests i }

pub one_table : (start one other : SessionTable) (list : List Entry) → Stands MakesTable start list one → Stands MakesTable start list other → one ≡ other
one_table start one other [] x y = sym x ∙ y
one_table start one other (e ∷ es) x y =
    let same : x.0 ≡ y.0 = one_entry e.maker e.numbers start x.0 y.0 x.1 y.1 in
    one_table y.0 one other es (subst (λ (s : SessionTable). Stands MakesTable s es one) same x.2) y.2

-- ---- Its history.

-- an entry as a pair of numbers, and an operation as such a pair
abbrev pub pair : Entry → ℕ × List ℕ
pair e = (e.maker, e.numbers)

abbrev pub spelling : ℕ × TableOperation → ℕ × List ℕ
spelling x = (x.0, spelled_on_table x.1)

abbrev pub Fit : History TableOperation → Type 0
Fit history = AllByRecursion (λ e. OperationFits e.1) history

pub led : (s t : SessionTable) (list : List Entry) → Stands MakesTable s list t → (history : History TableOperation) × SpellsHistory list history × Leads table_rules s.table history t.table
led s t [] st = ([], record { spells = refl; fits = tt }, record { legal = tt; end_so = ap (λ (u : SessionTable). u.table) (sym st) })
led s t (e ∷ es) st =
    let made = st.1.table in
    let rest = led st.0 t es st.2 in
    let op = made.operation in (
      (e.maker, op) ∷ rest.0,
      record {
        spells = ap (λ x. (e.maker, x) ∷ map pair es) made.spelled_so ∙ ap (λ l. (e.maker, spelled_on_table op) ∷ l) rest.1.spells;
        fits = (st.1.fits, rest.1.fits);
      },
      record {
        legal = (made.may_stand, subst (λ u. Legal table_rules u rest.0) made.after_so rest.2.legal);
        end_so = rest.2.end_so ∙ ap (λ u. left table_rules u rest.0) made.after_so;
      },
    )

-- ---- One history for a list, and its fronts.

head_so : {A : Type 0} (x y : A) (xs ys : List A) → (x ∷ xs) ≡ (y ∷ ys) → x ≡ y
head_so x y xs ys e = cc

tail_so : {A : Type 0} (x y : A) (xs ys : List A) → (x ∷ xs) ≡ (y ∷ ys) → xs ≡ ys
tail_so x y xs ys e = cc

one_pair : (x y : ℕ × TableOperation) → OperationFits x.1 → OperationFits y.1 → spelling x ≡ spelling y → x ≡ y
one_pair x y f g e =
    let makers : x.0 ≡ y.0 = ap (λ (z : ℕ × List ℕ). z.0) e in
    let operations : x.1 ≡ y.1 = one_spelling_on_table x.1 y.1 f g (ap (λ (z : ℕ × List ℕ). z.1) e) in
    λ i. (makers i, operations i)

-- what stands in front of a history that is spelled in front, and what spells the rest
pub record Behind (front whole : History TableOperation) (rest : List (ℕ × List ℕ)) : Type 0 where
  pub back : History TableOperation
  pub parts : whole ≡ front ++ back
  pub spells : rest ≡ map spelling back

pub behind : (front whole : History TableOperation) (rest : List (ℕ × List ℕ)) → Fit front → Fit whole → map spelling front ++ rest ≡ map spelling whole → Behind front whole rest
behind [] whole rest f g e = record { back = whole; parts = refl; spells = e }
behind (x ∷ xs) [] rest f g e = cc
behind (x ∷ xs) (y ∷ ys) rest f g e =
    let b = behind xs ys rest f.1 g.1 (tail_so (spelling x) (spelling y) (map spelling xs ++ rest) (map spelling ys) e) in
    let same = one_pair x y f.0 g.0 (head_so (spelling x) (spelling y) (map spelling xs ++ rest) (map spelling ys) e) in
    record { back = b.back; parts = ap (λ l. y ∷ l) b.parts ∙ ap (λ (z : ℕ × TableOperation). z ∷ (xs ++ b.back)) (sym same); spells = b.spells }

pub once : (a b : History TableOperation) → Fit a → Fit b → map spelling a ≡ map spelling b → a ≡ b
once a b f g e =
    let x = behind a b [] f g (append-nil (map spelling a) ∙ e) in
    sym (x.parts ∙ (ap (λ l. a ++ l) (none x.back x.spells) ∙ append-nil a))
  where
    none : (h : History TableOperation) → [] ≡ map spelling h → h ≡ []
    none [] e = refl
    none (y ∷ ys) e = cc

-- Lists of numbers spell one session at most.
use Rattle.std.proofs.Common.{◌≡◌, ℕ, List, [], ◌∷◌, refl, sym, ap, ap₂, ◌∙◌, map}
use Rattle.std.specs.List.{AllByRecursion}
use Rattle.faaslet_meaning.specs.Channels.{RegionOperation}
use Rattle.faaslet_meaning.specs.History.{History}
use Rattle.faaslet_meaning.specs.Table.{TableOperation}
use Rattle.faaslet_meaning.specs.Spelling.{spelled, spelled_on_table, OperationFits, Spells}
use Rattle.faaslet_meaning.proofs.Spellings.{one_spelling, one_spelling_on_table}
use Rattle.session_meaning.specs.Own.{Session}
use Rattle.session_meaning.specs.Seen.{Entries, Seen, SpellRegions, SpellHosts, SpellsSession, ResultsFit}

-- ---- One history.

cons_same : {A : Type 0} {x y : A} {xs ys : List A} → x ∷ xs ≡ y ∷ ys → (x ≡ y) × (xs ≡ ys)
cons_same e = (cc, cc)

pair_same : {A B : Type 0} {a c : A} {b d : B} → ◌≡◌ {A = A × B} (a, b) (c, d) → (a ≡ c) × (b ≡ d)
pair_same e = (ap (λ p. p.0) e, ap (λ p. p.1) e)

abbrev spell_all : {O : Type 0} → (O → List ℕ) → History O → List (ℕ × List ℕ)
spell_all spell history = map (λ e. (e.0, spell e.1)) history

one_history : {O : Type 0} (spell : O → List ℕ) (Fits : O → Type 0) → ((a b : O) → Fits a → Fits b → spell a ≡ spell b → a ≡ b) → (h k : History O) → AllByRecursion (λ e. Fits e.1) h → AllByRecursion (λ e. Fits e.1) k → spell_all spell h ≡ spell_all spell k → h ≡ k
one_history spell Fits one [] [] fit fit' e = refl
one_history spell Fits one [] (y ∷ k) fit fit' e = let no : ⊥ = cc in absurd no
one_history spell Fits one (x ∷ h) [] fit fit' e = let no : ⊥ = cc in absurd no
one_history spell Fits one (x ∷ h) (y ∷ k) fit fit' e =
    let c = cons_same e in
    let p = pair_same c.0 in
    ap₂ (λ z zs. z ∷ zs) (ap₂ (λ m o. (m, o)) p.0 (one x.1 y.1 fit.0 fit'.0 p.1)) (one_history spell Fits one h k fit.1 fit'.1 c.1)

each_fits : (h : History RegionOperation) → AllByRecursion (λ e. Unit {0}) h
each_fits [] = tt
each_fits (e ∷ h) = (tt, each_fits h)

one_region : (es : Entries) (h k : History RegionOperation) → Spells spelled es h → Spells spelled es k → h ≡ k
one_region es h k a b = one_history spelled (λ op. Unit {0}) (λ x y fit fit' e. one_spelling x y e) h k (each_fits h) (each_fits k) (sym a ∙ b)

one_table : (es : Entries) (h k : History TableOperation) → Spells spelled_on_table es h → Spells spelled_on_table es k → ResultsFit h → ResultsFit k → h ≡ k
one_table es h k a b fit fit' = one_history spelled_on_table OperationFits one_spelling_on_table h k fit fit' (sym a ∙ b)

-- ---- The replicas of a host, and of all hosts.

one_list : (es : List Entries) (hs ks : List (History RegionOperation)) → SpellRegions es hs → SpellRegions es ks → hs ≡ ks
one_list [] [] [] a b = refl
one_list [] (h ∷ hs) ks a b = absurd a
one_list [] [] (k ∷ ks) a b = absurd b
one_list (e ∷ es) [] ks a b = absurd a
one_list (e ∷ es) (h ∷ hs) [] a b = absurd b
one_list (e ∷ es) (h ∷ hs) (k ∷ ks) a b = ap₂ (λ x xs. x ∷ xs) (one_region e h k a.0 b.0) (one_list es hs ks a.1 b.1)

one_hosts : (es : List (List Entries)) (hs ks : List (List (History RegionOperation))) → SpellHosts es hs → SpellHosts es ks → hs ≡ ks
one_hosts [] [] [] a b = refl
one_hosts [] (h ∷ hs) ks a b = absurd a
one_hosts [] [] (k ∷ ks) a b = absurd b
one_hosts (e ∷ es) [] ks a b = absurd a
one_hosts (e ∷ es) (h ∷ hs) [] a b = absurd b
one_hosts (e ∷ es) (h ∷ hs) (k ∷ ks) a b = ap₂ (λ x xs. x ∷ xs) (one_list e h k a.0 b.0) (one_hosts es hs ks a.1 b.1)

pub one_session : (seen : Seen) (s t : Session) → SpellsSession seen s → SpellsSession seen t → ResultsFit s.table_history → ResultsFit t.table_history → s ≡ t
one_session seen s t a b fit fit' =
    let records : s.records ≡ t.records = sym a.records ∙ b.records in
    let locals = one_hosts seen.locals s.locals t.locals a.locals b.locals in
    let globals = one_list seen.globals s.globals t.globals a.globals b.globals in
    let table = one_table seen.table s.table_history t.table_history a.table b.table fit fit' in
    λ i. record { records = records i; locals = locals i; globals = globals i; table_history = table i }

-- Where no label has a point, different calls of a world have different paths.
use Rattle.std.proofs.Common.{◌≡◌, ℕ, zero, suc, ◌+◌, ◌^◌, ◌%◌, ◌≤◌, ◌<◌, Bool, true, false, not, List, [], ◌∷◌, ◌++◌, Option, Some, None, refl, sym, ap, ap₂, ◌∙◌, slice_get, codes, subst, append_assoc, arith}
use Rattle.std.specs.Prelude.{◌==◌, ◌&&◌}
use Rattle.std.specs.Fmt.{decimal}
use Rattle.std.proofs.lemmas.Fmt.{decimal_by_steps, decimal_injective}
use Rattle.std.proofs.lemmas.Bool.{and_parts, ne_eqb, eq-eqb}
use Rattle.std.proofs.lemmas.List.{append-nil}
use Rattle.faaslet_meaning.specs.declared.call.CallRecord.{CallRecord}
use Rattle.session_meaning.specs.declared.event.Event.{Event}
use Rattle.session_meaning.specs.Plan.{Request, Plan}
use Rattle.session_meaning.specs.SessionReport.{label_of, path_by, path}
use Rattle.session_meaning.specs.World.{World}
use Rattle.session_meaning.specs.Events.{Worlds}
use Rattle.session_meaning.specs.CallNames.{steps_by, call_name, DistinctLabels, has_no_point, PlainLabels, PathsApart}
use Rattle.session_meaning.proofs.Family.{Family, Placed, world_family}
use Rattle.session_meaning.proofs.DistinctCalls.{name_is, steps_is, calls_apart}
use Rattle.session_meaning.proofs.ChildCounts.{AllCounted, world_counted}

-- ---- Numbers have no point.

abbrev is_plain : ℕ → Bool
is_plain c = not (c == 46)

plain_digit : (n : ℕ) → n < 10 → is_plain (48 + n) ≡ true
plain_digit n h = ap not (ne_eqb (48 + n) 46 (λ e. omega (arith, e)))

plain_both : (xs ys : List ℕ) → has_no_point xs ≡ true → has_no_point ys ≡ true → has_no_point (xs ++ ys) ≡ true
plain_both [] ys h k = k
plain_both (x ∷ xs) ys h k = let p = and_parts (is_plain x) (has_no_point xs) h in ap₂ (λ a b. a && b) p.0 (plain_both xs ys p.1 k)

one_plain : (c : ℕ) → is_plain c ≡ true → has_no_point (c ∷ []) ≡ true
one_plain c h = ap (λ b. b && true) h

decimal_plain : (n : ℕ) → n < 2 ^ 64 → has_no_point (decimal n) ≡ true
decimal_plain n h =
    decimal_by_steps (λ m ds. has_no_point ds ≡ true) (λ m l. one_plain (48 + m) (plain_digit m l))
    (λ m ds l k. plain_both ds ((48 + m % 10) ∷ []) k (one_plain (48 + m % 10) (plain_digit (m % 10) (omega arith)))) n h

-- ---- A text with points is cut at its first one.

abbrev Starts : List ℕ → Type 0
Starts [] = Unit {0}
Starts (c ∷ cs) = c ≡ 46

point_not_plain : (c : ℕ) → c ≡ 46 → is_plain c ≡ true → ⊥
point_not_plain c e h = let no : is_plain c ≡ false = ap not (eq-eqb c 46 e) in let bad : ⊥ = cc in bad

cons_same : {A : Type 0} {x y : A} {xs ys : List A} → x ∷ xs ≡ y ∷ ys → (x ≡ y) × (xs ≡ ys)
cons_same e = (cc, cc)

cut_same : (xs ys s t : List ℕ) → has_no_point xs ≡ true → has_no_point ys ≡ true → Starts s → Starts t → xs ++ s ≡ ys ++ t → (xs ≡ ys) × (s ≡ t)
cut_same [] [] s t h k a b e = (refl, e)
cut_same [] (y ∷ ys) [] t h k a b e = let no : ⊥ = cc in absurd no
cut_same [] (y ∷ ys) (c ∷ s) t h k a b e = absurd (point_not_plain y (sym (cons_same e).0 ∙ a) (and_parts (is_plain y) (has_no_point ys) k).0)
cut_same (x ∷ xs) [] s [] h k a b e = let no : ⊥ = cc in absurd no
cut_same (x ∷ xs) [] s (c ∷ t) h k a b e = absurd (point_not_plain x ((cons_same e).0 ∙ b) (and_parts (is_plain x) (has_no_point xs) h).0)
cut_same (x ∷ xs) (y ∷ ys) s t h k a b e =
    let c = cons_same e in
    let r = cut_same xs ys s t (and_parts (is_plain x) (has_no_point xs) h).1 (and_parts (is_plain y) (has_no_point ys) k).1 a b c.1 in
    (ap₂ (λ z zs. z ∷ zs) c.0 r.0, r.1)

-- the children's numbers, each after a point
abbrev pointed : List ℕ → List ℕ
pointed [] = []
pointed (n ∷ ns) = 46 ∷ decimal n ++ pointed ns

abbrev AllSmall : List ℕ → Type 0
AllSmall [] = Unit {0}
AllSmall (n ∷ ns) = (n < 2 ^ 64) × AllSmall ns

starts_so : (ns : List ℕ) → Starts (pointed ns)
starts_so [] = tt
starts_so (n ∷ ns) = refl

pointed_same : (ms ns : List ℕ) → AllSmall ms → AllSmall ns → pointed ms ≡ pointed ns → ms ≡ ns
pointed_same [] [] a b e = refl
pointed_same [] (n ∷ ns) a b e = let no : ⊥ = cc in absurd no
pointed_same (m ∷ ms) [] a b e = let no : ⊥ = cc in absurd no
pointed_same (m ∷ ms) (n ∷ ns) a b e =
    let c = cut_same (decimal m) (decimal n) (pointed ms) (pointed ns) (decimal_plain m a.0) (decimal_plain n b.0) (starts_so ms) (starts_so ns) (cons_same e).1 in
    ap₂ (λ z zs. z ∷ zs) (decimal_injective m n a.0 b.0 c.0) (pointed_same ms ns a.1 b.1 c.1)

pointed_end : (ns : List ℕ) (n : ℕ) → pointed (ns ++ n ∷ []) ≡ pointed ns ++ codes "." ++ decimal n
pointed_end [] n = ap (λ ds. 46 ∷ ds) (append-nil (decimal n))
pointed_end (m ∷ ns) n =
    ap (λ x. 46 ∷ decimal m ++ x) (pointed_end ns n)
    ∙ ap (λ x. 46 ∷ x) (sym (append_assoc (decimal m) (pointed ns ++ codes ".") (decimal n)) ∙ ap (λ x. x ++ decimal n) (sym (append_assoc (decimal m) (pointed ns) (codes "."))))

small_end : (ns : List ℕ) (n : ℕ) → AllSmall ns → n < 2 ^ 64 → AllSmall (ns ++ n ∷ [])
small_end [] n a h = (h, tt)
small_end (m ∷ ns) n a h = (a.0, small_end ns n a.1 h)

-- ---- A path is a name written out.

abbrev up_path : Plan → (ℕ → List ℕ) → ℕ → ℕ → Option ℕ → List ℕ
up_path plan go request child o = elim o [ None ↦ label_of plan request | Some parent ↦ go parent ++ codes "." ++ decimal child ]

abbrev path_at : Plan → (ℕ → List ℕ) → Option CallRecord → List ℕ
path_at plan go o = elim o [ None ↦ [] | Some r ↦ up_path plan go r.request r.child r.parent ]

path_is : (plan : Plan) (rs : List CallRecord) (depth call : ℕ) (r : CallRecord) (o : Option ℕ) → slice_get rs call ≡ Some r → r.parent ≡ o → path_by plan rs (suc depth) call ≡ up_path plan (path_by plan rs depth) r.request r.child o
path_is plan rs depth call r o e h = ap (path_at plan (path_by plan rs depth)) e ∙ ap (up_path plan (path_by plan rs depth) r.request r.child) h

record Written (plan : Plan) (rs : List CallRecord) (depth call : ℕ) (r : CallRecord) : Type 0 where
  pub text : path_by plan rs depth call ≡ label_of plan r.request ++ pointed (steps_by rs depth call)
  pub small : AllSmall (steps_by rs depth call)

four : (a b c d : List ℕ) → a ++ b ++ c ++ d ≡ a ++ (b ++ c ++ d)
four a b c d = ap (λ x. x ++ d) (append_assoc a b c) ∙ append_assoc a (b ++ c) d

below : (n k : ℕ) → n < k → k ≤ 1024 → n < 2 ^ 64
below n k h l = let big : 1024 ≤ 2 ^ 64 = omega arith in omega (arith, h, l, big)

written : (plan : Plan) (rs : List CallRecord) → Family plan.requests rs → AllCounted rs → (depth call : ℕ) (r : CallRecord) → slice_get rs call ≡ Some r → r.depth ≡ depth → Written plan rs depth call r
written plan rs family counted zero call r e deep = absurd (none r.parent (family.placed call r e))
  where
    none : (o : Option ℕ) → Placed plan.requests rs call r o → ⊥
    none None h = let n = h.depth in omega (arith, n, deep)
    none (Some p) h = let n = h.depth in omega (arith, n, deep)
written plan rs family counted (suc depth) call r e deep = by r.parent refl (family.placed call r e) (λ p q h k. written plan rs family counted depth p q h k)
  where
    by : (o : Option ℕ) → r.parent ≡ o → Placed plan.requests rs call r r.parent → ((p : ℕ) (q : CallRecord) → slice_get rs p ≡ Some q → q.depth ≡ depth → Written plan rs depth p q) → Written plan rs (suc depth) call r
    by None i h go =
        let steps = steps_is rs depth call r None e i in
        record {
          text = path_is plan rs depth call r None e i ∙ sym (append-nil (label_of plan r.request)) ∙ ap (λ ns. label_of plan r.request ++ pointed ns) (sym steps);
          small = subst AllSmall (sym steps) tt;
        }
    by (Some p) i h go =
        let c = subst (λ o. Placed plan.requests rs call r o) i h in
        let d = c.depth in
        let w = go p c.parent c.parent_is (omega (arith, d, deep)) in
        let steps = steps_is rs depth call r (Some p) e i in
        let label = ap (label_of plan) (sym c.request) in
        record {
          text =
              path_is plan rs depth call r (Some p) e i
              ∙ ap (λ x. x ++ codes "." ++ decimal r.child) (w.text ∙ ap (λ l. l ++ pointed (steps_by rs depth p)) label)
              ∙ four (label_of plan r.request) (pointed (steps_by rs depth p)) (codes ".") (decimal r.child)
              ∙ ap (λ x. label_of plan r.request ++ x) (sym (pointed_end (steps_by rs depth p) r.child))
              ∙ ap (λ ns. label_of plan r.request ++ pointed ns) (sym steps);
          small = subst AllSmall (sym steps) (small_end (steps_by rs depth p) r.child w.small (below r.child c.parent.children c.child (counted p c.parent c.parent_is).few));
        }

abbrev whole_path : (ℕ → List ℕ) → Option CallRecord → List ℕ
whole_path go o = elim o [ None ↦ [] | Some r ↦ go r.depth ]

label_plain : (plan : Plan) (n : ℕ) (q : Request) → PlainLabels plan → slice_get plan.requests n ≡ Some q → has_no_point (label_of plan n) ≡ true
label_plain plan n q plain e = ap (λ o. has_no_point (elim o as (λ o. List ℕ) [ None ↦ [] | Some r ↦ r.label ])) e ∙ plain n q e

-- calls with one path have one name
path_name : (plan : Plan) (rs : List CallRecord) (c d : ℕ) (r s : CallRecord) → PlainLabels plan → Family plan.requests rs → AllCounted rs → slice_get rs c ≡ Some r → slice_get rs d ≡ Some s → path plan rs c ≡ path plan rs d → call_name plan rs c ≡ call_name plan rs d
path_name plan rs c d r s plain family counted e f same =
    let w = written plan rs family counted r.depth c r e refl in
    let v = written plan rs family counted s.depth d s f refl in
    let q = family.requests c r e in
    let x = family.requests d s f in
    let texts = sym w.text ∙ sym (ap (whole_path (λ k. path_by plan rs k c)) e) ∙ same ∙ ap (whole_path (λ k. path_by plan rs k d)) f ∙ v.text in
    let cut = cut_same (label_of plan r.request) (label_of plan s.request) (pointed (steps_by rs r.depth c)) (pointed (steps_by rs s.depth d)) (label_plain plan r.request q.0 plain q.1) (label_plain plan s.request x.0 plain x.1) (starts_so (steps_by rs r.depth c)) (starts_so (steps_by rs s.depth d)) texts in
    name_is plan rs c r e
    ∙ ap₂ (λ l ns. record { label = l; steps = ns }) cut.0 (pointed_same (steps_by rs r.depth c) (steps_by rs s.depth d) w.small v.small cut.1)
    ∙ sym (name_is plan rs d s f)

-- Different calls have different paths.
pub paths_apart : (plan : Plan) (events : List Event) (w : World) → DistinctLabels plan → PlainLabels plan → Worlds plan events w → PathsApart plan w.table.records
paths_apart plan events w apart plain made c d r s e f same =
    calls_apart plan events w apart made c d r s e f (path_name plan w.table.records c d r s plain (world_family plan events w made) (world_counted plan events w made) e f same)

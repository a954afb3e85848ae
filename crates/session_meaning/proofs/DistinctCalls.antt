-- Different calls of a world have different names, and a call keeps its name.
use Rattle.std.proofs.Common.{◌≡◌, ℕ, zero, suc, List, [], ◌∷◌, ◌++◌, Option, Some, None, refl, sym, ap, ap₂, ◌∙◌, slice_get, subst, arith}
use Rattle.faaslet_meaning.specs.declared.call.CallRecord.{CallRecord}
use Rattle.session_meaning.specs.declared.event.Event.{Event}
use Rattle.session_meaning.specs.Plan.{Request, Plan}
use Rattle.session_meaning.specs.SessionReport.{label_of}
use Rattle.session_meaning.specs.World.{World}
use Rattle.session_meaning.specs.Events.{Worlds}
use Rattle.session_meaning.specs.CallNames.{CallName, steps_by, call_name, DistinctLabels, CallsApart}
use Rattle.session_meaning.proofs.Later.{Later}
use Rattle.session_meaning.proofs.Family.{Family, Root, ChildOf, Placed, world_family}

-- ---- The name of a call that is there.

abbrev up : (ℕ → List ℕ) → ℕ → Option ℕ → List ℕ
up go child o = elim o [ None ↦ [] | Some parent ↦ go parent ++ child ∷ [] ]

abbrev steps_at : (ℕ → List ℕ) → Option CallRecord → List ℕ
steps_at go o = elim o [ None ↦ [] | Some r ↦ up go r.child r.parent ]

pub steps_is : (rs : List CallRecord) (depth call : ℕ) (r : CallRecord) (o : Option ℕ) → slice_get rs call ≡ Some r → r.parent ≡ o → steps_by rs (suc depth) call ≡ up (steps_by rs depth) r.child o
steps_is rs depth call r o e h = ap (steps_at (steps_by rs depth)) e ∙ ap (up (steps_by rs depth) r.child) h

abbrev name_at : Plan → (ℕ → List ℕ) → Option CallRecord → CallName
name_at plan go o = elim o [ None ↦ record { label = []; steps = [] } | Some r ↦ record { label = label_of plan r.request; steps = go r.depth } ]

pub name_is : (plan : Plan) (rs : List CallRecord) (call : ℕ) (r : CallRecord) → slice_get rs call ≡ Some r → call_name plan rs call ≡ record { label = label_of plan r.request; steps = steps_by rs r.depth call }
name_is plan rs call r e = ap (name_at plan (λ d. steps_by rs d call)) e

-- ---- One request.

one_request : (plan : Plan) (m n : ℕ) (q x : Request) → DistinctLabels plan → slice_get plan.requests m ≡ Some q → slice_get plan.requests n ≡ Some x → label_of plan m ≡ label_of plan n → m ≡ n
one_request plan m n q x apart e f same = apart m n q x e f (sym (ap label e) ∙ same ∙ ap label f)
  where
    label : Option Request → List ℕ
    label o = elim o [ None ↦ [] | Some r ↦ r.label ]

-- ---- One way down.

cons_same : {A : Type 0} {x y : A} {xs ys : List A} → x ∷ xs ≡ y ∷ ys → (x ≡ y) × (xs ≡ ys)
cons_same e = (cc, cc)

some_same : {A : Type 0} {x y : A} → Some x ≡ Some y → x ≡ y
some_same e = cc

not_empty : {A : Type 0} (xs : List A) (x : A) → [] ≡ xs ++ x ∷ [] → ⊥
not_empty [] x e = let no : ⊥ = cc in no
not_empty (y ∷ xs) x e = let no : ⊥ = cc in no

ends_same : {A : Type 0} (xs ys : List A) (x y : A) → xs ++ x ∷ [] ≡ ys ++ y ∷ [] → (xs ≡ ys) × (x ≡ y)
ends_same [] [] x y e = (refl, (cons_same e).0)
ends_same [] (b ∷ ys) x y e = absurd (not_empty ys y (cons_same e).1)
ends_same (a ∷ xs) [] x y e = absurd (not_empty xs x (sym (cons_same e).1))
ends_same (a ∷ xs) (b ∷ ys) x y e = let h = cons_same e in let t = ends_same xs ys x y h.1 in (ap₂ (λ c cs. c ∷ cs) h.0 t.0, t.1)

abbrev One : List Request → List CallRecord → ℕ → Type 0
One rs records k = (c d : ℕ) (r s : CallRecord) → slice_get records c ≡ Some r → slice_get records d ≡ Some s → r.depth ≡ k → r.request ≡ s.request → steps_by records k c ≡ steps_by records s.depth d → c ≡ d

one_call : (rs : List Request) (records : List CallRecord) → Family rs records → (k : ℕ) → One rs records k
one_call rs records family zero c d r s e f deep request same = absurd (none r.parent (family.placed c r e))
  where
    none : (o : Option ℕ) → Placed rs records c r o → ⊥
    none None h = let n = h.depth in omega (arith, n, deep)
    none (Some p) h = let n = h.depth in omega (arith, n, deep)
one_call rs records family (suc k) c d r s e f deep request same =
    by r.parent s.parent refl refl (family.placed c r e) (family.placed d s f) (one_call rs records family k)
  where
    from_root : (q : ℕ) → r.parent ≡ None → s.parent ≡ Some q → ChildOf records q s → ⊥
    from_root q i j h =
        let deeper : s.depth ≡ suc h.parent.depth = h.depth ∙ omega arith in
        not_empty (steps_by records h.parent.depth q) s.child (sym (steps_is records k c r None e i) ∙ same ∙ ap (λ n. steps_by records n d) deeper ∙ steps_is records h.parent.depth d s (Some q) f j)

    to_root : (p : ℕ) → r.parent ≡ Some p → s.parent ≡ None → Root rs d s → ⊥
    to_root p i j h = not_empty (steps_by records k p) r.child (sym (sym (steps_is records k c r (Some p) e i) ∙ same ∙ ap (λ n. steps_by records n d) h.depth ∙ steps_is records 0 d s None f j))

    both : (p q : ℕ) → r.parent ≡ Some p → s.parent ≡ Some q → ChildOf records p r → ChildOf records q s → One rs records k → c ≡ d
    both p q i j h g go =
        let depth = h.depth in
        let level : h.parent.depth ≡ k = omega (arith, deep, depth) in
        let deeper : s.depth ≡ suc g.parent.depth = g.depth ∙ omega arith in
        let ends = ends_same (steps_by records k p) (steps_by records g.parent.depth q) r.child s.child (sym (steps_is records k c r (Some p) e i) ∙ same ∙ ap (λ n. steps_by records n d) deeper ∙ steps_is records g.parent.depth d s (Some q) f j) in
        let parents = go p q h.parent g.parent h.parent_is g.parent_is level (sym h.request ∙ request ∙ g.request) ends.0 in
        family.brothers c d p r s e f i (j ∙ ap (λ n. Some n) (sym parents)) ends.1

    by : (o u : Option ℕ) → r.parent ≡ o → s.parent ≡ u → Placed rs records c r r.parent → Placed rs records d s s.parent → One rs records k → c ≡ d
    by None None i j h g go =
        let a = subst (λ o. Placed rs records c r o) i h in
        let b = subst (λ o. Placed rs records d s o) j g in
        sym a.request ∙ request ∙ b.request
    by None (Some q) i j h g go = absurd (from_root q i j (subst (λ o. Placed rs records d s o) j g))
    by (Some p) None i j h g go = absurd (to_root p i j (subst (λ o. Placed rs records d s o) j g))
    by (Some p) (Some q) i j h g go = both p q i j (subst (λ o. Placed rs records c r o) i h) (subst (λ o. Placed rs records d s o) j g) go

pub family_apart : (plan : Plan) (records : List CallRecord) → DistinctLabels plan → Family plan.requests records → CallsApart plan records
family_apart plan records apart family c d r s e f same =
    let names = sym (name_is plan records c r e) ∙ same ∙ name_is plan records d s f in
    let q = family.requests c r e in
    let x = family.requests d s f in
    one_call plan.requests records family r.depth c d r s e f refl (one_request plan r.request s.request q.0 x.0 apart q.1 x.1 (ap (λ n. n.label) names)) (ap (λ n. n.steps) names)

-- Different calls have different names.
pub calls_apart : (plan : Plan) (events : List Event) (w : World) → DistinctLabels plan → Worlds plan events w → CallsApart plan w.table.records
calls_apart plan events w apart made = family_apart plan w.table.records apart (world_family plan events w made)

-- ---- A call keeps its name as records grow.

steps_later : (rs : List Request) (xs ys : List CallRecord) → Family rs xs → Later xs ys → (depth call : ℕ) (r : CallRecord) → slice_get xs call ≡ Some r → steps_by ys depth call ≡ steps_by xs depth call
steps_later rs xs ys family later zero call r e = refl
steps_later rs xs ys family later (suc depth) call r e =
    let l = later call r e in
    steps_is ys depth call l.0 r.parent l.1 l.2.parent ∙ ap (λ n. up (steps_by ys depth) n r.parent) l.2.child ∙ by r.parent (family.placed call r e) (λ p q h. steps_later rs xs ys family later depth p q h) ∙ sym (steps_is xs depth call r r.parent e refl)
  where
    by : (o : Option ℕ) → Placed rs xs call r o → ((p : ℕ) (q : CallRecord) → slice_get xs p ≡ Some q → steps_by ys depth p ≡ steps_by xs depth p) → up (steps_by ys depth) r.child o ≡ up (steps_by xs depth) r.child o
    by None h go = refl
    by (Some p) h go = ap (λ ns. ns ++ r.child ∷ []) (go p h.parent h.parent_is)

pub name_later : (plan : Plan) (xs ys : List CallRecord) (call : ℕ) (r : CallRecord) → Family plan.requests xs → Later xs ys → slice_get xs call ≡ Some r → call_name plan ys call ≡ call_name plan xs call
name_later plan xs ys call r family later e =
    let l = later call r e in
    name_is plan ys call l.0 l.1
    ∙ ap₂ (λ q d. record { label = label_of plan q; steps = steps_by ys d call }) l.2.request l.2.depth
    ∙ ap (λ ns. record { label = label_of plan r.request; steps = ns }) (steps_later plan.requests xs ys family later r.depth call r e)
    ∙ sym (name_is plan xs call r e)

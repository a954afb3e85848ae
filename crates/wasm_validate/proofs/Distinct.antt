-- Names that were put into a set one after the other.
use Rattle.std.proofs.Common.{◌≡◌, ◌≢◌, ℕ, ◌+◌, ◌<◌, ◌≤◌, Bool, true, false, cond, ◌||◌, List, [], ◌∷◌, map, length, get_or, take, AllPairs, Bor, Ordering, nat_cmp, bytes_eq, refl, sym, ap, ◌∙◌, subst, arith, below_more, length-take, get_or-take}
use Rattle.std.specs.List.{list_any}
use Rattle.std.specs.Cmp.Lexicographic.{slice_cmp}
use Rattle.std.specs.BTreeMap.{is_at}
use Rattle.std.specs.BTreeSet.{BTreeSet, contains}
use Rattle.std.proofs.lemmas.List.{get_or-map, get_or_default, length-map}
use Rattle.std.proofs.lemmas.List.Folds.{list_any_more, list_any_at, Any-from_list_any}
use Rattle.std.proofs.lemmas.Map.Text.{is_eq-slice_cmp}
use Rattle.std.proofs.lemmas.Slice.Eq.{bytes_eq-Decides}
use Rattle.faaslet_meaning.specs.declared.module.Export.{Export}

abbrev pub Key : Type 0
Key = Bor (List ℕ)

abbrev pub key_cmp : Key → Key → Ordering
key_cmp a b = slice_cmp nat_cmp a.now b.now

-- an export has this name
abbrev pub is_named : List ℕ → Export → Bool
is_named q e = bytes_eq q e.name

-- the names of the first exports are apart, and just they are in the set
pub record Seen (es : List Export) (i : ℕ) (s : BTreeSet Key) : Type 0 where
  pub apart : (j k : ℕ) (d : Export) → j < k → k < i → (get_or es j d).name ≢ (get_or es k d).name
  pub has : (q : Key) → contains key_cmp s q ≡ list_any (is_named q.now) (take i es)

pub seen_none : (es : List Export) (s : BTreeSet Key) → s.keys ≡ [] → Seen es 0 s
seen_none es s e = record { apart = λ j k d h l. absurd (omega arith); has = λ q. ap (list_any (is_at (key_cmp q))) e }

same : (a b : Bool) → (a ≡ true → b ≡ true) → (b ≡ true → a ≡ true) → a ≡ b
same true b f g = sym (f refl)
same false true f g = g refl
same false false f g = refl

turned : (a b : List ℕ) → bytes_eq a b ≡ bytes_eq b a
turned a b = same (bytes_eq a b) (bytes_eq b a) (λ e. (bytes_eq-Decides b a).1 (sym ((bytes_eq-Decides a b).0 e))) (λ e. (bytes_eq-Decides a b).1 (sym ((bytes_eq-Decides b a).0 e)))

either_or : (a b c : Bool) → a ≡ c → cond a true b ≡ (b || c)
either_or a b c e = subst (λ x. cond a true b ≡ (b || x)) e (go a b)
  where
    go : (x y : Bool) → cond x true y ≡ (y || x)
    go true true = refl
    go true false = refl
    go false true = refl
    go false false = refl

pub seen_more : (es : List Export) (i : ℕ) (s n : BTreeSet Key) (e : Export) (key : Key) → Seen es i s → i < length es → e ≡ get_or es i e → key.now ≡ e.name → contains key_cmp s key ≡ false → ((q : Key) → contains key_cmp n q ≡ cond (is_at (key_cmp key) q) true (contains key_cmp s q)) → Seen es (i + 1) n
seen_more es i s n e key h within is name new put = record {
  apart = λ j k d less upto. below_more (λ m. j < m → (get_or es j d).name ≢ (get_or es m d).name) i (λ m below lower. h.apart j m d lower below) (λ lower. newly j d lower) k upto less;
  has = λ q.
      put q
      ∙ either_or _ _ _ (is_eq-slice_cmp key.now q.now ∙ turned key.now q.now ∙ ap (bytes_eq q.now) (name ∙ ap (λ (x : Export). x.name) is))
      ∙ ap (λ b. b || bytes_eq q.now (get_or es i e).name) (h.has q)
      ∙ sym (list_any_more (is_named q.now) es i e within);
}
  where
    here : (d : Export) → (get_or es i d).name ≡ key.now
    here d = ap (λ (x : Export). x.name) (sym (get_or_default es i e d within) ∙ sym is) ∙ sym name

    newly : (j : ℕ) (d : Export) → j < i → (get_or es j d).name ≢ (get_or es i d).name
    newly j d lower q =
        let at : get_or (take i es) j d ≡ get_or es j d = get_or-take i es j d lower in
        let equal : key.now ≡ (get_or (take i es) j d).name = sym (here d) ∙ sym q ∙ ap (λ (x : Export). x.name) (sym at) in
        let inside : j < length (take i es) = omega (arith, length-take i es) in
        let found : list_any (is_named key.now) (take i es) ≡ true = list_any_at (is_named key.now) (take i es) j d inside ((bytes_eq-Decides key.now (get_or (take i es) j d).name).1 equal) in
        let never : ⊥ = cc (h.has key, found, new) in
        never

pub repeated : (es : List Export) (i : ℕ) (s : BTreeSet Key) (e : Export) (key : Key) → Seen es i s → i < length es → e ≡ get_or es i e → key.now ≡ e.name → contains key_cmp s key ≡ true → AllPairs (λ a b. a ≢ b) (map (λ (x : Export). x.name) es) → ⊥
repeated es i s e key h within is name old all =
    let a = Any-from_list_any (is_named key.now) (take i es) (sym (h.has key) ∙ old) in
    let lower : a.0 < i = omega (arith, a.2, length-take i es) in
    let name_of : Export → List ℕ = λ x. x.name in
    let first : get_or (map (λ (x : Export). x.name) es) a.0 [] ≡ key.now = get_or-map name_of es a.0 a.1 [] (omega arith) ∙ ap name_of (sym (get_or-take i es a.0 a.1 lower) ∙ a.3) ∙ sym ((bytes_eq-Decides key.now a.1.name).0 a.4) in
    let second : get_or (map (λ (x : Export). x.name) es) i [] ≡ key.now = get_or-map name_of es i e [] within ∙ ap name_of (sym is) ∙ sym name in
    all a.0 i [] lower (omega (arith, length-map es name_of)) (first ∙ sym second)

pub all_apart : (es : List Export) (i : ℕ) (s : BTreeSet Key) → Seen es i s → length es ≤ i → AllPairs (λ a b. a ≢ b) (map (λ (x : Export). x.name) es)
all_apart [] i s h le j k d less within e = omega arith
all_apart (x ∷ xs) i s h le j k d less within e =
    let es : List Export = x ∷ xs in
    let name_of : Export → List ℕ = λ y. y.name in
    let inside : k < length es = omega (arith, length-map es name_of) in
    h.apart j k x less (omega arith) (sym (get_or-map name_of es j x d (omega arith)) ∙ e ∙ get_or-map name_of es k x d inside)

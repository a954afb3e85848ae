-- What the code evaluates and writes is what the definition of instantiation makes of a valid module.
use Rattle.std.proofs.Common.{◌≡◌, ℕ, ◌+◌, ◌*◌, ◌≤◌, All, Bool, true, false, List, [], ◌∷◌, ◌++◌, Option, Some, None, length, map, refl, sym, ap, ◌∙◌, subst, arith}
use Rattle.std.specs.Prelude.{fold, nat_le, unwrap_or, option_map, option_and_then, ◌&&◌}
use Rattle.std.proofs.lemmas.List.Elements.{All-head, All-tail, All-cons}
use Rattle.std.proofs.lemmas.Option.{same_Some}
use Rattle.faaslet_meaning.specs.declared.module.Module.{Module}
use Rattle.faaslet_meaning.specs.declared.module.GlobalDef.{GlobalDef}
use Rattle.faaslet_meaning.specs.declared.module.Element.{Element}
use Rattle.faaslet_meaning.specs.declared.module.Segment.{Segment}
use Rattle.faaslet_meaning.specs.declared.outcome.Broken.TheVariants as broken
use Rattle.faaslet_meaning.specs.Fine.{ground_of}
use Rattle.faaslet_meaning.specs.Fresh.{Function, Store, Made, makes, breaks, then_make, made, unless, element_at, segment_at, cons_both, all_of, all_fit, segments_written, instantiated}
use Rattle.faaslet_meaning.specs.Memory.{page_size, size_of}
use Rattle.faaslet_meaning.specs.Program.{constant, globals_from, memory_limits, table_size, first_memory}
use Rattle.faaslet_meaning.specs.Runnable.{HostImports}
use Rattle.faaslet_meaning.specs.Valid.{Valid}
use Rattle.faaslet_meaning.proofs.SoundFresh.{MadeOk, StoreOk, instantiated_ok}
use Rattle.proto_faaslet.specs.Instances.{with_global, globals_of, element_of, segment_of, elements_of, segments_of, Fits, table_of, memory_of, AllFit}

-- ---- The values.

globals_are : (vs : List ℕ) (ds : List GlobalDef) (ws : List ℕ) → globals_from vs ds ≡ Some ws → fold with_global vs ds ≡ ws
globals_are vs [] ws e = same_Some _ _ e
globals_are vs (d ∷ ds) ws e = by (constant vs d.init) refl (λ us. globals_are us ds ws)
  where
    by : (o : Option ℕ) → constant vs d.init ≡ o → ((us : List ℕ) → globals_from us ds ≡ Some ws → fold with_global us ds ≡ ws) → fold with_global (with_global vs d) ds ≡ ws
    by None f go =
        let none : globals_from vs (d ∷ ds) ≡ None = ap (option_and_then (λ v. globals_from (vs ++ v ∷ []) ds)) f in
        let never : ⊥ = cc (none, e) in
        absurd never
    by (Some v) f go =
        let found : globals_from (vs ++ v ∷ []) ds ≡ Some ws = sym (ap (option_and_then (λ v. globals_from (vs ++ v ∷ []) ds)) f) ∙ e in
        ap (λ o. fold with_global (vs ++ unwrap_or o 0 ∷ []) ds) f ∙ go (vs ++ v ∷ []) found

all_are : {A B : Type 0} (f : A → Option B) (h : A → B) → ((x : A) (y : B) → f x ≡ Some y → h x ≡ y) → (xs : List A) (ys : List B) → all_of f xs ≡ Some ys → map h xs ≡ ys
all_are f h is [] ys e = same_Some _ _ e
all_are {A} {B} f h is (x ∷ xs) ys e = by (f x) (all_of f xs) refl refl e (all_are f h is xs)
  where
    by : (o : Option B) (os : Option (List B)) → f x ≡ o → all_of f xs ≡ os → cons_both o os ≡ Some ys → ((zs : List B) → all_of f xs ≡ Some zs → map h xs ≡ zs) → h x ∷ map h xs ≡ ys
    by None os p q g go = let never : ⊥ = cc g in absurd never
    by (Some y) None p q g go = let never : ⊥ = cc g in absurd never
    by (Some y) (Some zs) p q g go = ap (λ z. z ∷ map h xs) (is x y p) ∙ ap (λ l. y ∷ l) (go zs q) ∙ same_Some _ _ g

element_is : (gs : List ℕ) (e : Element) (y : ℕ × List (Option ℕ)) → element_at gs e ≡ Some y → element_of gs e ≡ y
element_is gs e y p = by (constant gs e.offset) p
  where
    by : (o : Option ℕ) → option_map (λ at. (at, map (λ f. Some f) e.functions)) o ≡ Some y → (unwrap_or o 0, map (λ f. Some f) e.functions) ≡ y
    by None q = let never : ⊥ = cc q in absurd never
    by (Some v) q = same_Some _ _ q

segment_is : (gs : List ℕ) (s : Segment) (y : ℕ × List ℕ) → segment_at gs s ≡ Some y → segment_of gs s ≡ y
segment_is gs s y p = by (constant gs s.offset) p
  where
    by : (o : Option ℕ) → option_map (λ at. (at, s.bytes)) o ≡ Some y → (unwrap_or o 0, s.bytes) ≡ y
    by None q = let never : ⊥ = cc q in absurd never
    by (Some v) q = same_Some _ _ q

-- ---- What fits.

pub test : (a b : ℕ) → a ≤ b → nat_le a b ≡ true
test a b h = grind arith

pub tested : (a b : ℕ) → nat_le a b ≡ true → a ≤ b
tested a b h = grind arith

fit : {A X : Type 0} (f : X → ℕ × List A) (n : ℕ) (xs : List X) → All (λ x. Fits n (f x)) xs → all_fit n (map f xs) ≡ true
fit f n [] h = refl
fit {A} {X} f n (x ∷ xs) h =
    let P : X → Type 0 = λ y. Fits n (f y) in
    ap (λ b. b && all_fit n (map f xs)) (test _ _ (All-head P x xs h)) ∙ fit f n xs (All-tail P x xs h)

pub both : (a b : Bool) → (a && b) ≡ true → (a ≡ true) × (b ≡ true)
both true b e = (refl, e)
both false b e = let never : ⊥ = cc e in absurd never

fits_all : {A X : Type 0} (f : X → ℕ × List A) (n : ℕ) (xs : List X) → all_fit n (map f xs) ≡ true → All (λ x. Fits n (f x)) xs
fits_all f n [] h = λ k d l. absurd (omega arith)
fits_all {A} {X} f n (x ∷ xs) h =
    let P : X → Type 0 = λ y. Fits n (f y) in
    let parts = both (nat_le ((f x).0 + length (f x).1) n) (all_fit n (map f xs)) h in
    All-cons P x xs (tested _ _ parts.0) (fits_all f n xs parts.1)

-- ---- Instantiation.

module _ (f : Function) (v : Valid f.code) (hosts : HostImports f.code) where
  abbrev m : Module
  m = f.code

  abbrev rest : Made Store
  rest =
      then_make (made (globals_from [] m.globals)) λ gs.
      then_make (made (all_of (element_at gs) m.elements)) λ es.
      then_make (made (all_of (segment_at gs) m.segments)) λ ss. segments_written f gs es ss

  pub over_quota : nat_le (memory_limits f.code).min f.quota ≡ false → instantiated f ≡ breaks broken.Quota
  over_quota e = ap (λ b. unless broken.Quota b rest) e

  module _ (within : nat_le (memory_limits f.code).min f.quota ≡ true) where
    is_rest : instantiated f ≡ rest
    is_rest = ap (λ b. unless broken.Quota b rest) within

    abbrev P : Store → Type 0
    P = StoreOk (ground_of m)

    evaluated : instantiated f ≡ segments_written f (globals_of m.globals) (elements_of m) (segments_of m)
    evaluated = is_rest ∙ at_globals (globals_from [] m.globals) refl (subst (MadeOk P) is_rest (instantiated_ok f v hosts))
      where
        written : (gs : List ℕ) (es : List (ℕ × List (Option ℕ))) (o : Option (List (ℕ × List ℕ))) → fold with_global [] m.globals ≡ gs → map (element_of gs) m.elements ≡ es → all_of (segment_at gs) m.segments ≡ o
            → MadeOk P (then_make (made o) λ ss. segments_written f gs es ss) → then_make (made o) (λ ss. segments_written f gs es ss) ≡ segments_written f (globals_of m.globals) (elements_of m) (segments_of m)
        written gs es None g e s h = absurd h
        written gs es (Some ss) g e s h =
            let segments = all_are (segment_at gs) (segment_of gs) (segment_is gs) m.segments ss s in
            ap (segments_written f gs es) (sym segments)
            ∙ ap (λ l. segments_written f gs l (map (segment_of gs) m.segments)) (sym e)
            ∙ ap (λ l. segments_written f l (map (element_of l) m.elements) (map (segment_of l) m.segments)) (sym g)

        at_elements : (gs : List ℕ) (o : Option (List (ℕ × List (Option ℕ)))) → fold with_global [] m.globals ≡ gs → all_of (element_at gs) m.elements ≡ o
            → MadeOk P (then_make (made o) λ es. then_make (made (all_of (segment_at gs) m.segments)) λ ss. segments_written f gs es ss)
            → then_make (made o) (λ es. then_make (made (all_of (segment_at gs) m.segments)) λ ss. segments_written f gs es ss) ≡ segments_written f (globals_of m.globals) (elements_of m) (segments_of m)
        at_elements gs None g e h = absurd h
        at_elements gs (Some es) g e h = written gs es (all_of (segment_at gs) m.segments) g (all_are (element_at gs) (element_of gs) (element_is gs) m.elements es e) refl h

        at_globals : (o : Option (List ℕ)) → globals_from [] m.globals ≡ o
            → MadeOk P (then_make (made o) λ gs. then_make (made (all_of (element_at gs) m.elements)) λ es. then_make (made (all_of (segment_at gs) m.segments)) λ ss. segments_written f gs es ss)
            → then_make (made o) (λ gs. then_make (made (all_of (element_at gs) m.elements)) λ es. then_make (made (all_of (segment_at gs) m.segments)) λ ss. segments_written f gs es ss) ≡ segments_written f (globals_of m.globals) (elements_of m) (segments_of m)
        at_globals None g h = absurd h
        at_globals (Some gs) g h = at_elements gs (all_of (element_at gs) m.elements) (globals_are [] m.globals gs g) refl h

    abbrev whole : Store
    whole = record { globals = globals_of m.globals; table = table_of m; memory = memory_of m f.quota }

    size_is : size_of (first_memory m f.quota) ≡ (memory_limits m).min * page_size
    size_is = ap (λ n. n * page_size) (omega arith)

    abbrev fitting : Bool
    fitting = all_fit (table_size m) (elements_of m) && all_fit (size_of (first_memory m f.quota)) (segments_of m)

    pub written : AllFit m → instantiated f ≡ makes whole
    written h = evaluated ∙ ap (λ b. unless broken.Segment b (makes whole)) fitted
      where
        fitted : fitting ≡ true
        fitted =
            ap (λ b. b && all_fit (size_of (first_memory m f.quota)) (segments_of m)) (fit (element_of (globals_of m.globals)) (table_size m) m.elements h.elements)
            ∙ ap (λ n. all_fit n (segments_of m)) size_is
            ∙ fit (segment_of (globals_of m.globals)) ((memory_limits m).min * page_size) m.segments h.segments

    pub not_written : (AllFit m → ⊥) → instantiated f ≡ breaks broken.Segment
    not_written unfit = evaluated ∙ ap (λ b. unless broken.Segment b (makes whole)) (unfitted fitting refl)
      where
        unfitted : (b : Bool) → fitting ≡ b → fitting ≡ false
        unfitted false e = e
        unfitted true e =
            let parts = both _ _ e in
            absurd (unfit (record {
              elements = fits_all (element_of (globals_of m.globals)) (table_size m) m.elements parts.0;
              segments = fits_all (segment_of (globals_of m.globals)) ((memory_limits m).min * page_size) m.segments (sym (ap (λ n. all_fit n (segments_of m)) size_is) ∙ parts.1);
            }))

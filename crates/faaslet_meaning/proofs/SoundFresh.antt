-- A runnable module comes to a state, or is broken for one of the reasons that there are; and its state is typed.
use Rattle.std.proofs.Common.{◌≡◌, ℕ, zero, suc, ◌+◌, ◌<◌, ◌≤◌, List, [], ◌∷◌, ◌++◌, length, take, drop, refl, sym, ap, subst, arith, None, Some, Option, Bool, true, false, length-append, map}
use Rattle.std.specs.Prelude.{All, slice_get, get_or, replicate, filter_map, option_map, option_and_then}
use Rattle.std.specs.List.{cons_option}
use Rattle.std.proofs.lemmas.List.{length-map}
use Rattle.std.proofs.lemmas.Option.{slice_get_within, slice_get-get_or}
use Rattle.faaslet_meaning.specs.declared.instr.ValType.{ValType}
use Rattle.faaslet_meaning.specs.declared.instr.ValType.TheVariants.{I32}
use Rattle.faaslet_meaning.specs.declared.instr.Instr.{Instr}
use Rattle.faaslet_meaning.specs.declared.instr.Instr.TheVariants.{End, GlobalGet, I32Const, I64Const}
use Rattle.faaslet_meaning.specs.declared.module.Module.{Module}
use Rattle.faaslet_meaning.specs.declared.module.FuncType.{FuncType}
use Rattle.faaslet_meaning.specs.declared.module.GlobalType.{GlobalType}
use Rattle.faaslet_meaning.specs.declared.module.GlobalDef.{GlobalDef}
use Rattle.faaslet_meaning.specs.declared.module.Import.{Import}
use Rattle.faaslet_meaning.specs.declared.module.ImportKind.{ImportKind}
use Rattle.faaslet_meaning.specs.declared.module.ImportKind.TheVariants as import
use Rattle.faaslet_meaning.specs.declared.module.Element.{Element}
use Rattle.faaslet_meaning.specs.declared.module.Segment.{Segment}
use Rattle.faaslet_meaning.specs.declared.outcome.Broken.{Broken}
use Rattle.faaslet_meaning.specs.Memory.{over}
use Rattle.faaslet_meaning.specs.Program.{constant, globals_from, table_size}
use Rattle.faaslet_meaning.specs.Valid.{IsConstant, GivesConstant, ElementOk, SegmentOk, Valid}
use Rattle.faaslet_meaning.specs.IndexSpaces.{imported_global, imported_globals, globals, functions, type_at}
use Rattle.faaslet_meaning.specs.Runnable.{IsHostCall, HostImports}
use Rattle.faaslet_meaning.specs.Fresh.{Function, Store, Made, makes, breaks, nothing, then_make, made, unless, element_at, segment_at, cons_both, all_of, all_over, instantiated}
use Rattle.faaslet_meaning.specs.Fine.{Ground, ground_of, TableOk}
use Rattle.faaslet_meaning.proofs.Quiet.{AllPrivate}

-- what is made is so, and something is made or broken
abbrev pub MadeOk : {A : Type 0} → (A → Type 0) → Made A → Type 0
MadeOk P (makes a) = P a
MadeOk P (breaks k) = Unit {0}
MadeOk P nothing = ⊥

pub then_ok : {A B : Type 0} (P : A → Type 0) (Q : B → Type 0) (a : Made A) (go : A → Made B) → MadeOk P a → ((x : A) → P x → MadeOk Q (go x)) → MadeOk Q (then_make a go)
then_ok P Q (makes a) go h k = k a h
then_ok P Q (breaks b) go h k = tt
then_ok P Q nothing go h k = absurd h

unless_ok : {A : Type 0} (P : A → Type 0) (k : Broken) (b : Bool) (a : Made A) → MadeOk P a → MadeOk P (unless k b a)
unless_ok P k true a h = h
unless_ok P k false a h = tt

some_made : {A : Type 0} (P : A → Type 0) (o : Option A) (a : A) → o ≡ Some a → P a → MadeOk P (made o)
some_made P o a e h = subst (λ q. MadeOk P (made q)) (sym e) h

abbrev Each : {A : Type 0} → (A → Type 0) → List A → Type 0
Each P [] = Unit {0}
Each P (x ∷ xs) = P x × Each P xs

each : {A : Type 0} (P : A → Type 0) (xs : List A) → All P xs → Each P xs
each P [] h = tt
each P (x ∷ xs) h = (h 0 x (omega arith), each P xs (λ k d l. h (suc k) d (omega (arith, l))))

all_made : {A B : Type 0} (f : A → Option B) (P : B → Type 0) (xs : List A) → Each (λ x. (y : B) × (f x ≡ Some y) × P y) xs → (ys : List B) × (all_of f xs ≡ Some ys) × Each P ys
all_made f P [] h = ([], refl, tt)
all_made f P (x ∷ xs) h =
    let y = h.0 in
    let rest = all_made f P xs h.1 in
    (y.0 ∷ rest.0, subst (λ o. cons_both o (all_of f xs) ≡ Some (y.0 ∷ rest.0)) (sym y.1) (ap (λ o. cons_both (Some y.0) o) rest.1), (y.2, rest.2))

-- a constant expression has a value once the globals that it may name have theirs
constant_found : (gs : List GlobalType) (vs : List ℕ) (t : ValType) (code : List Instr) → length gs ≤ length vs → IsConstant gs t code → (v : ℕ) × (constant vs code ≡ Some v)
constant_found gs vs t code n h = subst (λ (is : List Instr). (v : ℕ) × (constant vs is ≡ Some v)) (sym h.1) (by h.0 h.2)
  where
    by : (i : Instr) → GivesConstant gs i t → (v : ℕ) × (constant vs (i ∷ End ∷ []) ≡ Some v)
    by (I32Const k) h = (_, refl)
    by (I64Const k) h = (_, refl)
    by (GlobalGet k) h = (get_or vs k 0, slice_get-get_or vs k 0 (omega (arith, n, slice_get_within gs k _ h)))
    by _ h = absurd h

globals_found : (gs : List GlobalType) (vs : List ℕ) (ds : List GlobalDef) → length gs ≤ length vs → Each (λ (d : GlobalDef). IsConstant gs d.kind.value d.init) ds → (ws : List ℕ) × (globals_from vs ds ≡ Some ws) × (length ws ≡ length vs + length ds)
globals_found gs vs [] n h = (vs, refl, omega arith)
globals_found gs vs (d ∷ ds) n h =
    let c = constant_found gs vs d.kind.value d.init n h.0 in
    let rest = globals_found gs (vs ++ c.0 ∷ []) ds (omega (arith, n, length-append vs (c.0 ∷ []))) h.1 in
    (rest.0, subst (λ o. option_and_then (λ v. globals_from (vs ++ v ∷ []) ds) o ≡ Some rest.0) (sym c.1) rest.1, omega (arith, rest.2, length-append vs (c.0 ∷ [])))

-- functions in a table
module _ (g : Ground) where
  abbrev AllFound : List (Option ℕ) → Type 0
  AllFound [] = Unit {0}
  AllFound (None ∷ es) = AllFound es
  AllFound (Some f ∷ es) = ((t : FuncType) × (slice_get g.functions f ≡ Some t)) × AllFound es

  found_append : (xs ys : List (Option ℕ)) → AllFound xs → AllFound ys → AllFound (xs ++ ys)
  found_append [] ys h k = k
  found_append (None ∷ xs) ys h k = found_append xs ys h k
  found_append (Some f ∷ xs) ys h k = (h.0, found_append xs ys h.1 k)

  found_take : (n : ℕ) (xs : List (Option ℕ)) → AllFound xs → AllFound (take n xs)
  found_take zero xs h = tt
  found_take (suc n) [] h = tt
  found_take (suc n) (None ∷ xs) h = found_take n xs h
  found_take (suc n) (Some f ∷ xs) h = (h.0, found_take n xs h.1)

  found_drop : (n : ℕ) (xs : List (Option ℕ)) → AllFound xs → AllFound (drop n xs)
  found_drop zero xs h = h
  found_drop (suc n) [] h = tt
  found_drop (suc n) (None ∷ xs) h = found_drop n xs h
  found_drop (suc n) (Some f ∷ xs) h = found_drop n xs h.1

  found_none : (n : ℕ) → AllFound (replicate n None)
  found_none zero = tt
  found_none (suc n) = found_none n

  found_over : (to : List (Option ℕ)) (at : ℕ) (new : List (Option ℕ)) → AllFound to → AllFound new → AllFound (over to at new)
  found_over to at new h k = found_append (take at to) (new ++ drop (at + length new) to) (found_take at to h) (found_append new (drop (at + length new) to) k (found_drop (at + length new) to h))

  found_all : (to : List (Option ℕ)) (xs : List (ℕ × List (Option ℕ))) → AllFound to → Each (λ x. AllFound x.1) xs → AllFound (all_over to xs)
  found_all to [] h k = h
  found_all to (x ∷ xs) h k = found_all (over to x.0 x.1) xs (found_over to x.0 x.1 h k.0) k.1

  found_some : (fs : List ℕ) → Each (λ f. f < length g.functions) fs → AllFound (map (λ f. Some f) fs)
  found_some [] h = tt
  found_some (f ∷ fs) h = ((get_or g.functions f (record { params = []; results = [] }), slice_get-get_or g.functions f (record { params = []; results = [] }) h.0), found_some fs h.1)

  table_found : (es : List (Option ℕ)) → AllFound es → TableOk g es
  table_found [] h k f e = absurd (cc)
  table_found (None ∷ es) h zero f e = absurd (cc)
  table_found (None ∷ es) h (suc k) f e = table_found es h k f e
  table_found (Some w ∷ es) h zero f e = let same : w ≡ f = cc in subst (λ n. (t : FuncType) × (slice_get g.functions n ≡ Some t)) same h.0
  table_found (Some w ∷ es) h (suc k) f e = table_found es h.1 k f e

-- host calls are functions, so no global is imported
no_globals : (m : Module) (is : List Import) → Each (IsHostCall m) is → filter_map (λ (i : Import). imported_global i.kind) is ≡ []
no_globals m [] h = refl
no_globals m (i ∷ is) h = by i.kind h.0.kind (no_globals m is h.1)
  where
    by : (kind : ImportKind) → kind ≡ import.Function h.0.type → filter_map (λ (i : Import). imported_global i.kind) is ≡ [] → cons_option (imported_global kind) (filter_map (λ (i : Import). imported_global i.kind) is) ≡ []
    by (import.Function u) e r = r
    by (import.Table l) e r = absurd (cc)
    by (import.Memory l) e r = absurd (cc)
    by (import.Global g) e r = absurd (cc)

-- what a module keeps is typed, and its memory is private
pub record StoreOk (g : Ground) (s : Store) : Type 0 where
  pub globals : length s.globals ≡ length g.globals
  pub table : TableOk g s.table
  pub memory : AllPrivate s.memory.segments

module _ (f : Function) (v : Valid f.code) (hosts : HostImports f.code) where
  abbrev here : Ground
  here = ground_of f.code

  no_imported : imported_globals f.code ≡ []
  no_imported = no_globals f.code f.code.imports (each (IsHostCall f.code) f.code.imports hosts)

  many_globals : length (globals f.code) ≡ length f.code.globals
  many_globals = omega (arith, length-append (imported_globals f.code) (map (λ (d : GlobalDef). d.kind) f.code.globals), length-map f.code.globals (λ (d : GlobalDef). d.kind), ap length no_imported)

  element_found : (vs : List ℕ) → length vs ≡ length (globals f.code) → (e : Element) → ElementOk f.code e → (y : ℕ × List (Option ℕ)) × (element_at vs e ≡ Some y) × AllFound here y.1
  element_found vs n e h =
      let c = constant_found (globals f.code) vs I32 e.offset (omega (arith, n)) h.offset in
      let bound : Each (λ k. k < length here.functions) e.functions = subst (λ n. Each (λ k. k < n) e.functions) (sym (length-map (functions f.code) (type_at f.code))) (each _ e.functions h.functions) in
      ((c.0, map (λ k. Some k) e.functions), ap (λ o. option_map (λ at. (at, map (λ k. Some k) e.functions)) o) c.1, found_some here e.functions bound)

  segment_found : (vs : List ℕ) → length vs ≡ length (globals f.code) → (s : Segment) → SegmentOk f.code s → (y : ℕ × List ℕ) × (segment_at vs s ≡ Some y) × Unit {0}
  segment_found vs n s h =
      let c = constant_found (globals f.code) vs I32 s.offset (omega (arith, n)) h.offset in
      ((c.0, s.bytes), ap (λ o. option_map (λ at. (at, s.bytes)) o) c.1, tt)

  each_map : {A : Type 0} (P Q : A → Type 0) (xs : List A) → ((x : A) → P x → Q x) → Each P xs → Each Q xs
  each_map P Q [] go h = tt
  each_map P Q (x ∷ xs) go h = (go x h.0, each_map P Q xs go h.1)

  pub instantiated_ok : MadeOk (StoreOk here) (instantiated f)
  instantiated_ok =
      let m = f.code in
      let vs = globals_found (imported_globals m) [] m.globals (omega (arith, ap length no_imported)) (each _ m.globals v.rules.globals_constant) in
      unless_ok (StoreOk here) _ _ _
      (then_ok (λ ws. length ws ≡ length (globals m)) (StoreOk here) (made (globals_from [] m.globals)) _ (some_made _ (globals_from [] m.globals) vs.0 vs.1 (omega (arith, vs.2, many_globals))) λ ws n.
      let es = all_made (element_at ws) (λ (y : ℕ × List (Option ℕ)). AllFound here y.1) m.elements (each_map (ElementOk m) _ m.elements (element_found ws n) (each _ m.elements v.rules.elements_ok)) in
      let ss = all_made (segment_at ws) (λ (y : ℕ × List ℕ). Unit {0}) m.segments (each_map (SegmentOk m) _ m.segments (segment_found ws n) (each _ m.segments v.rules.segments_ok)) in
      then_ok (λ xs. Each (λ (y : ℕ × List (Option ℕ)). AllFound here y.1) xs) (StoreOk here) (made (all_of (element_at ws) m.elements)) _ (some_made _ (all_of (element_at ws) m.elements) es.0 es.1 es.2) λ xs found.
      then_ok (λ ys. Unit {0}) (StoreOk here) (made (all_of (segment_at ws) m.segments)) _ (some_made (λ ys. Unit {0}) (all_of (segment_at ws) m.segments) ss.0 ss.1 (tt {0})) λ ys u.
      unless_ok (StoreOk here) _ _ (makes _) (record { globals = n; table = table_found here _ (found_all here (replicate (table_size m) None) xs (found_none here (table_size m)) found); memory = (tt, tt) }))

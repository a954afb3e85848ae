-- Two plans whose cuts by names are equal have one cut by numbers.
use Rattle.std.proofs.Common.{◌≡◌, ℕ, zero, suc, Bool, true, false, cond, List, [], ◌∷◌, Option, Some, None, refl, sym, ap, ap₂, ◌∙◌, map, filter, option_map, slice_get}
use Rattle.faaslet_meaning.specs.declared.grant.Grant.{Grant}
use Rattle.faaslet_meaning.specs.declared.grant.Mode.{Mode}
use Rattle.faaslet_meaning.specs.declared.module.Module.{Module}
use Rattle.faaslet_meaning.specs.Lists.{passes_at}
use Rattle.session_meaning.specs.Plan.{Key, NamedFunction, Request, Plan, Names, is_function_of, is_key_of, Closed}
use Rattle.session_meaning.specs.SessionReport.{key_name}
use Rattle.session_meaning.specs.Cut.{kept, rank, cut_grant, cut_named, plan_cut}
use Rattle.session_meaning.specs.CallNames.{NamedApart, DistinctNames}
use Rattle.session_meaning.specs.NamedCut.{function_name, named_grant, named_function, named_request, plan_by_name}
use Rattle.session_meaning.proofs.Kept.{get_kept, get_map}
use Rattle.session_meaning.proofs.Invariants.{ClosedIn}
use Rattle.session_meaning.proofs.TwoWorlds.{closed_by_names}

-- ---- What is kept.

pub kept_back : {A : Type 0} (is : ℕ → Bool) (xs : List A) (m : ℕ) (x : A) → slice_get (kept is xs) m ≡ Some x → (n : ℕ) × (is n ≡ true) × (rank is n ≡ m) × (slice_get xs n ≡ Some x)
kept_back is [] m x e = let no : ⊥ = cc in absurd no
kept_back {A} is (y ∷ xs) m x e = by (is 0) refl m e (λ k f. kept_back (λ n. is (suc n)) xs k x f)
  where
    later : ℕ → Bool
    later n = is (suc n)

    by : (b : Bool) → is 0 ≡ b → (m : ℕ) → slice_get (cond b (y ∷ kept (λ n. is (suc n)) xs) (kept (λ n. is (suc n)) xs)) m ≡ Some x → ((k : ℕ) → slice_get (kept (λ n. is (suc n)) xs) k ≡ Some x → (n : ℕ) × (is (suc n) ≡ true) × (rank (λ n. is (suc n)) n ≡ k) × (slice_get xs n ≡ Some x)) → (n : ℕ) × (is n ≡ true) × (rank is n ≡ m) × (slice_get (y ∷ xs) n ≡ Some x)
    by true i zero e go = (0, i, refl, e)
    by true i (suc m) e go = let h = go m e in (suc h.0, h.1, ap (λ b. cond b (suc (rank (λ n. is (suc n)) h.0)) (rank (λ n. is (suc n)) h.0)) i ∙ ap suc h.2, h.3)
    by false i m e go = let h = go m e in (suc h.0, h.1, ap (λ b. cond b (suc (rank (λ n. is (suc n)) h.0)) (rank (λ n. is (suc n)) h.0)) i ∙ h.2, h.3)

pub kept_apart : {A : Type 0} (name : A → List ℕ) (is : ℕ → Bool) (xs : List A) → NamedApart name xs → NamedApart name (kept is xs)
kept_apart name is xs apart m n x y e f same =
    let a = kept_back is xs m x e in
    let b = kept_back is xs n y f in
    sym a.2 ∙ ap (rank is) (apart a.0 b.0 x y a.3 b.3 same) ∙ b.2

-- items that pass a test are those whose numbers do
pub filter_kept : {A : Type 0} (test : A → Bool) (xs : List A) → filter test xs ≡ kept (λ n. passes_at test xs n) xs
filter_kept test [] = refl
filter_kept test (x ∷ xs) = by (test x) (filter_kept test xs)
  where
    by : (b : Bool) → filter test xs ≡ kept (λ n. passes_at test xs n) xs → cond b (x ∷ filter test xs) (filter test xs) ≡ cond b (x ∷ kept (λ n. passes_at test xs n) xs) (kept (λ n. passes_at test xs n) xs)
    by true e = ap (λ ys. x ∷ ys) e
    by false e = e

pub passes_there : {A : Type 0} (test : A → Bool) (xs : List A) (n : ℕ) → passes_at test xs n ≡ true → (x : A) × (slice_get xs n ≡ Some x) × (test x ≡ true)
passes_there {A} test xs n h = by (slice_get xs n) refl h
  where
    by : (o : Option A) → slice_get xs n ≡ o → elim o as (λ o. Bool) [ None ↦ false | Some x ↦ test x ] ≡ true → (x : A) × (slice_get xs n ≡ Some x) × (test x ≡ true)
    by None e h = let no : ⊥ = cc in absurd no
    by (Some x) e h = (x, e, h)

-- ---- Equal names are equal numbers.

some_same : {A : Type 0} {x y : A} → Some x ≡ Some y → x ≡ y
some_same e = cc

pub named_there : {A B : Type 0} (name : A → B) (xs : List A) (n : ℕ) (b : B) → slice_get (map name xs) n ≡ Some b → (x : A) × (slice_get xs n ≡ Some x) × (name x ≡ b)
named_there name [] n b e = let no : ⊥ = cc in absurd no
named_there name (x ∷ xs) zero b e = (x, refl, some_same e)
named_there name (x ∷ xs) (suc n) b e = named_there name xs n b e

pub same_number : {A : Type 0} (name : A → List ℕ) (is is' : ℕ → Bool) (xs xs' : List A) (m n : ℕ) (x y : A) → NamedApart name xs → map name (kept is xs) ≡ map name (kept is' xs') → is m ≡ true → is' n ≡ true → slice_get xs m ≡ Some x → slice_get xs' n ≡ Some y → name x ≡ name y → rank is m ≡ rank is' n
same_number name is is' xs xs' m n x y apart lists i j e f same =
    let there : slice_get (map name (kept is xs)) (rank is' n) ≡ Some (name y) =
    ap (λ l. slice_get l (rank is' n)) lists ∙ get_map name (kept is' xs') (rank is' n) ∙ ap (option_map name) (get_kept is' xs' n j ∙ f) in
    let z = named_there name (kept is xs) (rank is' n) (name y) there in
    kept_apart name is xs apart (rank is m) (rank is' n) x z.0 (get_kept is xs m i ∙ e) z.1 (same ∙ sym z.2)

-- ---- Lists that are equal by names.

abbrev MapsSo : {A B C D : Type 0} → (A → C) → (B → C) → (A → D) → (B → D) → List A → List B → Type 0
MapsSo {A} {B} f g h k xs ys = (m n : ℕ) (x : A) (y : B) → slice_get xs m ≡ Some x → slice_get ys n ≡ Some y → f x ≡ g y → h x ≡ k y

cons_same : {A : Type 0} {x y : A} {xs ys : List A} → x ∷ xs ≡ y ∷ ys → (x ≡ y) × (xs ≡ ys)
cons_same e = (cc, cc)

pub maps_too : {A B C D : Type 0} (f : A → C) (g : B → C) (h : A → D) (k : B → D) (xs : List A) (ys : List B) → MapsSo f g h k xs ys → map f xs ≡ map g ys → map h xs ≡ map k ys
maps_too f g h k [] [] so e = refl
maps_too f g h k [] (y ∷ ys) so e = let no : ⊥ = cc in absurd no
maps_too f g h k (x ∷ xs) [] so e = let no : ⊥ = cc in absurd no
maps_too f g h k (x ∷ xs) (y ∷ ys) so e =
    let c = cons_same e in
    ap₂ (λ z zs. z ∷ zs) (so 0 0 x y refl refl c.0) (maps_too f g h k xs ys (λ m n a b p q r. so (suc m) (suc n) a b p q r) c.1)

-- ---- Two plans.

record Alike (plan other : Plan) (functions keys : Names) : Type 0 where
  pub closed : ClosedIn plan (is_function_of plan functions) (is_key_of plan keys)
  pub closed_too : ClosedIn other (is_function_of other functions) (is_key_of other keys)
  pub distinct : DistinctNames plan
  pub key_names : map (λ k. k.name) (kept (is_key_of plan keys) plan.keys) ≡ map (λ k. k.name) (kept (is_key_of other keys) other.keys)
  pub function_names : map (λ f. f.name) (kept (is_function_of plan functions) plan.functions) ≡ map (λ f. f.name) (kept (is_function_of other functions) other.functions)

key_is : (plan : Plan) (k : ℕ) (x : Key) → slice_get plan.keys k ≡ Some x → key_name plan k ≡ x.name
key_is plan k x e = ap (λ o. elim o as (λ o. List ℕ) [ None ↦ [] | Some k ↦ k.name ]) e

function_is : (plan : Plan) (f : ℕ) (x : NamedFunction) → slice_get plan.functions f ≡ Some x → function_name plan f ≡ x.name
function_is plan f x e = ap (λ o. elim o as (λ o. List ℕ) [ None ↦ [] | Some g ↦ g.name ]) e

one_key : (plan other : Plan) (functions keys : Names) (m n : ℕ) → Alike plan other functions keys → is_key_of plan keys m ≡ true → is_key_of other keys n ≡ true → key_name plan m ≡ key_name other n → rank (is_key_of plan keys) m ≡ rank (is_key_of other keys) n
one_key plan other functions keys m n alike i j same =
    let x = passes_there (λ k. keys k.name) plan.keys m i in
    let y = passes_there (λ k. keys k.name) other.keys n j in
    same_number (λ k. k.name) (is_key_of plan keys) (is_key_of other keys) plan.keys other.keys m n x.0 y.0 alike.distinct.keys alike.key_names i j x.1 y.1 (sym (key_is plan m x.0 x.1) ∙ same ∙ key_is other n y.0 y.1)

one_function : (plan other : Plan) (functions keys : Names) (m n : ℕ) → Alike plan other functions keys → is_function_of plan functions m ≡ true → is_function_of other functions n ≡ true → function_name plan m ≡ function_name other n → rank (is_function_of plan functions) m ≡ rank (is_function_of other functions) n
one_function plan other functions keys m n alike i j same =
    let x = passes_there (λ f. functions f.name) plan.functions m i in
    let y = passes_there (λ f. functions f.name) other.functions n j in
    same_number (λ f. f.name) (is_function_of plan functions) (is_function_of other functions) plan.functions other.functions m n x.0 y.0 alike.distinct.functions alike.function_names i j x.1 y.1 (sym (function_is plan m x.0 x.1) ∙ same ∙ function_is other n y.0 y.1)

-- a function by its parts
abbrev of_parts : List ℕ → Module → ℕ → ℕ → ℕ → List Grant → List ℕ → NamedFunction
of_parts name code quota fuel room grants callees = record { name = name; function = record { code = code; quota = quota; fuel = fuel; room = room; grants = grants; callees = callees } }

parts_same : {n n' : List ℕ} {c c' : Module} {q q' f f' r r' : ℕ} {gs gs' : List Grant} {cs cs' : List ℕ} → n ≡ n' → c ≡ c' → q ≡ q' → f ≡ f' → r ≡ r' → gs ≡ gs' → cs ≡ cs' → of_parts n c q f r gs cs ≡ of_parts n' c' q' f' r' gs' cs'
parts_same {n} {n'} {c} {c'} {q} {q'} {f} {f'} {r} {r'} {gs} {gs'} {cs} {cs'} a b d e g h k =
    ap₂ (λ n c. of_parts n c q f r gs cs) a b ∙ ap₂ (λ q f. of_parts n' c' q f r gs cs) d e ∙ ap₂ (λ r gs. of_parts n' c' q' f' r gs cs) g h ∙ ap (λ cs. of_parts n' c' q' f' r' gs' cs) k

abbrev grant_of : ℕ → ℕ → Mode → Grant
grant_of key size mode = record { key = key; size = size; mode = mode }

one_grant : (k k' : ℕ) (g h : Grant) → k ≡ k' → g.size ≡ h.size → g.mode ≡ h.mode → grant_of k g.size g.mode ≡ grant_of k' h.size h.mode
one_grant k k' g h a b c = ap₂ (λ x y. grant_of x y g.mode) a b ∙ ap (λ m. grant_of k' h.size m) c

named_cut : (plan other : Plan) (functions keys : Names) (m n : ℕ) (f g : NamedFunction) → Alike plan other functions keys → slice_get plan.functions m ≡ Some f → slice_get other.functions n ≡ Some g → is_function_of plan functions m ≡ true → is_function_of other functions n ≡ true → named_function plan f ≡ named_function other g → cut_named (record { functions = is_function_of plan functions; keys = is_key_of plan keys; calls = λ n. true }) f ≡ cut_named (record { functions = is_function_of other functions; keys = is_key_of other keys; calls = λ n. true }) g
named_cut plan other functions keys m n f g alike e h i j same =
    let c = alike.closed m f e in
    let d = alike.closed_too n g h in
    let grants = maps_too (named_grant plan) (named_grant other) (cut_grant (is_key_of plan keys)) (cut_grant (is_key_of other keys)) f.function.grants g.function.grants
    (λ a b x y p q r. one_grant (rank (is_key_of plan keys) x.key) (rank (is_key_of other keys) y.key) x y (one_key plan other functions keys x.key y.key alike (c.grants a x p ∙ i) (d.grants b y q ∙ j) (ap (λ z. z.key) r)) (ap (λ z. z.size) r) (ap (λ z. z.mode) r))
    (ap (λ z. z.grants) same) in
    let callees = maps_too (function_name plan) (function_name other) (rank (is_function_of plan functions)) (rank (is_function_of other functions)) f.function.callees g.function.callees
    (λ a b x y p q r. one_function plan other functions keys x y alike (c.callees a x p ∙ i) (d.callees b y q ∙ j) r)
    (ap (λ z. z.callees) same) in
    parts_same (ap (λ z. z.name) same) (ap (λ z. z.code) same) (ap (λ z. z.quota) same) (ap (λ z. z.fuel) same) (ap (λ z. z.room) same) grants callees

pub filter_there : {A : Type 0} (test : A → Bool) (xs : List A) (n : ℕ) (x : A) → slice_get (filter test xs) n ≡ Some x → test x ≡ true
filter_there test xs n x e =
    let h = kept_back (λ n. passes_at test xs n) xs n x (sym (ap (λ ys. slice_get ys n) (filter_kept test xs)) ∙ e) in
    let t = passes_there test xs h.0 h.1 in
    ap test (some_same (sym h.3 ∙ t.1)) ∙ t.2

abbrev request_of : List ℕ → ℕ → ℕ → List ℕ → Request
request_of label function host input = record { label = label; function = function; host = host; input = input }

request_same : {l l' : List ℕ} {f f' h h' : ℕ} {i i' : List ℕ} → l ≡ l' → f ≡ f' → h ≡ h' → i ≡ i' → request_of l f h i ≡ request_of l' f' h' i'
request_same {l} {l'} {f} {f'} {h} {h'} {i} {i'} a b c d = ap₂ (λ l f. request_of l f h i) a b ∙ ap₂ (λ h i. request_of l' f' h i) c d

abbrev plan_of : ℕ → ℕ → List Key → List NamedFunction → List Request → Plan
plan_of hosts workers keys functions requests = record { hosts = hosts; workers = workers; keys = keys; functions = functions; requests = requests }

plan_same : {h h' w w' : ℕ} {k k' : List Key} {f f' : List NamedFunction} {r r' : List Request} → h ≡ h' → w ≡ w' → k ≡ k' → f ≡ f' → r ≡ r' → plan_of h w k f r ≡ plan_of h' w' k' f' r'
plan_same {h} {h'} {w} {w'} {k} {k'} {f} {f'} {r} {r'} a b c d e = ap₂ (λ h w. plan_of h w k f r) a b ∙ ap₂ (λ k f. plan_of h' w' k f r) c d ∙ ap (λ r. plan_of h' w' k' f' r) e

pub map_map : {A B C : Type 0} (f : A → B) (g : B → C) (xs : List A) → map g (map f xs) ≡ map (λ x. g (f x)) xs
map_map f g [] = refl
map_map f g (x ∷ xs) = ap (λ ys. g (f x) ∷ ys) (map_map f g xs)

alike : (plan other : Plan) (functions keys : Names) → Closed plan functions keys → Closed other functions keys → DistinctNames plan → plan_by_name plan functions keys ≡ plan_by_name other functions keys → Alike plan other functions keys
alike plan other functions keys closed closed' distinct same =
    record {
      closed = closed_by_names plan functions keys closed;
      closed_too = closed_by_names other functions keys closed';
      distinct = distinct;
      key_names = ap (map (λ k. k.name)) (sym (filter_kept (λ k. keys k.name) plan.keys) ∙ ap (λ p. p.keys) same ∙ filter_kept (λ k. keys k.name) other.keys);
      function_names =
          ap (map (λ f. f.name)) (sym (filter_kept (λ f. functions f.name) plan.functions))
          ∙ sym (map_map (named_function plan) (λ f. f.name) (filter (λ f. functions f.name) plan.functions))
          ∙ ap (λ p. map (λ f. f.name) p.functions) same
          ∙ map_map (named_function other) (λ f. f.name) (filter (λ f. functions f.name) other.functions)
          ∙ ap (map (λ f. f.name)) (filter_kept (λ f. functions f.name) other.functions);
    }

-- Plans with one cut by names have one cut by numbers.
pub same_plan_cut : (plan other : Plan) (functions keys : Names) → Closed plan functions keys → Closed other functions keys → DistinctNames plan → plan_by_name plan functions keys ≡ plan_by_name other functions keys → plan_cut plan functions keys ≡ plan_cut other functions keys
same_plan_cut plan other functions keys closed closed' distinct same =
    let like = alike plan other functions keys closed closed' distinct same in
    let fs : map (named_function plan) (kept (is_function_of plan functions) plan.functions) ≡ map (named_function other) (kept (is_function_of other functions) other.functions) =
    ap (map (named_function plan)) (sym (filter_kept (λ f. functions f.name) plan.functions)) ∙ ap (λ p. p.functions) same ∙ ap (map (named_function other)) (filter_kept (λ f. functions f.name) other.functions) in
    plan_same (ap (λ p. p.hosts) same) (ap (λ p. p.workers) same)
    (sym (filter_kept (λ k. keys k.name) plan.keys) ∙ ap (λ p. p.keys) same ∙ filter_kept (λ k. keys k.name) other.keys)
    (maps_too (named_function plan) (named_function other) _ _ (kept (is_function_of plan functions) plan.functions) (kept (is_function_of other functions) other.functions)
    (λ m n f g e h r.
    let a = kept_back (is_function_of plan functions) plan.functions m f e in
    let b = kept_back (is_function_of other functions) other.functions n g h in
    named_cut plan other functions keys a.0 b.0 f g like a.3 b.3 a.1 b.1 r) fs)
    (maps_too (named_request plan) (named_request other) _ _ (filter (λ r. is_function_of plan functions r.function) plan.requests) (filter (λ r. is_function_of other functions r.function) other.requests)
    (λ m n x y e h r.
    let i = filter_there (λ r. is_function_of plan functions r.function) plan.requests m x e in
    let j = filter_there (λ r. is_function_of other functions r.function) other.requests n y h in
    request_same (ap (λ z. z.label) r) (one_function plan other functions keys x.function y.function like i j (ap (λ z. z.function) r)) (ap (λ z. z.host) r) (ap (λ z. z.input) r)) (ap (λ p. p.requests) same))

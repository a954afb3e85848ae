-- What holds of every world of a plan in which some functions and keys are closed.
use Rattle.std.proofs.Common.{◌≡◌, ◌⊎◌, inl, inr, ℕ, zero, suc, ◌≤◌, Bool, true, false, cond, not, List, [], ◌∷◌, ◌++◌, Option, Some, None, refl, sym, ap, ap₂, ◌∙◌, length, slice_get, slice_set, subst, arith}
use Rattle.std.specs.Prelude.{◌&&◌}
use Rattle.std.specs.List.{list_all}
use Rattle.std.proofs.lemmas.List.{length-append}
use Rattle.faaslet_meaning.specs.declared.call.CallRecord.{CallRecord}
use Rattle.faaslet_meaning.specs.declared.grant.Channel.{Channel}
use Rattle.faaslet_meaning.specs.declared.grant.Channel.TheVariants.{Local, Global, Table as OnTable}
use Rattle.faaslet_meaning.specs.declared.grant.Grant.{Grant}
use Rattle.faaslet_meaning.specs.declared.outcome.Outcome.{Outcome}
use Rattle.faaslet_meaning.specs.Lists.{changed}
use Rattle.faaslet_meaning.specs.Channels.{Operation, on_region, is_on_region, Reply, Question, ask, fills, pulls, pushes}
use Rattle.faaslet_meaning.specs.CallState.{Invocation, State, Progress, runs, asks, over, lost, fresh_state}
use Rattle.faaslet_meaning.specs.Call.{call_step, replied}
use Rattle.faaslet_meaning.specs.Configuration.{Configuration}
use Rattle.faaslet_meaning.specs.Fresh.{Function, makes, fresh}
use Rattle.faaslet_meaning.specs.Runs.{invocation}
use Rattle.faaslet_meaning.specs.Table as table
use Rattle.faaslet_meaning.specs.Table.{Table, TableOperation, submitted, child_record, one_more_child}
use Rattle.session_meaning.specs.Plan.{Plan, NamedFunction}
use Rattle.session_meaning.specs.OpenCall.{steps}
use Rattle.session_meaning.specs.Cut.{Part}
use Rattle.session_meaning.proofs.Kept.{length_changed}
use Rattle.session_meaning.proofs.KeptAsks.{keeps_question, leaves_question, AsksOwn, GrantsOwn}

-- ---- What one call asks: of what it was granted alone.

-- where a call comes to, whatever it is replied
pub data Comes (j : Invocation) (c : Configuration) : Progress → Type 0 where
  begun : Comes j c (runs (fresh_state c))
  stepped : {s : State} → Comes j c (runs s) → Comes j c (call_step j s)
  replying : {s : State} {q : Question} (r : Reply) → Comes j c (asks s q) → Comes j c (replied j s r)

abbrev pub HasKey : Invocation → ℕ → Type 0
HasKey j key = (k : ℕ) × (g : Grant) × (slice_get j.program.grants k ≡ Some g) × (g.key ≡ key)

abbrev pub HasCallee : Invocation → ℕ → Type 0
HasCallee j f = (k : ℕ) × (slice_get j.callees k ≡ Some f)

abbrev pub GrantedAsk : Invocation → Channel → Operation → Type 0
GrantedAsk j (Local key) op = HasKey j key × (is_on_region op ≡ true)
GrantedAsk j (Global key) op = HasKey j key × (is_on_region op ≡ true)
GrantedAsk j OnTable (Operation.submit f input) = HasCallee j f
GrantedAsk j OnTable op = Unit {0}

abbrev pub Granted : Invocation → Question → Type 0
Granted j (ask ch op) = GrantedAsk j ch op
Granted j (fills key n) = HasKey j key
Granted j (pulls key off len) = HasKey j key
Granted j (pushes key off len) = HasKey j key

-- the law on one call that the session rests on
abbrev pub AsksGranted : Type 0
AsksGranted = (f : Function) (input : List ℕ) (c : Configuration) (s : State) (q : Question) → fresh f ≡ makes c → Comes (invocation f input) c (asks s q) → Granted (invocation f input) q

pub steps_come : (j : Invocation) (c : Configuration) (n : ℕ) (p : Progress) → Comes j c p → Comes j c (steps j n p)
steps_come j c zero p h = h
steps_come j c (suc n) (runs s) h = steps_come j c n (call_step j s) (stepped h)
steps_come j c (suc n) (asks s q) h = h
steps_come j c (suc n) (over s o) h = h
steps_come j c (suc n) lost h = h

-- ---- Closed functions and keys, by number.

pub record ClosedBy (functions keys : ℕ → Bool) (n : ℕ) (f : Function) : Type 0 where
  pub grants : (k : ℕ) (g : Grant) → slice_get f.grants k ≡ Some g → keys g.key ≡ functions n
  pub callees : (k g : ℕ) → slice_get f.callees k ≡ Some g → functions g ≡ functions n

abbrev pub ClosedIn : Plan → (ℕ → Bool) → (ℕ → Bool) → Type 0
ClosedIn plan functions keys = (n : ℕ) (f : NamedFunction) → slice_get plan.functions n ≡ Some f → ClosedBy functions keys n f.function

and_so : (a b : Bool) → a ≡ true → b ≡ true → (a && b) ≡ true
and_so a b h k = ap₂ (λ x y. x && y) h k

not_so : (a : Bool) → a ≡ false → not a ≡ true
not_so a h = ap not h

pub own_question : (part : Part) (n : ℕ) (f : Function) (input : List ℕ) (q : Question) (b : Bool) → ClosedBy part.functions part.keys n f → part.functions n ≡ b → Granted (invocation f input) q → AsksOwn part b q
own_question part n f input q true closed i h = by q h
  where
    key : (k : ℕ) → HasKey (invocation f input) k → part.keys k ≡ true
    key k h = ap part.keys (sym h.3) ∙ closed.grants h.0 h.1 h.2 ∙ i

    by : (q : Question) → Granted (invocation f input) q → keeps_question part q ≡ true
    by (ask (Local k) op) h = and_so _ _ (key k h.0) h.1
    by (ask (Global k) op) h = and_so _ _ (key k h.0) h.1
    by (ask OnTable (Operation.submit g input)) h = closed.callees h.0 g h.1 ∙ i
    by (ask OnTable op) h = refl
    by (fills k m) h = key k h
    by (pulls k off len) h = key k h
    by (pushes k off len) h = key k h
own_question part n f input q false closed i h = by q h
  where
    key : (k : ℕ) → HasKey (invocation f input) k → not (part.keys k) ≡ true
    key k h = not_so (part.keys k) (ap part.keys (sym h.3) ∙ closed.grants h.0 h.1 h.2 ∙ i)

    by : (q : Question) → Granted (invocation f input) q → leaves_question part q ≡ true
    by (ask (Local k) (Operation.submit g input)) h = let no : ⊥ = cc in absurd no
    by (ask (Global k) (Operation.submit g input)) h = let no : ⊥ = cc in absurd no
    by (ask (Local k) (on_region op)) h = and_so _ true (key k h.0) refl
    by (ask (Global k) (on_region op)) h = and_so _ true (key k h.0) refl
    by (ask (Local k) (Operation.look child)) h = let no : ⊥ = cc in absurd no
    by (ask (Global k) (Operation.look child)) h = let no : ⊥ = cc in absurd no
    by (ask OnTable (Operation.submit g input)) h = not_so (part.functions g) (closed.callees h.0 g h.1 ∙ i)
    by (ask OnTable op) h = refl
    by (fills k m) h = key k h
    by (pulls k off len) h = key k h
    by (pushes k off len) h = key k h

pub own_grants : (part : Part) (n : ℕ) (f : Function) (b : Bool) → ClosedBy part.functions part.keys n f → part.functions n ≡ b → GrantsOwn part b f.grants
own_grants part n f true closed i = by f.grants (λ k g e. closed.grants k g e ∙ i)
  where
    by : (gs : List Grant) → ((k : ℕ) (g : Grant) → slice_get gs k ≡ Some g → part.keys g.key ≡ true) → list_all (λ g. part.keys g.key) gs ≡ true
    by [] h = refl
    by (g ∷ gs) h = and_so (part.keys g.key) (list_all (λ g. part.keys g.key) gs) (h 0 g refl) (by gs (λ k x e. h (suc k) x e))
own_grants part n f false closed i = tt

-- ---- Records: none is lost, and each keeps its function.

abbrev pub Grows : List CallRecord → List CallRecord → Type 0
Grows rs rs' = (n : ℕ) (r : CallRecord) → slice_get rs n ≡ Some r → (r' : CallRecord) × (slice_get rs' n ≡ Some r') × (r'.function ≡ r.function)

abbrev pub Back : {A : Type 0} → List A → ℕ → (A → A) → ℕ → A → Type 0
Back {A} xs n f m y = (slice_get xs m ≡ Some y) ⊎ ((m ≡ n) × ((x : A) × (slice_get xs m ≡ Some x) × (y ≡ f x)))

some_same : {A : Type 0} {x y : A} → Some x ≡ Some y → x ≡ y
some_same e = cc

changed_more : {A : Type 0} (x : A) (xs : List A) (n : ℕ) (f : A → A) → changed (x ∷ xs) (suc n) f ≡ x ∷ changed xs n f
changed_more x xs n f = by (slice_get xs n)
  where
    by : (o : Option _) → elim o [ None ↦ x ∷ xs | Some y ↦ x ∷ slice_set xs n (f y) ] ≡ x ∷ elim o [ None ↦ xs | Some y ↦ slice_set xs n (f y) ]
    by None = refl
    by (Some y) = refl

pub changed_back : {A : Type 0} (xs : List A) (n : ℕ) (f : A → A) (m : ℕ) (y : A) → slice_get (changed xs n f) m ≡ Some y → Back xs n f m y
changed_back [] n f m y e = inl e
changed_back (x ∷ xs) zero f zero y e = inr (refl, (x, refl, sym (some_same e)))
changed_back (x ∷ xs) zero f (suc m) y e = inl e
changed_back (x ∷ xs) (suc n) f zero y e = inl (sym (ap (λ ys. slice_get ys 0) (changed_more x xs n f)) ∙ e)
changed_back (x ∷ xs) (suc n) f (suc m) y e = by (changed_back xs n f m y (sym (ap (λ ys. slice_get ys (suc m)) (changed_more x xs n f)) ∙ e))
  where
    by : Back xs n f m y → Back (x ∷ xs) (suc n) f (suc m) y
    by (inl h) = inl h
    by (inr h) = inr (ap suc h.0, h.1)

pub changed_front : (rs : List CallRecord) (n : ℕ) (f : CallRecord → CallRecord) → ((r : CallRecord) → (f r).function ≡ r.function) → Grows rs (changed rs n f)
changed_front [] n f same m r e = (r, e, refl)
changed_front (x ∷ rs) zero f same zero r e = (f x, refl, same x ∙ ap (λ y. y.function) (some_same e))
changed_front (x ∷ rs) zero f same (suc m) r e = (r, e, refl)
changed_front (x ∷ rs) (suc n) f same zero r e = (r, ap (λ ys. slice_get ys 0) (changed_more x rs n f) ∙ e, refl)
changed_front (x ∷ rs) (suc n) f same (suc m) r e = let h = changed_front rs n f same m r e in (h.0, ap (λ ys. slice_get ys (suc m)) (changed_more x rs n f) ∙ h.1, h.2)

pub push_front : (rs : List CallRecord) (x : CallRecord) → Grows rs (rs ++ x ∷ [])
push_front [] x n r e = let no : ⊥ = cc in absurd no
push_front (y ∷ rs) x zero r e = (r, e, refl)
push_front (y ∷ rs) x (suc n) r e = push_front rs x n r e

pub push_back : {A : Type 0} (xs : List A) (x : A) (m : ℕ) (y : A) → slice_get (xs ++ x ∷ []) m ≡ Some y → (slice_get xs m ≡ Some y) ⊎ (y ≡ x)
push_back [] x zero y e = inr (sym (some_same e))
push_back [] x (suc m) y e = let no : ⊥ = cc in absurd no
push_back (z ∷ xs) x zero y e = inl e
push_back (z ∷ xs) x (suc m) y e = push_back xs x m y e

pub grows_on : (rs rs' rs'' : List CallRecord) → Grows rs rs' → Grows rs' rs'' → Grows rs rs''
grows_on rs rs' rs'' g h n r e = let a = g n r e in let b = h n a.0 a.1 in (b.0, b.1, b.2 ∙ a.2)

-- ---- Kin: a call's function is kept where that of its parent is, and where that of its request is.

abbrev pub Like : (ℕ → Bool) → List CallRecord → ℕ → ℕ → Type 0
Like functions rs p f = (r : CallRecord) × (slice_get rs p ≡ Some r) × (functions r.function ≡ functions f)

pub record KinAt (functions : ℕ → Bool) (rs : List CallRecord) (r : CallRecord) : Type 0 where
  pub parent : (p : ℕ) → r.parent ≡ Some p → Like functions rs p r.function
  pub request : Like functions rs r.request r.function

abbrev pub Kin : (ℕ → Bool) → List CallRecord → Type 0
Kin functions rs = (n : ℕ) (r : CallRecord) → slice_get rs n ≡ Some r → KinAt functions rs r

like_grows : (functions : ℕ → Bool) (rs rs' : List CallRecord) (p f : ℕ) → Grows rs rs' → Like functions rs p f → Like functions rs' p f
like_grows functions rs rs' p f g l = let h = g p l.0 l.1 in (h.0, h.1, ap functions h.2 ∙ l.2)

kin_grows : (functions : ℕ → Bool) (rs rs' : List CallRecord) (r : CallRecord) → Grows rs rs' → KinAt functions rs r → KinAt functions rs' r
kin_grows functions rs rs' r g k = record { parent = λ p e. like_grows functions rs rs' p r.function g (k.parent p e); request = like_grows functions rs rs' r.request r.function g k.request }

-- a change that keeps the function, the parent and the request
pub record Steady (f : CallRecord → CallRecord) : Type 0 where
  pub function : (r : CallRecord) → (f r).function ≡ r.function
  pub parent : (r : CallRecord) → (f r).parent ≡ r.parent
  pub request : (r : CallRecord) → (f r).request ≡ r.request

kin_changed : (functions : ℕ → Bool) (rs : List CallRecord) (n : ℕ) (f : CallRecord → CallRecord) → Steady f → Kin functions rs → Kin functions (changed rs n f)
kin_changed functions rs n f steady kin m y e = by (changed_back rs n f m y e)
  where
    grows : Grows rs (changed rs n f)
    grows = changed_front rs n f steady.function

    moved : (x : CallRecord) → KinAt functions rs x → KinAt functions (changed rs n f) (f x)
    moved x k =
        record {
          parent = λ p e. like_grows functions rs (changed rs n f) p (f x).function grows (subst (λ g. Like functions rs p g) (sym (steady.function x)) (k.parent p (sym (steady.parent x) ∙ e)));
          request = like_grows functions rs (changed rs n f) (f x).request (f x).function grows (subst (λ q. Like functions rs q (f x).function) (sym (steady.request x)) (subst (λ g. Like functions rs x.request g) (sym (steady.function x)) k.request));
        }

    by : Back rs n f m y → KinAt functions (changed rs n f) y
    by (inl h) = kin_grows functions rs (changed rs n f) y grows (kin m y h)
    by (inr h) = subst (λ z. KinAt functions (changed rs n f) z) (sym h.1.2) (moved h.1.0 (kin m h.1.0 h.1.1))

pub kin_push : (functions : ℕ → Bool) (rs : List CallRecord) (x : CallRecord) → Kin functions rs → KinAt functions (rs ++ x ∷ []) x → Kin functions (rs ++ x ∷ [])
kin_push functions rs x kin k m y e = by (push_back rs x m y e)
  where
    by : (slice_get rs m ≡ Some y) ⊎ (y ≡ x) → KinAt functions (rs ++ x ∷ []) y
    by (inl h) = kin_grows functions rs (rs ++ x ∷ []) y (push_front rs x) (kin m y h)
    by (inr h) = subst (λ z. KinAt functions (rs ++ x ∷ []) z) (sym h) k

-- ---- What an operation leaves of a table.

pub record Goes (functions : ℕ → Bool) (t t' : Table) : Type 0 where
  pub grows : Grows t.records t'.records
  pub longer : length t.records ≤ length t'.records
  pub kin : Kin functions t.records → Kin functions t'.records

goes_same : (functions : ℕ → Bool) (t : Table) → Goes functions t t
goes_same functions t = record { grows = λ n r e. (r, e, refl); longer = omega arith; kin = λ k. k }

goes_changed : (functions : ℕ → Bool) (t : Table) (n : ℕ) (f : CallRecord → CallRecord) → Steady f → Goes functions t (record t { records = changed t.records n f })
goes_changed functions t n f steady = let l = length_changed t.records n f in record { grows = changed_front t.records n f steady.function; longer = omega (arith, l); kin = kin_changed functions t.records n f steady }

pub take_goes : (functions : ℕ → Bool) (t : Table) (m call host bench : ℕ) → Goes functions t (table.after t m (table.take_this call host bench))
take_goes functions t m call host bench = goes_changed functions t call _ (record { function = λ r. refl; parent = λ r. refl; request = λ r. refl })

pub submit_goes : (functions : ℕ → Bool) (t : Table) (m parent f : ℕ) (input : List ℕ) → ((p : CallRecord) → slice_get t.records parent ≡ Some p → functions p.function ≡ functions f) → Goes functions t (table.after t m (table.submit parent f input))
submit_goes functions t m parent f input own = by (slice_get t.records parent) refl
  where
    more : (p : CallRecord) → slice_get t.records parent ≡ Some p → Goes functions t (record t { records = changed t.records parent one_more_child ++ child_record t parent p f input ∷ [] })
    more p e =
        let rs = changed t.records parent one_more_child in
        let x = child_record t parent p f input in
        let long = length_changed t.records parent one_more_child in
        let longer = length-append rs (x ∷ []) in
        let steady : Steady one_more_child = record { function = λ r. refl; parent = λ r. refl; request = λ r. refl } in
        let grows : Grows t.records (rs ++ x ∷ []) = grows_on t.records rs (rs ++ x ∷ []) (changed_front t.records parent one_more_child (λ r. refl)) (push_front rs x) in
        record {
          grows = grows;
          longer = omega (arith, long, longer);
          kin = λ k.
              kin_push functions rs x (kin_changed functions t.records parent one_more_child steady k)
              (record {
                parent = λ q h. subst (λ q. Like functions (rs ++ x ∷ []) q f) (some_same h) (like_grows functions t.records (rs ++ x ∷ []) parent f grows (p, e, own p e));
                request = like_grows functions t.records (rs ++ x ∷ []) p.request f grows (let l = (k parent p e).request in (l.0, l.1, l.2 ∙ own p e));
              });
        }

    room : (p : CallRecord) → slice_get t.records parent ≡ Some p → (b : Bool) → Goes functions t (cond b (record t { records = changed t.records parent one_more_child ++ child_record t parent p f input ∷ [] }) t)
    room p e true = more p e
    room p e false = goes_same functions t

    by : (o : Option CallRecord) → slice_get t.records parent ≡ o → Goes functions t (elim o as (λ o. Table) [ None ↦ t | Some p ↦ submitted t parent p f input ])
    by None e = goes_same functions t
    by (Some p) e = room p e (table.has_room t p f input)

pub finish_goes : (functions : ℕ → Bool) (t : Table) (m call : ℕ) (o : Outcome) (used : ℕ) (output counts : List ℕ) → Goes functions t (table.after t m (table.finish call o used output counts))
finish_goes functions t m call o used output counts = goes_changed functions t call _ (record { function = λ r. refl; parent = λ r. refl; request = λ r. refl })

pub submit_grows : (t : Table) (m parent f : ℕ) (input : List ℕ) → Grows t.records (table.after t m (table.submit parent f input)).records
submit_grows t m parent f input = by (slice_get t.records parent)
  where
    room : (p : CallRecord) (b : Bool) → Grows t.records (cond b (record t { records = changed t.records parent one_more_child ++ child_record t parent p f input ∷ [] }) t).records
    room p true = grows_on t.records (changed t.records parent one_more_child) _ (changed_front t.records parent one_more_child (λ r. refl)) (push_front (changed t.records parent one_more_child) (child_record t parent p f input))
    room p false = λ n r e. (r, e, refl)

    by : (o : Option CallRecord) → Grows t.records (elim o as (λ o. Table) [ None ↦ t | Some p ↦ submitted t parent p f input ]).records
    by None = λ n r e. (r, e, refl)
    by (Some p) = room p (table.has_room t p f input)

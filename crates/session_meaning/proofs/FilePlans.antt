-- What a session file gives is well formed as far as it goes, a file has exactly one answer, and a draft with all modules is a plan.
use Rattle.std.proofs.Common.{◌≡◌, ℕ, ◌+◌, ◌≤◌, Bool, true, false, true≢false, ltb-false, List, [], ◌∷◌, length, map, nat_lt, All, Option, Some, None, option_map, ◌*◌, fold, max, sum_by, ap₂, Result, Ok, Err, refl, sym, ap, subst, ◌∙◌, arith}
use Rattle.std.specs.Str.{is_utf8}
use Rattle.std.proofs.lemmas.Bool.{ltb-true}
use Rattle.std.proofs.lemmas.Str.{IsUtf8-from_is_utf8, is_utf8-from_IsUtf8}
use Rattle.std.proofs.lemmas.List.{length-map}
use Rattle.hex.specs.Hex.{decode_of}
use Rattle.serde_json.specs.Data.{Data}
use Rattle.serde_json.specs.Read.{read}
use Rattle.faaslet_meaning.specs.declared.module.Module.{Module}
use Rattle.faaslet_meaning.specs.Fresh.{all_of, cons_both}
use Rattle.session_meaning.specs.declared.fault.Kind.TheVariants as kind
use Rattle.session_meaning.specs.declared.fault.SessionList.{SessionList}
use Rattle.session_meaning.specs.declared.fault.SessionList.TheVariants.{Keys, Functions, Requests, Session}
use Rattle.session_meaning.specs.Plan.{NamedFunction, Plan}
use Rattle.session_meaning.specs.Draft.{DraftFunction, Draft, function_of, plan_of, drafted, draft_of, with_module}
use Rattle.session_meaning.specs.WellFormed.{KeepsLimits, ModuleFits, WellFormedDraft, WellFormed, own_pages, largest_quota}
use Rattle.session_meaning.specs.Registry as registry
use Rattle.session_meaning.specs.SessionText.{KeyText, GrantText, FunctionText, RequestText, SessionText, session_text}
use Rattle.session_meaning.specs.SessionLimits.{file_limit}
use Rattle.session_meaning.specs.SessionFile.{Answer, refused, then_do, on, hex_bytes, in_turn, capped, add_key, add_function, grant, allow, entitle, add_request, planned, Planned, plan_of_text, plan_of_tree, IsTree, PlanOf, too_many_bytes, no_tree, has_tree, FileFits}
use Rattle.session_meaning.proofs.Entries.{map-changed}
use Rattle.session_meaning.proofs.KeptLimits.{IsBare, Leaves, keeps_module, keeps_new, keeps_key, keeps_function, keeps_grant, keeps_callee, keeps_request, passes_budget}

then_ok : {A B : Type 0} (r : Answer A) (go : A → Answer B) (b : B) → then_do r go ≡ Ok b → (a : A) × (r ≡ Ok a) × (go a ≡ Ok b)
then_ok (Ok a) go b e = (a, refl, e)
then_ok (Err x) go b e = let no : ⊥ = cc in absurd no

on_ok : (list : SessionList) (place : ℕ) (a : registry.Answer) (d : Draft) → on list place a ≡ Ok d → a ≡ Ok d
on_ok list place (Ok e) d h = let same : e ≡ d = cc in ap (λ x. Ok x) same
on_ok list place (Err x) d h = let no : ⊥ = cc in absurd no

hex_ok : {E B : Type 0} (list : SessionList) (place : ℕ) (r : Result (List ℕ) E) (go : List ℕ → Answer B) (b : B) → hex_bytes list place r go ≡ Ok b → (bytes : List ℕ) × (go bytes ≡ Ok b)
hex_ok list place (Ok bytes) go b e = (bytes, e)
hex_ok list place (Err x) go b e = let no : ⊥ = cc in absurd no

-- what each item makes of what holds after so many, holds after all of them
module _ {A B : Type 0} (P : ℕ → A → Type 0) (act : ℕ → A → B → Answer A)
    (one : (n i : ℕ) (a b : A) (x : B) → P n a → act i a x ≡ Ok b → P (n + 1) b) where
  in_turn_makes : (n m i : ℕ) (a b : A) (xs : List B) → P n a → in_turn i act a xs ≡ Ok b → m ≡ n + length xs → P m b
  in_turn_makes n m i a b [] p e total = let same : a ≡ b = cc in let none : n ≡ m = omega arith in subst (λ k. P k b) none (subst (P n) same p)
  in_turn_makes n m i a b (x ∷ xs) p e total =
      let t = then_ok (act i a x) (λ c. in_turn (i + 1) act c xs) b e in
      in_turn_makes (n + 1) m (i + 1) t.0 b xs (one n i a t.0 x p t.1) t.2 (omega (arith, total))

-- what each item keeps
in_turn_keeps : {A B : Type 0} (P : A → Type 0) (act : ℕ → A → B → Answer A) → ((i : ℕ) (a b : A) (x : B) → P a → act i a x ≡ Ok b → P b)
    → (i : ℕ) (a b : A) (xs : List B) → P a → in_turn i act a xs ≡ Ok b → P b
in_turn_keeps P act one i a b xs p e = in_turn_makes (λ n. P) act (λ n. one) 0 (length xs) i a b xs p e (omega arith)

-- a draft of so many functions, all without modules
record Bare (n : ℕ) (d : Draft) : Type 0 where
  limits : KeepsLimits d
  bare : All IsBare d.functions
  count : length d.functions ≡ n

led : (n more m : ℕ) (d e : Draft) → Bare n d → Leaves more d e → n + more ≡ m → Bare m e
led n more m d e b l total = record { limits = l.limits; bare = l.bare b.bare; count = l.count ∙ ap (λ k. k + more) b.count ∙ total }

key_led : (n i : ℕ) (d e : Draft) (k : KeyText) → Bare n d → add_key i d k ≡ Ok e → Bare n e
key_led n i d e k b h =
    let t = hex_ok Keys i (decode_of k.init) (λ init. on Keys i (registry.add_key d k.name (capped k.size) init)) e h in
    led n 0 n d e b (keeps_key d e k.name (capped k.size) t.0 b.limits (on_ok Keys i _ e t.1)) (omega arith)

function_led : (n i : ℕ) (d e : Draft) (f : FunctionText) → Bare n d → add_function i d f ≡ Ok e → Bare (n + 1) e
function_led n i d e f b h = led n 1 (n + 1) d e b (keeps_function d e f.name (capped f.quota) f.fuel (capped f.room) b.limits (on_ok Functions i _ e h)) refl

grant_led : (n f i : ℕ) (d e : Draft) (g : GrantText) → Bare n d → grant f i d g ≡ Ok e → Bare n e
grant_led n f i d e g b h = led n 0 n d e b (keeps_grant d e f g.key g.mode b.limits (on_ok Functions f _ e h)) (omega arith)

callee_led : (n f i : ℕ) (d e : Draft) (callee : List ℕ) → Bare n d → allow f i d callee ≡ Ok e → Bare n e
callee_led n f i d e callee b h = led n 0 n d e b (keeps_callee d e f callee b.limits (on_ok Functions f _ e h)) (omega arith)

entitled : (n f : ℕ) (d e : Draft) (t : FunctionText) → Bare n d → entitle f d t ≡ Ok e → Bare n e
entitled n f d e t b h =
    let a = then_ok (in_turn 0 (grant f) d t.grants) (λ x. in_turn 0 (allow f) x t.calls) e h in
    let granted = in_turn_keeps (Bare n) (grant f) (grant_led n f) 0 d a.0 t.grants b a.1 in
    in_turn_keeps (Bare n) (allow f) (callee_led n f) 0 a.0 e t.calls granted a.2

request_led : (n i : ℕ) (d e : Draft) (r : RequestText) → Bare n d → add_request i d r ≡ Ok e → Bare n e
request_led n i d e r b h =
    let t = hex_ok Requests i (decode_of r.input) (λ input. on Requests i (registry.add_request d r.label r.function (capped r.host) input)) e h in
    led n 0 n d e b (keeps_request d e r.label r.function (capped r.host) t.0 b.limits (on_ok Requests i _ e t.1)) (omega arith)

started : (s : SessionText) (d : Draft) → on Session 0 (registry.new (capped s.hosts) (capped s.workers)) ≡ Ok d → Bare 0 d
started s d h =
    let t = keeps_new (capped s.hosts) (capped s.workers) d (on_ok Session 0 _ d h) in
    record { limits = t.0; bare = subst (λ fs. All IsBare fs) (sym t.1) (λ k x inside. absurd (omega arith)); count = ap (λ fs. length fs) t.1 }

pub planned_fits : (s : SessionText) (d : Draft) → planned s ≡ Ok d → FileFits (record { draft = d; paths = map (λ f. f.path) s.functions })
planned_fits s d h =
    let n = length s.functions in
    let a = then_ok (on Session 0 (registry.new (capped s.hosts) (capped s.workers))) _ d h in
    let b = then_ok (in_turn 0 add_key a.0 s.keys) _ d a.2 in
    let c = then_ok (in_turn 0 add_function b.0 s.functions) _ d b.2 in
    let f = then_ok (in_turn 0 entitle c.0 s.functions) _ d c.2 in
    let r = then_ok (in_turn 0 add_request f.0 s.requests) (λ x. on Session 0 (registry.check_budget x)) d f.2 in
    let keys = in_turn_keeps (Bare 0) add_key (key_led 0) 0 a.0 b.0 s.keys (started s a.0 a.1) b.1 in
    let functions = in_turn_makes Bare add_function function_led 0 n 0 b.0 c.0 s.functions keys c.1 (omega arith) in
    let entitlements = in_turn_keeps (Bare n) entitle (entitled n) 0 c.0 f.0 s.functions functions f.1 in
    let requests = in_turn_keeps (Bare n) add_request (request_led n) 0 f.0 r.0 s.requests entitlements r.1 in
    let last = passes_budget r.0 d requests.limits (on_ok Session 0 _ d r.2) in
    record {
      fits = last.1;
      no_modules = subst (λ x. All IsBare x.functions) last.0 requests.bare;
      paths = length-map s.functions (λ f. f.path) ∙ sym requests.count ∙ ap (λ x. length x.functions) last.0;
    }

of_text : (o : Option SessionText) (p : Planned) → plan_of_text o ≡ Ok p → FileFits p
of_text None p h = let no : ⊥ = cc in absurd no
of_text (Some s) p h =
    let t = then_ok (planned s) (λ d. Ok (record { draft = d; paths = map (λ f. f.path) s.functions })) p h in
    let same : ◌≡◌ {A = Planned} (record { draft = t.0; paths = map (λ f. f.path) s.functions }) p = let is = t.2 in cc in
    subst FileFits same (planned_fits s t.0 t.1)

by_answer : (bytes : List ℕ) (p : Planned) (a : Answer Planned) → PlanOf bytes a → a ≡ Ok p → FileFits p
by_answer bytes p a (too_many_bytes l) h = let no : ⊥ = cc in absurd no
by_answer bytes p a (no_tree l none) h = let no : ⊥ = cc in absurd no
by_answer bytes p a (has_tree l tree is) h = of_text (session_text tree) p h

pub file_fits : (bytes : List ℕ) (p : Planned) → PlanOf bytes (Ok p) → FileFits p
file_fits bytes p h = by_answer bytes p (Ok p) h refl

-- ---- A file has one answer.

one_tree : (bytes : List ℕ) (s t : Data) → IsTree bytes s → IsTree bytes t → s ≡ t
one_tree bytes s t h k = let a = h.value in let b = k.value in cc

pub one_answer : (bytes : List ℕ) (a b : Answer Planned) → PlanOf bytes a → PlanOf bytes b → a ≡ b
one_answer bytes a b (too_many_bytes l) (too_many_bytes m) = refl
one_answer bytes a b (too_many_bytes l) (no_tree m none) = absurd (omega arith)
one_answer bytes a b (too_many_bytes l) (has_tree m tree is) = absurd (omega arith)
one_answer bytes a b (no_tree l none) (too_many_bytes m) = absurd (omega arith)
one_answer bytes a b (no_tree l none) (no_tree m also) = refl
one_answer bytes a b (no_tree l none) (has_tree m tree is) = absurd (none tree is)
one_answer bytes a b (has_tree l tree is) (too_many_bytes m) = absurd (omega arith)
one_answer bytes a b (has_tree l tree is) (no_tree m none) = absurd (none tree is)
one_answer bytes a b (has_tree l s is) (has_tree m t so) = ap plan_of_tree (one_tree bytes s t is so)

pub some_answer : (bytes : List ℕ) → (a : Answer Planned) × PlanOf bytes a
some_answer bytes = by (nat_lt file_limit (length bytes)) refl (is_utf8 bytes) refl (read bytes) refl
  where
    short : nat_lt file_limit (length bytes) ≡ false → length bytes ≤ file_limit
    short e = ltb-false file_limit (length bytes) e

    by : (b : Bool) → nat_lt file_limit (length bytes) ≡ b → (c : Bool) → is_utf8 bytes ≡ c → (o : Option Data) → read bytes ≡ o → (a : Answer Planned) × PlanOf bytes a
    by true e c f o g = (Err (refused kind.Long Session 0), too_many_bytes (ltb-true file_limit (length bytes) e))
    by false e false f o g = (Err (refused kind.Json Session 0), no_tree (short e) λ tree is. absurd (true≢false (sym (is_utf8-from_IsUtf8 bytes is.text) ∙ f)))
    by false e true f None g = (Err (refused kind.Json Session 0), no_tree (short e) λ tree is. let no : Some tree ≡ None = sym is.value ∙ g in absurd cc)
    by false e true f (Some tree) g = (plan_of_tree tree, has_tree (short e) tree (record { text = IsUtf8-from_is_utf8 bytes f; value = g }))

-- ---- A draft of which each function has its module is the draft of a plan.

one_drafted : (f : DraftFunction) (g : NamedFunction) → function_of f ≡ Some g → drafted g ≡ f
one_drafted f g e = by f.code refl e
  where
    made : Module → NamedFunction
    made m = record { name = f.name; function = record { code = m; quota = f.quota; fuel = f.fuel; room = f.room; grants = f.grants; callees = f.callees } }

    by : (o : Option Module) → f.code ≡ o → option_map (λ m. record { name = f.name; function = record { code = m; quota = f.quota; fuel = f.fuel; room = f.room; grants = f.grants; callees = f.callees } }) o ≡ Some g → drafted g ≡ f
    by None c h = let no : ⊥ = cc in absurd no
    by (Some m) c h = let same : made m ≡ g = cc in ap drafted (sym same) ∙ ap (λ o. record f { code = o }) (sym c)

both_some : {A : Type 0} (o : Option A) (p : Option (List A)) (l : List A) → cons_both o p ≡ Some l → (x : A) × (xs : List A) × (o ≡ Some x) × (p ≡ Some xs) × (x ∷ xs ≡ l)
both_some (Some x) (Some xs) l e = (x, xs, refl, refl, cc)
both_some (Some x) None l e = let no : ⊥ = cc in absurd no
both_some None p l e = let no : ⊥ = cc in absurd no

all_drafted : (fs : List DraftFunction) (gs : List NamedFunction) → all_of function_of fs ≡ Some gs → map drafted gs ≡ fs
all_drafted [] gs e = let same : [] ≡ gs = cc in ap (map drafted) (sym same)
all_drafted (f ∷ fs) gs e =
    let b = both_some (function_of f) (all_of function_of fs) gs e in
    ap (map drafted) (sym b.4) ∙ ap (λ x. x ∷ map drafted b.1) (one_drafted f b.0 b.2) ∙ ap (λ xs. f ∷ xs) (all_drafted fs b.1 b.3)

drafted_again : (d : Draft) (plan : Plan) → plan_of d ≡ Some plan → draft_of plan ≡ d
drafted_again d plan e = by (all_of function_of d.functions) refl e
  where
    made : List NamedFunction → Plan
    made fs = record { hosts = d.hosts; workers = d.workers; keys = d.keys; functions = fs; requests = d.requests }

    by : (o : Option (List NamedFunction)) → all_of function_of d.functions ≡ o → option_map (λ fs. record { hosts = d.hosts; workers = d.workers; keys = d.keys; functions = fs; requests = d.requests }) o ≡ Some plan → draft_of plan ≡ d
    by None h g = let no : ⊥ = cc in absurd no
    by (Some fs) h g = let same : made fs ≡ plan = cc in ap draft_of (sym same) ∙ ap (λ x. record d { functions = x }) (all_drafted d.functions fs h)

pub finished : (d : Draft) (plan : Plan) → WellFormedDraft d → plan_of d ≡ Some plan → WellFormed plan
finished d plan fits e = subst WellFormedDraft (sym (drafted_again d plan e)) fits

-- ---- A module changes no budget.

folded : {A : Type 0} (size : A → ℕ) (g : ℕ → ℕ → ℕ) (xs : List A) (n : ℕ) → fold (λ m x. g m (size x)) n xs ≡ fold g n (map size xs)
folded size g [] n = refl
folded size g (x ∷ xs) n = folded size g xs (g n (size x))

alike : {A : Type 0} (size : A → ℕ) (g : ℕ → ℕ → ℕ) (xs ys : List A) → map size xs ≡ map size ys → fold (λ m x. g m (size x)) 0 xs ≡ fold (λ m x. g m (size x)) 0 ys
alike size g xs ys same = folded size g xs 0 ∙ ap (fold g 0) same ∙ sym (folded size g ys 0)

pub module_keeps : (d : Draft) (f : ℕ) (m : Module) → WellFormedDraft d → ModuleFits m → WellFormedDraft (with_module d f m)
module_keeps d f m h fits =
    let same = map-changed (λ g. record g { code = Some m }) (λ g. g.quota) (λ g. refl) d.functions f in
    let largest : largest_quota (with_module d f m) ≡ largest_quota d = alike (λ g. g.quota) max (with_module d f m).functions d.functions same in
    let all : sum_by (λ g. g.quota) (with_module d f m).functions ≡ sum_by (λ g. g.quota) d.functions = alike (λ g. g.quota) (λ a b. a + b) (with_module d f m).functions d.functions same in
    let as_much : own_pages (with_module d f m) ≡ own_pages d = ap₂ (λ n k. d.hosts * (8 * d.workers * n + k)) largest all in
    record { limits = keeps_module d f m h.limits fits; budgets = record { state = h.budgets.state; own = subst (λ n. n ≤ 16384) (sym as_much) h.budgets.own } }

-- A memory without a page that has grown to its first pages, and what instantiation in it makes.
use Rattle.std.proofs.Common.{◌≡◌, ℕ, ◌+◌, ◌*◌, ◌≤◌, All, true, false, List, [], ◌∷◌, ◌++◌, Option, Result, Ok, Err, IfOk, length, drop, replicate, sym, ap, ◌∙◌, subst, arith, zero-add}
use Rattle.std.specs.Prelude.{nat_le, ◌&&◌, min, IfErr}
use Rattle.std.proofs.lemmas.List.Elements.{All-head, All-same, All-drop}
use Rattle.std.proofs.Math.Seq.{drop-append_seam}
use Rattle.faaslet_meaning.specs.declared.module.Module.{Module}
use Rattle.faaslet_meaning.specs.declared.module.Limits.{Limits}
use Rattle.faaslet_meaning.specs.declared.outcome.Broken.TheVariants as broken
use Rattle.faaslet_meaning.specs.Fresh.{Function, Store, makes, breaks, instantiated}
use Rattle.faaslet_meaning.specs.IndexSpaces.{imported, imported_memory}
use Rattle.faaslet_meaning.specs.Memory.{Memory, private, page_limit, page_size, grown, may_grow}
use Rattle.faaslet_meaning.specs.Program.{memory_limits, first_limits, first_memory}
use Rattle.faaslet_meaning.specs.Runnable.{HostImports}
use Rattle.faaslet_meaning.specs.Valid.{Valid, WithinPages}
use Rattle.proto_faaslet.specs.declared.fault.BuildFault.{BuildFault}
use Rattle.proto_faaslet.specs.declared.fault.BuildFault.TheVariants.{Broken, Want}
use Rattle.proto_faaslet.specs.declared.instantiation.Instance.{Instance}
use Rattle.proto_faaslet.specs.Instances.{no_pages, store_of, IsFilled, CannotFill, IsOf, IsFault}
use Rattle.proto_faaslet.proofs.Made.{over_quota, written, not_written, both, test}

-- ---- The first pages.

pub grown_is : (m : Module) (q : ℕ) → grown (no_pages q) (memory_limits m).min ≡ first_memory m q
grown_is m q = ap (λ n. record { segments = record { home = private; pages = n } ∷ []; bytes = replicate ((memory_limits m).min * page_size) 0; quota = q }) (zero-add (memory_limits m).min)

behind : {X : Type 0} (P : X → Type 0) (xs ys : List X) → All P (xs ++ ys) → All P ys
behind P xs ys h = All-same P ys (drop (length xs) (xs ++ ys)) (sym (drop-append_seam xs ys)) (All-drop P (length xs) (xs ++ ys) h)

-- a memory has few pages at first
pub few_pages : (m : Module) → Valid m → (memory_limits m).min ≤ page_limit
few_pages m v = by m.memories (behind WithinPages (imported imported_memory m) m.memories v.rules.memories_within)
  where
    by : (ls : List Limits) → All WithinPages ls → (first_limits ls).min ≤ page_limit
    by [] h = omega arith
    by (l ∷ ls) h = (All-head WithinPages l ls h).0

pub in_quota : (q n : ℕ) → may_grow (no_pages q) n page_limit ≡ true → nat_le n q ≡ true
in_quota q n h = ap (λ k. nat_le k q) (sym (zero-add n)) ∙ (both _ _ h).1

pub past_quota : (q n : ℕ) → n ≤ page_limit → may_grow (no_pages q) n page_limit ≡ false → nat_le n q ≡ false
past_quota q n few h = ap (λ k. nat_le k q) (sym (zero-add n)) ∙ (sym (ap (λ b. b && nat_le (0 + n) q) (test (0 + n) (min page_limit page_limit) (omega arith))) ∙ h)

-- the memory was grown
pub begun_in : (old new : Memory) (l : Limits) (m : Module) → old ≡ no_pages old.quota → l ≡ memory_limits m → may_grow old l.min page_limit ≡ true → new ≡ grown old l.min → (nat_le (memory_limits m).min new.quota ≡ true) × (new.quota ≡ old.quota)
begun_in old new l m empty is may grew =
    let same : new.quota ≡ old.quota = ap (λ (x : Memory). x.quota) grew in
    let within : nat_le l.min old.quota ≡ true = in_quota old.quota l.min (sym (ap (λ x. may_grow x l.min page_limit) empty) ∙ may) in
    (ap (λ (x : Limits). nat_le x.min new.quota) (sym is) ∙ ap (nat_le l.min) same ∙ within, same)

-- the memory was not grown
pub begun_past : (old : Memory) (l : Limits) (m : Module) → Valid m → old ≡ no_pages old.quota → l ≡ memory_limits m → may_grow old l.min page_limit ≡ false → nat_le (memory_limits m).min old.quota ≡ false
begun_past old l m v empty is may = past_quota old.quota (memory_limits m).min (few_pages m v) (ap (λ (x : Limits). may_grow (no_pages old.quota) x.min page_limit) (sym is) ∙ sym (ap (λ x. may_grow x l.min page_limit) empty) ∙ may)

-- ---- What is made.

abbrev pub store : List ℕ → List (Option ℕ) → Memory → Store
store gs ts a = record { globals = gs; table = ts; memory = a }

pub same_store : (gs hs : List ℕ) (ts us : List (Option ℕ)) (a b : Memory) → gs ≡ hs → ts ≡ us → a ≡ b → store gs ts a ≡ store hs us b
same_store gs hs ts us a b e f g = cc

module _ (f : Function) where
  filled_here : (i : Instance) (memory : Memory) → Valid f.code → HostImports f.code → nat_le (memory_limits f.code).min f.quota ≡ true → IsFilled f.code f.quota i memory → instantiated f ≡ makes (store_of i memory)
  filled_here i memory v hosts within h = written f v hosts within h.fit ∙ ap (λ s. makes s) (same_store _ _ _ _ _ _ (sym h.globals) (sym h.table) (sym h.memory_is))

  unfilled_here : (e : BuildFault) → Valid f.code → HostImports f.code → nat_le (memory_limits f.code).min f.quota ≡ true → CannotFill f.code e → IsFault e (instantiated f)
  unfilled_here (Broken kind) v hosts within h = not_written f v hosts within h.1 ∙ ap (λ k. breaks k) (sym h.0)
  unfilled_here Want v hosts within h = tt

-- what holds of the function's own module and quota holds of these
along : (P : Module → ℕ → Type 0) (f : Function) (m : Module) (q : ℕ) → IsOf f m q → P f.code f.quota → P m q
along P f m q is h = subst (λ n. P m n) is.quota_is (subst (λ c. P c f.quota) is.code h)

pub filled : (f : Function) (m : Module) (q : ℕ) (i : Instance) (memory : Memory) → IsOf f m q → Valid m → HostImports m → nat_le (memory_limits m).min q ≡ true → IsFilled m q i memory → instantiated f ≡ makes (store_of i memory)
filled f m q i memory is = along (λ c n. Valid c → HostImports c → nat_le (memory_limits c).min n ≡ true → IsFilled c n i memory → instantiated f ≡ makes (store_of i memory)) f m q is (filled_here f i memory)

pub unfilled : (f : Function) (m : Module) (q : ℕ) (e : BuildFault) → IsOf f m q → Valid m → HostImports m → nat_le (memory_limits m).min q ≡ true → CannotFill m e → IsFault e (instantiated f)
unfilled f m q e is = along (λ c n. Valid c → HostImports c → nat_le (memory_limits c).min n ≡ true → CannotFill c e → IsFault e (instantiated f)) f m q is (unfilled_here f e)

pub past : (f : Function) (m : Module) (q : ℕ) → IsOf f m q → Valid m → HostImports m → nat_le (memory_limits m).min q ≡ false → instantiated f ≡ breaks broken.Quota
past f m q is = along (λ c n. Valid c → HostImports c → nat_le (memory_limits c).min n ≡ false → instantiated f ≡ breaks broken.Quota) f m q is (λ v hosts. over_quota f v hosts)

pub if_ok : {A E : Type 0} (P Q : A → Type 0) (r : Result A E) → IfOk r P → ((a : A) → P a → Q a) → IfOk r Q
if_ok P Q (Ok a) h go = go a h
if_ok P Q (Err e) h go = tt

pub if_err : {A E : Type 0} (P Q : E → Type 0) (r : Result A E) → IfErr r P → ((e : E) → P e → Q e) → IfErr r Q
if_err P Q (Ok a) h go = tt
if_err P Q (Err e) h go = go e h

-- Where memory is one private segment, no step asks what a run was granted.
use Rattle.std.proofs.Common.{◌≡◌, ℕ, zero, suc, ◌+◌, ◌-◌, ◌*◌, List, [], ◌∷◌, Option, Some, None, Bool, true, false, cond, not, length, refl, sym, ap, ◌∙◌}
use Rattle.std.specs.Prelude.{filter, min, nat_lt, if◌then◌else◌}
use Rattle.std.specs.Int.{w32}
use Rattle.faaslet_meaning.specs.declared.grant.Grant.{Grant}
use Rattle.faaslet_meaning.specs.declared.grant.Mode.TheVariants.{Write}
use Rattle.faaslet_meaning.specs.declared.instr.Instr.{Instr}
use Rattle.faaslet_meaning.specs.declared.instr.Instr.TheVariants.{Store}
use Rattle.faaslet_meaning.specs.declared.module.FuncType.{FuncType}
use Rattle.faaslet_meaning.specs.declared.outcome.Trap.TheVariants as trap
use Rattle.faaslet_meaning.specs.Integers.{low}
use Rattle.faaslet_meaning.specs.LoadStore.{store_of, bytes_of}
use Rattle.faaslet_meaning.specs.Limits.{traps}
use Rattle.faaslet_meaning.specs.Memory.{Home, private, is_private, Segment, Memory, Piece, page_size, cut, lies_in, writing, shared_pieces}
use Rattle.faaslet_meaning.specs.MemoryRules.{all_granted, stored, store_at, begin_store}
use Rattle.faaslet_meaning.specs.Configuration.{Func, Program, Configuration, Next, goes, ends, touches, calls, stuck}
use Rattle.faaslet_meaning.specs.Tree.{Tree, stop, plain, block, loop, if_then, if_else}
use Rattle.faaslet_meaning.specs.Step.{plain_step, begin, paid, with_rest, step_at, step}
use Rattle.faaslet_meaning.specs.Fresh.{then_go, steps}
use Rattle.proto_faaslet.specs.Instances.{IsOne}
use Rattle.proto_faaslet.proofs.Steady.{Steady, Stays, step_stays}

pub none_shared : (m : Memory) (at n : ℕ) → IsOne m.segments → shared_pieces m at n ≡ []
none_shared m at n h = by m.segments h
  where
    one : (k : Home) (p : Piece) → p.home ≡ k → k ≡ private → (b : Bool) → filter (λ q. not (is_private q.home)) (cond b (p ∷ []) []) ≡ []
    one k p e f false = refl
    one k p e f true = ap (λ j. cond (not (is_private j)) (p ∷ []) []) (e ∙ f)

    by : (ss : List Segment) → IsOne ss → filter (λ p. not (is_private p.home)) (cut ss 0 at n) ≡ []
    by [] h = absurd h
    by (s ∷ []) h =
        let here = min n ((0 + s.pages * page_size) - at) in
        one s.home (record { home = s.home; off = at - 0; at = at; size = here }) refl h (nat_lt 0 here)
    by (s ∷ t ∷ ss) h = absurd h

abbrev pub granted_program : List Func → List FuncType → ℕ → List Grant → Program
granted_program fs ts n gs = record { functions = fs; types = ts; most_pages = n; grants = gs }

module _ (fs : List Func) (ts : List FuncType) (most : ℕ) (gs hs : List Grant) where
  abbrev p : Program
  p = granted_program fs ts most gs

  abbrev q : Program
  q = granted_program fs ts most hs

  store_same : (c : Configuration) (at : ℕ) (bs : List ℕ) → IsOne c.memory.segments → store_at p c at bs ≡ store_at q c at bs
  store_same c at bs h =
      let none = none_shared c.memory at (length bs) h in
      let by : List Grant → List Piece → Next = λ grants ps. if lies_in c.memory at (length bs) then (if all_granted grants Write ps then stored c (writing c.memory at bs) else traps c trap.Denied) else traps c trap.OutOfBounds in
      ap (by gs) none ∙ sym (ap (by hs) none)

  begun_same : (c : Configuration) (op offset : ℕ) (vs : List ℕ) → IsOne c.memory.segments → begin_store p c op offset vs ≡ begin_store q c op offset vs
  begun_same c op offset [] h = refl
  begun_same c op offset (v ∷ []) h = refl
  begun_same c op offset (v ∷ x ∷ vs) h = by (store_of op)
    where
      by : (o : Option ℕ) → elim o as (λ _. Next) [ None ↦ stuck | Some n ↦ store_at p c (low w32 x + offset) (bytes_of n v) ] ≡ elim o as (λ _. Next) [ None ↦ stuck | Some n ↦ store_at q c (low w32 x + offset) (bytes_of n v) ]
      by None = refl
      by (Some n) = store_same c (low w32 x + offset) (bytes_of n v) h

  plain_same : (c : Configuration) (i : Instr) (vs : List ℕ) → IsOne c.memory.segments → plain_step p c i vs ≡ plain_step q c i vs
  plain_same c (Store op align offset) vs h = begun_same c op offset vs h
  plain_same c _ vs h = refl

  begin_same : (c : Configuration) (e : Tree) → IsOne c.memory.segments → begin p c e ≡ begin q c e
  begin_same c (plain i e) h = plain_same (with_rest c e) i c.frame.values h
  begin_same c _ h = refl

  paid_same : (c : Configuration) (n : ℕ) (e : Tree) → IsOne c.memory.segments → paid c n (λ d. begin p d e) ≡ paid c n (λ d. begin q d e)
  paid_same c zero e h = refl
  paid_same c (suc n) e h = begin_same (record c { fuel = n }) e h

  at_same : (c : Configuration) (e : Tree) → IsOne c.memory.segments → step_at p c e ≡ step_at q c e
  at_same c stop h = refl
  at_same c (plain i e) h = paid_same c c.fuel (plain i e) h
  at_same c (block t b e) h = paid_same c c.fuel (block t b e) h
  at_same c (loop t b e) h = paid_same c c.fuel (loop t b e) h
  at_same c (if_then t b e) h = paid_same c c.fuel (if_then t b e) h
  at_same c (if_else t b d e) h = paid_same c c.fuel (if_else t b d e) h

  pub steps_same : (quota : ℕ) (table : List (Option ℕ)) (n : ℕ) (c : Configuration) → Steady quota table c → steps p n c ≡ steps q n c
  steps_same quota table zero c h = refl
  steps_same quota table (suc n) c h =
      ap (λ x. then_go x (steps p n)) (at_same c c.frame.rest h.0.0) ∙ on (step q c) (step_stays quota table q c h) (steps_same quota table n)
    where
      on : (x : Next) → Stays quota table x → ((d : Configuration) → Steady quota table d → steps p n d ≡ steps q n d) → then_go x (steps p n) ≡ then_go x (steps q n)
      on (goes d) s go = go d s
      on (ends d o) s go = refl
      on (touches d b) s go = refl
      on (calls d b) s go = refl
      on stuck s go = refl

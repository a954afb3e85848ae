-- What a call of a well-formed plan asks lies in the plan: of what it was granted, as short as a buffer, and of its children.
use Rattle.std.proofs.Common.{◌≡◌, ℕ, ◌+◌, ◌*◌, ◌<◌, ◌≤◌, List, [], Some, slice_get, length, refl, sym, ap, ◌∙◌, subst, arith, Option}
use Rattle.std.proofs.lemmas.Option.{slice_get_within, get_or_from_slice_get}
use Rattle.faaslet_meaning.specs.declared.grant.Channel.{Channel}
use Rattle.faaslet_meaning.specs.declared.grant.Channel.TheVariants.{Local, Global, Table as OnTable}
use Rattle.faaslet_meaning.specs.declared.grant.Grant.{Grant}
use Rattle.faaslet_meaning.specs.Memory.{key_pages, page_size}
use Rattle.faaslet_meaning.specs.ControlRules.{buffer_limit}
use Rattle.faaslet_meaning.specs.Channels.{RegionOperation, Operation, on_region, Question, ask, fills, pulls, pushes, Transcript}
use Rattle.faaslet_meaning.specs.CallState.{Invocation, State, Progress, runs, asks, fresh_state}
use Rattle.faaslet_meaning.specs.Configuration.{Configuration}
use Rattle.faaslet_meaning.specs.Fresh.{fresh, makes}
use Rattle.faaslet_meaning.specs.Goes.{Goes, here, stepped, answered}
use Rattle.faaslet_meaning.specs.Runs.{invocation}
use Rattle.faaslet_meaning.specs.Asked.{IsCarried}
use Rattle.faaslet_meaning.specs.Formed.{Formed}
use Rattle.faaslet_meaning.proofs.CallParts.{formed_parts}
use Rattle.faaslet_meaning.proofs.CallFresh.{fresh_formed}
use Rattle.faaslet_meaning.proofs.CallAsks.{asks_carried}
use Rattle.session_meaning.specs.Plan.{Key, NamedFunction, Plan}
use Rattle.session_meaning.specs.WellFormed.{WellFormed}
use Rattle.session_meaning.proofs.GrantedAsks.{HasGrant, Any, InPages, InSize, AsksLocal, AsksGlobal, Asked, kids_after}
use Rattle.session_meaning.proofs.GrantedCalls.{ProgressOk, call_step_ok, replied_ok}
use Rattle.session_meaning.proofs.AsksGranted.{first_ok}
use Rattle.session_meaning.proofs.ChildrenThere.{goes_fit, stage_looks}
use Rattle.granted_asks.specs.LiesIn.{OfKey, InReplica, OnReplica, OnGlobal, IsWhole, InKey, LiesIn}
use Rattle.granted_asks.proofs.ShortReads.{goes_short, stage_reads}
use Rattle.granted_asks.proofs.Granting.{function_fits, is_valid, is_numbered, grant_fits}

-- ---- It asks of what it was granted.

abbrev SomeOk : Invocation → ℕ → Progress → Type 0
SomeOk j fuel p = (kids : List (Option ℕ)) × ProgressOk j fuel kids p

goes_ok : {j : Invocation} {p y : Progress} {transcript : Transcript} (fuel : ℕ) → Goes j p transcript y → SomeOk j fuel p → SomeOk j fuel y
goes_ok fuel here h = h
goes_ok {j} fuel (stepped {s = s} g) h = goes_ok fuel g (h.0, call_step_ok j fuel h.0 s h.1)
goes_ok {j} fuel (answered {s = s} {q = q} {r = r} fit g) h = goes_ok fuel g (kids_after h.0 q r, replied_ok j fuel h.0 s q r h.1)

-- ---- A question on a key, on a function, on a child.

module _ (plan : Plan) (fine : WellFormed plan) (n : ℕ) (f : NamedFunction) (at : slice_get plan.functions n ≡ Some f) (input : List ℕ) where
  abbrev So : (Grant → Type 0) → (Key → Type 0) → Type 0
  So P Q = (g : Grant) (k : Key) → g.size ≡ k.size → P g → Q k

  of_key : (key : ℕ) (P : Grant → Type 0) (Q : Key → Type 0) → So P Q → HasGrant (invocation f.function input) key P → OfKey plan f.function key Q
  of_key key P Q so h =
      let g = grant_fits plan fine n f at h.0 h.1 h.2 in
      record {
        k = g.0;
        is_there = ap (slice_get plan.keys) (sym h.3) ∙ g.1;
        place = h.0;
        grant = h.1;
        is_granted = h.2;
        names_it = h.3;
        is_so = so h.1 g.0 g.2 h.4;
      }

  in_replica : (off len : ℕ) → len ≤ buffer_limit → So (InPages (off + len)) (InReplica off len)
  in_replica off len short g k same h =
      let pages = ap (λ n. key_pages n * page_size) same in
      record { inside = omega (arith, h, pages); short = short }

  on_replica : (key : ℕ) (op : RegionOperation) → AsksLocal (invocation f.function input) key op → IsCarried (ask (Local key) (on_region op)) → ((off len : ℕ) → op ≡ RegionOperation.read off len → len ≤ buffer_limit) → OfKey plan f.function key (OnReplica op)
  on_replica key RegionOperation.probe h c r = of_key key Any (OnReplica RegionOperation.probe) (λ g k e p. tt) h
  on_replica key (RegionOperation.read off len) h c r = of_key key (InPages (off + len)) (OnReplica (RegionOperation.read off len)) (in_replica off len (r off len refl)) h
  on_replica key (RegionOperation.write off bs) h c r = of_key key (InPages (off + length bs)) (OnReplica (RegionOperation.write off bs)) (in_replica off (length bs) c.bytes) h
  on_replica key RegionOperation.lock_read h c r = of_key key Any (OnReplica RegionOperation.lock_read) (λ g k e p. tt) h
  on_replica key RegionOperation.lock_write h c r = of_key key Any (OnReplica RegionOperation.lock_write) (λ g k e p. tt) h
  on_replica key RegionOperation.unlock h c r = of_key key Any (OnReplica RegionOperation.unlock) (λ g k e p. tt) h
  on_replica key op h c r = absurd h

  on_global : (key : ℕ) (op : RegionOperation) → AsksGlobal (invocation f.function input) key op → IsCarried (ask (Global key) (on_region op)) → OfKey plan f.function key (OnGlobal op)
  on_global key RegionOperation.size h c = of_key key Any (OnGlobal RegionOperation.size) (λ g k e p. tt) h
  on_global key (RegionOperation.append bs) h c = of_key key Any (OnGlobal (RegionOperation.append bs)) (λ g k e p. c.bytes) h
  on_global key RegionOperation.lock_read h c = of_key key Any (OnGlobal RegionOperation.lock_read) (λ g k e p. tt) h
  on_global key RegionOperation.lock_write h c = of_key key Any (OnGlobal RegionOperation.lock_write) (λ g k e p. tt) h
  on_global key RegionOperation.unlock h c = of_key key Any (OnGlobal RegionOperation.unlock) (λ g k e p. tt) h
  on_global key op h c = absurd h

  whole : (size : ℕ) → So (λ g. size ≡ g.size) (IsWhole size)
  whole size g k same h = h ∙ same

  in_key : (off len : ℕ) → So (InSize (off + len)) (InKey off len)
  in_key off len g k same h = omega (arith, h, same)

  callee_there : (place function : ℕ) → slice_get f.function.callees place ≡ Some function → function < length plan.functions
  callee_there place function e =
      let fits = function_fits plan fine n f at in
      subst (λ g. g < length plan.functions) (get_or_from_slice_get f.function.callees place function function e) (fits.callees place function (slice_get_within f.function.callees place function e))

  lies : (s : State) (q : Question) → Asked (invocation f.function input) q → IsCarried q → ((ch : Channel) (off len : ℕ) → q ≡ ask ch (on_region (RegionOperation.read off len)) → len ≤ buffer_limit) → ((child : ℕ) → q ≡ ask OnTable (Operation.look child) → child < length s.children) → LiesIn plan f.function s q
  lies s (ask (Local key) (on_region op)) h c r l = on_replica key op h c (λ off len e. r (Local key) off len (ap (λ o. ask (Local key) (on_region o)) e))
  lies s (ask (Global key) (on_region op)) h c r l = on_global key op h c
  lies s (ask OnTable (Operation.submit function bytes)) h c r l = record { place = h.0; is_callee = h.1; is_there = callee_there h.0 function h.1; short = c.bytes }
  lies s (ask OnTable (Operation.look child)) h c r l = l child refl
  lies s (ask OnTable (on_region op)) h c r l = absurd h
  lies s (ask (Local key) (Operation.submit function bytes)) h c r l = absurd h
  lies s (ask (Local key) (Operation.look child)) h c r l = absurd h
  lies s (ask (Global key) (Operation.submit function bytes)) h c r l = absurd h
  lies s (ask (Global key) (Operation.look child)) h c r l = absurd h
  lies s (fills key size) h c r l = of_key key (λ g. size ≡ g.size) (IsWhole size) (whole size) h
  lies s (pulls key off len) h c r l = of_key key (InSize (off + len)) (InKey off len) (in_key off len) h
  lies s (pushes key off len) h c r l = of_key key (InSize (off + len)) (InKey off len) (in_key off len) h

pub asks_within : (plan : Plan) (n : ℕ) (f : NamedFunction) (input : List ℕ) (c : Configuration) (transcript : Transcript) (s : State) (q : Question) → WellFormed plan → slice_get plan.functions n ≡ Some f → fresh f.function ≡ makes c → Goes (invocation f.function input) (runs (fresh_state c)) transcript (asks s q) → LiesIn plan f.function s q
asks_within plan n f input c transcript s q fine at made_so g =
    let j = invocation f.function input in
    let formed : Formed j (fresh_state c) = fresh_formed f.function input c (is_valid plan fine n f at) made_so in
    let fits = goes_fit g (formed_parts j (fresh_state c) formed) in
    let short = goes_short g (tt {0}) in
    let ok = goes_ok f.function.fuel g ([], first_ok f.function input c made_so) in
    let carried = asks_carried j (fresh_state c) s q (is_numbered plan fine n f at input) formed g in
    lies plan fine n f at input s q ok.1.2 carried
    (λ ch off len e. stage_reads j s ch off len s.stage fits.2 short (fits.1 ∙ ap (λ p. Some p) e))
    (λ child e. stage_looks j s child s.stage fits.2 (fits.1 ∙ ap (λ p. Some p) e))

-- Histories for all keys and all hosts, and each at its place.
use Rattle.std.proofs.Common.{◌≡◌, ℕ, zero, suc, ◌+◌, List, [], ◌∷◌, Some, refl, ap, subst, map, length, slice_get, unwrap_or, arith}
use Rattle.faaslet_meaning.specs.Channels.{RegionOperation}
use Rattle.faaslet_meaning.specs.History.{History}
use Rattle.faaslet_meaning.specs.Spelling.{spelled, Spells}
use Rattle.session_meaning.specs.Plan.{Key, Plan}
use Rattle.session_meaning.specs.Ran.{ReplicaRan, GlobalRan, ReplicasRan, HostsRan, GlobalsRan}
use Rattle.session_meaning.specs.Seen.{SpellRegions, SpellHosts}
use Rattle.turn_cell.specs.declared.view.Entry.{Entry}
use Rattle.session_ends.specs.Bench.{list_of, local_list}
use Rattle.session_ends.specs.Session.{pairs}

-- ---- The replicas of a host.

abbrev pub OneReplica : Plan → ℕ → Key → List Entry → Type 0
OneReplica plan host k list = (h : History RegionOperation) × Spells spelled (pairs list) h × ReplicaRan plan host k h

abbrev pub AllReplicas : Plan → ℕ → List Key → List (List Entry) → Type 0
AllReplicas plan host ks lists = (hs : List (History RegionOperation)) × SpellRegions (map pairs lists) hs × ReplicasRan plan host ks hs

pub all_replicas : (plan : Plan) (host : ℕ) (ks : List Key) (lists : List (List Entry)) → length lists ≡ length ks → ((n : ℕ) (k : Key) (list : List Entry) → slice_get ks n ≡ Some k → slice_get lists n ≡ Some list → OneReplica plan host k list) → AllReplicas plan host ks lists
all_replicas plan host [] [] e each = ([], tt, tt)
all_replicas plan host [] (l ∷ ls) e each = let no : ⊥ = omega (arith, e) in absurd no
all_replicas plan host (k ∷ ks) [] e each = let no : ⊥ = omega (arith, e) in absurd no
all_replicas plan host (k ∷ ks) (l ∷ ls) e each =
    let x = each 0 k l refl refl in
    let rest = all_replicas plan host ks ls (omega (arith, e)) (λ n y list at_key at_list. each (suc n) y list at_key at_list) in
    (x.0 ∷ rest.0, (x.1, rest.1), (x.2, rest.2))

-- ---- All hosts.

abbrev pub AllHosts : Plan → ℕ → List (List (List Entry)) → Type 0
AllHosts plan first locals = (hss : List (List (History RegionOperation))) × SpellHosts (map (map pairs) locals) hss × HostsRan plan first hss × (length hss ≡ length locals)

pub all_hosts : (plan : Plan) (first : ℕ) (locals : List (List (List Entry))) → ((n : ℕ) (lists : List (List Entry)) → slice_get locals n ≡ Some lists → AllReplicas plan (first + n) plan.keys lists) → AllHosts plan first locals
all_hosts plan first [] each = ([], tt, tt, refl)
all_hosts plan first (ls ∷ rest) each =
    let x = each 0 ls refl in
    let here : first + 0 ≡ first = omega arith in
    let more = all_hosts plan (suc first) rest (λ n lists at. let same : first + suc n ≡ suc first + n = omega arith in subst (λ m. AllReplicas plan m plan.keys lists) same (each (suc n) lists at)) in
    (x.0 ∷ more.0, (x.1, more.1), (subst (λ m. ReplicasRan plan m plan.keys x.0) here x.2, more.2), ap suc more.3)

-- ---- The global values.

abbrev pub OneValue : Plan → Key → List Entry → List ℕ → Type 0
OneValue plan k list final = (h : History RegionOperation) × Spells spelled (pairs list) h × GlobalRan plan k h final

abbrev pub AllValues : Plan → List Key → List (List Entry) → List (List ℕ) → Type 0
AllValues plan ks lists finals = (hs : List (History RegionOperation)) × SpellRegions (map pairs lists) hs × GlobalsRan plan ks hs finals

pub all_values : (plan : Plan) (ks : List Key) (lists : List (List Entry)) (finals : List (List ℕ)) → length lists ≡ length ks → length finals ≡ length ks → ((n : ℕ) (k : Key) (list : List Entry) (final : List ℕ) → slice_get ks n ≡ Some k → slice_get lists n ≡ Some list → slice_get finals n ≡ Some final → OneValue plan k list final) → AllValues plan ks lists finals
all_values plan [] [] [] e f each = ([], tt, tt)
all_values plan [] [] (x ∷ xs) e f each = let no : ⊥ = omega (arith, f) in absurd no
all_values plan [] (l ∷ ls) finals e f each = let no : ⊥ = omega (arith, e) in absurd no
all_values plan (k ∷ ks) [] finals e f each = let no : ⊥ = omega (arith, e) in absurd no
all_values plan (k ∷ ks) (l ∷ ls) [] e f each = let no : ⊥ = omega (arith, f) in absurd no
all_values plan (k ∷ ks) (l ∷ ls) (x ∷ xs) e f each =
    let one = each 0 k l x refl refl refl in
    let rest = all_values plan ks ls xs (omega (arith, e)) (omega (arith, f)) (λ n y list final at_key at_list at_final. each (suc n) y list final at_key at_list at_final) in
    (one.0 ∷ rest.0, (one.1, rest.1), (one.2, rest.2))

-- ---- The history at a place is spelled by the list there; where there is none, both are empty.

pub spelled_at : (lists : List (List Entry)) (hs : List (History RegionOperation)) (key : ℕ) → SpellRegions (map pairs lists) hs → Spells spelled (pairs (list_of lists key)) (unwrap_or (slice_get hs key) [])
spelled_at [] [] key s = refl
spelled_at [] (h ∷ hs) key s = absurd s
spelled_at (l ∷ ls) [] key s = absurd s
spelled_at (l ∷ ls) (h ∷ hs) zero s = s.0
spelled_at (l ∷ ls) (h ∷ hs) (suc key) s = spelled_at ls hs key s.1

pub spelled_local : (locals : List (List (List Entry))) (hss : List (List (History RegionOperation))) (host key : ℕ) → SpellHosts (map (map pairs) locals) hss → Spells spelled (pairs (local_list locals host key)) (unwrap_or (slice_get (unwrap_or (slice_get hss host) []) key) [])
spelled_local [] [] host key s = refl
spelled_local [] (h ∷ hs) host key s = absurd s
spelled_local (l ∷ ls) [] host key s = absurd s
spelled_local (l ∷ ls) (h ∷ hs) zero key s = spelled_at l h key s.0
spelled_local (l ∷ ls) (h ∷ hs) (suc host) key s = spelled_local ls hs host key s.1

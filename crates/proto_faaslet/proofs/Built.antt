-- What is built, part by part.
use Rattle.std.proofs.Common.{◌≡◌, ℕ, ◌+◌, ◌≤◌, List, [], ◌∷◌, Some, length, refl, sym, ap, ◌∙◌, subst, arith}
use Rattle.std.specs.Prelude.{codes, if◌then◌else◌}
use Rattle.faaslet_meaning.specs.declared.module.Module.{Module}
use Rattle.faaslet_meaning.specs.Configuration.{Configuration}
use Rattle.faaslet_meaning.specs.Fresh.{Function, Store, Made, makes, breaks, nothing, then_make, instantiated, through, entry, fresh}
use Rattle.faaslet_meaning.specs.IndexSpaces as spaces
use Rattle.faaslet_meaning.specs.Memory.{Content, Home, private, is_private, Segment, Memory, IsMemory, pages_of, private_pages}
use Rattle.faaslet_meaning.specs.Program.{export_of, table_size}
use Rattle.proto_faaslet.specs.declared.fault.BuildFault.{BuildFault}
use Rattle.proto_faaslet.specs.declared.fault.BuildFault.TheVariants.{Broken, Want}
use Rattle.wasm_interp.specs.declared.machine.Machine.{Machine}
use Rattle.wasm_interp.specs.Rooms.{SameRooms}
use Rattle.proto_faaslet.specs.Entries.{HasRoom, IsFor, begun, Passes, initialized, IsInitialized}
use Rattle.proto_faaslet.specs.Instances.{IsOne, IsOf, IsFault}
use Rattle.proto_faaslet.specs.Snapshots.{Snapshot, stored, image_memory, Keeps, IsSnapshotOf}
use Rattle.proto_faaslet.proofs.Restored.{entry_on}

-- a machine has as much room as before
pub room_after : {M : Type 0} (a b : Machine M) (m : Module) → SameRooms a.thread b.thread → HasRoom a m → HasRoom b m
room_after a b m same h = record { globals = subst (λ n. length (spaces.globals m) ≤ n) (sym same.globals) h.globals; table = subst (λ n. table_size m ≤ n) (sym same.table) h.table }

-- a fault stays one in what follows
pub fault_on : {A B : Type 0} (e : BuildFault) (a : Made A) (go : A → Made B) → IsFault e a → IsFault e (then_make a go)
fault_on (Broken kind) a go h = ap (λ x. then_make x go) h
fault_on Want a go h = tt

pub fault_along : {A : Type 0} (e : BuildFault) (a b : Made A) → a ≡ b → IsFault e a → IsFault e b
fault_along e a b same h = subst (IsFault e) same h

-- ---- The start function and `init`.

module _ (m : Module) (q fuel : ℕ) (s t u : Store) where
  start_of : (f : Function) → IsFor f m q fuel → Passes m q fuel m.start s t → through f f.code.start s ≡ makes t
  start_of f for first = ap (λ (c : Module). through f c.start s) for.code ∙ first.through_is f for

  init_at : (f : Function) → IsFor f m q fuel → through f (export_of f.code (codes "init")) t ≡ through f (export_of m (codes "init")) t
  init_at f for = ap (λ c. through f (export_of c (codes "init")) t) for.code

  pub initialized_so : Passes m q fuel m.start s t → Passes m q fuel (export_of m (codes "init")) t u → IsInitialized m q fuel s u
  initialized_so first second = record {
    kept = second.kept;
    is = λ f for. ap (λ a. then_make a λ x. through f (export_of f.code (codes "init")) x) (start_of f for first) ∙ init_at f for ∙ second.through_is f for;
  }

  pub start_breaks : (e : BuildFault) → ((f : Function) → IsFor f m q fuel → IsFault e (through f m.start s)) → (f : Function) → IsFor f m q fuel → IsFault e (initialized f s)
  start_breaks e h f for = fault_on e (through f f.code.start s) _ (fault_along e _ _ (sym (ap (λ (c : Module). through f c.start s) for.code)) (h f for))

  pub init_breaks : (e : BuildFault) → Passes m q fuel m.start s t → ((f : Function) → IsFor f m q fuel → IsFault e (through f (export_of m (codes "init")) t)) → (f : Function) → IsFor f m q fuel → IsFault e (initialized f s)
  init_breaks e first h f for = fault_along e _ _ (sym (ap (λ a. then_make a λ x. through f (export_of f.code (codes "init")) x) (start_of f for first) ∙ init_at f for)) (h f for)

-- ---- The snapshot.

then_then : {A B C : Type 0} (a : Made A) (go : A → Made B) (on : B → Made C) → then_make a (λ x. then_make (go x) on) ≡ then_make (then_make a go) on
then_then (makes a) go on = refl
then_then (breaks k) go on = refl
then_then nothing go on = refl

abbrev last : Function → Store → Made Configuration
last f u = entry f u (export_of f.code (codes "main"))

whole : (f : Function) (s : Store) → instantiated f ≡ makes s → fresh f ≡ then_make (initialized f s) (last f)
whole f s made =
    ap (λ a. then_make a λ x. then_make (through f f.code.start x) λ y. then_make (through f (export_of f.code (codes "init")) y) (last f)) made
    ∙ then_then (through f f.code.start s) (λ y. through f (export_of f.code (codes "init")) y) (last f)

of_for : (f : Function) (m : Module) (q fuel : ℕ) → IsFor f m q fuel → IsOf f m q
of_for f m q fuel for = record { code = for.code; quota_is = for.quota_is }

module _ (m : Module) (q fuel : ℕ) (s t : Store) where
  pub snapshot_so : (p : Snapshot) → ((f : Function) → IsOf f m q → instantiated f ≡ makes s) → IsInitialized m q fuel s t → Keeps p m q t → IsSnapshotOf m q fuel p
  snapshot_so p made done kept = record {
    code = kept.code;
    quota_is = kept.quota_is;
    fresh_is = λ f for.
        let on : entry f (stored p) (Some p.main) ≡ makes (begun kept.enters (stored p) f.fuel) = entry_on f m (stored p) p.main kept.enters for.code in
        let is : fresh f ≡ entry f (stored p) (Some p.main) =
        whole f s (made f (of_for f m q fuel for))
        ∙ ap (λ a. then_make a (last f)) (done.is f for)
        ∙ ap (λ c. entry f t (export_of c (codes "main"))) for.code
        ∙ ap (entry f t) kept.main_is
        ∙ ap (λ u. entry f u (Some p.main)) (sym kept.store_is) in
        (begun kept.enters (stored p) f.fuel, is ∙ on, on);
  }

  pub made_breaks : (e : BuildFault) → ((f : Function) → IsOf f m q → IsFault e (instantiated f)) → (f : Function) → IsFor f m q fuel → IsFault e (fresh f)
  made_breaks e h f for = fault_on e (instantiated f) _ (h f (of_for f m q fuel for))

  done_breaks : (e : BuildFault) → ((f : Function) → IsOf f m q → instantiated f ≡ makes s) → ((f : Function) → IsFor f m q fuel → IsFault e (initialized f s)) → (f : Function) → IsFor f m q fuel → IsFault e (fresh f)
  done_breaks e made h f for = fault_along e _ _ (sym (whole f s (made f (of_for f m q fuel for)))) (fault_on e (initialized f s) (last f) (h f for))

-- a fault of the start function or of `init`, as the machine's memory tells it
pub initialize_breaks : (m : Module) (q fuel : ℕ) (e : BuildFault) (before after : ℕ) (s t : Store) → before ≡ q → after ≡ q → s ≡ t
    → ((f : Function) → IsOf f m before → instantiated f ≡ makes s) → ((f : Function) → IsFor f m after fuel → IsFault e (initialized f t)) → (f : Function) → IsFor f m q fuel → IsFault e (fresh f)
initialize_breaks m q fuel e before after s t b a same first fault f for =
    done_breaks m q fuel s t e
    (λ g is. first g (record { code = is.code; quota_is = is.quota_is ∙ sym b }))
    (λ g is. subst (λ u. IsFault e (initialized g u)) (sym same) (fault g (record { code = is.code; quota_is = is.quota_is ∙ sym a; fuel_is = is.fuel_is }))) f for

-- the snapshot, as the machine's memory tells it
pub built_so : (m : Module) (q fuel : ℕ) (p : Snapshot) (before after : ℕ) (s t u v : Store) → before ≡ q → after ≡ q → s ≡ t → u ≡ v
    → ((f : Function) → IsOf f m before → instantiated f ≡ makes s) → IsInitialized m after fuel t u → Keeps p m q v → IsSnapshotOf m q fuel p
built_so m q fuel p before after s t u v b a same left first done kept =
    snapshot_so m q fuel t v p
    (λ g is. first g (record { code = is.code; quota_is = is.quota_is ∙ sym b }) ∙ ap (λ x. makes x) same)
    (subst (λ x. IsInitialized m q fuel t x) left (subst (λ n. IsInitialized m n fuel t u) a done))
    kept

-- ---- The image of one private segment.

abbrev one_of : Home → ℕ → List Segment
one_of home n = record { home = home; pages = n } ∷ []

same_segment : (a b : Home) (n k : ℕ) → a ≡ b → n ≡ k → one_of a n ≡ one_of b k
same_segment a b n k e f = cc

abbrev memory_with : List Segment → List ℕ → ℕ → Memory
memory_with ss bytes quota = record { segments = ss; bytes = bytes; quota = quota }

same_memory : (a b : List Segment) (x y : List ℕ) (n k : ℕ) → a ≡ b → x ≡ y → n ≡ k → memory_with a x n ≡ memory_with b y k
same_memory a b x y n k e f g = cc

module _ (memory : Memory) (c : Content) (q : ℕ) (one : IsOne memory.segments) (pages : c.pages ≡ pages_of memory.segments) (bytes : c.bytes ≡ memory.bytes) (quota : memory.quota ≡ q) where
  segments_are : (ss : List Segment) → IsOne ss → one_of private (pages_of ss) ≡ ss
  segments_are [] h = absurd h
  segments_are (s ∷ []) h = same_segment private s.home (s.pages + 0) s.pages (sym h) (omega arith)
  segments_are (s ∷ t ∷ ss) h = absurd h

  pub image_is : image_memory c q ≡ memory
  image_is = same_memory _ _ _ _ _ _ (ap (one_of private) pages ∙ segments_are memory.segments one) bytes (sym quota)

  pub image_within : IsMemory memory → c.pages ≤ q
  image_within sound =
      let all : private_pages memory.segments ≡ pages_of memory.segments = by memory.segments one in
      omega (arith, sound.within, all, pages, quota)
    where
      by : (ss : List Segment) → IsOne ss → private_pages ss ≡ pages_of ss
      by [] h = absurd h
      by (s ∷ []) h = ap (λ k. pages_of (if is_private k then s ∷ [] else [])) h
      by (s ∷ t ∷ ss) h = absurd h

-- A machine that was restored stands for what the snapshot keeps.
use Rattle.std.proofs.Common.{◌≡◌, ℕ, List, [], Option, Some, sym, ap, ◌∙◌, subst}
use Rattle.std.specs.Prelude.{slice_get}
use Rattle.faaslet_meaning.specs.declared.grant.Grant.{Grant}
use Rattle.faaslet_meaning.specs.declared.module.FuncType.{FuncType}
use Rattle.faaslet_meaning.specs.declared.module.Module.{Module}
use Rattle.faaslet_meaning.specs.Configuration.{Configuration, goes}
use Rattle.faaslet_meaning.specs.ControlRules.{entered}
use Rattle.faaslet_meaning.specs.Fresh.{Function, Store, makes, entry_by, entry}
use Rattle.faaslet_meaning.specs.Memory.{Backing, Content, Memory}
use Rattle.faaslet_meaning.specs.Program.{functions_of}
use Rattle.faaslet_meaning.specs.Tree.{Tree}
use Rattle.wasm_interp.specs.declared.machine.Machine.{Machine}
use Rattle.wasm_interp.specs.StandsFor.{Agrees, IsEntry, StandsFor}
use Rattle.proto_faaslet.specs.Entries.{CanEnter, IsFor, begun}
use Rattle.private_pages.specs.Pages.{last_content}
use Rattle.region_map.specs.Segments.{Segmented, backing_of, IsSetBack}
use Rattle.wasm_interp.specs.Grants.{grants_of}
use Rattle.wasm_interp.proofs.Agreeing.{grants_agree}
use Rattle.proto_faaslet.specs.Snapshots.{Snapshot, stored, image_memory}

-- about to run a function
pub entry_on : (f : Function) (m : Module) (s : Store) (k : ℕ) (e : CanEnter m k) → f.code ≡ m → entry f s (Some k) ≡ makes (begun e s f.fuel)
entry_on f m s k e code = ap (entry_by f s) (ap (λ c. slice_get (functions_of c) k) code ∙ e.entry.found)

one_made : {A : Type 0} (a b : A) → makes a ≡ makes b → a ≡ b
one_made a b e = cc

same_begun : {m : Module} {k : ℕ} (e : CanEnter m k) (gs hs : List ℕ) (ts us : List (Option ℕ)) (a b : Memory) (n o : ℕ) → gs ≡ hs → ts ≡ us → a ≡ b → n ≡ o → begun e (record { globals = gs; table = ts; memory = a }) n ≡ begun e (record { globals = hs; table = us; memory = b }) o
same_begun e gs hs ts us a b n o p q r t = cc

pub restored_so : {M : Type 0} (shape : M → Memory) (machine : Machine M) (p : Snapshot) (e : CanEnter p.code p.main) (fuel writable : ℕ) (memory : Memory) (gs : List ℕ) (ts : List (Option ℕ)) → gs ≡ p.globals → ts ≡ p.table → memory ≡ image_memory p.image p.quota
    → ((grants : List Grant) (t : FuncType) (locals : ℕ) (body : Tree) → Agrees writable grants → IsEntry p.code p.main t locals body → StandsFor shape machine p.code grants fuel (goes (record { frame = entered t locals body []; callers = []; globals = gs; table = ts; memory = memory; fuel = fuel })))
    → (f : Function) (c : Configuration) → IsFor f p.code p.quota fuel → Agrees writable f.grants → entry f (stored p) (Some p.main) ≡ makes c → StandsFor shape machine p.code f.grants fuel (goes c)
restored_so shape machine p e fuel writable memory gs ts g t m h f c for agrees is =
    let kept : begun e (stored p) f.fuel ≡ c = one_made _ _ (sym (entry_on f p.code (stored p) p.main e for.code) ∙ is) in
    let same : begun e (record { globals = gs; table = ts; memory = memory }) fuel ≡ c = same_begun e gs p.globals ts p.table memory (image_memory p.image p.quota) fuel f.fuel g t m (sym for.fuel_is) ∙ kept in
    subst (λ d. StandsFor shape machine p.code f.grants fuel (goes d)) same (h f.grants e.type e.locals e.body agrees e.entry)

-- such a machine can be run
pub ready_so : {M : Type 0} (shape : M → Memory) (machine : Machine M) (p : Snapshot) (e : CanEnter p.code p.main) (fuel writable : ℕ) (memory : Memory) (gs : List ℕ) (ts : List (Option ℕ))
    → ((grants : List Grant) (t : FuncType) (locals : ℕ) (body : Tree) → Agrees writable grants → IsEntry p.code p.main t locals body → StandsFor shape machine p.code grants fuel (goes (record { frame = entered t locals body []; callers = []; globals = gs; table = ts; memory = memory; fuel = fuel })))
    → (grants : List Grant) × (c : Configuration) × StandsFor shape machine p.code grants fuel (goes c)
ready_so shape machine p e fuel writable memory gs ts h = (grants_of writable, begun e (record { globals = gs; table = ts; memory = memory }) fuel, h (grants_of writable) e.type e.locals e.body (grants_agree writable) e.entry)

abbrev backing : ℕ → ℕ → Option Content → Backing
backing quota room last = record { quota = quota; room = room; last = last }

backing_with : (a b r : ℕ) (l o : Option Content) → a ≡ b → l ≡ o → backing a r l ≡ backing b r o
backing_with a b r l o p q = cc

-- what lies behind it is the snapshot's
pub backing_so : (new old : Segmented) (p : Snapshot) → new ≡ old → old.memory ≡ image_memory p.image p.quota → old.last ≡ Some p.image → backing_of new ≡ record { quota = p.quota; room = old.room; last = Some p.image }
backing_so new old p same memory last =
    ap backing_of same ∙ backing_with old.memory.quota p.quota old.room old.last (Some p.image) (ap (λ (m : Memory). m.quota) memory) last

-- the memory of the image that was restored last
pub set_back_is : (m n : Segmented) (c : Content) (q : ℕ) → IsSetBack m n → m.last ≡ Some c → m.memory.quota ≡ q → n.memory ≡ image_memory c q
set_back_is m n c q h last quota = h.memory ∙ ap (λ (o : Option Content). image_memory (last_content o) m.memory.quota) last ∙ ap (image_memory c) quota

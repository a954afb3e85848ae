use Rattle.std.proofs.Common.{◌≡◌, ℕ, Option, Some, sym, ap, ◌∙◌, subst}
use Rattle.faaslet_meaning.specs.Fresh.{Store, through}
use Rattle.proto_faaslet.specs.Entries.{Passes}
use Rattle.proto_faaslet.specs.Instances.{store_of}
use Rattle.proto_faaslet.proofs.Begun.{store, same_store}
use Rattle.proto_faaslet.proofs.Told.{breaks_so, passes_so}
use Rattle.wasm_interp.specs.Grants.{grants_of}
use Rattle.wasm_interp.proofs.Standing.{memory_stands}
use Rattle.proto_faaslet.proofs.entries.pass.Goals as goal

pub returns-in-Some-fault_of-clause-broken : goal.returns-in-Some-fault_of-clause-broken
returns-in-Some-fault_of-clause-broken g c =
    let m = c.args.module.now in
    let memory = g.M.Linear.memory c.args.machine.now.memory in
    let e = c.requires.entry c.in-Some.entry c.in-Some.is in
    let s = store_of c.args.kept memory in
    λ f for. ap (λ o. through f o s) c.in-Some.is ∙ breaks_so g.M.Linear.memory c.run_entry-event.new.machine m (grants_of c.args.machine.now.writable) memory.quota c.args.fuel c.in-Some.entry e s c.requires.kept c.run_entry-event.result (c.run_entry-event.ensures.ran e) c.in-Some-fault_of.kind (sym c.in-Some-fault_of.ensures) f for

pub returns-clause-passed : goal.returns-clause-passed
returns-clause-passed g c =
    let m = c.args.module.now in
    let memory = g.M.Linear.memory c.args.machine.now.memory in
    let new = g.M.Linear.memory c.run_entry-event.new.machine.memory in
    let e = c.requires.entry c.in-Some.entry c.in-Some.is in
    let s = store_of c.args.kept memory in
    let ran = c.run_entry-event.ensures.ran e in
    let left = passes_so g.M.Linear.memory c.run_entry-event.new.machine m (grants_of c.args.machine.now.writable) memory.quota c.args.fuel c.in-Some.entry e s c.requires.kept c.run_entry-event.result ran (sym c.in-None.ensures) in
    let has = c.in_ok-kept_by-in-None.ensures m (grants_of c.args.machine.now.writable) c.args.fuel ran.next left.0 ran.stands left.1 in
    let same : store left.0.globals left.0.table left.0.memory ≡ store c.in_ok-kept_by-in-None.field-0.globals c.in_ok-kept_by-in-None.field-0.table new = same_store _ _ _ _ _ _ (sym has.0) (sym has.1) (sym (memory_stands g.M.Linear.memory c.run_entry-event.new.machine m (grants_of c.args.machine.now.writable) c.args.fuel ran.next left.0 ran.stands left.1)) in
    let P : Option ℕ → Store → Type 0 = λ o t. Passes m memory.quota c.args.fuel o s t in
    subst (λ o. P o (store_of c.in_ok-kept_by-in-None.field-0 new)) (sym c.in-Some.is) (subst (P (Some c.in-Some.entry)) same left.2)

use Rattle.std.proofs.Common.{refl}
use Rattle.fa_outside.proofs.Named.{named, unnamed}
use Rattle.fa_outside.proofs.mem_shelf.MemShelfShelf.open.Goals as goal

pub returns-in-Some-clause-found : goal.returns-in-Some-clause-found
returns-in-Some-clause-found c =
    let found = rw c.deref.ensures.value at (named c.deref.result.now c.args.name.now c.in-Some.file c.in-Some.ensures) in
    rw (← c.self.view_is, found) (λ _. refl, λ _. refl)

pub returns-in-Some-clause-state : goal.returns-in-Some-clause-state
returns-in-Some-clause-state c =
    let found = rw c.deref.ensures.value at (named c.deref.result.now c.args.name.now c.in-Some.file c.in-Some.ensures) in
    rw (← c.self.view_is, found) refl

pub returns-in-None-clause-found : goal.returns-in-None-clause-found
returns-in-None-clause-found c =
    let none = rw c.deref.ensures.value at (unnamed c.deref.result.now c.args.name.now c.in-None.ensures) in
    rw (← c.self.view_is, none) (λ h. h, λ h. h)

pub returns-in-None-clause-state : goal.returns-in-None-clause-state
returns-in-None-clause-state c =
    let none = rw c.deref.ensures.value at (unnamed c.deref.result.now c.args.name.now c.in-None.ensures) in
    rw (c.fail.ensures.state, ← c.self.view_is, none) refl

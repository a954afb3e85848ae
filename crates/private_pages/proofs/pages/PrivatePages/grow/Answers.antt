-- Pages past the end are zero, so growing appends zeros.
use Rattle.std.proofs.Common.{◌+◌, ◌≤◌, arith, refl}
use Rattle.private_pages.proofs.Contents.{sound_pages, grown_are, grown_bytes}
use Rattle.private_pages.proofs.pages.PrivatePages.grow.Goals as goal

pub returns-then-n-self-clause-sound : goal.returns-then-n-self-clause-sound
returns-then-n-self-clause-sound c = rw (← c.self.view_is) (sound_pages c.self.inside c.self.invariant)

pub invariant_of-self : goal.invariant_of-self
invariant_of-self c = grown_are c.self.inside c.args.n c.self.invariant (omega (arith, c.self.invariant.within))

pub returns-clause-grown : goal.returns-clause-grown
returns-clause-grown c =
    let l : c.self.inside.pages + c.args.n ≤ c.self.inside.quota = omega (arith, c.self.invariant.within) in
    rw (← c.self.view_is) (l, rw (grown_bytes c.self.inside c.args.n c.self.invariant) refl)

pub returns-clause-sound : goal.returns-clause-sound
returns-clause-sound c = sound_pages _ (invariant_of-self c)

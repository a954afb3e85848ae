-- The last host that is left ends.
use Rattle.std.proofs.Common.{subst, ◌++◌, ◌∷◌, []}
use Rattle.region_tier.proofs.Dealing.{fresh_are_rows}
use Rattle.region_tier.specs.Tiers.{cells_of, numbers_in}
use Rattle.session_objects.specs.Rests.{AreWhole}
use Rattle.session_objects.proofs.Holding.{whole_front, whole_last}
use Rattle.session_objects.proofs.hosts.end_hosts.Goals as goal

pub close-requires-clause-room : goal.close-requires-clause-room
close-requires-clause-room c =
    let w = subst (λ l. AreWhole l (c.pop-in-Some.new.self.items ++ c.in-Some-pop.rest ∷ [])) c.in-Some.ensures.items (subst (AreWhole c.loop-tier.tiers.items) c.in-Some-pop.ensures.items c.loop-tier.invariant) in
    (whole_last c.pop.new.self.items c.in-Some.tier c.pop-in-Some.new.self.items c.in-Some-pop.rest w).room

pub close-requires-clause-passes : goal.close-requires-clause-passes
close-requires-clause-passes c =
    let w = subst (λ l. AreWhole l (c.pop-in-Some.new.self.items ++ c.in-Some-pop.rest ∷ [])) c.in-Some.ensures.items (subst (AreWhole c.loop-tier.tiers.items) c.in-Some-pop.ensures.items c.loop-tier.invariant) in
    let k = whole_last c.pop.new.self.items c.in-Some.tier c.pop-in-Some.new.self.items c.in-Some-pop.rest w in
    fresh_are_rows (cells_of c.in-Some.tier) (numbers_in c.in-Some.tier) c.in-Some-pop.rest.front.items (k.front_count, k.front)

pub loop-tier-preserved : goal.loop-tier-preserved
loop-tier-preserved c =
    let w = subst (λ l. AreWhole l (c.pop-in-Some.new.self.items ++ c.in-Some-pop.rest ∷ [])) c.in-Some.ensures.items (subst (AreWhole c.loop-tier.tiers.items) c.in-Some-pop.ensures.items c.loop-tier.invariant) in
    whole_front c.pop.new.self.items c.in-Some.tier c.pop-in-Some.new.self.items c.in-Some-pop.rest w

use Rattle.session_meaning.proofs.OwnSections.{unlocks_held, have_own_sections}
use Rattle.session_meaning.proofs.world_laws.have_own_sections.Goals as goal

pub returns-clause-unlocks : goal.returns-clause-unlocks
returns-clause-unlocks c = unlocks_held

pub returns-clause-sections : goal.returns-clause-sections
returns-clause-sections c = have_own_sections

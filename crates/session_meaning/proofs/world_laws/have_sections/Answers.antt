use Rattle.session_meaning.proofs.WorldSections.{have_sections}
use Rattle.session_meaning.proofs.world_laws.have_sections.Goals as goal

pub returns : goal.returns
returns c = have_sections

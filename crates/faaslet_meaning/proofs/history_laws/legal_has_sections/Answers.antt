use Rattle.faaslet_meaning.proofs.Histories.{has_sections}
use Rattle.faaslet_meaning.proofs.history_laws.legal_has_sections.Goals as goal

pub returns : goal.returns
returns c = has_sections

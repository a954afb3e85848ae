use Rattle.session_meaning.proofs.RanSections.{ran_unlocks, ran_sections}
use Rattle.session_meaning.proofs.ran_laws.ran_has_own_sections.Goals as goal

pub returns : goal.returns
returns c =
    record {
      unlocks = λ plan s finals fine ran host key k at. ran_unlocks plan s finals host key k fine ran at;
      sections = λ plan s finals fine ran host key k at. ran_sections plan s finals host key k fine ran at;
    }

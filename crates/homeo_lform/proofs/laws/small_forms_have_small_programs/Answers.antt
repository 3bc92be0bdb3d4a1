use Rattle.homeo_meaning.specs.Small.{IsSmall, Anything}
use Rattle.homeo_lform.proofs.SourceNumbers.{values_law}
use Rattle.homeo_lform.proofs.laws.small_forms_have_small_programs.Goals as goal

pub returns-clause-computed : goal.returns-clause-computed
returns-clause-computed c b = values_law Anything (IsSmall b)

pub returns-clause-each : goal.returns-clause-each
returns-clause-each c b = values_law (IsSmall b) (IsSmall b)

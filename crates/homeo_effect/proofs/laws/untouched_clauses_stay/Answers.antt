use Rattle.homeo_effect.proofs.Untouched.{clause_stays, own_delta_stays}
use Rattle.homeo_effect.proofs.laws.untouched_clauses_stay.Goals as goal

pub returns-clause-sum : goal.returns-clause-sum
returns-clause-sum _ b i x cs c st h = clause_stays b i x cs st c h

pub returns-clause-delta : goal.returns-clause-delta
returns-clause-delta _ b i x cs d st h e = own_delta_stays b i x cs st d h e

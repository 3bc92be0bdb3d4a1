use Rattle.std.proofs.Common.{◌≡◌, ◌∙◌, Some}
use Rattle.homeo_syntax.specs.declared.workload.Refusal.{Refusal}
use Rattle.homeo_process.specs.declared.process.Ending.{Ending}
use Rattle.homeo_process.specs.declared.process.Ending.TheVariants as e
use Rattle.homeo_process.proofs.process.close.Goals as goal

same_stop : (r q : Refusal) → ◌≡◌ {A = Ending} (e.Refused r) (e.Refused q) → Some r ≡ Some q
same_stop r q same = cc

pub returns-in-None-clause-done : goal.returns-in-None-clause-done
returns-in-None-clause-done c = λ bytes given h is. c.in-Ok.ensures.whole bytes given h c.in-None.is

pub returns-in-Some-clause-refused : goal.returns-in-Some-clause-refused
returns-in-Some-clause-refused c = λ bytes given r h is. c.in-Ok.ensures.stops bytes given r h (c.in-Some.is ∙ same_stop c.in-Some.refusal r is)

pub returns-in-Some-clause-refused_first : goal.returns-in-Some-clause-refused_first
returns-in-Some-clause-refused_first c = λ r is. c.in-Ok.ensures.stops_first c.in-Some.refusal c.in-Some.is

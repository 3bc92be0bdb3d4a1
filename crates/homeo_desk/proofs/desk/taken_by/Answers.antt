use Rattle.std.proofs.Common.{subst}
use Rattle.std.specs.Prelude.{Contains, IfSome}
use Rattle.homeo_nodes.specs.Nodes as n
use Rattle.homeo_desk.proofs.desk.taken_by.Goals as goal

pub returns-in-Some : goal.returns-in-Some
returns-in-Some c = record { sent = λ packets h. subst (λ o. IfSome o (λ b. Contains packets (n.Stop b))) c.in-Some.is h }

pub returns-in-None : goal.returns-in-None
returns-in-None c = record { sent = λ packets h. tt }

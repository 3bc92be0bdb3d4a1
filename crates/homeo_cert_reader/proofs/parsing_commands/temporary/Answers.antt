use Rattle.std.proofs.Common.{arith, refl}
use Rattle.homeo_certificate.specs.Key.{definitions}
use Rattle.homeo_certificate.specs.Parse.{parse_temp}
use Rattle.homeo_cert_reader.proofs.ParseSteps.{without_nodes, without_levels, first_of, other_temp}
use Rattle.homeo_cert_reader.proofs.parsing_commands.temporary.Goals as goal

pub returns-then-levels-eq0 : goal.returns-then-levels-eq0
unfolding definitions
returns-then-levels-eq0 c = without_levels parse_temp c.args.levels c.args.nodes.now refl (omega arith)

pub returns-in_default : goal.returns-in_default
unfolding definitions
returns-in_default c = without_nodes parse_temp refl (λ m. refl) c.args.levels c.args.nodes.now (grind arith)

pub returns-in-Temp : goal.returns-in-Temp
unfolding definitions
returns-in-Temp c = first_of parse_temp c.args.levels _ _ c.args.nodes.now c.next.new.self (omega arith) c.in-Some.ensures c.in-Temp.is

pub returns-in_default-node : goal.returns-in_default-node
returns-in_default-node c = other_temp c.args.levels c.in-Some.node c.args.nodes.now c.next.new.self c.in-Some.ensures c.in_default-node.not-Temp

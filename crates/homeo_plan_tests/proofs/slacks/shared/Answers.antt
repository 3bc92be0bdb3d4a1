-- The slacks can be split.
use Rattle.std.proofs.Common.{pos, arith}
use Rattle.homeo_meaning.specs.Key.{definitions}
use Rattle.homeo_plan.specs.PlanView.{plain_template}
use Rattle.homeo_plan_tests.proofs.SlackExample.{not_negative, small}
use Rattle.homeo_plan_tests.proofs.slacks.shared.Goals as goal

pub split_even-requires-clause-not_negative : goal.split_even-requires-clause-not_negative
unfolding definitions
split_even-requires-clause-not_negative g c =
    not_negative (plain_template c.slacks_of-template.result).clauses (pos 7) (pos 0) c.slacks_of-template.ensures.clauses (omega arith) (omega arith)

pub split_even-requires-clause-small : goal.split_even-requires-clause-small
unfolding definitions
split_even-requires-clause-small g c =
    small (plain_template c.slacks_of-template.result).clauses (pos 7) (pos 0) c.slacks_of-template.ensures.clauses (omega arith) (omega arith)

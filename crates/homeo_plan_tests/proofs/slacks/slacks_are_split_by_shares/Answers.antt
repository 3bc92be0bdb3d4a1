-- The slacks can be split by these shares.
use Rattle.std.proofs.Common.{ℕ, ℤ, pos, length, sym, ap, ◌∙◌, subst, arith}
use Rattle.homeo_syntax.specs.Listed.{Listed}
use Rattle.homeo_meaning.specs.Key.{definitions}
use Rattle.homeo_plan.specs.Config.{CanShare}
use Rattle.homeo_plan.specs.Each.{Each}
use Rattle.homeo_plan.specs.PlanView.{plain_template}
use Rattle.homeo_plan_tests.proofs.SlackExample.{not_negative, small, can_share_each, count}
use Rattle.homeo_plan_tests.proofs.slacks.slacks_are_split_by_shares.Goals as goal

pub split_weighted-requires-clause-not_negative : goal.split_weighted-requires-clause-not_negative
unfolding definitions
split_weighted-requires-clause-not_negative g c =
    not_negative (plain_template c.slacks_of-template.result).clauses (pos 4) (pos 6) c.slacks_of-template.ensures.clauses (omega arith) (omega arith)

pub split_weighted-requires-clause-small : goal.split_weighted-requires-clause-small
unfolding definitions
split_weighted-requires-clause-small g c =
    small (plain_template c.slacks_of-template.result).clauses (pos 4) (pos 6) c.slacks_of-template.ensures.clauses (omega arith) (omega arith)

pub split_weighted-requires-clause-lists : goal.split_weighted-requires-clause-lists
split_weighted-requires-clause-lists g c =
    ap length c.as_slice.ensures.value
    ∙ count c.shares_of_two-shares.result.items (plain_template c.slacks_of-template.result).clauses (pos 4) (pos 6) c.shares_of_two-shares.ensures c.slacks_of-template.ensures.clauses

pub split_weighted-requires-clause-shares : goal.split_weighted-requires-clause-shares
split_weighted-requires-clause-shares g c =
    subst (Each (λ (l : Listed ℤ). CanShare c.slacks_of-template.result.sites l.items)) (sym c.as_slice.ensures.value)
    (subst (λ (k : ℕ). Each (λ (l : Listed ℤ). CanShare k l.items) c.shares_of_two-shares.result.items) (sym c.slacks_of-template.ensures.sites) (can_share_each c.shares_of_two-shares.result.items c.shares_of_two-shares.ensures))

-- No terms, or a clause that keeps the form, or none.
use Rattle.std.proofs.Common.{ap, length, arith}
use Rattle.std.proofs.lemmas.Bool.Decides.{nat_tests}
use Rattle.homeo_plan.specs.PlanView.{plain_linear}
use Rattle.homeo_verify.specs.inner.RulesView.{plain_rules}
use Rattle.homeo_verify.proofs.RuleSteps.{without_terms, has_its_clause, lacks_its_clause}
use Rattle.homeo_verify.proofs.rules.Rules.keep_form.Goals as goal

pub returns-then-is_empty : goal.returns-then-is_empty
returns-then-is_empty c =
    let l = ap length c.as_slice.ensures in
    without_terms (plain_rules c.args.self.now) (plain_linear c.args.form.now) (grind (arith, nat_tests, l))

pub returns-then-branch : goal.returns-then-branch
returns-then-branch c =
    has_its_clause (plain_rules c.args.self.now) (plain_linear c.args.form.now) c.in_ok-keeps.field-0 c.in_ok-keeps.ensures c.if-branch.true

pub returns-else-branch : goal.returns-else-branch
returns-else-branch c =
    let l = ap length c.as_slice.ensures in
    lacks_its_clause (plain_rules c.args.self.now) (plain_linear c.args.form.now) c.in_ok-keeps.field-0 c.in_ok-keeps.ensures (λ none. absurd (grind (arith, nat_tests, l, none)))
    c.if-branch.false

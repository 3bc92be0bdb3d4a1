-- The number is added to the constant.
use Rattle.std.proofs.Common.{rules, refl, sym, ap, ◌∙◌, subst}
use Rattle.homeo_meaning.specs.Small.{IsSmall}
use Rattle.homeo_plan.specs.Linear.{constant_form, add_forms}
use Rattle.homeo_form.specs.inner.Terms.{sum_limit}
use Rattle.homeo_form.proofs.Adding.{limit_wider}
use Rattle.homeo_form.proofs.Widths.{kept_is, sum_kept}
use Rattle.homeo_form.proofs.FormParts.{small_constant, number_more_is, number_behind_is, none_behind}
use Rattle.homeo_form.proofs.form.Form.plus_number.Goals as goal

pub added-requires-clause-right : goal.added-requires-clause-right
added-requires-clause-right c =
    subst (IsSmall sum_limit) (sym (kept_is c.self.inside.constant _ (search rules) refl))
    (limit_wider c.self.inside.constant (small_constant c.args.self c.self.inside.constant _ _ c.self.view_is c.requires.small))

pub returns-clause-first : goal.returns-clause-first
returns-clause-first c =
    number_more_is c.args.self c.self.inside.constant c.args.n _ _ _ c.self.view_is
    (sum_kept c.added.result c.args.n c.self.inside.constant (search rules) c.ranges.n (search rules) c.added.ensures)

pub returns-clause-last : goal.returns-clause-last
returns-clause-last c =
    number_behind_is c.args.self c.self.inside.constant c.args.n _ _ _ c.self.view_is
    (sum_kept c.added.result c.args.n c.self.inside.constant (search rules) c.ranges.n (search rules) c.added.ensures) c.self.invariant

pub returns-clause-sum : goal.returns-clause-sum
returns-clause-sum c =
    number_more_is c.args.self c.self.inside.constant c.args.n _ _ _ c.self.view_is
    (sum_kept c.added.result c.args.n c.self.inside.constant (search rules) c.ranges.n (search rules) c.added.ensures)
    ∙ ap (add_forms (constant_form c.args.n)) (none_behind c.args.self c.self.inside.constant _ _ c.self.view_is c.self.invariant)

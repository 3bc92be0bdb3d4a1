-- The factor is added at the key of its delta.
use Rattle.std.proofs.Common.{rules, ◌≡◌, ◌+ℤ◌, to_z, of_z, subst, sym, ap, ◌∙◌}
use mir.Syntax.{w128}
use Rattle.homeo_meaning.specs.Small.{IsSmall}
use Rattle.homeo_form.specs.inner.Running.{factor_in}
use Rattle.homeo_form.specs.inner.Terms.{sum_limit}
use Rattle.homeo_form.proofs.Adding.{limit_wider}
use Rattle.homeo_form.proofs.RunningSums.{factor_put}
use Rattle.homeo_form.proofs.Widths.{kept_is, sum_kept}
use Rattle.homeo_form.proofs.form.running.add_factor.Goals as goal

pub added-sum-requires-clause-right : goal.added-sum-requires-clause-right
added-sum-requires-clause-right c =
    subst (IsSmall sum_limit) (sym (kept_is c.factor_by_now.result _ (search rules) c.factor_by_now.ensures)) (limit_wider _ c.requires.small)

pub returns-clause-sums : goal.returns-clause-sums
returns-clause-sums c =
    let m = c.args.changed.now in
    let t = c.args.term.now in
    let sum : to_z w128 (of_z w128 c.added-sum.result) ≡ t.factor +ℤ factor_in m c.args.first.now t.delta =
    sum_kept c.added-sum.result t.factor c.factor_by_now.result (search rules) (search rules) (search rules) c.added-sum.ensures
    ∙ ap (λ z. t.factor +ℤ z) c.factor_by_now.ensures in
    factor_put m c.insert.new.self c.args.first.now t _ c.in_ok-insert.ensures.updates.0 sum

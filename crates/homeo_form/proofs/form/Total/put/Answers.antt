-- The parts of the form stand behind those of the sum.
use Rattle.std.proofs.Common.{rules, refl, sym, subst}
use Rattle.homeo_meaning.specs.Small.{IsSmall}
use Rattle.homeo_form.specs.inner.Terms.{sum_limit}
use Rattle.homeo_form.proofs.Adding.{limit_wider}
use Rattle.homeo_form.proofs.Widths.{kept_is, sum_kept}
use Rattle.homeo_form.proofs.FormParts.{small_terms, small_constant, both_small, sum_is}
use Rattle.homeo_form.proofs.form.Total.put.Goals as goal

pub added-requires-clause-right : goal.added-requires-clause-right
added-requires-clause-right c =
    subst (IsSmall sum_limit) (sym (kept_is c.self.inside.constant _ (search rules) refl))
    (limit_wider c.self.inside.constant (small_constant c.args.self c.self.inside.constant _ _ c.self.view_is c.requires.small.constant))

pub invariant_of-result : goal.invariant_of-result
invariant_of-result c =
    both_small c.self.inside.terms.items _ _ c.in_ok-extend_from_slice.ensures.items c.self.invariant
    (small_terms c.args.form.now c.form.inside.constant c.form.inside.terms.items _ c.form.inside.mixed.items c.form.view_is c.as_slice.ensures.value
    c.requires.form_small)

pub returns : goal.returns
returns c =
    sum_is c.args.self c.args.form.now c.self.inside.constant c.form.inside.constant _ c.self.inside.terms.items c.form.inside.terms.items _ _
    c.self.inside.mixed.items c.form.inside.mixed.items _ _ c.self.view_is c.form.view_is
    (sum_kept c.added.result c.form.inside.constant c.self.inside.constant (search rules) (search rules) (search rules) c.added.ensures)
    c.in_ok-extend_from_slice.ensures.items c.as_slice.ensures.value c.in_ok-push_all.ensures c.as_slice-2.ensures.value

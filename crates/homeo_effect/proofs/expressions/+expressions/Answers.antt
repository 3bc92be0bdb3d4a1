-- The parts of a phrase are smaller than it, and their numbers are small.
use Rattle.std.proofs.Common.{rules, All, map, sym, ap, ◌∙◌, subst}
use Rattle.std.proofs.lemmas.List.Elements.{All-get_or}
use Rattle.homeo_syntax.specs.LowView.{plain_lexpr}
use Rattle.homeo_syntax.specs.declared.low.LExpr.{the_lemmas}
use Rattle.homeo_syntax.proofs.LowViews.{low_Sum, low_Product, low_Neg}
use Rattle.homeo_meaning.specs.Serial.{values_of}
use Rattle.homeo_effect.specs.Localized.{local_expr}
use Rattle.homeo_effect.specs.inner.Alone.{Fits}
use Rattle.homeo_effect.proofs.Fitting.{terms_fit, factors_fit, part_fits, local_terms_fit, local_factors_fit, local_negation_fits}
use Rattle.homeo_effect.proofs.expressions.+expressions.Goals as goal

pub local_expr-local_exprs-requires : goal.local_expr-local_exprs-requires
local_expr-local_exprs-requires t c =
    let b = values_of c.args.base.now in
    let f = subst (Fits b c.args.site) (ap plain_lexpr c.in-Sum.is ∙ low_Sum c.in-Sum.es) c.requires in
    (search (rules, the_lemmas), subst (All (λ e. Fits b c.args.site (plain_lexpr e))) (sym c.as_slice.ensures) (terms_fit b c.args.site c.in-Sum.es.items f))

pub local_expr-summed-requires : goal.local_expr-summed-requires
local_expr-summed-requires t c =
    let b = values_of c.args.base.now in
    let f = subst (Fits b c.args.site) (ap plain_lexpr c.in-Sum.is ∙ low_Sum c.in-Sum.es) c.requires in
    local_terms_fit b c.args.site (map plain_lexpr c.in-Sum.es.items) _ (c.in_ok-terms-in-Sum.ensures ∙ ap (λ es. map (local_expr b c.args.site) (map plain_lexpr es)) c.as_slice.ensures) f

pub local_expr-local_exprs-requires-in-Product : goal.local_expr-local_exprs-requires-in-Product
local_expr-local_exprs-requires-in-Product t c =
    let b = values_of c.args.base.now in
    let f = subst (Fits b c.args.site) (ap plain_lexpr c.in-Product.is ∙ low_Product c.in-Product.es) c.requires in
    (search (rules, the_lemmas), subst (All (λ e. Fits b c.args.site (plain_lexpr e))) (sym c.as_slice-in-Product.ensures) (factors_fit b c.args.site c.in-Product.es.items f))

pub local_expr-multiplied-requires : goal.local_expr-multiplied-requires
local_expr-multiplied-requires t c =
    let b = values_of c.args.base.now in
    let f = subst (Fits b c.args.site) (ap plain_lexpr c.in-Product.is ∙ low_Product c.in-Product.es) c.requires in
    local_factors_fit b c.args.site (map plain_lexpr c.in-Product.es.items) _ (c.in_ok-factors-in-Product.ensures ∙ ap (λ es. map (local_expr b c.args.site) (map plain_lexpr es)) c.as_slice-in-Product.ensures) f

pub local_expr-local_expr-requires : goal.local_expr-local_expr-requires
local_expr-local_expr-requires t c =
    let b = values_of c.args.base.now in
    let f = subst (Fits b c.args.site) (ap plain_lexpr c.in-Neg.is ∙ low_Neg c.in-Neg.e) c.requires in
    (search (rules, the_lemmas), subst (λ e. Fits b c.args.site (plain_lexpr e)) (sym c.deref.ensures) (part_fits b c.args.site (plain_lexpr c.in-Neg.e.value) f))

pub local_expr-negated-requires : goal.local_expr-negated-requires
local_expr-negated-requires t c =
    let b = values_of c.args.base.now in
    let f = subst (Fits b c.args.site) (ap plain_lexpr c.in-Neg.is ∙ low_Neg c.in-Neg.e) c.requires in
    local_negation_fits b c.args.site (plain_lexpr c.in-Neg.e.value) _ (c.in_ok-e-in-Neg.ensures ∙ ap (λ e. local_expr b c.args.site (plain_lexpr e)) c.deref.ensures) f

pub local_exprs-local_expr-requires : goal.local_exprs-local_expr-requires
local_exprs-local_expr-requires t c =
    let b = values_of c.args.base.now in (
      search (rules, the_lemmas),
      subst (λ e. Fits b c.args.site (plain_lexpr e)) (sym c.e-item.is)
          (All-get_or (λ e. Fits b c.args.site (plain_lexpr e)) c.args.es.now c.loop-e.e-index _ c.loop-e-test.true c.requires),
    )

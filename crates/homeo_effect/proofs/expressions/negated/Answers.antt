-- A literal's number is negated, and another phrase as a whole.
use Rattle.std.proofs.Common.{rules, ◌≡◌, neg_ℤ, true, refl, sym, ap, ◌∙◌, subst}
use Rattle.homeo_syntax.specs.Low as l
use Rattle.homeo_syntax.specs.LowView.{plain_lexpr}
use Rattle.homeo_syntax.proofs.LowViews.{low_Literal, low_Neg}
use Rattle.homeo_meaning.specs.Small.{is_small}
use Rattle.homeo_meaning.proofs.Numbers.{kept_is}
use Rattle.homeo_split.specs.CanExec.{run_limit}
use Rattle.homeo_effect.proofs.Literals.{negation_small, negated_Some, negated_None}
use Rattle.homeo_effect.proofs.expressions.negated.Goals as goal

pub minus-requires : goal.minus-requires
minus-requires c =
    let n = kept_is c.in-Some.n _ (search rules) refl in
    subst (λ v. is_small run_limit (neg_ℤ v) ≡ true) (sym n)
    (negation_small run_limit (plain_lexpr c.args.e) c.in-Some.n c.requires.0 c.in-Some.ensures c.requires.1)

pub returns-in-Some : goal.returns-in-Some
returns-in-Some c =
    let n = kept_is c.in-Some.n _ (search rules) refl in
    low_Literal _ ∙ ap l.Literal (kept_is c.minus.result _ (search rules) (c.minus.ensures ∙ ap neg_ℤ n))
    ∙ negated_Some (plain_lexpr c.args.e) c.in-Some.n c.in-Some.ensures

pub returns-in_ok-new-in-None : goal.returns-in_ok-new-in-None
returns-in_ok-new-in-None c =
    low_Neg c.in_ok-new-in-None.field-0 ∙ ap (λ e. l.Neg (plain_lexpr e)) c.in_ok-new-in-None.ensures.ok
    ∙ negated_None (plain_lexpr c.args.e) c.in-None.ensures

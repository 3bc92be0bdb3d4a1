-- That one side is at most the other is that the other isn't less.
use Rattle.std.proofs.Common.{◌++◌, map, sym, ap, ◌∙◌}
use Rattle.homeo_syntax.specs.LowView.{plain_lexpr}
use Rattle.homeo_meaning.specs.Meaning.{compared}
use Rattle.homeo_plan.specs.Linear.{Linear, form}
use Rattle.homeo_plan.specs.PlanView.{plain_atom}
use Rattle.homeo_form.specs.Standing.{forms_of}
use Rattle.homeo_linear.specs.inner.Kept.{kept_comparison}
use Rattle.homeo_linear.proofs.Comparing.{turned_holds, turned_kept}
use Rattle.homeo_linear.proofs.comparisons.comparison.Goals as goal

pub by_less-requires-in-LessEqual : goal.by_less-requires-in-LessEqual
by_less-requires-in-LessEqual c = record { left = c.requires.right; right = c.requires.left; there = c.requires.back; back = c.requires.there }

pub returns-in_ok-is_more-in-LessEqual-clause-holds : goal.returns-in_ok-is_more-in-LessEqual-clause-holds
returns-in_ok-is_more-in-LessEqual-clause-holds c =
    let x : Linear = form (forms_of c.args.standing.now) (plain_lexpr c.args.left.now) in
    let y : Linear = form (forms_of c.args.standing.now) (plain_lexpr c.args.right.now) in
    turned_holds x y c.in_ok-is_more-in-LessEqual.is_more c.in_ok-is_more-in-LessEqual.ensures.holds
    ∙ ap (λ op. compared op x.constant y.constant) (sym c.in-LessEqual.is)

pub returns-in_ok-is_more-in-LessEqual-clause-atoms : goal.returns-in_ok-is_more-in-LessEqual-clause-atoms
returns-in_ok-is_more-in-LessEqual-clause-atoms c =
    let x : Linear = form (forms_of c.args.standing.now) (plain_lexpr c.args.left.now) in
    let y : Linear = form (forms_of c.args.standing.now) (plain_lexpr c.args.right.now) in
    c.in_ok-is_more-in-LessEqual.ensures.atoms
    ∙ ap (λ l. map plain_atom c.args.atoms.now.items ++ l) (turned_kept x y ∙ ap (λ op. kept_comparison op x y) (sym c.in-LessEqual.is))

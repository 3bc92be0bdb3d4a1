-- What stands there, or what is there where nothing was set.
use Rattle.std.proofs.Common.{pos, ap, ◌∙◌}
use Rattle.std.proofs.lemmas.Result.{IfOk-weaker}
use Rattle.homeo_syntax.proofs.LowViews.{low_Literal}
use Rattle.homeo_substitution.specs.Bindings.{bound}
use Rattle.homeo_substitution.specs.Shared.{plain_shared}
use Rattle.homeo_substitution.proofs.Equations.{substituted-temp}
use Rattle.homeo_substitution.proofs.sides.temp.Goals as goal

pub returns-in-Some : goal.returns-in-Some
returns-in-Some c =
    IfOk-weaker c.unshared.result _ _
    (λ r h. h ∙ ap plain_shared c.as_ref.ensures ∙ substituted-temp (bound c.args.put.now) c.args.t _ _ c.in-Some.ensures c.place_of_temp.ensures)
    c.unshared.ensures

pub returns-in-None : goal.returns-in-None
returns-in-None c = low_Literal (pos 0) ∙ substituted-temp (bound c.args.put.now) c.args.t _ _ c.in-None.ensures c.place_of_temp.ensures

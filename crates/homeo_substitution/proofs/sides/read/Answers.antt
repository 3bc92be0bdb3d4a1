-- What stands there, or what is there where nothing was set.
use Rattle.std.proofs.Common.{ap, ◌∙◌}
use Rattle.std.proofs.lemmas.Result.{IfOk-weaker}
use Rattle.homeo_syntax.proofs.LowViews.{low_Read}
use Rattle.homeo_substitution.specs.Bindings.{bound}
use Rattle.homeo_substitution.specs.Shared.{plain_shared}
use Rattle.homeo_substitution.proofs.Equations.{substituted-read}
use Rattle.homeo_substitution.proofs.sides.read.Goals as goal

pub returns-in-Some : goal.returns-in-Some
returns-in-Some c =
    IfOk-weaker c.unshared.result _ _
    (λ r h. h ∙ ap plain_shared c.as_ref.ensures ∙ substituted-read (bound c.args.put.now) c.args.x _ _ c.in-Some.ensures c.place_of.ensures)
    c.unshared.ensures

pub returns-in-None : goal.returns-in-None
returns-in-None c = low_Read c.args.x ∙ substituted-read (bound c.args.put.now) c.args.x _ _ c.in-None.ensures c.place_of.ensures

-- What stands there, or what is there where nothing was set.
use Rattle.std.proofs.Common.{pos, ap, ◌∙◌}
use Rattle.homeo_substitution.specs.Bindings.{bound}
use Rattle.homeo_substitution.specs.Shared.{plain_shared}
use Rattle.homeo_substitution.proofs.SharedViews.{shared-Literal, shared-Same}
use Rattle.homeo_substitution.proofs.Equations.{substituted-temp}
use Rattle.homeo_substitution.proofs.substitution.temp.Goals as goal

pub returns-in_ok-clone-in-Some : goal.returns-in_ok-clone-in-Some
returns-in_ok-clone-in-Some c =
    shared-Same c.in_ok-clone-in-Some.field-0 ∙ ap plain_shared c.in_ok-clone-in-Some.ensures.cases
    ∙ substituted-temp (bound c.args.put.now) c.args.t _ _ c.in-Some.ensures c.place_of_temp.ensures

pub returns-in-None : goal.returns-in-None
returns-in-None c = shared-Literal (pos 0) ∙ substituted-temp (bound c.args.put.now) c.args.t _ _ c.in-None.ensures c.place_of_temp.ensures

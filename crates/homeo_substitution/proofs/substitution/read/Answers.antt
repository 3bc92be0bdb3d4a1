-- What stands there, or what is there where nothing was set.
use Rattle.std.proofs.Common.{ap, ◌∙◌}
use Rattle.homeo_substitution.specs.Bindings.{bound}
use Rattle.homeo_substitution.specs.Shared.{plain_shared}
use Rattle.homeo_substitution.proofs.SharedViews.{shared-Read, shared-Same}
use Rattle.homeo_substitution.proofs.Equations.{substituted-read}
use Rattle.homeo_substitution.proofs.substitution.read.Goals as goal

pub returns-in_ok-clone-in-Some : goal.returns-in_ok-clone-in-Some
returns-in_ok-clone-in-Some c =
    shared-Same c.in_ok-clone-in-Some.field-0 ∙ ap plain_shared c.in_ok-clone-in-Some.ensures.cases
    ∙ substituted-read (bound c.args.put.now) c.args.x _ _ c.in-Some.ensures c.place_of.ensures

pub returns-in-None : goal.returns-in-None
returns-in-None c = shared-Read c.args.x ∙ substituted-read (bound c.args.put.now) c.args.x _ _ c.in-None.ensures c.place_of.ensures

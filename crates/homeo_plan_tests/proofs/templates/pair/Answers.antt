-- Both atoms are small.
use Rattle.std.proofs.lemmas.Result.{IfOk-at_ok}
use Rattle.homeo_plan_tests.proofs.AtomExample.{small_pair}
use Rattle.homeo_plan_tests.proofs.Lists.{listed}
use Rattle.homeo_plan_tests.proofs.templates.pair.Goals as goal

pub returns : goal.returns
returns g c =
    let held = listed c.from_vec.result c.expect.result.items _ c.from_vec.ensures (IfOk-at_ok _ c.expect.ensures c.vec.ensures.items) in
    small_pair c.args.first c.args.second c.from_vec.result.items held c.requires.first c.requires.second

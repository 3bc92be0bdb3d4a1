use Rattle.std.proofs.Common.{◌≡◌, ◌<◌, List, Some, slice_get, length, refl, arith}
use Rattle.std.proofs.lemmas.Option.{slice_get_read}
use Rattle.std.proofs.lemmas.Result.{IfOk-at_ok}
use Rattle.homeo_cluster.specs.Passes.{PassValue}
use Rattle.homeo_cluster.proofs.MetMore.{all_set}
use Rattle.homeo_tests.proofs.answers.make_next.Goals as goal

pub returns : goal.returns
returns g c =
    let passes : List PassValue = c.args.passes.now.items in
    let p : PassValue = c.index_mut.result.now in
    let inside : c.args.client < length passes = omega (arith, c.requires.inside, c.args.passes.now.ok.0) in
    let at : slice_get passes c.args.client ≡ Some p = slice_get_read passes _ c.args.client p refl inside c.index_mut.ensures.value in
    let replied = IfOk-at_ok _ c.expect.ensures c.call.ensures.replied in
    record { all = all_set g.N.ClusterNaming.workload passes c.args.client p c.call.new.pass at replied.client c.requires.all }

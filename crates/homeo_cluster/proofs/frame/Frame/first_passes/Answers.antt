use Rattle.std.proofs.Common.{◌≡◌, [], ◌∷◌, ◌++◌}
use Rattle.homeo_cluster.proofs.Begins.{no_passes, one_pass_more}
use Rattle.homeo_cluster.proofs.frame.Frame.first_passes.Goals as goal

pub loop-client-init : goal.loop-client-init
loop-client-init g c = record { rest = c.requires.rest; passes = no_passes c.new-passes.result.items c.new-passes.ensures.items }

pub loop-client-preserved : goal.loop-client-preserved
loop-client-preserved g c =
    let more : c.push.new.self.items ≡ c.loop-client.passes.items ++ c.first_pass-pass.result ∷ [] = c.in_ok-push.ensures.items in
    record {
      rest = c.first_pass-pass.ensures.rest;
      passes = one_pass_more c.loop-client.client c.loop-client.passes.items c.push.new.self.items c.first_pass-pass.result more c.loop-client.invariant.passes c.first_pass-pass.ensures.client c.first_pass-pass.ensures.log;
    }

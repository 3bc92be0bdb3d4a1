use Rattle.std.proofs.Common.{◌-◌}
use Rattle.homeo_session.specs.Streams.{stream_limit}
use Rattle.homeo_commands.proofs.Served.{HasServed}
use Rattle.homeo_commands.proofs.serve.serve_source.Given as goal

abbrev pub invariant-loop-count : goal.invariant-loop-count
invariant-loop-count g l = HasServed g.S.Source.left g.S.Source.faults g.O.Sink.taken g.O.Sink.faults l.initial.source l.source l.initial.out l.out l.session

abbrev pub decreases-loop-count : goal.decreases-loop-count
decreases-loop-count g l = stream_limit - l.session.state.count

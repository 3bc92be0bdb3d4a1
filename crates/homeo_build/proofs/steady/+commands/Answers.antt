-- One command more is steady.
use Rattle.homeo_syntax.specs.LowView.{plain_lcommand}
use Rattle.homeo_build.proofs.Steadiness.{steady_first, steady_more}
use Rattle.homeo_build.proofs.steady.+commands.Goals as goal

pub are_steady-loop-command-init : goal.are_steady-loop-command-init
are_steady-loop-command-init n c = steady_first plain_lcommand

pub are_steady-loop-command-preserved : goal.are_steady-loop-command-preserved
are_steady-loop-command-preserved n c =
    steady_more plain_lcommand c.args.commands.now c.loop-command.command-index c.command-item.result c.loop-command-test.true c.command-item.is
    (c.is_steady.ensures c.if-not-is_steady.false) c.loop-command.invariant

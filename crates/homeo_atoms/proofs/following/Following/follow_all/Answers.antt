-- One more command is followed.
use Rattle.std.proofs.Common.{◌∙◌}
use Rattle.homeo_atoms.proofs.Needing.{command_step, commands_end}
use Rattle.homeo_atoms.proofs.following.Following.follow_all.Goals as goal

pub follow-requires-clause-straight : goal.follow-requires-clause-straight
follow-requires-clause-straight c =
    (command_step c.loop-command.self c.args.commands.now c.loop-command.command-index c.command-item.result c.loop-command-test.true c.command-item.is
    c.loop-command.invariant.straight c.loop-command.invariant.small).straight

pub follow-requires-clause-small : goal.follow-requires-clause-small
follow-requires-clause-small c =
    (command_step c.loop-command.self c.args.commands.now c.loop-command.command-index c.command-item.result c.loop-command-test.true c.command-item.is
    c.loop-command.invariant.straight c.loop-command.invariant.small).small

pub loop-command-preserved : goal.loop-command-preserved
loop-command-preserved c =
    let k =
    command_step c.loop-command.self c.args.commands.now c.loop-command.command-index c.command-item.result c.loop-command-test.true c.command-item.is
    c.loop-command.invariant.straight c.loop-command.invariant.small in
    let d = c.in_ok-follow.ensures in
    record { straight = k.left; small = k.can c.follow.new.self d; needs = k.needs c.follow.new.self d ∙ c.loop-command.invariant.needs }

pub returns : goal.returns
returns c =
    commands_end c.loop-command.self c.args.commands.now c.loop-command.command-index c.loop-command-test.false ∙ c.loop-command.invariant.needs

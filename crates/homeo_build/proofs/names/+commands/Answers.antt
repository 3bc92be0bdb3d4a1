-- The objects of the next part stand behind those of the parts before it.
use Rattle.std.proofs.Common.{append-nil, sym}
use Rattle.homeo_syntax.specs.LowView.{plain_lcommand}
use Rattle.homeo_follow.specs.Named.{named}
use Rattle.homeo_build.proofs.NamedObjects.{commands_flat, named_more, named_done}
use Rattle.homeo_build.proofs.names.+commands.Goals as goal

pub push_in_all-loop-command-init : goal.push_in_all-loop-command-init
push_in_all-loop-command-init n c = sym (append-nil c.args.names.now.items)

pub push_in_all-loop-command-preserved : goal.push_in_all-loop-command-preserved
push_in_all-loop-command-preserved n c =
    named_more (λ c. named (plain_lcommand c)) c.args.commands.now c.loop-command.command-index c.command-item.result _ c.loop-command.names.items c.args.names.now.items
    c.loop-command-test.true c.command-item.is c.in_ok-push_named.ensures c.loop-command.invariant

pub push_in_all-returns : goal.push_in_all-returns
push_in_all-returns n c =
    named_done (λ c. named (plain_lcommand c)) c.args.commands.now c.loop-command.command-index c.loop-command.names.items c.args.names.now.items _
    c.loop-command-test.false c.loop-command.invariant (commands_flat plain_lcommand c.args.commands.now)

-- One more of a list, and the end.
use Rattle.homeo_cert.proofs.Listings.{commands_listed, one_more, none_left}
use Rattle.homeo_cert.proofs.listing.+command_nodes.Goals as goal

pub push_commands-loop-c-preserved : goal.push_commands-loop-c-preserved
push_commands-loop-c-preserved t c = one_more commands_listed c.args.cs.now c.loop-c.c-index c.c-item.result _ _ _ c.loop-c-test.true c.c-item.is c.in_ok-push_command.ensures c.loop-c.invariant

pub push_commands-returns : goal.push_commands-returns
push_commands-returns t c = none_left commands_listed c.args.cs.now c.loop-c.c-index _ _ c.loop-c-test.false c.loop-c.invariant

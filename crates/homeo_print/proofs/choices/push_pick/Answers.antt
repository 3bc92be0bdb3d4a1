use Rattle.std.proofs.Common.{rules, append_assoc}
use Rattle.homeo_print.specs.Key.{definitions}
use Rattle.homeo_print.proofs.choices.push_pick.Goals as goal

pub returns : goal.returns
unfolding definitions
returns c = search (rules, append_assoc)

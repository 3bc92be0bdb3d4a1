use Rattle.std.proofs.Common.{◌+◌, ◌*◌, ap, ◌∙◌}
use Rattle.homeo_config.proofs.Splitting.{part_is}
use Rattle.homeo_config.proofs.split.part.Goals as goal

pub returns : goal.returns
returns c =
    ap (λ rest. c.args.each * c.args.shares + rest) c.part_of_rest.ensures
    ∙ part_is c.args.each c.args.rest c.args.shares c.args.all c.requires.some

use Rattle.homeo_delta.proofs.Following.{follows}
use Rattle.homeo_delta.proofs.commands.transform.Goals as goal

pub returns-clause-follows : goal.returns-clause-follows
returns-clause-follows c =
    follows c.args.sites c.args.site c.requires.site c.args.c.now c.requires.whole c.shift.result c.shift.ensures

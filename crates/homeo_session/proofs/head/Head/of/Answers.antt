use Rattle.std.proofs.Common.{◌∙◌}
use Rattle.homeo_syntax.specs.SourceView.{plain_workload}
use Rattle.homeo_session.proofs.Keeping.{head_begins}
use Rattle.homeo_session.proofs.head.Head.of.Goals as goal

pub invariant_of-result : goal.invariant_of-result
invariant_of-result c =
    head_begins c.args.frame.now c.in_ok-text.text.items c.in_ok-database.database.items (plain_workload c.args.w) c.requires.ended c.requires.accepted
    (c.in_ok-text.ensures.items ∙ c.without_last_line.ensures) c.in_ok-database.ensures.within

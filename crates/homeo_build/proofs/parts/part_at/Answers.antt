-- It is what is followed of the form.
use Rattle.std.proofs.Common.{ap, ◌∙◌}
use Rattle.homeo_follow.specs.Brought.{plain_part}
use Rattle.homeo_build.proofs.parts.part_at.Goals as goal

pub part-requires : goal.part-requires
part-requires c = record { can = c.requires.form.can; left = c.requires.form.left; base = c.requires.base }

pub returns-clause-part : goal.returns-clause-part
returns-clause-part c = ap plain_part c.in_ok-new.ensures.ok ∙ c.in_ok-part.ensures.part

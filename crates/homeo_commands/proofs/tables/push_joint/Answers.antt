use Rattle.std.proofs.Common.{◌<◌, map, sym, ap, subst, ◌∙◌}
use Rattle.homeo_plan.specs.Joint.{joint_picks}
use Rattle.homeo_print.specs.Key.{definitions}
use Rattle.homeo_joint.specs.Counts.{row_limit, product_of}
use Rattle.homeo_joint.specs.TooMany.{IsTooMany}
use Rattle.homeo_joint.proofs.Blocks.{length_joint}
use Rattle.homeo_commands.proofs.Tabulating.{adds_joint}
use Rattle.homeo_commands.proofs.tables.push_joint.Goals as goal

pub returns-in-Ok : goal.returns-in-Ok
unfolding definitions
returns-in-Ok c =
    adds_joint c.print_joint.result c.args.counts.now c.args.out.now.items c.print_joint.new.out.items
    (λ tables is. c.print_joint.ensures.text (joint_picks tables) (ap (map (λ r. r.picks.items)) c.as_slice.ensures.value ∙ c.in-Ok.ensures.picks tables is))

pub returns-in-Err-TooMany : goal.returns-in-Err-TooMany
unfolding definitions
returns-in-Err-TooMany c =
    let over = c.in-Err-TooMany.ensures.over.0 (subst IsTooMany (sym c.in-Err-TooMany.field-0-is) tt) in
    adds_joint c.print_too_many_choices.result c.args.counts.now c.args.out.now.items c.print_too_many_choices.new.out.items
    (λ tables is. c.print_too_many_choices.ensures.text (joint_picks tables) (subst (λ n. row_limit < n) (sym (length_joint tables ∙ ap product_of is)) over))

-- All terms are added up, and none has changed.
use Rattle.std.proofs.Common.{rules, refl}
use Rattle.homeo_form.proofs.FormParts.{total_of}
use Rattle.homeo_form.proofs.RunningSums.{running_of}
use Rattle.homeo_form.proofs.Widths.{kept_is}
use Rattle.homeo_form.proofs.form.running.RunningSum.of.Goals as goal

pub invariant_of-result : goal.invariant_of-result
invariant_of-result c =
    running_of c.args.form c.form.inside.constant _ c.form.inside.terms.items c.form.inside.mixed.items c.form.view_is c.form.invariant c.requires
    c.new.result c.len-settled.result c.new.ensures.empty (search rules) (kept_is c.form.inside.constant _ (search rules) refl)

pub returns : goal.returns
returns c =
    total_of c.args.form c.form.inside.constant _ c.form.inside.terms.items c.form.inside.mixed.items c.form.view_is
    (kept_is c.form.inside.constant _ (search rules) refl) c.form.invariant

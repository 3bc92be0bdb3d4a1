use Rattle.std.proofs.Common.{subst}
use Rattle.homeo_plan.specs.PlanView.{plain_config}
use Rattle.homeo_plan.specs.Template.{Template}
use Rattle.homeo_plan.specs.Treaty.{Treaty}
use Rattle.homeo_plan.proofs.Replays.{ground_soundness}
use Rattle.homeo_build.proofs.laws.plans_are_sound.Goals as goal

pub returns : goal.returns
returns c w base p d plan keeps g member site =
    ground_soundness w base (plain_config p.config) d plan.fits
    (λ i lt. subst (λ (t : Template). Treaty t (plain_config p.config) i (d i)) plan.template (keeps i lt)) g member site

-- A negative bound, or the sum.
use Rattle.std.proofs.Common.{rules, ◌&&◌, sym, ap, ap₂, ◌∙◌}
use Rattle.std.specs.Ordering.{int_eq}
use Rattle.homeo_plan.specs.Config.{total}
use Rattle.homeo_certificate.specs.Key.{definitions}
use Rattle.homeo_verify.proofs.Verdicts.{bits_same}
use Rattle.homeo_verify.proofs.verifying.fits.Goals as goal

pub returns-in-Some : goal.returns-in-Some
unfolding definitions
returns-in-Some c =
    bits_same c.in-Some.sum c.args.clause.now.slack (search rules) (search rules)
    ∙ ap₂ (λ v n. v && int_eq n c.args.clause.now.slack) (sym c.in-Some.ensures.0) c.in-Some.ensures.1

pub returns-in-None : goal.returns-in-None
unfolding definitions
returns-in-None c = ap (λ v. v && int_eq (total c.args.bounds.now) c.args.clause.now.slack) (sym c.in-None.ensures)

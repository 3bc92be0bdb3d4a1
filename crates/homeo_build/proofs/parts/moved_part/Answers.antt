-- What is kept, rebased, is what the form brings, since its tests come out as they did.
use Rattle.std.proofs.Common.{◌≡◌, sym, ap, ◌∙◌, subst}
use Rattle.std.specs.Prelude.{IfSome}
use Rattle.homeo_syntax.specs.LowView.{plain_lcommand}
use Rattle.homeo_meaning.specs.Serial.{values_of}
use Rattle.homeo_plan.specs.Each.{Each}
use Rattle.homeo_plan.specs.Holding.{AtomHolds}
use Rattle.homeo_follow.specs.Brought.{plain_part}
use Rattle.homeo_follow.specs.Follow.{own_state}
use Rattle.homeo_follow.specs.Rebased.{rebased, gains}
use Rattle.homeo_follow.specs.declared.part.PlanPart.{PlanPart}
use Rattle.homeo_build.proofs.Following.{kept_moves}
use Rattle.homeo_build.proofs.parts.moved_part.Goals as goal

pub returns-clause-part : goal.returns-clause-part
returns-clause-part c =
    let from = c.args.from.now in
    let to = c.args.to.now in
    let g = gains (values_of from) (values_of to) in
    let kept = plain_part c.args.kept.now in
    let made = subst (λ found. IfSome found (λ (p : PlanPart). plain_part p ≡ rebased g kept)) c.in-Some.is c.in_ok-part.ensures.part in
    let holds = subst (λ found. IfSome found (λ (p : PlanPart). Each (AtomHolds (own_state g)) kept.atoms)) c.in-Some.is c.in_ok-part.ensures.holds in
    ap plain_part c.in_ok-new.ensures.ok ∙ made
    ∙ sym (kept_moves from to (plain_lcommand c.args.form.now) kept c.requires (c.is_steady.ensures c.if-not-is_steady.false) holds)

pub returns-clause-rebased : goal.returns-clause-rebased
returns-clause-rebased c =
    let g = gains (values_of c.args.from.now) (values_of c.args.to.now) in
    let kept = plain_part c.args.kept.now in
    ap plain_part c.in_ok-new.ensures.ok
    ∙ subst (λ found. IfSome found (λ (p : PlanPart). plain_part p ≡ rebased g kept)) c.in-Some.is c.in_ok-part.ensures.part

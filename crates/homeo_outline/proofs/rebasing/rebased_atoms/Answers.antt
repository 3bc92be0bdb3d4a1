-- An atom more is put behind the others.
use Rattle.std.proofs.Common.{subst}
use Rattle.std.specs.Prelude.{IfSome}
use Rattle.homeo_meaning.specs.Serial.{values_of}
use Rattle.homeo_plan.specs.PlanView.{plain_atom}
use Rattle.homeo_follow.specs.Rebased.{gains}
use Rattle.homeo_outline.specs.inner.Holding.{IsRebasedAtom}
use Rattle.homeo_outline.proofs.Holding.{none_so_far, more_so_far}
use Rattle.homeo_outline.proofs.rebasing.rebased_atoms.Goals as goal

pub loop-atom-init : goal.loop-atom-init
loop-atom-init c =
    none_so_far (gains (values_of c.args.from.now) (values_of c.args.to.now)) c.args.atoms.now c.in_ok-made.made.items c.in_ok-made.ensures.items

pub loop-atom-preserved : goal.loop-atom-preserved
loop-atom-preserved c =
    let g = gains (values_of c.args.from.now) (values_of c.args.to.now) in
    let here = subst (λ found. IfSome found (IsRebasedAtom g (plain_atom c.atom-item.result))) c.in-Some.is c.in_ok-atom.ensures in
    more_so_far g c.args.atoms.now c.loop-atom.made.items c.push.new.self.items c.loop-atom.atom-index c.atom-item.result c.in-Some.atom
    c.loop-atom-test.true c.atom-item.is c.in_ok-push.ensures.items here c.loop-atom.invariant

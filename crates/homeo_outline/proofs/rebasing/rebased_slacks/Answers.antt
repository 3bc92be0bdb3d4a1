-- All slacks are moved.
use Rattle.std.proofs.Common.{◌≡◌, ◌+◌, sym, subst, ap, ◌∙◌, pos, ℤ, Vec, Global, SFits, to_z, rules, arith}
use mir.Syntax.{w128}
use Rattle.std.proofs.lemmas.Int.{to_z-of_z}
use Rattle.homeo_meaning.specs.Serial.{values_of}
use Rattle.homeo_follow.specs.Rebased.{gains}
use Rattle.homeo_outline.specs.ObjectPlan.{clauses_with}
use Rattle.homeo_outline.proofs.Moving.{Settled, settled_first, settled_passed, settled_moved, settled_all, no_gain_past}
use Rattle.homeo_outline.proofs.Slacks.{clauses_moved}
use Rattle.homeo_outline.proofs.rebasing.rebased_slacks.Goals.{else-gain-ne0-via-then-gain-ne0+in_ok-move_slacks+else-not-branch, else-gain-ne0-via-else-gain-ne0}
use Rattle.homeo_outline.proofs.rebasing.rebased_slacks.Goals as goal

pub loop-object-init : goal.loop-object-init
loop-object-init c n lt =
    settled_first (gains (values_of c.args.from.now) (values_of c.args.to.now)) c.args.outline.now.terms c.args.slacks.now c.in_ok-made.made.items c.in_ok-made.ensures.items n

pub loop-object-preserved : goal.loop-object-preserved
loop-object-preserved c n lt =
    let g = gains (values_of c.args.from.now) (values_of c.args.to.now) in
    let tss = c.args.outline.now.terms in
    let ss = c.args.slacks.now in
    let i = c.loop-object.object in
    let so_far = c.loop-object.invariant n lt in
    elim c.else-gain-ne0.branch [
      | else-gain-ne0-via-then-gain-ne0+in_ok-move_slacks+else-not-branch w ↦
          subst (λ (v : Vec ℤ Global). Settled g tss ss (i + 1) v.items n) (sym w.made-is)
          (settled_moved g tss ss i c.loop-object.made.items w.move_slacks.new.made.items n lt (w.in_ok-move_slacks.ensures w.if-not-branch.false n) so_far)
      | else-gain-ne0-via-else-gain-ne0 w ↦
          let fits : SFits w128 c.gain.result = search rules in
          let none : g i ≡ pos 0 = sym c.gain.ensures ∙ sym (to_z-of_z w128 c.gain.result fits) ∙ ap (to_z w128) w.if-gain-ne0.false in
          subst (λ (v : Vec ℤ Global). Settled g tss ss (i + 1) v.items n) (sym w.made-is)
          (settled_passed g tss ss i c.loop-object.made.items n none so_far)
    ]

pub returns : goal.returns
returns c =
    let g = gains (values_of c.args.from.now) (values_of c.args.to.now) in
    let tss = c.args.outline.now.terms in
    let ss = c.args.slacks.now in
    ap (λ l. clauses_with tss l.items) c.from_vec.ensures
    ∙ clauses_moved g tss ss c.loop-object.made.items
    (λ n lt. settled_all g tss ss c.loop-object.object c.loop-object.made.items n
    (λ x past. no_gain_past c.args.from.now c.args.to.now x (omega (arith, past, c.loop-object-test.false, c.max-object-end.ensures)) (omega (arith, past, c.loop-object-test.false, c.max-object-end.ensures)))
    (c.loop-object.invariant n lt))

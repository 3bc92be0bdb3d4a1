use Rattle.std.proofs.Common.{◌≡◌, ◌≢◌, ◌∷◌, Vec, Global, map, ◌+◌, sym, ap, ◌∙◌, subst, arith}
use Rattle.homeo_syntax.specs.Low as low
use Rattle.homeo_syntax.specs.LowView.{plain_lexpr}
use Rattle.homeo_syntax.specs.declared.low.LExpr.{LExpr}
use Rattle.homeo_syntax.specs.declared.low.SplitName.TheVariants.{Base}
use Rattle.homeo_delta.proofs.DeltaReads.{minus_delta, others, skipped_other, pushed_other}
use Rattle.homeo_delta.proofs.commands.shift_write.Goals.{then-other-site+in_ok-push_minus-in-Whole-2, else-other-site}
use Rattle.homeo_delta.proofs.commands.shift_write.Goals as goal

pub loop-other-preserved : goal.loop-other-preserved
loop-other-preserved c =
    let object = c.in-Whole.object in
    let P = λ (l : Vec LExpr Global).
    map plain_lexpr l.items ≡
    plain_lexpr c.args.value ∷ low.Neg (low.Read (Base object)) ∷ map (minus_delta object) (others c.args.site 0 (c.loop-other.other + 1)) in
    elim c.if-other-site.branch [
      | then-other-site+in_ok-push_minus-in-Whole-2 w ↦
          let apart : c.args.site ≢ c.loop-other.other = omega (arith, w.if-other-site.true) in
          pushed_other object c.args.site c.loop-other.other _ _ c.loop-other.terms.items c.if-other-site.terms.items apart
          (ap (λ l. map plain_lexpr l.items) w.terms-is ∙ w.in_ok-push_minus-in-Whole-2.ensures) c.loop-other.invariant
      | else-other-site w ↦
          let same : c.args.site ≡ c.loop-other.other = omega (arith, w.if-other-site.false) in
          subst P (sym w.terms-is) (skipped_other object c.args.site c.loop-other.other _ _ c.loop-other.terms.items same c.loop-other.invariant)
    ]

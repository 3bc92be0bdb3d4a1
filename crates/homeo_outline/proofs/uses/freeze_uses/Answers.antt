-- One more freeze.
use Rattle.std.proofs.Common.{◌≡◌, ◌==◌, ◌+◌, ℕ, List, map, take, length, get_or, refl, subst, arith}
use Rattle.homeo_lemmas.proofs.Lists.{length_take}
use Rattle.homeo_plan.specs.declared.forms.Delta.{Delta}
use Rattle.homeo_outline.specs.inner.Uses.{KeepsFreezes, at_object}
use Rattle.homeo_outline.proofs.Noting.{item_kept, object_noted, next_is}
use Rattle.homeo_outline.proofs.uses.freeze_uses.Goals as goal

-- the freeze that is read
freeze_at : List Delta → ℕ → Delta
freeze_at ds k = get_or ds k (record { object = 0; site = 0 })

pub loop-freeze-preserved : goal.loop-freeze-preserved
unfolding freeze_at
loop-freeze-preserved c =
    let ds = c.args.freezes.now in
    let k = c.loop-freeze.freeze-index in
    let d = freeze_at ds k in
    let before = map (λ v. v.items) c.loop-freeze.uses.items in
    let after = map (λ v. v.items) c.note.new.uses.items in
    let number = c.loop-freeze.number in
    let counted : number ≡ c.args.first + length (take k ds) = omega (arith, c.loop-freeze.invariant.number, length_take ds k c.loop-freeze-test.true) in
    record {
      number = omega (arith, c.loop-freeze.invariant.number);
      keeps =
          subst (λ es. KeepsFreezes c.args.first es after) (next_is ds k d _ c.loop-freeze-test.true refl)
          (item_kept (λ x (e : Delta). e.object == x) c.args.first (take k ds) d number before after counted c.loop-freeze.invariant.keeps
          (λ x n. object_noted d.object number x n (at_object x before) (at_object x after) (c.in_ok-note.ensures x)));
    }

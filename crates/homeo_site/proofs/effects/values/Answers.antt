-- One value more.
use Rattle.std.proofs.Common.{◌≡◌, rules, to_z, of_z, ◌∙◌}
use Rattle.std.specs.Int.{w64}
use Rattle.std.proofs.lemmas.Int.{to_z-of_z}
use Rattle.homeo_site.proofs.EffectLists.{printed_more}
use Rattle.homeo_site.proofs.effects.values.Goals as goal

pub loop-form-preserved : goal.loop-form-preserved
loop-form-preserved c =
    let same : to_z w64 (of_z w64 c.value.result) ≡ c.value.result = search (rules, to_z-of_z) in
    printed_more c.args.deltas.now c.args.forms.now c.loop-form.form-index c.form-item.result c.loop-form.values.items _ _ c.loop-form-test.true
    c.form-item.is c.loop-form.invariant c.in_ok-push.ensures.items (same ∙ c.value.ensures)

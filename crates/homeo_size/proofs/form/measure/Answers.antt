-- The fold begins with no temporaries, and with the objects as they are declared.
use Rattle.std.proofs.Common.{ℕ, map, refl, ap, ◌∙◌}
use Rattle.std.proofs.lemmas.Result.{IfOk-weaker}
use Rattle.homeo_syntax.specs.LowView.{plain_lcommand}
use Rattle.homeo_meaning.specs.Windowed.{item_at}
use Rattle.homeo_size.specs.inner.Key.{definitions}
use Rattle.homeo_size.specs.inner.Parts.{single, unwritten}
use Rattle.homeo_size.specs.inner.Store.{Store}
use Rattle.homeo_size.specs.inner.Tables.{store_in}
use Rattle.homeo_size.specs.declared.extent.Extent.{Extent}
use Rattle.homeo_size.proofs.Called.{form_measured}
use Rattle.homeo_size.proofs.form.measure.Goals as goal

pub returns : goal.returns
unfolding definitions
returns c =
    let objects = c.in_ok-first_extents.field-0.items in
    let named : ℕ → Extent = λ n. item_at c.new.result n single in
    let fresh : ℕ → Extent = λ n. item_at c.new-2.result n single in
    let begun : Store = store_in (record { objects = c.in_ok-first_extents.field-0; named = c.new.result; fresh = c.new-2.result; log = c.new-3.result; absent = c.unwritten.result }) in
    let declared = c.in_ok-first_extents.ensures ∙ ap (map (unwritten c.args.sites)) c.weights.ensures in
    IfOk-weaker c.command.result _ _
    (λ m h. form_measured c.args.layout.now c.args.sites (plain_lcommand c.args.form.now) m begun objects c.unwritten.result named fresh h refl declared c.unwritten.ensures (λ n. c.new.ensures n single) (λ n. c.new-2.ensures n single))
    c.command.ensures.measure

-- A change of the table is a change of its entry.
use Rattle.std.proofs.lemmas.Result.{on_ok_weaker}
use Rattle.homeo_meaning.specs.Windowed.{item_at}
use Rattle.homeo_size.specs.inner.Key.{definitions}
use Rattle.homeo_size.specs.inner.Parts.{single}
use Rattle.homeo_size.proofs.Tables.{sizes_object}
use Rattle.homeo_size.proofs.extents.Extents.put_object.Goals as goal

pub returns-clause-sizes : goal.returns-clause-sizes
unfolding definitions
returns-clause-sizes c =
    let t = c.args.self.now in
    on_ok_weaker c.put.result
    (λ h. sizes_object t.objects.items t.absent (λ n. item_at t.named n single) (λ n. item_at t.fresh n single) c.args.extent c.put.new.items.items c.args.object h)
    c.put.ensures

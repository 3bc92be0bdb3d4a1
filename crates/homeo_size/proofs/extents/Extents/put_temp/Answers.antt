-- A change of a table is a change of its entry.
use Rattle.std.proofs.Common.{sym, ap, ◌∙◌}
use Rattle.std.proofs.lemmas.Result.{on_ok_weaker}
use Rattle.homeo_meaning.specs.LowMeaning.{TempAt, put}
use Rattle.homeo_meaning.specs.Windowed.{item_at}
use Rattle.homeo_size.specs.inner.Key.{definitions}
use Rattle.homeo_size.specs.inner.Parts.{single}
use Rattle.homeo_size.specs.inner.Tables.{sizes_in}
use Rattle.homeo_size.proofs.Tables.{sizes_named, sizes_fresh}
use Rattle.homeo_size.proofs.extents.Extents.put_temp.Goals as goal

pub returns-in-Named-clause-sizes : goal.returns-in-Named-clause-sizes
unfolding definitions
returns-in-Named-clause-sizes c =
    let t = c.args.self.now in
    on_ok_weaker c.put.result
    (λ h. sizes_named t.objects.items t.absent (λ n. item_at t.named n single) (λ n. item_at t.fresh n single) c.args.extent (λ n. item_at c.put.new.self n single) c.in-Named.name h
    ∙ ap (λ u. put (sizes_in t) (TempAt u) c.args.extent) (sym c.in-Named.is))
    c.put.ensures

pub returns-in-Fresh-clause-sizes : goal.returns-in-Fresh-clause-sizes
unfolding definitions
returns-in-Fresh-clause-sizes c =
    let t = c.args.self.now in
    on_ok_weaker c.put-in-Fresh.result
    (λ h. sizes_fresh t.objects.items t.absent (λ n. item_at t.named n single) (λ n. item_at t.fresh n single) c.args.extent (λ n. item_at c.put-in-Fresh.new.self n single) c.in-Fresh.number h
    ∙ ap (λ u. put (sizes_in t) (TempAt u) c.args.extent) (sym c.in-Fresh.is))
    c.put-in-Fresh.ensures

-- What the code's tables and frames stand for.
use Rattle.std.specs.Prelude.{ℕ, List, slice_index_or}
use Rattle.homeo_syntax.specs.declared.low.Temp.TheVariants.{Named, Fresh}
use Rattle.homeo_meaning.specs.Context.{Context}
use Rattle.homeo_meaning.specs.LowMeaning.{TempAt, BaseAt, DeltaAt}
use Rattle.homeo_meaning.specs.Windowed.{item_at}
use Rattle.homeo_context.specs.Contexts.{call_context}
use Rattle.homeo_size.specs.inner.Key.{definitions}
use Rattle.homeo_size.specs.inner.Parts.{single}
use Rattle.homeo_size.specs.inner.Sizing.{Sizes}
use Rattle.homeo_size.specs.inner.Store.{Store}
use Rattle.homeo_size.specs.declared.extent.Extent.{Extent}
use Rattle.homeo_size.specs.declared.extents.Extents.{Extents}
use Rattle.homeo_size.specs.declared.frame.Frame.{Frame}

-- the extents by the list of the objects', with what stands past its end, and those of temporaries; a delta is never written
abbrev pub sizes_with : List Extent → Extent → (ℕ → Extent) → (ℕ → Extent) → Sizes
unfolding definitions
sizes_with objects absent named fresh (TempAt (Named n)) = named n
sizes_with objects absent named fresh (TempAt (Fresh n)) = fresh n
sizes_with objects absent named fresh (BaseAt k) = slice_index_or objects k absent
sizes_with objects absent named fresh (DeltaAt k j) = single

-- elsewhere than in the tables stands what nothing changed
abbrev pub sizes_in : Extents → Sizes
unfolding definitions
sizes_in t = sizes_with t.objects.items t.absent (λ n. item_at t.named n single) (λ n. item_at t.fresh n single)

abbrev pub store_in : Extents → Store
unfolding definitions
store_in t = record { sizes = sizes_in t; log = t.log.items }

abbrev pub context_of : Frame → Context
context_of f = call_context f.declared.now f.arguments.now

-- The items so far are read.
use Rattle.std.proofs.Common.{take, [], Ok}
use Rattle.std.specs.Fn.{FnReturnsAt}
use Rattle.std.specs.List.{FoldsTo}
use Rattle.homeo_cert_reader.specs.inner.Reading.{Pushed}
use Rattle.homeo_cert_reader.proofs.items.read_list.Given as goal

abbrev pub invariant-loop-item : goal.invariant-loop-item
invariant-loop-item g l = FoldsTo (Pushed (λ v o. FnReturnsAt g.R.Fn l.read v (Ok o))) [] (take l.item-index l.items) l.all.items

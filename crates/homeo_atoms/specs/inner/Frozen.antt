-- The deltas of a sorted set.
use Rattle.std.specs.Prelude.{List, map}
use Rattle.std.specs.BTreeSet.{BTreeSet}
use Rattle.homeo_plan.specs.declared.forms.Delta.{Delta}
use Rattle.homeo_atoms.specs.declared.freezes.Place.{Place}

abbrev pub delta_at : Place → Delta
delta_at p = record { object = p.object; site = p.site }

abbrev pub deltas_in : BTreeSet Place → List Delta
deltas_in s = map delta_at s.keys

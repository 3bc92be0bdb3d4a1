-- The list is level but at the places that are still to come.
use Rattle.std.proofs.Common.{◌≡◌, length, drop}
use Rattle.homeo_site.proofs.LevelLists.{IsLevelBut}
use Rattle.homeo_site.proofs.own_deltas.bring_level.Given as goal

abbrev pub invariant-loop-place : goal.invariant-loop-place
invariant-loop-place l = record {
  count : length l.list.items ≡ length l.other;
  level : IsLevelBut (drop l.place-index l.places) l.other l.list.items;
}

-- Lists before the place have the prints, and those from it on are as they were.
use Rattle.std.proofs.Common.{◌≡◌, ◌≤◌, [], length}
use Rattle.std.specs.List.{AllWithin}
use Rattle.homeo_site.proofs.lists.copy_to_all.Given as goal

abbrev pub invariant-loop-place : goal.invariant-loop-place
invariant-loop-place l = record {
  count : length l.lists.items ≡ length l.fn.copies.items;
  copied : AllWithin (λ copy. copy.items ≡ l.numbers) l.lists.items 0 l.place;
  empty : AllWithin (λ copy. (copy.items ≡ []) × (length l.numbers ≤ copy.spare)) l.lists.items l.place (length l.lists.items);
}

use Rattle.std.proofs.Common.{◌≡◌, ◌≤◌, map, take}
use Rattle.homeo_context.proofs.arguments.bind.Given as goal

abbrev pub invariant-loop-index : goal.invariant-loop-index
invariant-loop-index l = record {
  within : l.index ≤ l.count;
  names : map (λ a. a.name) l.bound.items ≡ map (λ p. p.name.name) (take l.index l.params);
  values : map (λ a. a.value) l.bound.items ≡ take l.index l.values;
}

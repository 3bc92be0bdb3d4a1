-- What the atoms so far mix.
use Rattle.std.proofs.Common.{◌≡◌, ℕ, ◌||◌, map, take}
use Rattle.std.specs.List.{list_any}
use Rattle.homeo_plan.specs.PlanView.{plain_atom}
use Rattle.homeo_build.specs.inner.Frozen.{is_frozen_in, names_object}
use Rattle.homeo_build.proofs.frozen.FrozenObjects.mix.Given as goal

abbrev pub invariant-loop-atom : goal.invariant-loop-atom
invariant-loop-atom l =
    (x j : ℕ) → is_frozen_in l.self x j ≡ (is_frozen_in l.fn.self x j || list_any (λ a. names_object x a.mixed) (map plain_atom (take l.atom-index l.atoms)))

use Rattle.std.proofs.Common.{◌≡◌, map, take}
use Rattle.homeo_form.specs.Standing.{forms_of}
use Rattle.homeo_meaning.specs.LowMeaning.{BaseAt}
use Rattle.homeo_linear.specs.Effect.{plain_own_form}
use Rattle.homeo_linear.proofs.effect.own_writes.Given as goal

abbrev pub invariant-loop-delta : goal.invariant-loop-delta
invariant-loop-delta l = record {
  objects : map (λ w. w.object) l.own.items ≡ map (λ d. d.object) (take l.delta-index l.written);
  forms : map (λ w. plain_own_form w.form) l.own.items ≡ map (λ d. forms_of l.standing (BaseAt d.object)) (take l.delta-index l.written);
}

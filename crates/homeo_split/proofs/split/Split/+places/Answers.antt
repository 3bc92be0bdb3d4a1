-- One more command of a list.
use Rattle.std.proofs.Common.{◌+◌, ◌&&◌, map, drop, sym, ap, ◌∙◌}
use Rattle.homeo_syntax.specs.LowView.{low_commands, plain_lcommand}
use Rattle.homeo_split.specs.Shape.{shape_of, has_places_all}
use Rattle.homeo_split.proofs.CommandSteps.{has_step, has_stop}
use Rattle.homeo_split.proofs.split.Split.+places.Goals as goal

pub has_places_all-returns-then-not-has_places : goal.has_places_all-returns-then-not-has_places
has_places_all-returns-then-not-has_places t c =
    let h = shape_of c.args.self.now in
    let rest = has_places_all h (low_commands (map plain_lcommand (drop (c.loop-c.c-index + 1) c.args.cs.now))) in
    sym (ap (λ b. b && rest) (sym c.has_places.ensures ∙ c.if-not-has_places.true))
    ∙ sym (has_step h c.args.cs.now c.loop-c.c-index c.c-item.result c.loop-c-test.true c.c-item.is)
    ∙ c.loop-c.invariant

pub has_places_all-loop-c-preserved : goal.has_places_all-loop-c-preserved
has_places_all-loop-c-preserved t c =
    let h = shape_of c.args.self.now in
    let rest = has_places_all h (low_commands (map plain_lcommand (drop (c.loop-c.c-index + 1) c.args.cs.now))) in
    sym (ap (λ b. b && rest) (sym c.has_places.ensures ∙ c.if-not-has_places.false))
    ∙ sym (has_step h c.args.cs.now c.loop-c.c-index c.c-item.result c.loop-c-test.true c.c-item.is)
    ∙ c.loop-c.invariant

pub has_places_all-returns : goal.has_places_all-returns
has_places_all-returns t c = sym (has_stop (shape_of c.args.self.now) c.args.cs.now c.loop-c.c-index c.loop-c-test.false) ∙ c.loop-c.invariant

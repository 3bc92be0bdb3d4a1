-- The clauses of the part at one place after another.
use Rattle.std.proofs.Common.{◌<◌, length, map, ◌∙◌}
use Rattle.homeo_template.specs.inner.Keys.{clauses_in}
use Rattle.homeo_template.specs.inner.Met.{atoms_of_part}
use Rattle.homeo_template.proofs.Again.{none_met, each_number, places_more}
use Rattle.homeo_template.proofs.Appending.{no-sets}
use Rattle.homeo_template.proofs.repeated.object_clauses.Goals as goal

pub loop-place-init : goal.loop-place-init
loop-place-init c =
    record {
      met = none_met c.new-met.result.items (map atoms_of_part c.args.parts.now) (clauses_in c.in_ok-distinct.distinct) c.new-met.ensures.items;
      clauses = c.in_ok-distinct.ensures ∙ no-sets;
    }

pub put_part-requires-clause-place : goal.put_part-requires-clause-place
put_part-requires-clause-place c =
    each_number (λ n. n < length c.args.parts.now) c.args.places.now c.loop-place.place-index 0 c.requires.places c.loop-place-test.true

pub loop-place-preserved : goal.loop-place-preserved
loop-place-preserved c =
    let put = c.in_ok-put_part.ensures in
    record {
      met = put.met;
      clauses = places_more (map atoms_of_part c.args.parts.now) c.args.places.now c.loop-place.place-index 0 _ _ c.loop-place-test.true c.loop-place.invariant.clauses put.clauses;
    }

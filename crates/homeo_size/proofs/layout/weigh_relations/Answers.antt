-- One more relation is weighed.
use Rattle.homeo_size.proofs.Layouts.{relation_weighed, relations_weighed}
use Rattle.homeo_size.proofs.layout.weigh_relations.Goals as goal

pub loop-relation-preserved : goal.loop-relation-preserved
loop-relation-preserved c =
    relation_weighed c.args.relations.now c.loop-relation.relation-index _ c.relation-item.result c.slot_count.result c.as_slice.result.now c.loop-relation.weights.items c.weigh_slots.new.weights.items _ c.loop-relation-test.true c.relation-item.is c.slot_count.ensures c.as_slice.ensures c.in_ok-weigh_slots.ensures c.loop-relation.invariant

pub returns : goal.returns
returns c = relations_weighed c.args.relations.now c.loop-relation.relation-index c.loop-relation.weights.items _ c.loop-relation-test.false c.loop-relation.invariant

use Rattle.std.proofs.Common.{◌≡◌, length, rules, arith}
use Rattle.homeo_context.proofs.Placing.{stand_next, count_next, counted_all}
use Rattle.homeo_context.proofs.declarations.count_objects.Goals as goal

pub overflow_mul-count : goal.overflow_mul-count
overflow_mul-count c =
    let fields : c.len.result ≡ length c.relation-item.result.fields.items = search rules in
    let next = stand_next c.args.relations.now c.loop-relation.relation-index c.loop-relation.count c.len.result c.relation-item.result c.loop-relation-test.true c.relation-item.is fields c.loop-relation.invariant.stand in
    omega (arith, next.0)

pub overflow_add-count-in-loop-relation : goal.overflow_add-count-in-loop-relation
overflow_add-count-in-loop-relation c =
    let fields : c.len.result ≡ length c.relation-item.result.fields.items = search rules in
    let next = stand_next c.args.relations.now c.loop-relation.relation-index c.loop-relation.count c.len.result c.relation-item.result c.loop-relation-test.true c.relation-item.is fields c.loop-relation.invariant.stand in
    omega (arith, next.0)

pub loop-relation-preserved : goal.loop-relation-preserved
loop-relation-preserved c =
    let fields : c.len.result ≡ length c.relation-item.result.fields.items = search rules in
    let next = stand_next c.args.relations.now c.loop-relation.relation-index c.loop-relation.count c.len.result c.relation-item.result c.loop-relation-test.true c.relation-item.is fields c.loop-relation.invariant.stand in
    record {
      stand = next.1;
      count = count_next c.args.relations.now c.loop-relation.relation-index c.loop-relation.count c.len.result _ c.relation-item.result c.loop-relation-test.true c.relation-item.is fields c.loop-relation.invariant.count;
    }

pub returns : goal.returns
returns c = counted_all c.args.relations.now c.loop-relation.relation-index c.loop-relation.count _ c.loop-relation-test.false c.loop-relation.invariant.count

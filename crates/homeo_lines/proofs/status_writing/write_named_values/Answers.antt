use Rattle.std.proofs.lemmas.Result.{on_ok_weaker}
use Rattle.homeo_syntax.specs.SourceView.{plain_workload}
use Rattle.homeo_print.specs.Names.{object_names}
use Rattle.homeo_lines.proofs.Sent.{named_sent}
use Rattle.homeo_lines.proofs.status_writing.write_named_values.Goals as goal

pub returns : goal.returns
returns g c =
    let names = object_names (plain_workload c.args.catalogue.now) in
    let first = g.S.Serializer.written c.begin_map.new.self in
    let last = g.S.Serializer.written c.loop-object.out in
    let end = g.S.Serializer.written c.end_map.new.self in
    on_ok_weaker c.end_map.result
    (λ e. named_sent names c.args.values.now c.loop-object.object (g.S.Serializer.written c.args.out.now) first last end c.loop-object-test.false c.in_ok-begin_map.ensures
    c.loop-object.invariant e)
    c.end_map.ensures

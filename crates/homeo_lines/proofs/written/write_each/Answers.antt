use Rattle.std.proofs.Common.{length, refl}
use Rattle.std.proofs.lemmas.Result.{on_ok_weaker}
use Rattle.homeo_syntax.specs.SourceView.{plain_workload}
use Rattle.homeo_lines.proofs.Sent.{list_sent}
use Rattle.homeo_lines.proofs.written.write_each.Goals as goal

pub returns : goal.returns
returns g c =
    let items = c.args.items.now in
    let first = g.S.Serializer.written c.begin_seq.new.self in
    let last = g.S.Serializer.written c.loop-item.out in
    let end = g.S.Serializer.written c.end_seq.new.self in
    on_ok_weaker c.end_seq.result
    (λ e. list_sent (g.T.Written.json (plain_workload c.args.catalogue.now)) items (length items) c.loop-item.item-index (g.S.Serializer.written c.args.out.now) first last end refl
    c.loop-item-test.false c.in_ok-begin_seq.ensures c.loop-item.invariant e)
    c.end_seq.ensures

-- The body that it is.
use Rattle.std.specs.Prelude.{OnOk}
use Rattle.std.proofs.Common.{sym, subst}
use Rattle.serde_json.specs.Events.{SendsValue}
use Rattle.homeo_syntax.specs.SourceView.{plain_workload}
use Rattle.homeo_lines.specs.LineView.{plain_body}
use Rattle.homeo_lines.specs.Written.{body_data}
use Rattle.homeo_lines.proofs.writing.BodyWritten.write.Goals as goal

pub returns-in-CallOk : goal.returns-in-CallOk
returns-in-CallOk g c =
    subst (λ b. OnOk c.write_call_ok.result (SendsValue (body_data (plain_workload c.args.catalogue.now) (plain_body b)) (g.S.Serializer.written c.args.out.now) (g.S.Serializer.written c.write_call_ok.new.out)))
    (sym c.in-CallOk.is) c.write_call_ok.ensures

pub returns-in-Left : goal.returns-in-Left
returns-in-Left g c =
    subst (λ b. OnOk c.write_left.result (SendsValue (body_data (plain_workload c.args.catalogue.now) (plain_body b)) (g.S.Serializer.written c.args.out.now) (g.S.Serializer.written c.write_left.new.out)))
    (sym c.in-Left.is) c.write_left.ensures

pub returns-in-SnapshotOk : goal.returns-in-SnapshotOk
returns-in-SnapshotOk g c =
    subst (λ b. OnOk c.write_snapshot_ok.result (SendsValue (body_data (plain_workload c.args.catalogue.now) (plain_body b)) (g.S.Serializer.written c.args.out.now) (g.S.Serializer.written c.write_snapshot_ok.new.out)))
    (sym c.in-SnapshotOk.is) c.write_snapshot_ok.ensures

use Rattle.std.proofs.Common.{refl}
use Rattle.std.proofs.lemmas.Result.{on_ok_weaker}
use Rattle.homeo_syntax.specs.SourceView.{plain_workload}
use Rattle.homeo_lines.proofs.Sent.{field_sent, typed_sent}
use Rattle.std.specs.Prelude.{codes}
use Rattle.homeo_lines.specs.Written.{type_fields, other_fields}
use Rattle.homeo_lines.specs.Lines as l
use Rattle.homeo_lines.specs.LineView.{plain_state}
use Rattle.homeo_lines.proofs.writing.write_snapshot_ok.Goals as goal

pub returns : goal.returns
returns g c =
    let w = plain_workload c.args.catalogue.now in
    on_ok_weaker c.end_map.result (λ h. typed_sent (type_fields (codes "snapshot_ok") c.args.number) (other_fields w (l.SnapshotOk c.args.number (plain_state c.args.state.now))) 1 (g.S.Serializer.written c.end_map.new.self) refl c.in_ok-begin_typed.ensures (field_sent c.in_ok-write_member.ensures) h) c.end_map.ensures

use Rattle.std.proofs.Common.{refl}
use Rattle.std.proofs.lemmas.Result.{on_ok_weaker}
use Rattle.homeo_syntax.specs.SourceView.{plain_workload}
use Rattle.homeo_lines.proofs.Sent.{fields_sent, typed_sent}
use Rattle.std.specs.Prelude.{codes}
use Rattle.homeo_lines.specs.Written.{type_fields, other_fields}
use Rattle.homeo_lines.specs.Lines as l
use Rattle.std.proofs.Common.{length}
use Rattle.homeo_lines.proofs.writing.write_status_ok.Goals as goal

pub returns : goal.returns
returns g c =
    let w = plain_workload c.args.catalogue.now in
    on_ok_weaker c.end_map.result (λ h. typed_sent (type_fields (codes "status_ok") c.args.number) (other_fields w (l.StatusOk c.args.number c.args.desk.now.node (length c.args.desk.now.queue))) 5 (g.S.Serializer.written c.end_map.new.self) refl c.in_ok-begin_typed.ensures (fields_sent c.in_ok-write_status.ensures) h) c.end_map.ensures

use Rattle.std.proofs.Common.{refl}
use Rattle.std.proofs.lemmas.Result.{on_ok_weaker}
use Rattle.homeo_syntax.specs.SourceView.{plain_workload}
use Rattle.homeo_lines.proofs.Sent.{field_sent, then_field, typed_sent}
use Rattle.std.specs.Prelude.{codes}
use Rattle.homeo_lines.specs.Written.{type_fields, other_fields}
use Rattle.homeo_lines.specs.Lines as l
use Rattle.homeo_lines.proofs.writing.write_error.Goals as goal

pub returns : goal.returns
returns g c =
    let w = plain_workload c.args.catalogue.now in
    on_ok_weaker c.end_map.result (λ h. typed_sent (type_fields (codes "error") c.args.number) (other_fields w (l.Error c.args.number c.args.wrong.code c.args.wrong.text.now)) 2 (g.S.Serializer.written c.end_map.new.self) refl c.in_ok-begin_typed.ensures (then_field c.in_ok-write_member.ensures (field_sent c.in_ok-write_member-2.ensures)) h) c.end_map.ensures

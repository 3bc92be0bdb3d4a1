use Rattle.std.proofs.lemmas.Result.{on_ok_weaker}
use Rattle.homeo_syntax.specs.SourceView.{plain_workload}
use Rattle.homeo_lines.proofs.Sent.{field_sent, both_sent, typed_sent}
use Rattle.std.specs.Prelude.{codes, Some}
use Rattle.homeo_lines.specs.Written.{type_fields, other_fields}
use Rattle.homeo_lines.specs.Lines as l
use Rattle.homeo_lines.specs.LineView.{plain_answer}
use Rattle.homeo_lines.specs.Written.{answer_fields}
use Rattle.homeo_lines.proofs.Counted.{five}
use Rattle.homeo_lines.proofs.writing.write_call_ok.Goals as goal

pub returns : goal.returns
returns g c =
    let w = plain_workload c.args.catalogue.now in
    on_ok_weaker c.end_map.result (λ h. typed_sent (type_fields (codes "call_ok") (Some c.args.answer.now.number)) (other_fields w (l.CallOk (plain_answer c.args.answer.now))) 5 (g.S.Serializer.written c.end_map.new.self) (five w c.args.answer.now.number c.args.answer.now.call c.args.answer.now.prints.items c.args.answer.now.round c.args.answer.now.path) c.in_ok-begin_typed.ensures (both_sent (answer_fields (plain_answer c.args.answer.now)) c.in_ok-write_answer.ensures (field_sent c.in_ok-write_member.ensures)) h) c.end_map.ensures

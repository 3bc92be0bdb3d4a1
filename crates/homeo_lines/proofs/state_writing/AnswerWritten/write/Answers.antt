use Rattle.std.proofs.lemmas.Result.{on_ok_weaker}
use Rattle.homeo_syntax.specs.SourceView.{plain_workload}
use Rattle.homeo_lines.proofs.Sent.{fields_sent, then_field, both_sent, object_sent}
use Rattle.homeo_lines.specs.LineView.{plain_answer}
use Rattle.homeo_lines.proofs.Counted.{seven}
use Rattle.homeo_lines.specs.Written.{named_call_fields, given_fields}
use Rattle.homeo_lines.proofs.state_writing.AnswerWritten.write.Goals as goal

pub returns : goal.returns
returns g c =
    let w = plain_workload c.args.catalogue.now in
    on_ok_weaker c.end_map.result (λ h. object_sent (given_fields w (plain_answer c.args.self.now)) 7 (g.S.Serializer.written c.args.out.now) (g.S.Serializer.written c.end_map.new.self) (seven w c.args.self.now.number c.args.self.now.call c.args.self.now.prints.items c.args.self.now.round c.args.self.now.path) c.in_ok-begin_map.ensures (then_field c.in_ok-write_member.ensures (both_sent (named_call_fields w c.args.self.now.call) c.in_ok-write_named_call.ensures (fields_sent c.in_ok-write_answer.ensures))) h) c.end_map.ensures

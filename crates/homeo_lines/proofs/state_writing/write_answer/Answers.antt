use Rattle.std.proofs.lemmas.Result.{on_ok_weaker}
use Rattle.homeo_lines.proofs.Sent.{sent_of, fields_sent, then_field}
use Rattle.homeo_lines.specs.LineView.{plain_answer}
use Rattle.homeo_lines.specs.Written.{answer_fields}
use Rattle.homeo_lines.proofs.state_writing.write_answer.Goals as goal

pub returns : goal.returns
returns g c =
    on_ok_weaker c.write_path.result (λ h. sent_of (answer_fields (plain_answer c.args.answer.now)) (then_field c.in_ok-write_member.ensures (then_field c.in_ok-write_member-2.ensures (fields_sent h)))) c.write_path.ensures

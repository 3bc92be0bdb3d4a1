use Rattle.std.proofs.lemmas.Result.{on_ok_weaker}
use Rattle.homeo_syntax.specs.SourceView.{plain_workload}
use Rattle.homeo_lines.proofs.Sent.{fields_sent, object_sent}
use Rattle.homeo_carry.specs.CarryView.{plain_said}
use Rattle.homeo_lines.specs.Written.{said_fields}
use Rattle.homeo_lines.proofs.packets_writing.SaidWritten.write.Goals as goal

pub returns : goal.returns
returns g c =
    let w = plain_workload c.args.catalogue.now in
    on_ok_weaker c.end_map.result (λ h. object_sent (said_fields w (plain_said c.args.self.now)) c.said_count.result (g.S.Serializer.written c.args.out.now) (g.S.Serializer.written c.end_map.new.self) (c.said_count.ensures.count w) c.in_ok-begin_map.ensures (fields_sent c.in_ok-write_said.ensures) h) c.end_map.ensures

use Rattle.std.proofs.Common.{refl}
use Rattle.std.proofs.lemmas.Result.{on_ok_weaker}
use Rattle.homeo_syntax.specs.SourceView.{plain_workload}
use Rattle.homeo_lines.proofs.Sent.{fields_sent, object_sent}
use Rattle.homeo_live.specs.LiveView.{plain_past}
use Rattle.homeo_lines.specs.Written.{past_fields}
use Rattle.homeo_lines.proofs.packets_writing.PastWritten.write.Goals as goal

pub returns : goal.returns
returns g c =
    let w = plain_workload c.args.catalogue.now in
    on_ok_weaker c.end_map.result (λ h. object_sent (past_fields w (plain_past c.args.self.now)) 6 (g.S.Serializer.written c.args.out.now) (g.S.Serializer.written c.end_map.new.self) refl c.in_ok-begin_map.ensures (fields_sent c.in_ok-write_past.ensures) h) c.end_map.ensures

use Rattle.std.proofs.Common.{refl}
use Rattle.std.proofs.lemmas.Result.{on_ok_weaker}
use Rattle.homeo_syntax.specs.SourceView.{plain_workload}
use Rattle.homeo_lines.proofs.Sent.{fields_sent, object_sent}
use Rattle.homeo_lines.specs.Written.{breach_fields}
use Rattle.homeo_lines.proofs.packets_writing.BreachWritten.write.Goals as goal

pub returns : goal.returns
returns g c =
    let w = plain_workload c.args.catalogue.now in
    on_ok_weaker c.end_map.result (λ h. object_sent (breach_fields w c.args.self.now) 5 (g.S.Serializer.written c.args.out.now) (g.S.Serializer.written c.end_map.new.self) refl c.in_ok-begin_map.ensures (fields_sent c.in_ok-write_breach.ensures) h) c.end_map.ensures

use Rattle.std.proofs.lemmas.Result.{on_ok_weaker}
use Rattle.homeo_syntax.specs.SourceView.{plain_workload}
use Rattle.homeo_lines.proofs.Sent.{sent_of, field_sent, then_field, both_sent}
use Rattle.homeo_lines.specs.Written.{named_call_fields, breach_fields}
use Rattle.homeo_lines.proofs.packets_writing.write_breach.Goals as goal

pub returns : goal.returns
returns g c =
    let w = plain_workload c.args.catalogue.now in
    on_ok_weaker c.write_member-3.result (λ h. sent_of (breach_fields w c.args.b.now) (then_field c.in_ok-write_member.ensures (then_field c.in_ok-write_member-2.ensures (both_sent (named_call_fields w c.args.b.now.call) c.in_ok-write_named_call.ensures (field_sent h))))) c.write_member-3.ensures

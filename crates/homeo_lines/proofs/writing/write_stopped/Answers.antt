use Rattle.std.proofs.Common.{◌≡◌, ◌+◌, ℕ, suc, length, None, arith}
use Rattle.std.specs.Prelude.{codes}
use Rattle.std.proofs.lemmas.Result.{on_ok_weaker}
use Rattle.homeo_syntax.specs.SourceView.{plain_workload}
use Rattle.homeo_carry.specs.CarryView.{plain_said}
use Rattle.homeo_nodes.specs.Nodes.{State}
use Rattle.homeo_lines.specs.Lines as l
use Rattle.homeo_lines.specs.Written.{type_fields, other_fields, said_fields}
use Rattle.homeo_lines.proofs.Sent.{fields_sent, then_field, typed_sent}
use Rattle.homeo_lines.proofs.writing.write_stopped.Goals as goal

pub returns : goal.returns
returns g c =
    let w = plain_workload c.args.catalogue.now in
    let said = plain_said c.args.said.now in
    let others = other_fields w (l.Sent (State c.args.round c.args.site said)) in
    let two : 2 + c.said_count.result ≡ length others = counted c.said_count.result (length (said_fields w said)) (c.said_count.ensures.count w) in
    on_ok_weaker c.end_map.result (λ h. typed_sent (type_fields (codes "state") None) others (2 + c.said_count.result) (g.S.Serializer.written c.end_map.new.self) two c.in_ok-begin_typed.ensures (then_field c.in_ok-write_member.ensures (then_field c.in_ok-write_member-2.ensures (fields_sent c.in_ok-write_said.ensures))) h) c.end_map.ensures
  where
    counted : (n m : ℕ) → n ≡ m → 2 + n ≡ suc (suc m)
    counted n m e = omega arith

-- The members, by whether there is a number.
use Rattle.std.specs.Prelude.{OnOk}
use Rattle.std.proofs.Common.{Some, None, sym, subst}
use Rattle.std.proofs.lemmas.Result.{on_ok_weaker}
use Rattle.homeo_lines.specs.inner.Sends.{Begins}
use Rattle.homeo_lines.specs.Written.{type_fields}
use Rattle.homeo_lines.proofs.Sent.{sent_of, field_sent, then_field}
use Rattle.homeo_lines.proofs.written.begin_typed.Goals as goal

pub returns-in_ok-write_member-in-Some : goal.returns-in_ok-write_member-in-Some
returns-in_ok-write_member-in-Some g c =
    subst (λ n. OnOk c.write_member-in-Some.result (Begins (type_fields c.args.name.now n) c.args.more (g.S.Serializer.written c.args.out.now) (g.S.Serializer.written c.write_member-in-Some.new.out))) (sym c.in-Some.is)
    (on_ok_weaker c.write_member-in-Some.result
    (λ h. record {
      first = g.S.Serializer.written c.begin_map.new.self;
      begins = c.in_ok-begin_map-in-Some.ensures;
      sends = sent_of (type_fields c.args.name.now (Some c.in-Some.number)) (then_field c.in_ok-write_member-in-Some.ensures (field_sent h));
    })
    c.write_member-in-Some.ensures)

pub returns-in_ok-begin_map-in-None : goal.returns-in_ok-begin_map-in-None
returns-in_ok-begin_map-in-None g c =
    subst (λ n. OnOk c.write_member-in-None.result (Begins (type_fields c.args.name.now n) c.args.more (g.S.Serializer.written c.args.out.now) (g.S.Serializer.written c.write_member-in-None.new.out))) (sym c.in-None.is)
    (on_ok_weaker c.write_member-in-None.result
    (λ h. record { first = g.S.Serializer.written c.begin_map-in-None.new.self; begins = c.in_ok-begin_map-in-None.ensures; sends = sent_of (type_fields c.args.name.now None) (field_sent h) }) c.write_member-in-None.ensures)

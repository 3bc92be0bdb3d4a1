-- What the node lends is what the desk's node has.
use Rattle.std.proofs.Common.{length, ap, ◌∙◌}
use Rattle.std.specs.Prelude.{codes}
use Rattle.std.proofs.lemmas.Result.{on_ok_weaker}
use Rattle.serde_json.specs.Data.{string}
use Rattle.homeo_syntax.specs.SourceView.{plain_workload}
use Rattle.homeo_nodes.specs.Small.{Small}
use Rattle.homeo_print.specs.Names.{object_names}
use Rattle.homeo_certificate.specs.Json.{wholes_data}
use Rattle.homeo_lines.specs.Written.{count_data, mode_name, object_of, named_values, status_fields}
use Rattle.homeo_lines.proofs.Sent.{sent_of, then_as, field_as}
use Rattle.homeo_lines.proofs.status_writing.write_status.Goals as goal

pub returns : goal.returns
returns g c =
    let w = plain_workload c.args.catalogue.now in
    let names = object_names w in
    let x = c.args.desk.now.node in
    let node = c.node-node.ensures.node in
    let base = c.as_slice.ensures ∙ c.base.ensures ∙ ap (λ (y : Small). y.base) node in
    on_ok_weaker c.write_member-4.result
    (λ h. sent_of (status_fields w x (length c.args.desk.now.queue))
    (then_as (codes "round") (ap count_data (c.round.ensures ∙ ap (λ (y : Small). y.round) node)) c.in_ok-write_member.ensures
    (then_as (codes "mode") (ap string (c.mode_name.ensures ∙ ap mode_name (c.mode.ensures ∙ ap (λ (y : Small). y.mode) node))) c.in_ok-write_member-2.ensures
    (then_as (codes "waiting") (ap count_data c.waiting.ensures.count) c.in_ok-write_member-3.ensures
    (then_as (codes "base") (ap (λ ns. object_of (named_values names 0 ns)) base) (g.S.Serializer.written c.key.new.self, c.in_ok-key.ensures, c.in_ok-write_named_values.ensures)
    (field_as (codes "deltas") (ap wholes_data (c.deltas.ensures ∙ ap (λ (y : Small). y.deltas) node)) h))))))
    c.write_member-4.ensures

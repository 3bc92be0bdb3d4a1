-- The nodes, and the command that they are.
use Rattle.std.proofs.Common.{◌≡◌, [], map, Some, option_map, subst}
use Rattle.serde_json.specs.View.{view}
use Rattle.homeo_syntax.specs.Low.{Command}
use Rattle.homeo_syntax.specs.LowView.{plain_lcommand}
use Rattle.homeo_plan.specs.Each.{Each}
use Rattle.homeo_certificate.specs.Json.{list_data, node_data}
use Rattle.homeo_certificate.specs.Parse.{parse_command, IsWhole}
use Rattle.homeo_certificate.specs.NodeShapes.{NodeInShape}
use Rattle.homeo_cert_reader.proofs.CallsRead.{no_nodes, no_command, call_read}
use Rattle.homeo_cert_reader.proofs.ReadLists.{read_some, read_none}
use Rattle.homeo_cert_reader.proofs.calls.read_call.Goals as goal

pub returns-in_default-2 : goal.returns-in_default-2
returns-in_default-2 c =
    no_nodes c.args.extents.objects c.args.extents.sites (view c.args.value.now) (view c.in-Some.command.now) (view c.in-Some.site.now) c.in-Some.ensures
    (read_none _ _ _ _ c.in_ok-nodes.field-0 c.in_default-2.is c.in_ok-nodes.ensures)

pub returns-in-Some-3 : goal.returns-in-Some-3
returns-in-Some-3 c =
    let n = c.args.extents.objects in
    let k = c.args.extents.sites in
    let got = read_some (Each (NodeInShape n k)) (λ ns. list_data (map node_data ns)) (view c.in-Some.command.now) _
    c.in_ok-nodes.field-0 c.in-Some-2.nodes c.in-Some-2.is c.in_ok-nodes.ensures in
    let is = subst (λ o. IsWhole c.as_slice.result.now (option_map plain_lcommand o)) c.in-Some-3.is c.in_ok-command.ensures in
    call_read n k (view c.args.value.now) (view c.in-Some.command.now) (view c.in-Some.site.now) c.in-Some.ensures c.in-Some-2.nodes.items got.0 got.1
    (plain_lcommand c.in-Some-3.command) (subst (λ l. parse_command 1000 l ≡ Some (plain_lcommand c.in-Some-3.command, [])) c.as_slice.ensures.value is)
    c.in-Some-number_below.site c.in-Some-number_below.ensures.0 c.in-Some-number_below.ensures.1

pub returns : goal.returns
returns c =
    let n = c.args.extents.objects in
    let k = c.args.extents.sites in
    let got = read_some (Each (NodeInShape n k)) (λ ns. list_data (map node_data ns)) (view c.in-Some.command.now) _
    c.in_ok-nodes.field-0 c.in-Some-2.nodes c.in-Some-2.is c.in_ok-nodes.ensures in
    let none = subst (λ o. IsWhole c.as_slice.result.now (option_map plain_lcommand o)) c.in-None.is c.in_ok-command.ensures in
    no_command n k (view c.args.value.now) (view c.in-Some.command.now) (view c.in-Some.site.now) c.in-Some.ensures c.in-Some-2.nodes.items got.0 got.1
    (subst (λ l. (x : Command) → parse_command 1000 l ≡ Some (x, []) → ⊥) c.as_slice.ensures.value none)

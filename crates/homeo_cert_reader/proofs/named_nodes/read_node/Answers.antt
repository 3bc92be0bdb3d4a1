use Rattle.std.proofs.Common.{map, ap, ◌∙◌, sym, arith}
use Rattle.std.proofs.lemmas.List.{length-map}
use Rattle.serde_json.specs.View.{view}
use Rattle.homeo_certificate.specs.Json.{list_data}
use Rattle.homeo_cert_reader.proofs.NamedNodes.{no_list, no_items, no_text}
use Rattle.homeo_cert_reader.proofs.ReadLists.{is_none}
use Rattle.homeo_cert_reader.proofs.named_nodes.read_node.Goals as goal

pub returns-in_err-items : goal.returns-in_err-items
returns-in_err-items c = is_none _ _ _ c.from_residual.ensures (λ m shape e. no_list (view c.args.value.now) c.in_err-items.ensures m e)

pub returns-in_err-name : goal.returns-in_err-name
returns-in_err-name c =
    let items = c.in_ok-items.field-0.now in
    let none = c.in_err-name.ensures.cases in
    is_none _ _ _ c.from_residual-in_err-name.ensures
    (λ m shape e. no_items (view c.args.value.now) (map view items) c.in_ok-items.ensures (omega (arith, length-map items view, none)) m e)

pub returns-in_err-as_str : goal.returns-in_err-as_str
returns-in_err-as_str c =
    let is = sym (ap (λ l. list_data (map view l)) c.in_ok-name.ensures.cases.0) ∙ c.in_ok-items.ensures in
    is_none _ _ _ c.from_residual-in_err-as_str.ensures
    (λ m shape e. no_text (view c.args.value.now) (view c.in_ok-name.name.now) (map view c.in_ok-name.numbers.now) is c.in_err-as_str.ensures m e)

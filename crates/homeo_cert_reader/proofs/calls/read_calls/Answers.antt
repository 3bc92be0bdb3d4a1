use Rattle.std.proofs.Common.{rules, ◌≤◌, map, length, arith}
use Rattle.std.proofs.lemmas.Bool.Decides.{nat_tests}
use Rattle.std.proofs.lemmas.List.{length-map}
use Rattle.std.proofs.lemmas.Result.{IfOk-weaker}
use Rattle.serde_json.specs.View.{view}
use Rattle.homeo_certificate.specs.Shape.{CallInShape}
use Rattle.homeo_certificate.specs.Text.{call_data}
use Rattle.homeo_cert_reader.specs.CertificateView.{plain_call}
use Rattle.homeo_cert_reader.proofs.CallsRead.{few_calls}
use Rattle.homeo_cert_reader.proofs.ReadLists.{each, list_gave, same_length}
use Rattle.homeo_cert_reader.proofs.calls.read_calls.Goals as goal

pub returns : goal.returns
returns c =
    let items = c.in-Some.items.now in
    IfOk-weaker c.read_list.result _ _ (λ o h.
    few_calls c.args.extents.objects c.args.extents.sites (view c.args.value.now) _ (λ gs e.
    let same = same_length (map call_data gs) (map view items) (view c.args.value.now) e c.in-Some.ensures in
    let few : length gs ≤ 1024 = grind (arith, nat_tests, same, c.if-items-gt1024.false, length-map gs call_data, length-map items view) in few)
    (list_gave (CallInShape c.args.extents.objects c.args.extents.sites) call_data (each plain_call) view _ (λ d x k. search rules) (λ d k. search rules) (λ l. l.items) _ o h))
    c.read_list.ensures

pub returns-then-items-gt1024 : goal.returns-then-items-gt1024
returns-then-items-gt1024 c = λ gs are e.
    let items = c.in-Some.items.now in
    let same = same_length (map call_data gs) (map view items) (view c.args.value.now) e c.in-Some.ensures in
    let few = are.few in
    absurd (grind (arith, nat_tests, same, few, length-map gs call_data, length-map items view))

use Rattle.std.proofs.Common.{map, arith}
use Rattle.std.proofs.lemmas.List.{length-map}
use Rattle.std.proofs.lemmas.Bool.Decides.{nat_tests}
use Rattle.serde_json.specs.View.{view}
use Rattle.homeo_cert_reader.proofs.NamedNodes.{few_numbers, bare_read, none_mapped}
use Rattle.homeo_cert_reader.proofs.named_nodes.named.Goals as goal

pub returns-then-numbers-eq0 : goal.returns-then-numbers-eq0
returns-then-numbers-eq0 c =
    bare_read c.args.extents.objects c.args.extents.sites c.args.name.now (map view c.args.numbers.now) c.bare.result
    (none_mapped view c.args.numbers.now (grind (arith, nat_tests))) c.bare.ensures

pub returns-else-numbers-eq2 : goal.returns-else-numbers-eq2
returns-else-numbers-eq2 c = λ m shape e.
    let few = few_numbers c.args.name.now (map view c.args.numbers.now) m e in
    let same = length-map c.args.numbers.now view in
    absurd (grind (arith, nat_tests, few, same))

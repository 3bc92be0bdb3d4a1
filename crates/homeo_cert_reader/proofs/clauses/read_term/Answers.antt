use Rattle.std.proofs.Common.{arith, ◌≡◌, [], ◌∷◌, map, length, pos}
use Rattle.std.proofs.lemmas.List.{length-map}
use Rattle.std.proofs.lemmas.Bool.Decides.{nat_tests}
use Rattle.serde_json.specs.View.{view}
use Rattle.homeo_certificate.specs.Json.{whole_data}
use Rattle.homeo_cert_reader.proofs.ReadLists.{same_length}
use Rattle.homeo_cert_reader.proofs.clauses.read_term.Goals as goal

pub returns-else-items-eq3 : goal.returns-else-items-eq3
returns-else-items-eq3 c = λ x p e.
    let items = c.in_ok-items.items.now in
    let l : length (map whole_data (pos x.delta.object ∷ pos x.delta.site ∷ x.factor ∷ [])) ≡ length (map view items) =
    same_length (map whole_data (pos x.delta.object ∷ pos x.delta.site ∷ x.factor ∷ [])) (map view items) (view c.args.value.now) e c.in_ok-items.ensures in
    let m = length-map items view in
    absurd (grind (arith, nat_tests, l, m))

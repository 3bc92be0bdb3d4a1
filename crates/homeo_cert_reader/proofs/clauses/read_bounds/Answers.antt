use Rattle.std.proofs.Common.{arith}
use Rattle.std.proofs.lemmas.Bool.Decides.{nat_tests}
use Rattle.serde_json.specs.View.{view}
use Rattle.homeo_cert_reader.proofs.ReadLists.{same_count}
use Rattle.homeo_cert_reader.proofs.clauses.read_bounds.Goals as goal

pub returns-else-len-sites : goal.returns-else-len-sites
returns-else-len-sites c = λ ns is e.
    let same = same_count ns (view c.args.value.now) c.in_ok-bounds.field-0 c.in-Some.bounds c.in-Some.is c.in_ok-bounds.ensures e in
    absurd (grind (arith, nat_tests, same, is.count, c.len.ensures))

use Rattle.std.proofs.Common.{arith}
use Rattle.std.proofs.lemmas.Bool.Decides.{nat_tests}
use Rattle.serde_json.specs.View.{view}
use Rattle.homeo_cert_reader.proofs.ReadLists.{same_count}
use Rattle.homeo_cert_reader.proofs.reading.read_base.Goals as goal

pub returns-then-len-gt1024 : goal.returns-then-len-gt1024
returns-then-len-gt1024 c = λ ns is e.
    let same = same_count ns (view c.args.value.now) c.in_ok-base.field-0 c.in-Some.base c.in-Some.is c.in_ok-base.ensures e in
    absurd (grind (arith, nat_tests, same, is.few, c.len.ensures))

use Rattle.std.proofs.Common.{◌≡◌, rules, arith}
use Rattle.homeo_syntax.specs.declared.token.Kind.TheVariants as kind
use Rattle.homeo_reader.proofs.Lists.{mark_taken}
use Rattle.homeo_reader.proofs.parser.Parser.expect.Goals as goal

pub returns-then-eq : goal.returns-then-eq
returns-then-eq c =
    let e : c.in-Some.t.now.kind ≡ kind.Fixed c.args.mark = first_of (search rules, grind arith) in
    mark_taken c.args.mark c.in-Some.t.now c.args.self.now.rest.now c.in-Some.rest.now e (search rules)

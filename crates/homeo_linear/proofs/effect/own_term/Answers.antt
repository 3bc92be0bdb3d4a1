-- The factor is the same, and the object whole.
use Rattle.std.proofs.Common.{◌≡◌, rules, to_z, of_z}
use Rattle.std.specs.Int.{w64}
use Rattle.std.proofs.lemmas.Int.{to_z-of_z}
use Rattle.homeo_linear.proofs.Owning.{term_is}
use Rattle.homeo_linear.proofs.effect.own_term.Goals as goal

pub returns-in-Ok : goal.returns-in-Ok
returns-in-Ok c =
    let h = c.in-Ok.ensures in
    let same : to_z w64 (of_z w64 c.in-Ok.factor) ≡ c.args.term.factor = search (rules, to_z-of_z) in
    term_is c.args.term _ same c.if-term-eq0.true

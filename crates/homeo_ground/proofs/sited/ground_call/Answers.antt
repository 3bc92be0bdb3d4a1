-- The place of a transaction fits its number.
use Rattle.std.proofs.Common.{rules}
use Rattle.homeo_ground.proofs.Limits.{place-within}
use Rattle.homeo_ground.proofs.sited.ground_call.Goals as goal

pub overflow_cast-result : goal.overflow_cast-result
overflow_cast-result c =
    let h = place-within c.args.numbering.now.transactions c.args.call.name.name in
    let e = c.transaction.ensures in
    let few = c.requires.few in
    search rules

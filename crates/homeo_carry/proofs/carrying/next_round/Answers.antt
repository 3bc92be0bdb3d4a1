use Rattle.std.proofs.Common.{◌≡◌, suc, ◌+◌, ◌∙◌, arith}
use Rattle.homeo_carry.proofs.OneCall.{within_here, within_there, next_is}
use Rattle.homeo_carry.proofs.carrying.next_round.Goals as goal

pub eval_call-requires-clause-within : goal.eval_call-requires-clause-within
eval_call-requires-clause-within c =
    within_here c.args.planner.now c.workload.result.now c.args.bounds.now c.as_slice.result.now c.args.whole.items (c.workload.ensures ∙ c.compiled-compiled.ensures) c.requires.bounds c.as_slice.ensures (c.are_in.ensures.yes c.if-not-are_in.false)

pub returns-then-not-are_in-clause-goes_on : goal.returns-then-not-are_in-clause-goes_on
returns-then-not-are_in-clause-goes_on c within lt =
    c.if-not-are_in.ensures.no (within_there c.args.planner.now c.args.bounds.now c.as_slice.result.now c.args.whole.items c.requires.bounds c.as_slice.ensures within)

pub returns-clause-next : goal.returns-clause-next
returns-clause-next c =
    next_is c.args.planner.now c.workload.result.now c.args.answers c.closing.new.self c.args.u c.args.whole.items c.eval_call.new.database.items c.in_ok-prints.prints.items (c.args.u.round + 1) c.in_ok-next.next (c.workload.ensures ∙ c.compiled-compiled.ensures) (let e : c.args.u.round + 1 ≡ suc c.args.u.round = omega arith in e) c.in_ok-prints.ensures.database c.in_ok-prints.ensures.prints c.in_ok-closing.ensures c.in_ok-next.ensures.brief c.in_ok-next.ensures.answers

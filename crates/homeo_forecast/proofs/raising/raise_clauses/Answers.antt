-- One more number, and all of them.
use Rattle.std.proofs.Common.{◌≡◌, ◌+◌, true, get_or, take, subst}
use Rattle.std.proofs.lemmas.List.{take_all}
use Rattle.homeo_outline.specs.Numbers.{has}
use Rattle.homeo_outline.proofs.Numbers.{more_numbers}
use Rattle.homeo_forecast.specs.inner.Raising.{Raises}
use Rattle.homeo_forecast.proofs.RoomLists.{no_raise, still_can, more_raised}
use Rattle.homeo_forecast.proofs.raising.raise_clauses.Goals as goal

pub loop-number-init : goal.loop-number-init
loop-number-init c = λ vs. no_raise c.args.plan.now c.args.site c.args.deltas.now vs c.args.rooms.now _ (λ n h. cc)

pub raise_clause-requires-clause-number : goal.raise_clause-requires-clause-number
raise_clause-requires-clause-number c = c.requires.numbers c.loop-number.number-index 0 c.loop-number-test.true

pub raise_clause-requires-clause-can : goal.raise_clause-requires-clause-can
raise_clause-requires-clause-can c =
    still_can c.args.plan.now c.args.site c.args.deltas.now c.args.rooms.now c.loop-number.rooms _ c.loop-number.invariant c.requires.can

pub loop-number-preserved : goal.loop-number-preserved
loop-number-preserved c = λ vs.
    let ns = c.args.numbers.now in
    let i = c.loop-number.number-index in
    more_raised c.args.plan.now c.args.site c.args.deltas.now vs c.args.rooms.now c.loop-number.rooms c.raise_clause.new.rooms
    (λ n. has n (take i ns) ≡ true) (λ n. n ≡ get_or ns i 0) (λ n. has n (take (i + 1) ns) ≡ true)
    (λ n lt h. (more_numbers ns i n 0 c.loop-number-test.true).0 h) (c.loop-number.invariant vs) (c.raise_clause.ensures vs)

pub returns : goal.returns
returns c = λ vs.
    subst (λ l. Raises c.args.plan.now vs c.args.site c.args.deltas.now (λ n. has n l ≡ true) c.args.rooms.now c.loop-number.rooms)
    (take_all c.loop-number.number-index c.args.numbers.now c.loop-number-test.false) (c.loop-number.invariant vs)

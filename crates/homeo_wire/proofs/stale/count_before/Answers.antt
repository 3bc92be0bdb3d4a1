use Rattle.std.proofs.Common.{◌≡◌, ◌<◌, Some, refl, subst, arith}
use Rattle.std.specs.Prelude.{slice_get}
use Rattle.std.proofs.lemmas.Option.{slice_get_read, slice_get_within}
use Rattle.std.proofs.lemmas.Bool.{cases_eq}
use mathlib.Core.Logic.{⊎_elim}
use Rattle.homeo_lemmas.proofs.Places.{one_placed}
use Rattle.homeo_wire.specs.declared.events.Packet.{Packet}
use Rattle.homeo_wire.specs.Nodes.{round_of}
use Rattle.homeo_wire.specs.WireView.{plain_packet}
use Rattle.homeo_wire.proofs.stale.count_before.Goals as goal

pub loop-i-preserved : goal.loop-i-preserved
loop-i-preserved c = λ k p lt at.
    let packets = c.args.packets.now in
    let place = c.loop-i.i in
    let packet = c.index-packets-i.result in
    let here : slice_get packets place ≡ Some packet = slice_get_read packets _ place packet refl c.loop-i-test.true c.index-packets-i.is in
    let round = c.round.ensures in
    let test = c.if-round.false in
    ⊎_elim (λ e. let is : packet ≡ p = one_placed packets place packet p here (subst (λ m. slice_get packets m ≡ Some p) e at) in subst (λ (q : Packet). round_of (plain_packet q) < c.args.round) is (omega (arith, round, test))) (λ other. c.loop-i.invariant k p (omega (arith, lt, other)) at) (cases_eq k place)

pub returns-clause-before : goal.returns-clause-before
returns-clause-before c = λ k p lt at. c.loop-i.invariant k p (let below = slice_get_within c.args.packets.now k p at in omega (arith, below, c.loop-i-test.false)) at

-- The next call has its form.
use Rattle.std.proofs.Common.{◌<◌, length, map, sym, ap, ◌∙◌, subst, arith}
use Rattle.std.proofs.lemmas.List.{get_or-map, length-map}
use Rattle.homeo_syntax.specs.LowView.{plain_lcommand}
use Rattle.homeo_syntax.specs.SourceView.{plain_workload}
use Rattle.homeo_meaning.specs.Ground.{plain_ground}
use Rattle.homeo_ground.specs.Grounding.{IsCalled}
use Rattle.homeo_follow.specs.Named.{named}
use Rattle.homeo_build.proofs.FormsMade.{keys_none, keys_next, forms_all, have_none, have_next, have_all}
use Rattle.homeo_build.proofs.forms.forms_of.Goals as goal

pub loop-call-init : goal.loop-call-init
loop-call-init c =
    let w = plain_workload c.args.w.now in
    record {
      bodies = c.new-bodies.ensures.bodies w;
      keys = keys_none c.new-bodies.result.bodies.keys c.new-bodies.ensures.keys;
      placed = have_none w (map plain_lcommand c.new-bodies.result.forms.items) c.new-places.result.items c.new-places.ensures.items;
    }

pub place-requires-clause-called : goal.place-requires-clause-called
place-requires-clause-called c =
    let calls = c.args.calls.now in
    let i = c.loop-call.call-index in
    let call = c.call-item.result in
    let within = c.loop-call-test.true in
    let here : i < length (map plain_ground calls) = omega (arith, length-map calls plain_ground, within) in
    subst (IsCalled (plain_workload c.args.w.now)) (get_or-map plain_ground calls i call (plain_ground call) within ∙ ap plain_ground (sym c.call-item.is))
    (c.requires.called i (plain_ground call) here)

pub loop-call-preserved : goal.loop-call-preserved
loop-call-preserved c =
    let w = plain_workload c.args.w.now in
    let made = c.in_ok-place.ensures in
    record {
      bodies = made.bodies;
      keys =
          keys_next c.args.calls.now c.loop-call.call-index c.call-item.result c.loop-call.bodies.bodies.keys c.place.new.self.bodies.keys
          c.loop-call-test.true c.call-item.is made.keys c.loop-call.invariant.keys;
      placed =
          have_next w (map plain_lcommand c.loop-call.bodies.forms.items) (map plain_lcommand c.place.new.self.forms.items) c.args.calls.now
          c.loop-call.call-index c.call-item.result c.loop-call.places.items _ _ c.loop-call-test.true c.call-item.is c.in_ok-push.ensures.items
          made.stay c.loop-call.invariant.placed made.place;
    }

pub returns-clause-forms : goal.returns-clause-forms
returns-clause-forms c =
    let w = plain_workload c.args.w.now in
    let bodies = c.loop-call.bodies in
    record {
      are =
          forms_all w bodies.bodies.keys (map plain_lcommand bodies.forms.items) c.args.calls.now c.loop-call.call-index
          c.loop-call-test.false c.requires.calls c.loop-call.invariant.bodies c.loop-call.invariant.keys;
      placed =
          have_all w (map plain_lcommand bodies.forms.items) c.args.calls.now c.loop-call.call-index c.loop-call.places.items
          c.loop-call-test.false c.requires.calls c.loop-call.invariant.placed;
    }

pub returns-clause-names : goal.returns-clause-names
returns-clause-names c =
    c.in_ok-names.ensures ∙ ap (λ l. map named (map plain_lcommand l)) c.as_slice.ensures

-- Each leader holds, and each clause has one.
use Rattle.std.proofs.Common.{◌≡◌, ◌==◌, ℕ, List, [], length, get_or, true, false, sym, ap, ◌∙◌, subst, ⊎_elim}
use Rattle.std.proofs.lemmas.List.{take_all}
use Rattle.homeo_meaning.specs.Serial.{values_of}
use Rattle.homeo_outline.specs.Numbers.{has}
use Rattle.homeo_outline.proofs.Numbers.{more_numbers}
use Rattle.homeo_site.specs.inner.PlanFailures.{HoldLed}
use Rattle.homeo_site.proofs.own_treaty.leaders_hold.Goals as goal

apart : false ≡ true → ⊥
apart e = cc

pub loop-number-init : goal.loop-number-init
loop-number-init c = λ n h. cc

pub loop-number-preserved : goal.loop-number-preserved
loop-number-preserved c = λ n h.
    let ns = c.on-leaders.result.now in
    ⊎_elim (c.loop-number.invariant n)
    (λ this. subst (HoldLed c.args.plan.now c.args.site (values_of c.args.deltas.now)) (sym this) (c.leader_holds.ensures c.if-not-leader_holds.false))
    ((more_numbers ns c.loop-number.number-index n 0 c.loop-number-test.true).0 h)

pub returns : goal.returns
returns c = λ yes n is.
    let p = c.args.plan.now in
    let leaders = c.on-leaders.result.now in
    let same : leaders ≡ get_or p.leaders.value c.args.object [] = c.on-leaders.ensures ∙ ap (λ (ls : List (List ℕ)). get_or ls c.args.object []) c.deref.ensures in
    let some : get_or p.leaders.value c.args.object [] ≡ [] → ⊥ =
    λ none. apart (sym c.if-is_empty.false ∙ c.is_empty.ensures ∙ ap (λ (l : List ℕ). length l == 0) (same ∙ none)) in
    let led = c.requires.keeps.led c.args.object n some is in
    c.loop-number.invariant led.leader
    (ap (has led.leader) (take_all c.loop-number.number-index leaders c.loop-number-test.false ∙ same) ∙ led.there)
    n led.led led.terms led.slack

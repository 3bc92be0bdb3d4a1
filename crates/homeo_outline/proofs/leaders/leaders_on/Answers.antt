-- One clause more is led.
use Rattle.std.proofs.Common.{get_or, sym, ap, ◌∙◌, subst, ⊎_elim}
use Rattle.std.proofs.lemmas.List.{take_all}
use Rattle.homeo_outline.specs.Leaders.{IsLed}
use Rattle.homeo_outline.specs.Numbers.{has}
use Rattle.homeo_outline.proofs.Numbers.{more_numbers}
use Rattle.homeo_outline.proofs.leaders.leaders_on.Goals as goal

pub loop-number-init : goal.loop-number-init
loop-number-init c = λ n h. cc

pub loop-number-preserved : goal.loop-number-preserved
loop-number-preserved c = λ n h.
    let ns = c.clauses_at-clauses.result.now in
    let ss = c.args.slacks.now in
    let old = c.loop-number.leaders.items in
    let new = c.lead.new.leaders.items in
    let number = get_or ns c.loop-number.number-index 0 in
    let lent = c.terms.ensures in
    ⊎_elim
    (λ before. subst (λ tss. IsLed tss ss new n) lent
    (c.in_ok-lead.ensures.stays n (subst (λ tss. IsLed tss ss old n) (sym lent) (c.loop-number.invariant n before))))
    (λ this. subst (λ m. IsLed c.args.outline.now.terms ss new m) (sym this)
    (subst (λ tss. IsLed tss ss new number) lent (c.in_ok-lead.ensures.led c.if-not-branch.false)))
    ((more_numbers ns c.loop-number.number-index n 0 c.loop-number-test.true).0 h)

pub returns : goal.returns
returns c = λ n some h.
    c.loop-number.invariant n
    (ap (has n) (take_all c.loop-number.number-index c.clauses_at-clauses.result.now c.loop-number-test.false) ∙ c.clauses_at-clauses.ensures n ∙ h)

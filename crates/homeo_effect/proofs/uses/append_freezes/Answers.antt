-- One more number.
use Rattle.std.proofs.Common.{ℕ, ◌&&◌, Vec, Global, ap, ◌∙◌}
use Rattle.std.specs.Prelude.{◌||◌}
use Rattle.homeo_lemmas.proofs.Bools.{or_nothing}
use Rattle.homeo_lemmas.proofs.Lists.{take_past}
use Rattle.homeo_outline.specs.Numbers.{has}
use Rattle.homeo_effect.proofs.SiteNumbers.{is_at_site, freezes_at_site, freeze_within, is_of_site, is_of_other, number_passed, number_passed_over}
use Rattle.homeo_effect.proofs.uses.append_freezes.Goals.{then-freezes-number+in_ok-push, else-freezes-number}
use Rattle.homeo_effect.proofs.uses.append_freezes.Goals as goal

pub loop-number-init : goal.loop-number-init
loop-number-init c n = or_nothing (has n c.args.numbers.now.items)

pub overflow_sub-number : goal.overflow_sub-number
overflow_sub-number c =
    (freeze_within c.args.outline.now c.terms-first.result.now c.freezes.result.now c.terms-first.ensures c.freezes.ensures c.args.object
    c.freezes_on-number-items.result.now c.freezes_on-number-items.ensures c.loop-number.number-index c.loop-number-test.true).0

pub bounds-freezes-number : goal.bounds-freezes-number
bounds-freezes-number c =
    (freeze_within c.args.outline.now c.terms-first.result.now c.freezes.result.now c.terms-first.ensures c.freezes.ensures c.args.object
    c.freezes_on-number-items.result.now c.freezes_on-number-items.ensures c.loop-number.number-index c.loop-number-test.true).1

pub loop-number-preserved : goal.loop-number-preserved
loop-number-preserved c n =
    let numbers = c.freezes_on-number-items.result.now in
    let passes = is_at_site c.args.site c.args.outline.now in
    elim c.if-freezes-number.branch [
      | then-freezes-number+in_ok-push w ↦
          ap (λ (v : Vec ℕ Global). has n v.items) w.numbers-is ∙ ap (has n) w.in_ok-push.ensures.items
          ∙ number_passed passes numbers c.loop-number.number-index c.loop-number-test.true c.args.numbers.now.items c.loop-number.numbers.items
          c.loop-number.invariant
          (is_of_site c.args.outline.now c.terms-first.result.now c.freezes.result.now c.terms-first.ensures c.freezes.ensures c.args.site _
          w.if-freezes-number.true) n
      | else-freezes-number w ↦
          ap (λ (v : Vec ℕ Global). has n v.items) w.numbers-is
          ∙ number_passed_over passes numbers c.loop-number.number-index c.loop-number-test.true c.args.numbers.now.items c.loop-number.numbers.items
          c.loop-number.invariant
          (is_of_other c.args.outline.now c.terms-first.result.now c.freezes.result.now c.terms-first.ensures c.freezes.ensures c.args.site _
          w.if-freezes-number.false) n
    ]

pub returns : goal.returns
returns c n =
    let numbers = c.freezes_on-number-items.result.now in
    let at_site = is_at_site c.args.site c.args.outline.now n in
    c.loop-number.invariant n
    ∙ ap (λ v. has n c.args.numbers.now.items || (v && at_site))
    (ap (has n) (take_past numbers c.loop-number.number-index c.loop-number-test.false) ∙ c.freezes_on-number-items.ensures n)
    ∙ ap (λ v. has n c.args.numbers.now.items || v) (freezes_at_site c.args.object c.args.site c.args.outline.now n)

-- The clause leads itself.
use Rattle.std.proofs.Common.{◌≡◌, ◌<◌, true, List, map, length, sym, subst, arith}
use Rattle.std.proofs.lemmas.List.{length-map}
use Rattle.homeo_syntax.specs.Listed.{Listed}
use Rattle.homeo_plan.specs.declared.forms.Term.{Term}
use Rattle.homeo_outline.specs.Numbers.{has}
use Rattle.homeo_outline.proofs.Leading.{led_itself, has_last}
use Rattle.homeo_outline.proofs.leaders.lead.Goals as goal

pub returns-clause-led : goal.returns-clause-led
returns-clause-led c = λ yes.
    let ls = c.args.terms.now in
    let items : Listed Term → List Term = λ l. l.items in
    let within : c.args.number < length (map items ls) = omega (arith, c.if-number-terms.false, length-map ls items) in
    led_itself (map items ls) c.args.slacks.now c.push.new.self.items c.args.number
    (subst (λ ns. has c.args.number ns ≡ true) (sym c.in_ok-push.ensures.items) (has_last c.args.number c.args.leaders.now.items)) within

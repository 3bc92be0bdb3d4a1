-- What wraps on the way changes nothing.
use Rattle.std.proofs.Common.{◌≡◌, rules, to_z, of_z, ◌+ℤ◌, ◌*ℤ◌, ap₂, ◌∙◌}
use Rattle.std.specs.Int.{w64, int_wrap}
use Rattle.std.proofs.lemmas.Int.{to_z-of_z, int_wrap-add_right}
use Rattle.homeo_linear.proofs.effect.with_term.Goals as goal

pub returns : goal.returns
returns c =
    let factor : to_z w64 (of_z w64 c.args.term.factor) ≡ c.args.term.factor = search (rules, to_z-of_z) in
    let delta : to_z w64 (of_z w64 c.item_or-delta.result) ≡ c.item_or-delta.result = search (rules, to_z-of_z) in
    let sum : to_z w64 (of_z w64 c.args.sum) ≡ c.args.sum = search (rules, to_z-of_z) in
    let product : to_z w64 (of_z w64 c.times.result) ≡ c.times.result = search (rules, to_z-of_z) in
    let whole : to_z w64 (of_z w64 c.plus.result) ≡ c.plus.result = search (rules, to_z-of_z) in
    whole ∙ c.plus.ensures ∙ ap₂ (λ s p. int_wrap w64 (s +ℤ p)) sum (product ∙ c.times.ensures ∙ ap₂ (λ f d. int_wrap w64 (f *ℤ d)) factor (delta ∙ c.item_or-delta.ensures))
    ∙ int_wrap-add_right w64 c.args.sum _

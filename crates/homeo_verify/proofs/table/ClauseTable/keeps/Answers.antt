-- The form's terms and its negated constant.
use Rattle.std.proofs.Common.{rules, arith, ◌≡◌, pos, ◌-ℤ◌, SFits, to_z, of_z, neg_ℤ, ap, ap₂, ◌∙◌}
use Rattle.std.specs.Int.{w128}
use Rattle.std.specs.List.{list_any}
use Rattle.std.proofs.lemmas.Int.{ints, to_z-of_z}
use Rattle.homeo_meaning.specs.Key.{definitions as meaning_definitions}
use Rattle.homeo_certificate.specs.Key.{definitions}
use Rattle.homeo_verify.specs.inner.Slacks.{is_within, has_terms}
use Rattle.homeo_verify.proofs.table.ClauseTable.keeps.Goals as goal

pub overflow_sub-form : goal.overflow_sub-form
unfolding meaning_definitions
overflow_sub-form c = grind (arith, ints, rules)

pub returns : goal.returns
unfolding definitions meaning_definitions
returns c =
    let k = c.args.form.now.constant in
    let minus : pos 0 -ℤ k ≡ neg_ℤ k = omega (arith, ints) in
    let fits : SFits w128 (pos 0 -ℤ to_z w128 (of_z w128 k)) = grind (arith, ints, rules) in
    let negated = to_z-of_z w128 _ fits ∙ ap (λ z. pos 0 -ℤ z) (to_z-of_z w128 k (search rules)) ∙ minus in
    c.is_within.ensures
    ∙ ap₂ (is_within c.self.inside.least) c.as_slice-2.ensures.value negated
    ∙ c.self.invariant c.in_ok-key.key (neg_ℤ k)
    ∙ ap₂ (λ l ds. list_any (has_terms l (neg_ℤ k)) ds) (c.in_ok-key.ensures ∙ c.as_slice.ensures) c.self.view_is

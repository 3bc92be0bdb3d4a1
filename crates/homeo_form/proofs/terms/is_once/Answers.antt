-- The same delta, and the factor 1.
use Rattle.std.proofs.Common.{rules, ◌≡◌, ℕ, true, pos, IsTrue, nat_eq, to_z, of_z, SFits, sym, ap, ◌∙◌, arith}
use mir.Syntax.{w128}
use Rattle.std.proofs.lemmas.Bool.Decides.{nat_tests}
use Rattle.std.proofs.lemmas.Int.{to_z-of_z}
use Rattle.homeo_plan.specs.declared.forms.Delta.{Delta}
use Rattle.homeo_plan.specs.declared.forms.Term.{Term}
use Rattle.homeo_plan.specs.Linear.{same_delta}
use Rattle.homeo_plan.proofs.Factors.{same_delta_is}
use Rattle.homeo_form.proofs.terms.is_once.Goals as goal

is_one : (n : ℕ) → IsTrue (nat_eq n 1) → n ≡ 1
is_one n h = grind (arith, nat_tests)

once_is : (t : Term) (d : Delta) → SFits w128 t.factor → true ≡ same_delta d t.delta → IsTrue (nat_eq (of_z w128 t.factor) 1) → t ≡ record { delta = d; factor = pos 1 }
once_is t d f e h =
    let same : t.delta ≡ d = sym (same_delta_is d t.delta (sym e)) in
    let one : t.factor ≡ pos 1 = sym (to_z-of_z w128 t.factor f) ∙ ap (to_z w128) (is_one (of_z w128 t.factor) h) in
    λ i. record { delta = same i; factor = one i }

pub returns-then-is_of : goal.returns-then-is_of
returns-then-is_of c = once_is c.args.term.now c.args.delta (search rules) c.if-is_of.ensures

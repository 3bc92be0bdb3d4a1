-- The constant there, which is at most 0, with the same deltas.
use Rattle.std.proofs.Common.{◌≡◌, ◌≤ℤ◌, pos, sym, ap, ◌∙◌, subst, SFits, rules, arith}
use mir.Syntax.{w128}
use Rattle.std.specs.List.{list_all}
use Rattle.std.specs.Ordering.{int_eq}
use Rattle.std.proofs.lemmas.Int.{ints, to_z-of_z}
use Rattle.homeo_meaning.specs.Serial.{values_of}
use Rattle.homeo_plan.specs.Linear.{Linear}
use Rattle.homeo_plan.specs.PlanView.{plain_atom}
use Rattle.homeo_follow.specs.Key.{definitions}
use Rattle.homeo_follow.specs.Rebased.{gains}
use Rattle.homeo_outline.proofs.Holding.{atom_holds}
use Rattle.homeo_outline.proofs.rebasing.rebased_atom.Goals as goal

pub returns : goal.returns
unfolding definitions
returns c =
    let g = gains (values_of c.args.from.now) (values_of c.args.to.now) in
    let n = c.in-Some.constant in
    let fits : SFits w128 n = search rules in
    let back = to_z-of_z w128 n fits in
    let same = c.in_ok-form.ensures in
    let below : n ≤ℤ pos 0 = omega (arith, ints, back, c.if-constant-gt0.false) in
    let still = sym (ap (list_all (λ d. int_eq (g d.object) (pos 0))) c.as_slice.ensures) ∙ sym c.gain_nothing.ensures ∙ c.if-not-gain_nothing.false in
    record {
      rebased = λ i. record {
        constant = (back ∙ c.in-Some.ensures) i;
        terms = ap (λ (a : Linear). a.terms) same i;
        mixed = ap (λ (a : Linear). a.mixed) same i;
      };
      holds = atom_holds g (plain_atom c.args.atom.now) n still c.in-Some.ensures below;
    }

-- The constant, negated, is the slack.
use Rattle.std.proofs.Common.{◌≡◌, ap, ◌∙◌, neg_ℤ, to_z, of_z, SFits, rules}
use mir.Syntax.{w128}
use Rattle.std.proofs.lemmas.Int.{to_z-of_z}
use Rattle.homeo_template.proofs.Keys.{made_key}
use Rattle.homeo_template.proofs.Negation.{small_back}
use Rattle.homeo_template.proofs.key.key_of.Goals as goal

pub returns : goal.returns
returns c =
    let fits : SFits w128 c.negated.result = search rules in
    let back : to_z w128 (of_z w128 c.negated.result) ≡ c.negated.result = to_z-of_z w128 c.negated.result fits in
    made_key c.args.form.now _ _ c.as_slice.ensures
    (back ∙ c.negated.ensures ∙ ap neg_ℤ (small_back c.args.form.now.constant c.requires))

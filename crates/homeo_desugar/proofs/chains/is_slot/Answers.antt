-- The number is the same as an i64.
use Rattle.std.proofs.Common.{◌≡◌, ℕ, ◌<◌, ◌^◌, pos, w64, to_z, of_z, ap, ◌∙◌, arith}
use Rattle.std.proofs.lemmas.Int.{ints}
use Rattle.std.proofs.lemmas.Result.{IfOk-weaker}
use Rattle.homeo_meaning.specs.LForm.{equal, one_test}
use Rattle.homeo_desugar.proofs.chains.is_slot.Goals as goal

kept : (n : ℕ) → n < 2 ^ 32 → to_z w64 (of_z w64 (pos n)) ≡ pos n
kept n h = omega (arith, ints)

pub returns : goal.returns
returns c =
    IfOk-weaker c.one_test.result _ _
    (λ r is. is ∙ ap one_test (c.equal.ensures ∙ (λ i. equal (c.in_ok-index.ensures i) (kept c.args.slot.number c.requires.low.number i))))
    c.one_test.ensures

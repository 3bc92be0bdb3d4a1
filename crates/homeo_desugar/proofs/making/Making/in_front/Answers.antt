-- The command is alone only where there are no others.
use Rattle.std.proofs.Common.{◌≡◌, map, length, ap, ◌∙◌, ◌==◌, true, false, arith, sym}
use Rattle.std.proofs.lemmas.Bool.Decides.{nat_tests}
use Rattle.homeo_syntax.specs.LowView.{low_commands, plain_lcommand}
use Rattle.homeo_syntax.specs.Low as L
use Rattle.homeo_syntax.proofs.LowViews.{low_Seq}
use Rattle.homeo_desugar.specs.inner.Key.{definitions}
use Rattle.homeo_desugar.proofs.Makings.{front_alone, front_more}
use Rattle.homeo_desugar.proofs.making.Making.in_front.Goals as goal

pub returns-then-is_empty : goal.returns-then-is_empty
unfolding definitions
returns-then-is_empty c =
    let none : (length c.args.self.commands.items == 0) ≡ true = ap (λ l. length l == 0) (sym c.as_slice.ensures) ∙ sym c.is_empty.ensures ∙ c.if-is_empty.true in
    front_alone c.args.self.commands.items (plain_lcommand c.args.command) (grind (arith, nat_tests))

pub returns : goal.returns
unfolding definitions
returns c =
    let some : (length c.args.self.commands.items == 0) ≡ false = ap (λ l. length l == 0) (sym c.as_slice.ensures) ∙ sym c.is_empty.ensures ∙ c.if-is_empty.false in
    low_Seq c.push.new.self
    ∙ ap (λ l. L.Seq (low_commands (map plain_lcommand l.items))) c.in_ok-push.ensures.ok
    ∙ front_more c.args.self.commands.items c.args.command (grind (arith, nat_tests))

use Rattle.std.proofs.Common.{ap, codes, ◌∙◌}
use Rattle.std.proofs.lemmas.Bool.Decides.{Decides-eqb}
use Rattle.std.proofs.lemmas.Slice.Eq.{strip_suffix_is}
use Rattle.homeo_commands.proofs.Unended.{unended_of}
use Rattle.homeo_commands.proofs.verify.unended.Goals as goal

pub returns : goal.returns
returns c =
    ap (λ b. b.now) c.unwrap_or.ensures
    ∙ unended_of c.args.bytes c.strip_suffix.result (strip_suffix_is Decides-eqb c.args.bytes.now (codes "\n") c.strip_suffix.result c.strip_suffix.ensures.cases)

use Rattle.homeo_tokens.proofs.Steps.{word_is_text}
use Rattle.homeo_tokens.proofs.lexeme.word.Goals as goal

pub unreachable-requires : goal.unreachable-requires
unreachable-requires c = c.in-Err.ensures.cases.0 (word_is_text c.args.text.now c.requires)

use Rattle.homeo_syntax.specs.Lexemes.{is_word, is_digit}
use Rattle.homeo_tokens.proofs.Steps.{run_each}
use Rattle.homeo_tokens.proofs.lexeme.first_lexeme.Goals as goal

pub word-requires : goal.word-requires
word-requires c = λ i h. run_each is_word c.args.text.now c.word_len-n.result i c.word_len-n.ensures h

pub number-requires-clause-each : goal.number-requires-clause-each
number-requires-clause-each c = λ i h. run_each is_digit c.args.text.now c.digits_len-n.result i c.digits_len-n.ensures h

-- The tokens are those of the lexemes and of one more.
use Rattle.std.proofs.Common.{◌≡◌, ap, ◌∙◌}
use Rattle.homeo_syntax.specs.Tokens.{version_of, in_version, lexeme_in, with_lexeme, names_of, kind_in}
use Rattle.homeo_tokens.specs.Views.{plain_lexeme}
use Rattle.homeo_tokens.specs.inner.Names.{plain_names}
use Rattle.homeo_tokens.specs.inner.Numbers.{version_by}
use Rattle.homeo_tokens.proofs.Growing.{version-is, names-put, tokens-put}
use Rattle.homeo_tokens.proofs.numbering.Numbering.put.Goals as goal

pub returns-clause-numbers : goal.returns-clause-numbers
returns-clause-numbers c = λ ts is.
    let l = plain_lexeme c.args.lexeme in
    let v = version_by c.as_slice.result.now in
    let old = plain_names c.args.self.now.names in
    let new = plain_names c.number_lexeme.new.names in
    let version : v ≡ version_of ts = ap version_by (c.as_slice.ensures.value ∙ is.tokens) ∙ version-is (names_of (in_version ts)) ts in
    let named : new ≡ with_lexeme old (lexeme_in v l) = c.in_ok-kind.ensures.names ∙ ap (with_lexeme old) c.lexeme_behind-lexeme.ensures in
    record {
      names = names-put ts l c.args.offset v old new is.names version named;
      tokens =
          tokens-put ts l c.args.offset v old new is.names version named c.args.self.now.tokens.items c.push.new.self.items c.in_ok-kind.kind is.tokens
          (c.in_ok-kind.ensures.kind ∙ ap (kind_in new) c.lexeme_behind-lexeme.ensures) c.in_ok-push.ensures.items;
    }

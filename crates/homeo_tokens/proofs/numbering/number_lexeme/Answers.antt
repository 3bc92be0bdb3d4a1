use Rattle.std.proofs.Common.{ℕ, List, sym, ap, ◌∙◌}
use Rattle.homeo_syntax.specs.declared.token.Kind.TheVariants as kind
use Rattle.homeo_syntax.specs.Tokens.{kind_in, with_lexeme, place_of}
use Rattle.homeo_tokens.specs.declared.lexeme.Lexeme.{Lexeme}
use Rattle.homeo_tokens.specs.Views.{plain_lexeme}
use Rattle.homeo_tokens.specs.inner.Names.{plain_names}
use Rattle.homeo_tokens.proofs.Names.{seen_all, put_seen, place_seen, place_put}
use Rattle.homeo_tokens.proofs.numbering.number_lexeme.Goals as goal

pub returns-in-Ok-clause-names : goal.returns-in-Ok-clause-names
returns-in-Ok-clause-names c =
    ap seen_all c.in-Ok.ensures.keys ∙ put_seen c.in-Name.name c.args.names.now.keys
    ∙ ap (λ (l : Lexeme). with_lexeme (plain_names c.args.names.now) (plain_lexeme l)) (sym c.in-Name.is)

pub returns-in-Ok-clause-kind : goal.returns-in-Ok-clause-kind
returns-in-Ok-clause-kind c =
    ap (λ (n : ℕ). kind.Name n) (c.in-Ok.ensures.index ∙ sym (place_seen c.in-Name.name c.args.names.now.keys) ∙ sym (place_put (seen_all c.args.names.now.keys) c.in-Name.name.now)
    ∙ ap (λ (names : List (List ℕ)). place_of names c.in-Name.name.now) (sym (ap seen_all c.in-Ok.ensures.keys ∙ put_seen c.in-Name.name c.args.names.now.keys)))
    ∙ ap (λ (l : Lexeme). kind_in (plain_names c.insert_full.new.self) (plain_lexeme l)) (sym c.in-Name.is)

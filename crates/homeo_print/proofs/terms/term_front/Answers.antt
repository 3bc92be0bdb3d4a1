use Rattle.std.proofs.Common.{rules, [], ◌∷◌, ◌++◌, List, ℕ, ap, ap₂, ◌∙◌, SFits}
use mir.Syntax.{w128}
use Rattle.std.specs.Fmt.{signed_decimal}
use Rattle.std.proofs.lemmas.Int.{to_z-of_z}
use Rattle.homeo_print.specs.Key.{definitions}
use Rattle.homeo_print.specs.Names.{name_at}
use Rattle.homeo_print.proofs.terms.term_front.Goals as goal

pub returns : goal.returns
unfolding definitions
returns c =
    let f = c.args.term.factor in
    let fits : SFits w128 f = search rules in
    let name = c.get.ensures ∙ ap (λ (names : List (List ℕ)). name_at names c.args.term.delta.object) c.requires.named in
    let begun = c.in_ok-push_byte.ensures ∙ ap (λ (l : List ℕ). l ++ 32 ∷ []) c.in_ok-front.ensures.items in
    let numbered = c.in_ok-push_wide.ensures ∙ ap₂ (λ l n. l ++ signed_decimal n) begun (to_z-of_z w128 f fits) in
    let starred = c.in_ok-push_byte-2.ensures ∙ ap (λ (l : List ℕ). l ++ 42 ∷ []) numbered in
    c.in_ok-push_byte-3.ensures ∙ ap (λ (l : List ℕ). l ++ 64 ∷ []) (c.in_ok-push_bytes.ensures ∙ ap₂ (λ (l n : List ℕ). l ++ n) starred name)

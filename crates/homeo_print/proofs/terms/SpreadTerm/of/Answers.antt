-- The text is that of any object of this name.
use Rattle.std.proofs.Common.{rules, ◌++◌, List, ℕ, sym, ap, ◌∙◌, SFits}
use mir.Syntax.{w128}
use Rattle.std.proofs.lemmas.Int.{to_z-of_z}
use Rattle.homeo_syntax.specs.SourceView.{plain_workload}
use Rattle.homeo_follow.specs.Expanded.{terms_from}
use Rattle.homeo_print.specs.Key.{definitions}
use Rattle.homeo_print.specs.Names.{name_at}
use Rattle.homeo_print.specs.Treaties.{terms_text}
use Rattle.homeo_print.proofs.ClauseLines.{same_name}
use Rattle.homeo_print.proofs.terms.SpreadTerm.of.Goals as goal

pub invariant_of-result : goal.invariant_of-result
unfolding definitions
invariant_of-result c w x e =
    let own = plain_workload c.args.w.now in
    let object = c.args.term.delta.object in
    let f = c.args.term.factor in
    let sites = c.args.sites in
    let fits : SFits w128 f = search rules in
    let named = e ∙ c.in_ok-name.ensures.items ∙ c.get.ensures ∙ ap (λ (names : List (List ℕ)). name_at names object) c.requires.named in
    c.in_ok-push_term.ensures ∙ ap (λ (l : List ℕ). l ++ terms_text own (terms_from 0 sites object f)) c.new-text.ensures.items
    ∙ same_name own w object x (sym named) f 0 sites ∙ ap (λ z. terms_text w (terms_from 0 sites x z)) (sym (to_z-of_z w128 f fits))

-- The text that is kept is that of an object of this name, and so of this one.
use Rattle.std.proofs.Common.{rules, ◌++◌, List, ℕ, sym, ap, ◌∙◌, SFits}
use mir.Syntax.{w128}
use Rattle.std.proofs.lemmas.Int.{to_z-of_z}
use Rattle.std.proofs.lemmas.Result.{on_ok_weaker}
use Rattle.homeo_syntax.specs.SourceView.{plain_workload}
use Rattle.homeo_follow.specs.Expanded.{terms_from}
use Rattle.homeo_print.specs.Key.{definitions}
use Rattle.homeo_print.specs.Names.{name_at}
use Rattle.homeo_print.specs.Treaties.{terms_text}
use Rattle.homeo_print.proofs.terms.SpreadTerms.push.Goals as goal

pub returns-in-Some : goal.returns-in-Some
unfolding definitions
returns-in-Some c =
    let w = plain_workload c.args.w.now in
    let x = c.args.term.delta.object in
    let f = c.args.term.factor in
    let fits : SFits w128 f = search rules in
    let named = sym (c.get-name.ensures ∙ ap (λ (names : List (List ℕ)). name_at names x) c.requires.named) in
    let text = c.in-Some.ensures w x named ∙ ap (λ z. terms_text w (terms_from 0 c.args.sites x z)) (to_z-of_z w128 f fits) in
    on_ok_weaker c.push_bytes.result (λ h. h ∙ ap (λ l. c.args.out.now.items ++ l) text) c.push_bytes.ensures

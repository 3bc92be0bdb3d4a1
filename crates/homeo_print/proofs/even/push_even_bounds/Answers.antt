-- One bound more.
use Rattle.std.proofs.Common.{rules, append_assoc, append-nil, ◌+◌, List, ◌∷◌, ◌++◌, ℕ, ℤ, take, sym, ap, ap₂, ◌∙◌, SFits}
use mir.Syntax.{w128}
use Rattle.std.specs.Prelude.{replicate}
use Rattle.std.specs.Fmt.{signed_decimal}
use Rattle.std.proofs.lemmas.Int.{to_z-of_z}
use Rattle.homeo_plan.specs.Config.{split}
use Rattle.homeo_plan.specs.Treaty.{bound_at}
use Rattle.homeo_print.specs.Key.{definitions}
use Rattle.homeo_print.specs.Names.{numbers_text}
use Rattle.homeo_print.proofs.ClauseLines.{bounds_more, bounds_all}
use Rattle.homeo_print.proofs.even.push_even_bounds.Goals as goal

pub loop-site-init : goal.loop-site-init
unfolding definitions
loop-site-init c = search (rules, append-nil)

pub loop-site-preserved : goal.loop-site-preserved
loop-site-preserved c =
    let site = c.loop-site.site in
    let old = c.args.out.now.items in
    let of : ℤ → List ℤ = λ z. split (replicate c.args.sites 1) z in
    let text : List ℕ = numbers_text (take site (of c.args.slack)) in
    let last : List ℕ = signed_decimal (bound_at (of c.args.slack) site) in
    let slack = to_z-of_z w128 c.args.slack c.ranges.slack in
    let so_far = c.loop-site.invariant ∙ ap (λ z. old ++ numbers_text (take site (of z))) slack in
    let fits : SFits w128 c.even_bound.result = search rules in
    let bound = to_z-of_z w128 c.even_bound.result fits ∙ c.even_bound.ensures ∙ ap (λ z. bound_at (of z) site) slack in
    c.in_ok-push.ensures ∙ ap₂ (λ l n. l ++ 32 ∷ signed_decimal n) so_far bound ∙ append_assoc old text (32 ∷ last)
    ∙ ap (λ l. old ++ l) (sym (bounds_more c.args.sites c.args.slack c.requires.not_negative site c.loop-site-test.true))
    ∙ ap (λ z. old ++ numbers_text (take (site + 1) (of z))) (sym slack)

pub returns : goal.returns
returns c =
    let old = c.args.out.now.items in
    c.loop-site.invariant
    ∙ ap (λ z. old ++ numbers_text (take c.loop-site.site (split (replicate c.args.sites 1) z))) (to_z-of_z w128 c.args.slack c.ranges.slack)
    ∙ ap (λ l. old ++ l) (bounds_all c.args.sites c.args.slack c.requires.not_negative c.loop-site.site c.loop-site-test.false)

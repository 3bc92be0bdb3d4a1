-- One site more.
use Rattle.std.proofs.Common.{append_assoc, append-nil, ◌++◌, ◌+◌, ◌-◌, List, ℕ, sym, ap, ◌∙◌}
use Rattle.std.specs.Prelude.{codes, decimal}
use Rattle.std.specs.Fmt.{signed_decimal}
use Rattle.homeo_syntax.specs.SourceView.{plain_workload}
use Rattle.homeo_follow.specs.Expanded.{terms_from}
use Rattle.homeo_print.specs.Treaties.{delta_text, terms_text}
use Rattle.homeo_print.proofs.ClauseLines.{site_more, no_site, front_is}
use Rattle.homeo_print.proofs.terms.push_term.Goals as goal

pub loop-site-preserved : goal.loop-site-preserved
loop-site-preserved c =
    let w = plain_workload c.args.w.now in
    let x = c.args.term.delta.object in
    let f = c.args.term.factor in
    let site = c.loop-site.site in
    let out = c.loop-site.out.items in
    let term : List ℕ = codes " " ++ signed_decimal f ++ codes "*" ++ delta_text w (record { object = x; site = site }) in
    let rest : List ℕ = terms_text w (terms_from (site + 1) (c.args.sites - (site + 1)) x f) in
    ap (λ l. l ++ rest)
    (c.in_ok-push_number.ensures ∙ ap (λ l. l ++ decimal site) (c.in_ok-push_bytes.ensures ∙ ap (λ l. out ++ l) (c.as_slice.ensures.value ∙ c.in_ok-front.ensures)) ∙ front_is w c.args.sites out x f site)
    ∙ append_assoc out term rest
    ∙ ap (λ l. out ++ l) (sym (site_more w c.args.sites x f site c.loop-site-test.true)) ∙ c.loop-site.invariant

pub returns : goal.returns
returns c =
    let none = no_site (plain_workload c.args.w.now) c.args.sites c.args.term.delta.object c.args.term.factor c.loop-site.site c.loop-site-test.false in
    sym (append-nil c.loop-site.out.items) ∙ ap (λ l. c.loop-site.out.items ++ l) (sym none) ∙ c.loop-site.invariant

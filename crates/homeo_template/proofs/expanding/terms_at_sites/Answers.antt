-- One object more.
use Rattle.std.proofs.Common.{◌++◌, ap, ◌∙◌}
use Rattle.homeo_follow.specs.Expanded.{expanded_terms}
use Rattle.homeo_template.proofs.AtSites.{more_terms, all_terms}
use Rattle.homeo_template.proofs.expanding.terms_at_sites.Goals as goal

pub loop-term-init : goal.loop-term-init
loop-term-init c = ap (λ l. l ++ expanded_terms c.args.sites c.args.terms.now) c.new-all.ensures.items

pub loop-term-preserved : goal.loop-term-preserved
loop-term-preserved c =
    more_terms c.args.sites c.args.terms.now c.loop-term.all.items _ c.loop-term.term-index _ c.loop-term-test.true c.in_ok-push_terms.ensures
    ∙ c.loop-term.invariant

pub returns : goal.returns
returns c = all_terms c.args.sites c.args.terms.now c.loop-term.all.items c.loop-term.term-index c.loop-term-test.false ∙ c.loop-term.invariant

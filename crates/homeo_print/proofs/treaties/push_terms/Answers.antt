-- One term more.
use Rattle.std.proofs.Common.{append-nil, ◌++◌, sym, ap, ◌∙◌}
use Rattle.homeo_syntax.specs.SourceView.{plain_workload}
use Rattle.homeo_print.proofs.ClauseLines.{term_more, no_term}
use Rattle.homeo_print.proofs.treaties.push_terms.Goals as goal

pub loop-term-preserved : goal.loop-term-preserved
loop-term-preserved c =
    term_more (plain_workload c.args.w.now) c.args.sites c.args.terms.now c.loop-term.out.items _ c.loop-term.term-index _ c.loop-term-test.true c.in_ok-push.ensures
    ∙ c.loop-term.invariant

pub returns : goal.returns
returns c =
    let none = no_term (plain_workload c.args.w.now) c.args.sites c.args.terms.now c.loop-term.term-index c.loop-term-test.false in
    sym (append-nil c.loop-term.out.items) ∙ ap (λ l. c.loop-term.out.items ++ l) (sym none) ∙ c.loop-term.invariant

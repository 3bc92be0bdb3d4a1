use Rattle.std.proofs.Common.{◌≡◌, ◌++◌, ◌-◌}
use Rattle.homeo_syntax.specs.SourceView.{plain_workload}
use Rattle.homeo_follow.specs.Expanded.{terms_from}
use Rattle.homeo_print.specs.Treaties.{terms_text}
use Rattle.homeo_print.proofs.terms.push_term.Given as goal

abbrev pub invariant-loop-site : goal.invariant-loop-site
invariant-loop-site l =
    let w = plain_workload l.w in
    l.out.items ++ terms_text w (terms_from l.site (l.sites - l.site) l.fn.term.delta.object l.fn.term.factor)
    ≡ l.fn.out.items ++ terms_text w (terms_from 0 l.sites l.fn.term.delta.object l.fn.term.factor)

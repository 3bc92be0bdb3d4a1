use Rattle.std.proofs.Common.{◌≡◌, ◌++◌, drop}
use Rattle.homeo_syntax.specs.SourceView.{plain_workload}
use Rattle.homeo_follow.specs.Expanded.{expanded_terms}
use Rattle.homeo_print.specs.Treaties.{terms_text}
use Rattle.homeo_print.proofs.treaties.push_terms.Given as goal

abbrev pub invariant-loop-term : goal.invariant-loop-term
invariant-loop-term l =
    let w = plain_workload l.w in
    l.out.items ++ terms_text w (expanded_terms l.sites (drop l.term-index l.terms)) ≡ l.fn.out.items ++ terms_text w (expanded_terms l.sites l.terms)

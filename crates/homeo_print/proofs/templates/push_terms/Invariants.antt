use Rattle.std.proofs.Common.{◌≡◌, ◌++◌, take}
use Rattle.homeo_syntax.specs.SourceView.{plain_workload}
use Rattle.homeo_print.specs.Treaties.{terms_text}
use Rattle.homeo_print.proofs.templates.push_terms.Given as goal

abbrev pub invariant-loop-term : goal.invariant-loop-term
invariant-loop-term l = l.out.items ≡ l.fn.out.items ++ terms_text (plain_workload l.w) (take l.term-index l.terms)

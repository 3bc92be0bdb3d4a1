-- The terms so far, and those of the objects that are left.
use Rattle.std.proofs.Common.{◌≡◌, ◌++◌, drop}
use Rattle.homeo_follow.specs.Expanded.{expanded_terms}
use Rattle.homeo_template.proofs.expanding.terms_at_sites.Given as goal

abbrev pub invariant-loop-term : goal.invariant-loop-term
invariant-loop-term l = l.all.items ++ expanded_terms l.sites (drop l.term-index l.terms) ≡ expanded_terms l.sites l.terms

-- The terms so far with those of the sites that are left, for which there is room.
use Rattle.std.proofs.Common.{◌≡◌, ◌++◌, ◌-◌, ◌+◌, ◌≤◌, vec_len}
use Rattle.std.specs.Prelude.{vec_capacity}
use Rattle.homeo_follow.specs.Expanded.{terms_from}
use Rattle.homeo_template.proofs.expanding.push_terms.Given as goal

abbrev pub invariant-loop-site : goal.invariant-loop-site
invariant-loop-site l = record {
  terms :
      l.terms.items ++ terms_from l.site (l.sites - l.site) l.term.delta.object l.term.factor
      ≡ l.fn.terms.items ++ terms_from 0 l.sites l.term.delta.object l.term.factor;
  room : vec_len l.terms + (l.sites - l.site) ≤ vec_capacity l.terms;
}

-- The clauses so far.
use Rattle.std.proofs.Common.{◌≡◌, map, take}
use Rattle.homeo_outline.specs.inner.Uses.{KeepsClauses}
use Rattle.homeo_outline.proofs.uses.clause_uses.Given as goal

abbrev pub invariant-loop-terms : goal.invariant-loop-terms
invariant-loop-terms l =
    record {
      number : l.number ≡ l.terms-index;
      keeps : KeepsClauses (map (λ t. t.items) (take l.terms-index l.clauses)) (map (λ v. v.items) l.uses.items);
    }

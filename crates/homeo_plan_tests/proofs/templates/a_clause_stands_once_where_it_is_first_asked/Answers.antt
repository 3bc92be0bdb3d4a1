-- Each place is one of the parts', and the constants of their atoms are small.
use Rattle.std.proofs.Common.{◌≡◌, List, [], ◌∷◌, map, length, Global, sym, ap, ◌∙◌, subst, arith}
use Rattle.std.specs.List.{All}
use Rattle.std.specs.declared.sync.Arc.{Arc}
use Rattle.std.proofs.lemmas.List.Elements.{All-head, All-tail}
use Rattle.homeo_meaning.specs.Small.{IsSmall}
use Rattle.homeo_plan.specs.Key.{definitions}
use Rattle.homeo_plan.specs.Each.{Each}
use Rattle.homeo_plan.specs.Limit.{form_limit}
use Rattle.homeo_plan.specs.PlanView.{plain_atoms}
use Rattle.homeo_follow.specs.declared.part.PlanPart.{PlanPart}
use Rattle.homeo_plan_tests.specs.inner.AtomExample.{AreSmall}
use Rattle.homeo_plan_tests.proofs.templates.a_clause_stands_once_where_it_is_first_asked.Goals as goal

each_part :
    (ps : List (Arc PlanPart Global)) → All (λ p. AreSmall p.value.atoms) ps →
    Each (Each (λ a. IsSmall form_limit a.constant)) (map (λ p. plain_atoms p.value.atoms) ps)
unfolding definitions
each_part [] h = tt
each_part (p ∷ ps) h = (
  All-head (λ p. AreSmall p.value.atoms) p ps h,
  each_part ps (All-tail (λ p. AreSmall p.value.atoms) p ps h),
)

pub object_clauses-requires-clause-places : goal.object_clauses-requires-clause-places
unfolding definitions
object_clauses-requires-clause-places g c =
    let count : length c.as_slice.result.now ≡ 2 = ap length c.as_slice.ensures.value ∙ c.parts-parts.ensures.count in
    (omega (arith, count), (omega (arith, count), (omega (arith, count), tt)))

pub object_clauses-requires-clause-small : goal.object_clauses-requires-clause-small
object_clauses-requires-clause-small g c =
    subst (λ ps. Each (Each (λ a. IsSmall form_limit a.constant)) (map (λ p. plain_atoms p.value.atoms) ps)) (sym c.as_slice.ensures.value)
    (each_part c.parts-parts.result.items c.parts-parts.ensures.small)

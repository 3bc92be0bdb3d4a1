-- The clauses of a plan as they are printed: over the deltas of its sites, and with their bounds.
use Rattle.std.specs.Prelude.{◌≡◌, ℕ, List, [], map, take, replicate, slice_index_or, ℤ, pos, ◌++◌, codes, Option, Some, None}
use Rattle.std.specs.Fmt.{signed_decimal}
use Rattle.homeo_syntax.specs.Source as s
use Rattle.homeo_plan.specs.Config.{Config, split, even}
use Rattle.homeo_plan.specs.PlanView.{plain_config}
use Rattle.homeo_plan.specs.Template.{Clause}
use Rattle.homeo_plan.specs.declared.templates.Config as code
use Rattle.homeo_follow.specs.Expanded.{terms_from, expanded_terms}
use Rattle.homeo_follow.specs.ObjectTemplate.{expanded_clause}
use Rattle.homeo_outline.specs.ObjectPlan.{clauses_with}
use Rattle.homeo_outline.specs.declared.plan.ObjectPlan.{ObjectPlan}
use Rattle.homeo_print.specs.Key.{definitions}
use Rattle.homeo_print.specs.Tables.{object_text}
use Rattle.homeo_print.specs.Treaties.{terms_text}

abbrev pub slack_in : ObjectPlan → ℕ → ℤ
unfolding definitions
slack_in p n = slice_index_or p.slacks.items n (pos 0)

-- the clause of a number
abbrev pub clause_in : ObjectPlan → ℕ → Clause
unfolding definitions
clause_in p n = record {
  terms = expanded_terms p.outline.value.sites (slice_index_or p.outline.value.terms n []);
  slack = slack_in p n;
}

-- the given bounds of a number, or else these
abbrev pub bounds_or : List ℤ → Option code.Config → ℕ → List ℤ
unfolding definitions
bounds_or other None n = other
bounds_or other (Some given) n = slice_index_or (plain_config given) n []

-- the bounds of the clause of a number
abbrev pub bounds_in : ObjectPlan → ℕ → List ℤ
unfolding definitions
bounds_in p n = bounds_or (split (replicate p.outline.value.sites 1) (slack_in p n)) p.bounds n

-- F*x@ behind a space: the term of an object up to the number of its site
abbrev pub term_front : s.Workload → ℕ → ℤ → List ℕ
unfolding definitions
term_front w x f = codes " " ++ signed_decimal f ++ codes "*" ++ object_text w x ++ codes "@"

-- a text is that of the term of any object of this name at k sites
abbrev pub IsSpread : List ℕ → ℤ → ℕ → List ℕ → Type 0
IsSpread name f k text = (w : s.Workload) (x : ℕ) → object_text w x ≡ name → text ≡ terms_text w (terms_from 0 k x f)

-- ---- the first n clauses
abbrev pub first_clauses : ObjectPlan → ℕ → List Clause
unfolding definitions
first_clauses p n = map (expanded_clause p.outline.value.sites) (clauses_with (take n p.outline.value.terms) p.slacks.items)

-- the first of the given bounds, or else these
abbrev pub first_or : Config → Option code.Config → ℕ → Config
unfolding definitions
first_or other None n = other
first_or other (Some given) n = take n (plain_config given)

abbrev pub first_bounds : ObjectPlan → ℕ → Config
unfolding definitions
first_bounds p n = first_or (even p.outline.value.sites (first_clauses p n)) p.bounds n

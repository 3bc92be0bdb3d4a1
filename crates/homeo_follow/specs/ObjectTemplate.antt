-- The template of ground calls by objects: its clauses over whole objects, and the objects that are frozen at a site.
use Rattle.std.specs.Prelude.{◌≡◌, ℕ, ◌==◌, nat_lt, Bool, not, ◌||◌, ◌&&◌, List, [], map, ℤ}
use Rattle.std.specs.List.{list_any}
use Rattle.homeo_plan.specs.declared.forms.Delta.{Delta}
use Rattle.homeo_plan.specs.Linear.{Linear, same_delta}
use Rattle.homeo_plan.specs.Template.{PlannedCall, Clause, Template, clauses_from, atoms_of_sets, template}
use Rattle.homeo_follow.specs.Key.{definitions}
use Rattle.homeo_follow.specs.Expanded.{expanded_terms}
use Rattle.homeo_follow.specs.Follow.{object_delta, followed, needed}

-- a clause over whole objects as one over the deltas of k sites
abbrev pub expanded_clause : ℕ → Clause → Clause
unfolding definitions
expanded_clause k c = record { terms = expanded_terms k c.terms; slack = c.slack }

-- a template with clauses over whole objects as one over the deltas of k sites
abbrev pub expanded_template : ℕ → Template → Template
unfolding definitions
expanded_template k t = record { clauses = map (expanded_clause k) t.clauses; freezes = t.freezes }

-- the atoms of the commands of ground calls, one call after another
abbrev pub followed_atoms : (ℕ → ℤ) → List PlannedCall → List Linear
unfolding definitions
followed_atoms b gs = atoms_of_sets (map (λ g. (followed b g.command).atoms) gs)

-- an object is one of these
abbrev pub has_object : ℕ → List Delta → Bool
unfolding definitions
has_object x ds = list_any (same_delta (object_delta x)) ds

-- object x is frozen at site j: an atom mixes it, or a call of another site depends on it
abbrev pub is_frozen : (ℕ → ℤ) → List PlannedCall → ℕ → ℕ → Bool
unfolding definitions
is_frozen b gs x j =
    list_any (λ a. has_object x a.mixed) (followed_atoms b gs)
    || list_any (λ g. not (j == g.site) && has_object x (needed b (followed b g.command))) gs

-- the template for k sites has the clauses over whole objects, in their order, and freezes the deltas of the objects that are frozen
pub record IsByObjects (k : ℕ) (b : ℕ → ℤ) (gs : List PlannedCall) : Type 0 where
  pub clauses : (template k b gs).clauses ≡ map (expanded_clause k) (clauses_from [] (followed_atoms b gs))
  pub freezes : (d : Delta) → list_any (same_delta d) (template k b gs).freezes ≡ (nat_lt d.site k && is_frozen b gs d.object d.site)

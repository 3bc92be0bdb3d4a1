-- The text of treaties: the clauses of a template with the bounds of a configuration, and its freezes (this project's rule).
use Rattle.std.specs.Prelude.{ℕ, List, ◌++◌, length, ℤ, codes, decimal}
use Rattle.std.specs.Fmt.{signed_decimal}
use Rattle.std.specs.List.{flat_map, enumerate_from, zip}
use Rattle.homeo_syntax.specs.Source as s
use Rattle.homeo_syntax.specs.declared.low.SplitName.TheVariants as name
use Rattle.homeo_meaning.specs.Initial.{initial}
use Rattle.homeo_plan.specs.declared.forms.Delta.{Delta}
use Rattle.homeo_plan.specs.declared.forms.Term.{Term}
use Rattle.homeo_plan.specs.Config.{Config}
use Rattle.homeo_plan.specs.Planned.{template_at, policy}
use Rattle.homeo_plan.specs.Template.{Clause, Template}
use Rattle.homeo_print.specs.Key.{definitions}
use Rattle.homeo_print.specs.Names.{newline, heading, numbers_text}
use Rattle.homeo_print.specs.Tables.{split_name_text}

-- x@j
abbrev pub delta_text : s.Workload → Delta → List ℕ
unfolding definitions
delta_text w d = split_name_text w (name.Delta d.object d.site)

-- F*x@j
abbrev pub term_text : s.Workload → Term → List ℕ
unfolding definitions
term_text w t = signed_decimal t.factor ++ codes "*" ++ delta_text w t.delta

-- terms, each behind a space
abbrev pub terms_text : s.Workload → List Term → List ℕ
unfolding definitions
terms_text w terms = flat_map (λ t. codes " " ++ term_text w t) terms

-- C slack S bounds B0 B1 .. form F*x@j F*x@j ..
abbrev pub clause_text : s.Workload → ℕ → Clause → List ℤ → List ℕ
unfolding definitions
clause_text w number c bounds =
    decimal number ++ codes " slack " ++ signed_decimal c.slack
    ++ codes " bounds" ++ numbers_text bounds
    ++ codes " form" ++ terms_text w c.terms ++ newline

-- the clauses, each with its bounds, are numbered from 0
abbrev pub clauses_text : s.Workload → List Clause → Config → List ℕ
unfolding definitions
clauses_text w clauses config = flat_map (λ c. clause_text w c.0 c.1.0 c.1.1) (enumerate_from 0 (zip clauses config))

-- C x@j
abbrev pub freeze_text : s.Workload → ℕ → Delta → List ℕ
unfolding definitions
freeze_text w number d = decimal number ++ codes " " ++ delta_text w d ++ newline

-- freezes, numbered from a number on
abbrev pub freezes_text : s.Workload → ℕ → List Delta → List ℕ
unfolding definitions
freezes_text w number freezes = flat_map (λ d. freeze_text w d.0 d.1) (enumerate_from number freezes)

-- clauses N and the clauses, freezes M and the freezes: their numbers go on after those of the clauses
abbrev pub template_text : s.Workload → Template → Config → List ℕ
unfolding definitions
template_text w t config =
    heading (codes "clauses ") (length t.clauses) ++ clauses_text w t.clauses config
    ++ heading (codes "freezes ") (length t.freezes) ++ freezes_text w (length t.clauses) t.freezes

-- the treaties of the round that begins at the initial database
abbrev pub treaty_text : s.Workload → List ℕ
unfolding definitions
treaty_text w = template_text w (template_at w (initial w)) (policy w (initial w))

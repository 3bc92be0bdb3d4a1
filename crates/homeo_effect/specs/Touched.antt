-- What of a template a residual touches: the clauses with a term on a delta that it writes, and the freezes that it writes.
use Rattle.std.specs.Prelude.{◌≡◌, ℕ, Bool, List, [], ◌∷◌, length}
use Rattle.std.specs.List.{list_any}
use Rattle.homeo_syntax.specs.declared.low.SplitName.{SplitName}
use Rattle.homeo_syntax.specs.declared.low.SplitName.TheVariants.{Whole, Base, Delta}
use Rattle.homeo_syntax.specs.Low.{Commands, Write, NoCommand, MoreCommand}
use Rattle.homeo_plan.specs.declared.forms.Delta as forms
use Rattle.homeo_plan.specs.declared.forms.Term.{Term}
use Rattle.homeo_plan.specs.Each.{Each}
use Rattle.homeo_plan.specs.Linear.{delta_of, same_delta}
use Rattle.homeo_plan.specs.Template.{Clause, Template}
use Rattle.homeo_outline.specs.Numbers.{numbers_where}
use Rattle.homeo_effect.specs.Key.{definitions}

-- the delta that a name stands for, in front of others
abbrev pub with_delta : SplitName → List forms.Delta → List forms.Delta
unfolding definitions
with_delta (Whole x) ds = ds
with_delta (Base x) ds = ds
with_delta (Delta x j) ds = delta_of x j ∷ ds

-- the deltas that commands write, in their order
abbrev pub written : Commands → List forms.Delta
unfolding definitions
written NoCommand = []
written (MoreCommand (Write x e) cs) = with_delta x (written cs)
written (MoreCommand c cs) = written cs

-- each delta that is written is one of site i
abbrev pub WritesOwn : ℕ → Commands → Type 0
unfolding definitions
WritesOwn i cs = Each (λ d. d.site ≡ i) (written cs)

-- the delta is among others
abbrev pub is_among : List forms.Delta → forms.Delta → Bool
unfolding definitions
is_among ds d = list_any (same_delta d) ds

-- one of the terms is on one of the deltas
abbrev pub are_on : List forms.Delta → List Term → Bool
unfolding definitions
are_on ds ts = list_any (λ t. is_among ds t.delta) ts

-- the clause has a term on one of the deltas
abbrev pub is_touched : List forms.Delta → Clause → Bool
unfolding definitions
is_touched ds c = are_on ds c.terms

-- the numbers of the clauses with a term on one of the deltas
abbrev pub touched_clauses : List forms.Delta → Template → List ℕ
unfolding definitions
touched_clauses ds t = numbers_where (is_touched ds) 0 t.clauses

-- the numbers of the freezes that are among the deltas: they go on after those of the clauses
abbrev pub touched_freezes : List forms.Delta → Template → List ℕ
unfolding definitions
touched_freezes ds t = numbers_where (is_among ds) (length t.clauses) t.freezes

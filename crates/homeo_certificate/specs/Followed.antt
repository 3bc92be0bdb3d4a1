-- Following a call: the branch that its command takes where all deltas are 0, with the form of what stands at each place, and
-- what is at fault on the way.
use Rattle.std.specs.Prelude.{ℕ, ◌==◌, Bool, ◌&&◌, cond, List, [], ◌∷◌, ◌++◌, ℤ, neg_ℤ, int_le}
use Rattle.std.specs.List.{list_any, list_all, flat_map}
use Rattle.homeo_syntax.specs.declared.low.SplitName.{SplitName}
use Rattle.homeo_syntax.specs.declared.low.SplitName.TheVariants as split
use Rattle.homeo_syntax.specs.Low.{Command, Commands, Skip, Assign, Write, Print, Seq, If, NoCommand, MoreCommand}
use Rattle.homeo_meaning.specs.LowMeaning.{TempAt, DeltaAt, location_of, put, holds}
use Rattle.homeo_meaning.specs.Small.{is_small}
use Rattle.homeo_plan.specs.declared.forms.Delta.{Delta}
use Rattle.homeo_plan.specs.Limit.{form_limit}
use Rattle.homeo_plan.specs.Linear.{same_delta, Linear, is_empty, support, Forms, base_forms, form}
use Rattle.homeo_plan.specs.Needs.{remote, add_written}
use Rattle.homeo_plan.specs.Template.{Clause, same_terms}
use Rattle.homeo_certificate.specs.declared.fault.Fault.{Fault}
use Rattle.homeo_certificate.specs.declared.fault.Fault.TheVariants.{TooLarge, NotFrozen, NoClause, ForeignWrite}
use Rattle.homeo_certificate.specs.Key.{definitions}
use Rattle.homeo_certificate.specs.Certificate.{Call, Certificate, base_of}
use Rattle.homeo_certificate.specs.Met.{numbers, at_zero, met, met_in_cond}
use Rattle.homeo_certificate.specs.Kept.{Atom, gap, form_of, kept}

-- what faults are asked against: the site of the call, and what the treaties ask
pub record Rules : Type 0 where
  pub site : ℕ
  pub clauses : List Clause
  pub freezes : List Delta

-- ---- the faults of one step
-- a number above 4 * 10^18 in size
abbrev pub too_large : List ℤ → List Fault
unfolding definitions
too_large ns = cond (list_all (is_small form_limit) ns) [] (TooLarge ∷ [])

-- each of the deltas that isn't frozen
abbrev pub not_frozen : Rules → List Delta → List Fault
unfolding definitions
not_frozen r ds = flat_map (λ d. cond (list_any (same_delta d) r.freezes) [] (NotFrozen d ∷ [])) ds

-- a clause keeps a form at most 0: it has the form's terms, and a slack of at most its negated constant
abbrev pub keeps : Linear → Clause → Bool
unfolding definitions
keeps a c = same_terms a.terms c.terms && int_le c.slack (neg_ℤ a.constant)

-- a form with terms that no clause keeps
abbrev pub no_clause : Rules → Linear → List Fault
unfolding definitions
no_clause r a = cond (is_empty a.terms) [] (cond (list_any (keeps a) r.clauses) [] (NoClause ∷ []))

-- an atom's size, then its mixed deltas, then its clause
abbrev pub atom_faults : Rules → Atom → List Fault
unfolding definitions
atom_faults r a =
    too_large (numbers (gap a) ++ numbers (form_of a))
    ++ (not_frozen r (form_of a).mixed ++ no_clause r (form_of a))

-- the deltas of other sites that a form has
abbrev pub remote_deltas : Rules → Linear → List Delta
unfolding definitions
remote_deltas r a = remote r.site (support a)

-- a write to anything but a delta of the call's site
abbrev pub foreign : Rules → SplitName → List Fault
unfolding definitions
foreign r (split.Whole x) = ForeignWrite ∷ []
foreign r (split.Base x) = ForeignWrite ∷ []
foreign r (split.Delta x j) = cond (j == r.site) [] (ForeignWrite ∷ [])

-- ---- commands
abbrev mutual
  unfolding definitions

  -- the forms after a command
  pub forms_after : Command → Forms → Forms
  forms_after Skip f = f
  forms_after (Assign t e) f = put f (TempAt t) (form f e)
  forms_after (Write x e) f = put f (location_of x) (form f e)
  forms_after (Print e) f = f
  forms_after (Seq cs) f = forms_after_all cs f
  forms_after (If b c d) f = cond (holds b (at_zero f)) (forms_after c f) (forms_after d f)

  pub forms_after_all : Commands → Forms → Forms
  forms_after_all NoCommand f = f
  forms_after_all (MoreCommand c cs) f = forms_after_all cs (forms_after c f)

abbrev mutual
  unfolding definitions

  -- the deltas written after a command, where ds were before
  pub written : Command → Forms → List Delta → List Delta
  written Skip f ds = ds
  written (Assign t e) f ds = ds
  written (Write x e) f ds = add_written x ds
  written (Print e) f ds = ds
  written (Seq cs) f ds = all_written cs f ds
  written (If b c d) f ds = cond (holds b (at_zero f)) (written c f ds) (written d f ds)

  pub all_written : Commands → Forms → List Delta → List Delta
  all_written NoCommand f ds = ds
  all_written (MoreCommand c cs) f ds = all_written cs (forms_after c f) (written c f ds)

abbrev mutual
  unfolding definitions

  -- the faults of a command, in the order in which they are met
  pub faults : Rules → Command → Forms → List Fault
  faults r Skip f = []
  faults r (Assign t e) f = too_large (met f e)
  faults r (Write x e) f = foreign r x ++ too_large (met f e)
  faults r (Print e) f = too_large (met f e) ++ not_frozen r (remote_deltas r (form f e))
  faults r (Seq cs) f = all_faults r cs f
  faults r (If b c d) f =
      too_large (met_in_cond f b)
      ++ (flat_map (atom_faults r) (kept f b) ++ cond (holds b (at_zero f)) (faults r c f) (faults r d f))

  pub all_faults : Rules → Commands → Forms → List Fault
  all_faults r NoCommand f = []
  all_faults r (MoreCommand c cs) f = faults r c f ++ all_faults r cs (forms_after c f)

-- ---- calls
-- what a certificate asks of a call
abbrev pub rules_of : Certificate → Call → Rules
unfolding definitions
rules_of c g = record { site = g.site; clauses = c.clauses; freezes = c.freezes }

-- the faults of a call: of its command, and then, delta by delta, of what it wrote
abbrev pub call_faults : Certificate → Call → List Fault
unfolding definitions
call_faults c g =
    faults (rules_of c g) g.command (base_forms (base_of c))
    ++ flat_map (λ d. not_frozen (rules_of c g) (remote_deltas (rules_of c g) (forms_after g.command (base_forms (base_of c)) (DeltaAt d.object d.site))))
    (written g.command (base_forms (base_of c)) [])

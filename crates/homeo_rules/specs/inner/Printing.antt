-- Counting print commands, up to a cap.
use Rattle.std.specs.Prelude.{ℕ, ℤ, ◌+◌, nat_lt, min, List, [], ◌∷◌, Option, Some, slice_index}
use Rattle.homeo_syntax.specs.Source as s
use Rattle.homeo_syntax.specs.SourceView.{plain_transaction}
use Rattle.homeo_syntax.specs.declared.workload.Transaction.{Transaction}
use Rattle.homeo_meaning.specs.Bindings.{Scope}
use Rattle.homeo_meaning.specs.GlobalNames as g
use Rattle.homeo_meaning.specs.LowSizes.{prints_in}
use Rattle.homeo_meaning.specs.NameRules.{when, fault}
use Rattle.homeo_meaning.specs.CallForm.{body_form, call_form}
use Rattle.homeo_meaning.specs.SizeRules.{prints_too_much}
use Rattle.homeo_rules.specs.inner.Deciding.{keep_all}
use Rattle.homeo_meaning.specs.declared.rules.Fault.{Fault}
use Rattle.homeo_meaning.specs.declared.rules.Item.{Item}
use Rattle.homeo_meaning.specs.declared.rules.Item.TheVariants as I
use Rattle.homeo_meaning.specs.declared.rules.Phase.TheVariants.{Size}
use Rattle.homeo_ground.specs.declared.sited.SitedCall.{SitedCall}

-- of a transaction of the workload, with these arguments
abbrev pub capped_prints : s.Workload → List ℤ → Transaction → ℕ
capped_prints w args t = min 1000001 (prints_in (body_form w (Some (plain_transaction t)) args))

-- the rule of prints, of the workload's calls
abbrev pub prints_too_much_in : s.Workload → List g.SitedCall → g.SitedCall → List Fault
prints_too_much_in w = prints_too_much (λ c. prints_in (call_form w c))

-- of what a name stands for, by the counts of the transactions
abbrev pub counted_prints : List ℕ → Option Item → ℕ
counted_prints counts (Some (I.Transaction k)) = slice_index counts k
counted_prints counts _ = 0

-- the print commands of the calls so far, and the fault that decides
pub record Printed : Type 0 where
  pub total : ℕ
  pub best : Option Fault

abbrev pub print_one : Scope → List ℕ → Printed → SitedCall → Printed
print_one s counts t c = record {
  total = min 1000001 (t.total + counted_prints counts (s.item c.name.name));
  best = keep_all t.best (when (nat_lt 1000000 (min 1000001 (t.total + counted_prints counts (s.item c.name.name)))) (fault Size c.name));
}

abbrev pub print_all : Scope → List ℕ → Printed → List SitedCall → Printed
print_all s counts t [] = t
print_all s counts t (c ∷ cs) = print_all s counts (print_one s counts t c) cs

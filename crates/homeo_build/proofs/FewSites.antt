-- An accepted workload has from 1 to 16 sites.
use Rattle.std.proofs.Common.{◌≡◌, ◌≤◌, Bool, true, false, ◌||◌, [], ℤ, pos, negsuc, int_lt, ◌≤ℤ◌, to_z, of_z, refl, sym, ap, subst, ◌∙◌, arith}
use mir.Syntax.{w64}
use Rattle.std.proofs.lemmas.Int.{ints, fits_signed_from_abs, to_z-of_z}
use Rattle.homeo_syntax.specs.Source as s
use Rattle.homeo_syntax.specs.Key.{definitions as syntax_definitions}
use Rattle.homeo_syntax.specs.SourceView.{plain_workload}
use Rattle.homeo_syntax.specs.declared.phrase.Number.{Number}
use Rattle.homeo_syntax.specs.declared.workload.Workload.{Workload}
use Rattle.homeo_meaning.specs.Key.{definitions as meaning_definitions}
use Rattle.homeo_meaning.specs.Acceptance.{IsAccepted}
use Rattle.homeo_meaning.specs.ListRules.{when, number_fault}
use Rattle.homeo_meaning.specs.NumberRules.{site_count_faults}
use Rattle.homeo_meaning.specs.Schema.{nat_of}
use Rattle.homeo_meaning.specs.declared.call.Purpose.TheVariants.{Run}
use Rattle.homeo_meaning.specs.declared.rules.Phase.TheVariants.{Limits}
use Rattle.homeo_meaning.proofs.FaultParts.{NoFault, parts, limit_parts}
use Rattle.homeo_plan.specs.Key.{definitions as plan_definitions}
use Rattle.homeo_plan.specs.Planned.{sites_of}

pub record IsFew (n : ℤ) : Type 0 where
  pub some : pos 1 ≤ℤ n
  pub few : n ≤ℤ pos 16

few_number : (n : Number) → site_count_faults n ≡ [] → IsFew n.value
unfolding meaning_definitions
few_number n none = go (int_lt n.value (pos 1)) (int_lt (pos 16) n.value) refl refl none
  where
    go :
        (a b : Bool) → int_lt n.value (pos 1) ≡ a → int_lt (pos 16) n.value ≡ b →
        when (a || b) (number_fault Limits n) ≡ [] → IsFew n.value
    go true b p q e = absurd (cc)
    go false true p q e = absurd (cc)
    go false false p q e = record { some = omega (arith, ints, p); few = omega (arith, ints, q) }

pub few_sites : (w : s.Workload) → IsAccepted w → IsFew w.sites.value
few_sites w accepted =
    let p : NoFault Run w = parts Run w accepted.rules in few_number w.sites (limit_parts w p.text.limits).sites

pub record CountsFew (n : ℤ) : Type 0 where
  pub some : 1 ≤ nat_of n
  pub few : nat_of n ≤ 16

pub count_few : (n : ℤ) → IsFew n → CountsFew n
count_few (pos n) h = record { some = omega (arith, ints, h.some); few = omega (arith, ints, h.few) }
count_few (negsuc n) h = absurd (omega (arith, ints, h.some))

pub sites_few : (w : s.Workload) → IsAccepted w → CountsFew w.sites.value
sites_few w accepted = count_few w.sites.value (few_sites w accepted)

-- ---- the number as the code reads it
read : (n : ℤ) → IsFew n → to_z w64 (of_z w64 n) ≡ n
read n h = to_z-of_z w64 n (fits_signed_from_abs w64 n (omega (arith, ints, h.some, h.few)))

module _ (w lent : Workload) (same : lent ≡ w) (accepted : IsAccepted (plain_workload w)) where
  lent_few : IsFew lent.sites.value
  unfolding syntax_definitions
  lent_few = subst (λ (v : Workload). IsFew v.sites.value) (sym same) (few_sites (plain_workload w) accepted)

  pub read_few : IsFew (to_z w64 (of_z w64 lent.sites.value))
  read_few = subst IsFew (sym (read lent.sites.value lent_few)) lent_few

  pub read_is : nat_of (to_z w64 (of_z w64 lent.sites.value)) ≡ sites_of (plain_workload w)
  unfolding syntax_definitions plan_definitions
  read_is = ap nat_of (read lent.sites.value lent_few) ∙ ap (λ (v : Workload). nat_of v.sites.value) same

  pub some_sites : 1 ≤ sites_of (plain_workload w)
  unfolding plan_definitions
  some_sites = (sites_few (plain_workload w) accepted).some

-- The residual of an accepted workload's ground call has no more commands than its L form is large.
use Rattle.homeo_meaning.specs.Key.{definitions as meaning_definitions}
use Rattle.homeo_plan.specs.Key.{definitions as plan_definitions}
use Rattle.homeo_build.specs.Key.{definitions}
use Rattle.std.proofs.Common.{◌≡◌, ℕ, zero, suc, ◌+◌, ◌≤◌, Bool, true, false, cond, List, [], ◌∷◌, map, length, ℤ, Some, refl, ap, subst, arith}
use Rattle.std.specs.Prelude.{slice_get}
use Rattle.std.proofs.lemmas.List.{length-map}
use Rattle.homeo_syntax.specs.Key.{definitions as syntax_definitions}
use Rattle.homeo_syntax.specs.declared.low.SplitName.TheVariants.{Whole, Base, Delta}
use Rattle.homeo_syntax.specs.Low.{Command, Commands, Skip, Assign, Write, Print, Seq, If, NoCommand, MoreCommand}
use Rattle.homeo_syntax.specs.LowView.{low_commands, plain_lcommand}
use Rattle.homeo_syntax.specs.Source as s
use Rattle.homeo_meaning.specs.Acceptance.{IsAccepted}
use Rattle.homeo_meaning.specs.LowMeaning.{Location, State, holds, exec, whole}
use Rattle.homeo_meaning.specs.LowSizes.{Extent, command_extent, commands_extent, tests_extent, first_extents}
use Rattle.homeo_meaning.specs.LowSizes as sizes
use Rattle.homeo_meaning.specs.Serial.{values_of}
use Rattle.homeo_plan.specs.declared.rows.Residual.{Residual}
use Rattle.homeo_plan.specs.Each.{Each}
use Rattle.homeo_plan.specs.Planned.{sites_of, planned}
use Rattle.homeo_plan.specs.Split.{shift, shift_all, shift_cond}
use Rattle.homeo_plan.specs.Table.{Row, test_before, otherwise, last_row, walk_before, walk_all_before}
use Rattle.homeo_plan.specs.Template.{PlannedCall, shifted, base_row}
use Rattle.homeo_plan.proofs.Tables.{row_at_walk}
use Rattle.homeo_build.specs.Plan.{SitedResidual, sited_residual, residual_at, residuals_at}
use Rattle.homeo_build.proofs.SizedCalls.{size_of, AreSmall, planned_small}

abbrev count : Commands → ℕ
count NoCommand = 0
count (MoreCommand c cs) = 1 + count cs

count_all : (cs : List Command) → count (low_commands cs) ≡ length cs
unfolding syntax_definitions
count_all [] = refl
count_all (c ∷ cs) = omega (arith, count_all cs)

-- ---- rows
module _ (k i : ℕ) where
  mutual
    unfolding plan_definitions meaning_definitions

    short : (c : Command) (v : Location → Extent) (s : State) (r : Row) →
        count (walk_before (shift k i c) s r).residual ≤ (command_extent k c v).size + count r.residual
    short Skip v s r = omega arith
    short (Assign t e) v s r = omega arith
    short (Write (Whole x) e) v s r = omega arith
    short (Write (Base x) e) v s r = omega arith
    short (Write (Delta x j) e) v s r = omega arith
    short (Print e) v s r = omega arith
    short (Seq cs) v s r = omega (arith, short_all cs v s r)
    short (If b c d) v s r = go (holds (shift_cond k b) s) (short c v s r) (short d v s r)
      where
        go :
            (u : Bool) → count (walk_before (shift k i c) s r).residual ≤ (command_extent k c v).size + count r.residual →
            count (walk_before (shift k i d) s r).residual ≤ (command_extent k d v).size + count r.residual →
            count (cond u (test_before (shift_cond k b) (walk_before (shift k i c) s r)) (test_before (otherwise (shift_cond k b)) (walk_before (shift k i d) s r))).residual ≤
            (2 + ((1 + (tests_extent b v).size) + ((command_extent k c v).size + (command_extent k d v).size))) + count r.residual
        go true h g = omega (arith, h)
        go false h g = omega (arith, g)

    short_all : (cs : Commands) (v : Location → Extent) (s : State) (r : Row) →
        count (walk_all_before (shift_all k i cs) s r).residual ≤ (commands_extent k cs v).size + count r.residual
    short_all NoCommand v s r = omega arith
    short_all (MoreCommand c cs) v s r =
        let after = (exec (shift k i c) s).state in
        omega (arith, short c v s (walk_all_before (shift_all k i cs) after r), short_all cs (sizes.after k c v) after r)

module _ (k : ℕ) (b : ℕ → ℤ) where
  row_short : (g : PlannedCall) → count (base_row k b g).residual ≤ size_of k g
  unfolding plan_definitions meaning_definitions
  row_short g =
      let walked = ap (λ (r : Row). count r.residual) (row_at_walk (shifted k g) (whole b) (λ t. refl)) in
      omega (arith, walked, short k g.site g.command (first_extents k) (whole b) last_row)

  -- ---- the residual of a number
  short_at :
      (most : ℕ) (gs : List PlannedCall) (n : ℕ) (q : SitedResidual) → Each (λ g. size_of k g ≤ most) gs →
      slice_get (map (residual_at k b) gs) n ≡ Some q → count q.residual ≤ most
  unfolding definitions plan_definitions
  short_at most [] n q h e = cc
  short_at most (g ∷ gs) zero q h e =
      let is : residual_at k b g ≡ q = cc in
      subst (λ (u : SitedResidual). count u.residual ≤ most) is (omega (arith, row_short g, h.0))
  short_at most (g ∷ gs) (suc n) q h e = short_at most gs n q h.1 e

pub residuals_short :
    (w : s.Workload) (base : List ℤ) (n : ℕ) (r : Residual) → IsAccepted w → slice_get (residuals_at w base) n ≡ Some (sited_residual r) →
    length r.commands.items ≤ 200000
unfolding definitions
residuals_short w base n r accepted found =
    let small : AreSmall w = planned_small w accepted in
    let counted = short_at (sites_of w) (values_of base) 200000 (planned w) n (sited_residual r) small.each found in
    omega (arith, counted, count_all (map plain_lcommand r.commands.items), length-map r.commands.items plain_lcommand)

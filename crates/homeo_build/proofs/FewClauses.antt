-- The template of an accepted workload has few clauses: at most two for each comparison of its ground calls.
use Rattle.homeo_meaning.specs.Key.{definitions as meaning_definitions}
use Rattle.homeo_plan.specs.Key.{definitions as plan_definitions}
use Rattle.homeo_follow.specs.Key.{definitions as follow_definitions}
use Rattle.std.proofs.Common.{ℕ, ◌+◌, ◌*◌, ◌<◌, ◌≤◌, Bool, true, false, cond, List, [], ◌∷◌, ◌++◌, map, length, ℤ, int_lt, ap, ◌∙◌, arith, length-append}
use Rattle.std.specs.List.{list_any, sum_by}
use Rattle.std.proofs.lemmas.List.{length-map}
use Rattle.std.proofs.lemmas.List.Sums.{sum_by-cons}
use Rattle.homeo_syntax.specs.Source as s
use Rattle.homeo_syntax.specs.declared.phrase.Compare.{Compare}
use Rattle.homeo_syntax.specs.declared.phrase.Compare.TheVariants.{Less, LessEqual, Equal}
use Rattle.homeo_syntax.specs.Low.{Test, Cond, True, Not, Comparison, NoTest, MoreTest, Command, Commands, Skip, Assign, Write, Print, Seq, If, NoCommand, MoreCommand}
use Rattle.homeo_meaning.specs.Acceptance.{IsAccepted}
use Rattle.homeo_meaning.specs.Ground.{Ground, grounds}
use Rattle.homeo_meaning.specs.LowMeaning.{Location}
use Rattle.homeo_meaning.specs.LowSizes.{Extent, test_extent, tests_extent, command_extent, commands_extent, first_extents}
use Rattle.homeo_meaning.specs.LowSizes as sizes
use Rattle.homeo_meaning.specs.Serial.{values_of}
use Rattle.homeo_meaning.specs.Whole.{IsWhole}
use Rattle.homeo_lform.proofs.Wholes.{ground_whole}
use Rattle.homeo_plan.specs.Atoms.{true_comparison, false_comparison}
use Rattle.homeo_plan.specs.Each.{Each}
use Rattle.homeo_plan.specs.Linear.{Linear, Forms, form, is_empty}
use Rattle.homeo_plan.specs.Planned.{sites_of, planned_call, planned, template_at}
use Rattle.homeo_plan.specs.Template.{PlannedCall, atoms_of, Clause, clause_of, same_clause, with_clause, clauses_from, atoms_of_sets}
use Rattle.homeo_plan.proofs.PlannedCalls.{all_sites_below}
use Rattle.homeo_follow.specs.Expanded.{expanded}
use Rattle.homeo_follow.specs.Follow.{passes_by, holds_by, passed_test, failed_test, passed, failed, asked, follow, follow_all, object_forms, followed}
use Rattle.homeo_follow.proofs.PlannedAtoms.{atoms_are_followed}
use Rattle.homeo_build.proofs.SizedCalls.{size_of, AreSmall, planned_small}

-- ---- the atoms of a command that is followed
true_few : (op : Compare) (a b : Linear) → length (true_comparison op a b) ≤ 2
unfolding plan_definitions
true_few Less a b = omega arith
true_few LessEqual a b = omega arith
true_few Equal a b = omega arith

false_few : (op : Compare) (v : Bool) (a b : Linear) → length (false_comparison op v a b) ≤ 2
unfolding plan_definitions
false_few Less v a b = omega arith
false_few LessEqual v a b = omega arith
false_few Equal v a b = omega arith

module _ (f : Forms) (v : Location → Extent) where
  mutual
    unfolding meaning_definitions follow_definitions

    passed_test_few : (t : Test) → length (passed_test f t) ≤ 2 * (test_extent t v).size
    passed_test_few True = omega arith
    passed_test_few (Not c) = omega (arith, failed_few c)
    passed_test_few (Comparison op x y) = omega (arith, true_few op (form f x) (form f y))

    failed_test_few : (t : Test) → length (failed_test f t) ≤ 2 * (test_extent t v).size
    failed_test_few True = omega arith
    failed_test_few (Not c) = omega (arith, passed_few c)
    failed_test_few (Comparison op x y) =
        omega (arith, false_few op (int_lt (form f x).constant (form f y).constant) (form f x) (form f y))

    passed_few : (c : Cond) → length (passed f c) ≤ 2 * (tests_extent c v).size
    passed_few NoTest = omega arith
    passed_few (MoreTest t c) =
        omega (arith, length-append (passed_test f t) (passed f c), passed_test_few t, passed_few c)

    failed_few : (c : Cond) → length (failed f c) ≤ 2 * (tests_extent c v).size
    failed_few NoTest = omega arith
    failed_few (MoreTest t c) = go (passes_by f t) (failed_few c) (failed_test_few t)
      where
        go :
            (b : Bool) → length (failed f c) ≤ 2 * (tests_extent c v).size → length (failed_test f t) ≤ 2 * (test_extent t v).size →
            length (cond b (failed f c) (failed_test f t)) ≤ 2 * ((test_extent t v).size + (tests_extent c v).size)
        go true h g = omega (arith, h)
        go false h g = omega (arith, g)

module _ (k : ℕ) where
  mutual
    unfolding meaning_definitions follow_definitions

    atoms_few : (c : Command) (f : Forms) (v : Location → Extent) → length (follow c f).atoms ≤ 2 * (command_extent k c v).size
    atoms_few Skip f v = omega arith
    atoms_few (Assign t e) f v = omega arith
    atoms_few (Write x e) f v = omega arith
    atoms_few (Print e) f v = omega arith
    atoms_few (Seq cs) f v = omega (arith, all_atoms_few cs f v)
    atoms_few (If b c d) f v = go (holds_by f b) (atoms_few c f v) (atoms_few d f v)
      where
        go :
            (u : Bool) → length (follow c f).atoms ≤ 2 * (command_extent k c v).size →
            length (follow d f).atoms ≤ 2 * (command_extent k d v).size →
            length (cond u (asked (passed f b) (follow c f)) (asked (failed f b) (follow d f))).atoms ≤
            2 * (2 + ((1 + (tests_extent b v).size) + ((command_extent k c v).size + (command_extent k d v).size)))
        go true h g = omega (arith, length-append (passed f b) (follow c f).atoms, passed_few f v b, h)
        go false h g = omega (arith, length-append (failed f b) (follow d f).atoms, failed_few f v b, g)

    all_atoms_few :
        (cs : Commands) (f : Forms) (v : Location → Extent) → length (follow_all cs f).atoms ≤ 2 * (commands_extent k cs v).size
    all_atoms_few NoCommand f v = omega arith
    all_atoms_few (MoreCommand c cs) f v =
        omega (
          arith,
          length-append (follow c f).atoms (follow_all cs (follow c f).forms).atoms,
          atoms_few c f v,
          all_atoms_few cs (follow c f).forms (sizes.after k c v),
        )

-- ---- the clauses of atoms
with_few : (cs : List Clause) (a : Linear) → length (with_clause cs a) ≤ length cs + 1
unfolding plan_definitions
with_few cs a = go (is_empty a.terms) (list_any (same_clause (clause_of a)) cs)
  where
    go : (u v : Bool) → length (cond u cs (cond v cs (cs ++ clause_of a ∷ []))) ≤ length cs + 1
    go true v = omega arith
    go false true = omega arith
    go false false = omega (arith, length-append cs (clause_of a ∷ []))

clauses_from_few : (cs : List Clause) (atoms : List Linear) → length (clauses_from cs atoms) ≤ length cs + length atoms
unfolding plan_definitions
clauses_from_few cs [] = omega arith
clauses_from_few cs (a ∷ atoms) = omega (arith, with_few cs a, clauses_from_few (with_clause cs a) atoms)

-- ---- ground calls
-- at a site of k, over whole objects
abbrev pub IsSited : ℕ → PlannedCall → Type 0
IsSited k g = (g.site < k) × IsWhole g.command

pub planned_sited : (w : s.Workload) → IsAccepted w → Each (IsSited (sites_of w)) (planned w)
unfolding plan_definitions
planned_sited w accepted = go (grounds w) (all_sites_below w accepted)
  where
    go :
        (gs : List Ground) → Each (λ (g : PlannedCall). g.site < sites_of w) (map (planned_call w) gs) →
        Each (IsSited (sites_of w)) (map (planned_call w) gs)
    go [] h = tt
    go (g ∷ gs) h = ((h.0, ground_whole w g), go gs h.1)

module _ (k : ℕ) (b : ℕ → ℤ) where
  call_few : (g : PlannedCall) → IsSited k g → length (atoms_of k b g) ≤ 2 * size_of k g
  unfolding meaning_definitions follow_definitions
  call_few g h =
      let same = ap length (atoms_are_followed k b g h.0 h.1) ∙ length-map (followed b g.command).atoms (expanded k) in
      omega (arith, same, atoms_few k g.command (object_forms b) (first_extents k))

  sets_few :
      (gs : List PlannedCall) → Each (IsSited k) gs → length (atoms_of_sets (map (atoms_of k b) gs)) ≤ 2 * sum_by (size_of k) gs
  unfolding plan_definitions
  sets_few [] h = omega arith
  sets_few (g ∷ gs) h =
      omega (
        arith,
        length-append (atoms_of k b g) (atoms_of_sets (map (atoms_of k b) gs)),
        call_few g h.0,
        sets_few gs h.1,
        sum_by-cons (size_of k) g gs,
      )

pub clauses_few : (w : s.Workload) (base : List ℤ) → IsAccepted w → length (template_at w base).clauses ≤ 4000000
unfolding plan_definitions
clauses_few w base accepted =
    let small : AreSmall w = planned_small w accepted in
    let together = small.together in
    let sets = sets_few (sites_of w) (values_of base) (planned w) (planned_sited w accepted) in
    let all = clauses_from_few [] (atoms_of_sets (map (atoms_of (sites_of w) (values_of base)) (planned w))) in
    omega (arith, all, sets, together)

-- Where every site keeps its treaty, a call does on the whole split database what its local step does.
use Rattle.homeo_meaning.specs.Key.{definitions as meaning_definitions}
use Rattle.homeo_plan.specs.Key.{definitions}
use Rattle.std.proofs.Common.{◌≡◌, ℕ, ◌==◌, ◌<◌, nat_lt, Bool, true, false, cond, List, [], ◌∷◌, ℤ, pos, refl, sym, ap, ◌∙◌, subst, arith}
use Rattle.std.proofs.lemmas.Bool.Decides.{nat_tests}
use Rattle.homeo_meaning.specs.LowMeaning.{DeltaAt, Run, holds, exec, exec_all, whole}
use Rattle.homeo_plan.specs.Each.{Each, Member}
use Rattle.homeo_meaning.specs.Whole.{IsWhole}
use Rattle.homeo_plan.specs.Joined.{Deltas, join, alone}
use Rattle.homeo_plan.specs.Table.{Row, walk}
use Rattle.homeo_plan.specs.declared.forms.Delta.{Delta}
use Rattle.homeo_plan.specs.Linear.{Linear, is_empty, IsZeroAt}
use Rattle.homeo_plan.specs.Needs.{IsStraight}
use Rattle.homeo_plan.specs.Holding.{IsOn, ZeroInBoth, SameOwn}
use Rattle.homeo_plan.specs.Template.{PlannedCall, shifted, base_row, atoms_of, needs_of, clause_of, Template, Covers}
use Rattle.homeo_plan.specs.Config.{Config, Fits}
use Rattle.homeo_plan.specs.Treaty.{Treaty}
use Rattle.homeo_plan.specs.Local.{local_run}
use Rattle.homeo_plan.specs.Soundness.{IsLocallySound}
use Rattle.homeo_plan.proofs.Shift.{shift_follows}
use Rattle.homeo_plan.proofs.Tables.{row_at_walk, walk_residual, row_is_unique, walk_holds}
use Rattle.homeo_plan.proofs.Atoms.{true_cond_holds, true_cond_below}
use Rattle.homeo_plan.proofs.Needs.{residual_same}
use Rattle.homeo_plan.proofs.Straight.{walk_straight}
use Rattle.homeo_plan.proofs.SiteSums.{clauses_hold, freezes_hold}
use Rattle.homeo_plan.specs.Tracking.{ClauseHolds}
use Rattle.homeo_plan.proofs.Covering.{atoms_hold, each_member, each_map}

pub join_is_on : (k : ℕ) (b : ℕ → ℤ) (d : ℕ → Deltas) → IsOn b (join k b d)
unfolding definitions meaning_definitions
join_is_on k b d = record { bases = λ x. refl; temps = λ t. refl }

alone_is_on : (b : ℕ → ℤ) (i : ℕ) (x : Deltas) → IsOn b (alone b i x)
unfolding definitions meaning_definitions
alone_is_on b i x = record { bases = λ y. refl; temps = λ t. refl }

module _
    (k : ℕ) (b : ℕ → ℤ) (t : Template) (bounds : Config) (d : ℕ → Deltas) (fits : Fits k t.clauses bounds)
    (keeps : (i : ℕ) → i < k → Treaty t bounds i (d i)) (g : PlannedCall) (covers : Covers t k b g) (lt : g.site < k)
    (w : IsWhole g.command)
  where
    all_frozen : Each (IsZeroAt (join k b d)) t.freezes
    unfolding definitions meaning_definitions
    all_frozen = freezes_hold k b d t.freezes (λ i l. (keeps i l).freezes)

    frozen_among : (ds : List Delta) → Each (λ d. Member d t.freezes) ds → Each (IsZeroAt (join k b d)) ds
    unfolding definitions meaning_definitions
    frozen_among ds h = each_map _ (IsZeroAt (join k b d)) (λ e m. each_member (IsZeroAt (join k b d)) e t.freezes all_frozen m) ds h

    base_is_walk : base_row k b g ≡ walk (shifted k g) (whole b)
    unfolding definitions meaning_definitions
    base_is_walk = row_at_walk (shifted k g) (whole b) (λ t. refl)

    formula_at_base : holds (base_row k b g).formula (whole b) ≡ true
    unfolding definitions meaning_definitions
    formula_at_base =
        ap (λ (r : Row). holds r.formula (whole b)) base_is_walk ∙ walk_holds (shifted k g) (whole b) (λ t. refl)

    formula_holds : holds (base_row k b g).formula (join k b d) ≡ true
    unfolding definitions meaning_definitions
    formula_holds =
        let cs = clauses_hold k b d t.clauses bounds fits (λ i l. (keeps i l).clauses) in
        let own =
        each_map _ (λ (a : Linear). is_empty a.terms ≡ false → ClauseHolds (join k b d) (clause_of a))
        (λ a f e. each_member (ClauseHolds (join k b d)) (clause_of a) t.clauses cs (f e)) (atoms_of k b g) covers.clauses in
        let low = true_cond_below b (base_row k b g).formula formula_at_base in
        let z = each_map _ (λ (a : Linear). Each (IsZeroAt (join k b d)) a.mixed) (λ a f. frozen_among a.mixed f) (atoms_of k b g) covers.mixed in
        true_cond_holds b (join k b d) (join_is_on k b d) (base_row k b g).formula formula_at_base (atoms_hold (join k b d) (atoms_of k b g) low own z)

    same_walk : walk (shifted k g) (join k b d) ≡ walk (shifted k g) (whole b)
    unfolding definitions meaning_definitions
    same_walk =
        row_is_unique (shifted k g) (whole b) (join k b d) (λ t. refl) (λ t. refl)
        (ap (λ (r : Row). holds r.formula (join k b d)) (sym base_is_walk) ∙ formula_holds)

    same_run : exec (shifted k g) (join k b d) ≡ exec_all (base_row k b g).residual (join k b d)
    unfolding definitions meaning_definitions
    same_run =
        sym (walk_residual (shifted k g) (join k b d)) ∙ ap (λ (r : Row). exec_all r.residual (join k b d)) (same_walk ∙ sym base_is_walk)

    own_same : (x : ℕ) → join k b d (DeltaAt x g.site) ≡ alone b g.site (d g.site) (DeltaAt x g.site)
    unfolding definitions meaning_definitions
    own_same x =
        let p : nat_lt g.site k ≡ true = grind (arith, nat_tests) in
        let q : (g.site == g.site) ≡ true = grind (arith, nat_tests) in
        ap (λ v. cond v (d g.site x) (pos 0)) (p ∙ sym q)

    zero_in_both : (ds : List Delta) → Each (IsZeroAt (join k b d)) ds → Each (ZeroInBoth (join k b d) (alone b g.site (d g.site))) ds
    unfolding definitions meaning_definitions
    zero_in_both [] h = tt
    zero_in_both (e ∷ ds) h = (record { here = h.0; there = go (e.site == g.site) refl }, zero_in_both ds h.1)
      where
        go : (v : Bool) → (e.site == g.site) ≡ v → cond v (d g.site e.object) (pos 0) ≡ pos 0
        go true q =
            let s : e.site ≡ g.site = grind (arith, nat_tests) in
            let p : nat_lt g.site k ≡ true = grind (arith, nat_tests) in
            ap (λ v. cond v (d g.site e.object) (pos 0)) (sym p) ∙ subst (λ j. join k b d (DeltaAt e.object j) ≡ pos 0) s h.0
        go false q = refl

    residual_straight : IsStraight (base_row k b g).residual
    unfolding definitions meaning_definitions
    residual_straight =
        subst (λ (r : Row). IsStraight r.residual) (sym base_is_walk) (walk_straight k g.site g.command (whole b) w)

    same_own : SameOwn g.site (exec_all (base_row k b g).residual (join k b d)) (local_run k b g (d g.site))
    unfolding definitions meaning_definitions
    same_own =
        residual_same g.site (join k b d) (alone b g.site (d g.site)) own_same b (base_row k b g).residual (join_is_on k b d)
        (alone_is_on b g.site (d g.site)) residual_straight
        (zero_in_both (needs_of k b g) (frozen_among (needs_of k b g) covers.needs))

    pub locally_sound : IsLocallySound k b d g
    unfolding definitions meaning_definitions
    locally_sound =
        record {
          row = row_at_walk (shifted k g) (join k b d) (λ t. refl) ∙ same_walk ∙ sym base_is_walk;
          prints = ap (λ (r : Run). r.prints) same_run ∙ same_own.prints;
          own = λ x. ap (λ (r : Run). r.state (DeltaAt x g.site)) same_run ∙ same_own.own_deltas x;
          kept = (shift_follows k g.site lt g.command (join k b d) w).kept;
        }

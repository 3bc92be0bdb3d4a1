-- Where the atoms of a command that is followed hold of a site's own deltas, the command runs the branches that are followed: each print,
-- and each object afterwards, is the value of its form.
use Rattle.homeo_meaning.specs.Key.{definitions as meaning_definitions}
use Rattle.homeo_plan.specs.Key.{definitions as plan_definitions}
use Rattle.homeo_follow.specs.Key.{definitions}
use Rattle.std.proofs.Common.{◌≡◌, ℕ, zero, suc, ◌==◌, ◌+◌, ◌<◌, ◌≤◌, Bool, true, false, cond, List, [], ◌∷◌, ◌++◌, map, ℤ, pos, ◌+ℤ◌, ◌*ℤ◌, ◌≤ℤ◌, refl, sym, ap, ap₂, ◌∙◌, subst, arith}
use Rattle.std.specs.List.{list_any}
use Rattle.std.proofs.lemmas.Int.{ints}
use Rattle.std.proofs.lemmas.Bool.{or_parts}
use Rattle.std.proofs.lemmas.List.Folds.{list_any-append}
use Rattle.std.proofs.lemmas.Bool.Decides.{nat_tests}
use Rattle.homeo_lemmas.proofs.Bools.{or_first}
use Rattle.homeo_syntax.specs.declared.low.SplitName.TheVariants.{Whole, Base, Delta}
use Rattle.homeo_syntax.specs.Low.{Command, Commands, Skip, Assign, Write, Print, Seq, If, NoCommand, MoreCommand}
use Rattle.homeo_meaning.specs.LowMeaning.{Location, TempAt, BaseAt, DeltaAt, State, Run, location_of, same_location, put, value, holds, exec, exec_all, whole}
use Rattle.homeo_meaning.specs.Whole.{IsWhole}
use Rattle.homeo_plan.specs.Config.{Config, Fits}
use Rattle.homeo_plan.specs.Each.{Each}
use Rattle.homeo_plan.specs.Holding.{AtomHolds}
use Rattle.homeo_plan.specs.Joined.{Deltas, join, alone}
use Rattle.homeo_plan.specs.Linear.{Linear, is_empty, Forms, form, terms_value, IsZeroAt}
use Rattle.homeo_plan.specs.Table.{Row, walk}
use Rattle.homeo_plan.specs.Template.{PlannedCall, shifted, base_row, atoms_of, clause_of, Template, Covers}
use Rattle.homeo_plan.specs.Tracking.{Is, ClauseHolds}
use Rattle.homeo_plan.specs.Treaty.{Treaty}
use Rattle.homeo_plan.specs.declared.forms.Delta as forms
use Rattle.homeo_plan.specs.declared.forms.Term.{Term}
use Rattle.homeo_plan.proofs.Atoms.{each_append, true_cond_below}
use Rattle.homeo_plan.proofs.Covering.{atoms_hold, each_member, each_map}
use Rattle.homeo_plan.proofs.OwnWithin.{only, only_keeps, alone_is_joined}
use Rattle.homeo_plan.proofs.SiteSums.{clauses_hold, freezes_hold}
use Rattle.homeo_plan.proofs.Tables.{row_at_walk, walk_holds}
use Rattle.homeo_follow.specs.Expanded.{terms_from, deltas_from, expanded_terms, expanded_deltas, expanded}
use Rattle.homeo_follow.specs.Follow.{own_state, holds_by, passed, failed, Followed, asked, object_forms, follow, follow_all, followed}
use Rattle.homeo_follow.proofs.Outcomes.{AllAre, value_is, passed_holds, failed_holds}
use Rattle.homeo_follow.proofs.PlannedAtoms.{atoms_are_followed}

-- ---- a site's own deltas
-- numbers that are the values of forms, in order
abbrev pub AreValues : Deltas → List Linear → List ℤ → Type 0
AreValues x [] [] = Unit {0}
AreValues x [] (n ∷ ns) = ⊥
AreValues x (a ∷ as') [] = ⊥
AreValues x (a ∷ as') (n ∷ ns) = Is a (own_state x) n × AreValues x as' ns

values_append : (x : Deltas) (as' cs : List Linear) (ns ms : List ℤ) → AreValues x as' ns → AreValues x cs ms → AreValues x (as' ++ cs) (ns ++ ms)
values_append x [] cs [] ms h k = k
values_append x [] cs (n ∷ ns) ms h k = absurd h
values_append x (a ∷ as') cs [] ms h k = absurd h
values_append x (a ∷ as') cs (n ∷ ns) ms h k = (h.0, values_append x as' cs ns ms h.1 k)

-- ---- a command, from forms whose values stand at all places
put_are :
    (x : Deltas) (f : Forms) (u : State) (p : Location) (a : Linear) (n : ℤ) → AllAre (own_state x) f u → Is a (own_state x) n → AllAre (own_state x) (put f p a) (put u p n)
unfolding meaning_definitions
put_are x f u p a n h k q = go (same_location p q)
  where
    go : (v : Bool) → Is (cond v a (f q)) (own_state x) (cond v n (u q))
    go true = k
    go false = h q

-- what is printed and left is the values of the forms that were followed
pub record RunsBy (x : Deltas) (q : Followed) (r : Run) : Type 0 where
  pub prints : AreValues x q.prints r.prints
  pub state : AllAre (own_state x) q.forms r.state

module _ (x : Deltas) where
  mutual
    unfolding definitions meaning_definitions

    pub runs : (c : Command) (f : Forms) (u : State) → AllAre (own_state x) f u → Each (AtomHolds (own_state x)) (follow c f).atoms → RunsBy x (follow c f) (exec c u)
    runs Skip f u h k = record { prints = tt; state = h }
    runs (Assign t e) f u h k = record { prints = tt; state = put_are x f u (TempAt t) (form f e) (value e u) h (value_is (own_state x) f u h e) }
    runs (Write n e) f u h k = record { prints = tt; state = put_are x f u (location_of n) (form f e) (value e u) h (value_is (own_state x) f u h e) }
    runs (Print e) f u h k = record { prints = (value_is (own_state x) f u h e, tt); state = h }
    runs (Seq cs) f u h k = runs_all cs f u h k
    runs (If b c d) f u h k = go (holds_by f b) refl (λ m. runs c f u h m) (λ m. runs d f u h m) k
      where
        go :
            (v : Bool) → holds_by f b ≡ v →
            (Each (AtomHolds (own_state x)) (follow c f).atoms → RunsBy x (follow c f) (exec c u)) →
            (Each (AtomHolds (own_state x)) (follow d f).atoms → RunsBy x (follow d f) (exec d u)) →
            Each (AtomHolds (own_state x)) (cond v (asked (passed f b) (follow c f)) (asked (failed f b) (follow d f))).atoms →
            RunsBy x (cond v (asked (passed f b) (follow c f)) (asked (failed f b) (follow d f))) (cond (holds b u) (exec c u) (exec d u))
        go true q left right k =
            let m = each_append (AtomHolds (own_state x)) (passed f b) (follow c f).atoms k in
            let r = left m.1 in
            subst (λ w. RunsBy x (asked (passed f b) (follow c f)) (cond w (exec c u) (exec d u))) (sym (passed_holds (own_state x) f u h b q m.0))
            (record { prints = r.prints; state = r.state })
        go false q left right k =
            let m = each_append (AtomHolds (own_state x)) (failed f b) (follow d f).atoms k in
            let r = right m.1 in
            subst (λ w. RunsBy x (asked (failed f b) (follow d f)) (cond w (exec c u) (exec d u))) (sym (failed_holds (own_state x) f u h b q m.0))
            (record { prints = r.prints; state = r.state })

    runs_all :
        (cs : Commands) (f : Forms) (u : State) → AllAre (own_state x) f u → Each (AtomHolds (own_state x)) (follow_all cs f).atoms →
        RunsBy x (follow_all cs f) (exec_all cs u)
    runs_all NoCommand f u h k = record { prints = tt; state = h }
    runs_all (MoreCommand c cs) f u h k =
        let g : Forms = (follow c f).forms in
        let m = each_append (AtomHolds (own_state x)) (follow c f).atoms (follow_all cs g).atoms k in
        let one = runs c f u h m.0 in
        let rest = runs_all cs g (exec c u).state one.state m.1 in
        record {
          prints = values_append x (follow c f).prints (follow_all cs g).prints (exec c u).prints (exec_all cs (exec c u).state).prints one.prints rest.prints;
          state = rest.state;
        }

pub own_begins : (b x : ℕ → ℤ) → AllAre (own_state x) (object_forms b) (whole (λ n. b n +ℤ x n))
unfolding definitions plan_definitions meaning_definitions
own_begins b x (TempAt t) = λ k. omega (arith, ints)
own_begins b x (BaseAt n) = λ k. omega (arith, ints)
own_begins b x (DeltaAt n j) = λ k. omega (arith, ints)

-- an object that isn't written keeps its form
apart : (n y : ℕ) → list_any (λ m. n == m) (y ∷ []) ≡ false → (y == n) ≡ false
apart n y h =
    let q : (n == y) ≡ false = or_first (n == y) false h in
    grind (arith, nat_tests, q)

mutual
  unfolding definitions meaning_definitions

  pub unwritten : (c : Command) (f : Forms) (n : ℕ) → list_any (λ m. n == m) (follow c f).written ≡ false → (follow c f).forms (BaseAt n) ≡ f (BaseAt n)
  unwritten Skip f n h = refl
  unwritten (Assign t e) f n h = refl
  unwritten (Write (Whole y) e) f n h = ap (λ v. cond v (form f e) (f (BaseAt n))) (apart n y h)
  unwritten (Write (Base y) e) f n h = ap (λ v. cond v (form f e) (f (BaseAt n))) (apart n y h)
  unwritten (Write (Delta y j) e) f n h = refl
  unwritten (Print e) f n h = refl
  unwritten (Seq cs) f n h = unwritten_all cs f n h
  unwritten (If b c d) f n h = go (holds_by f b) (λ m. unwritten c f n m) (λ m. unwritten d f n m) h
    where
      go :
          (v : Bool) →
          (list_any (λ m. n == m) (follow c f).written ≡ false → (follow c f).forms (BaseAt n) ≡ f (BaseAt n)) →
          (list_any (λ m. n == m) (follow d f).written ≡ false → (follow d f).forms (BaseAt n) ≡ f (BaseAt n)) →
          list_any (λ m. n == m) (cond v (asked (passed f b) (follow c f)) (asked (failed f b) (follow d f))).written ≡ false →
          (cond v (asked (passed f b) (follow c f)) (asked (failed f b) (follow d f))).forms (BaseAt n) ≡ f (BaseAt n)
      go true left right h = left h
      go false left right h = right h

  unwritten_all :
      (cs : Commands) (f : Forms) (n : ℕ) → list_any (λ m. n == m) (follow_all cs f).written ≡ false →
      (follow_all cs f).forms (BaseAt n) ≡ f (BaseAt n)
  unwritten_all NoCommand f n h = refl
  unwritten_all (MoreCommand c cs) f n h =
      let g : Forms = (follow c f).forms in
      let parts = or_parts (list_any (λ m. n == m) (follow c f).written) (list_any (λ m. n == m) (follow_all cs g).written)
      (sym (list_any-append (λ m. n == m) (follow c f).written (follow_all cs g).written) ∙ h) in
      unwritten_all cs g n parts.1 ∙ unwritten c f n parts.0

-- ---- from the deltas of k sites to a site's own
module _ (k i : ℕ) (inside : i < k) (b : ℕ → ℤ) (x : Deltas) where
  abbrev there : State
  there = alone b i x

  past : (j n y : ℕ) (f : ℤ) → i < j → terms_value (terms_from j n y f) there ≡ pos 0
  unfolding definitions plan_definitions
  past j zero y f h = refl
  past j (suc n) y f h =
      let apart : (j == i) ≡ false = grind (arith, nat_tests, h) in
      ap (λ v. (f *ℤ cond v (x y) (pos 0)) +ℤ terms_value (terms_from (suc j) n y f) there) apart
      ∙ omega (arith, ints, past (suc j) n y f (omega (arith, h)))

  one_here : (j n y : ℕ) (f : ℤ) → j ≤ i → i < j + n → terms_value (terms_from j n y f) there ≡ f *ℤ x y
  unfolding definitions plan_definitions
  one_here j zero y f h l = absurd (omega (arith, h, l))
  one_here j (suc n) y f h l = go (j == i) refl (λ (less : suc j ≤ i). one_here (suc j) n y f less (omega (arith, l)))
    where
      rest : ℤ
      rest = terms_value (terms_from (suc j) n y f) there

      go : (v : Bool) → (j == i) ≡ v → (suc j ≤ i → rest ≡ f *ℤ x y) → (f *ℤ cond v (x y) (pos 0)) +ℤ rest ≡ f *ℤ x y
      go true q ih =
          let same : j ≡ i = grind (arith, nat_tests, q) in
          let none : rest ≡ pos 0 = past (suc j) n y f (omega (arith, same)) in
          omega (arith, ints, none)
      go false q ih =
          let less : suc j ≤ i = grind (arith, nat_tests, q, h) in
          omega (arith, ints, ih less)

  terms_append : (s : State) (ts us : List Term) → terms_value (ts ++ us) s ≡ terms_value ts s +ℤ terms_value us s
  unfolding plan_definitions
  terms_append s [] us = omega (arith, ints)
  terms_append s (t ∷ ts) us = omega (arith, ints, terms_append s ts us)

  own_terms : (ts : List Term) → terms_value (expanded_terms k ts) there ≡ terms_value ts (own_state x)
  unfolding definitions plan_definitions
  own_terms [] = refl
  own_terms (t ∷ ts) =
      terms_append there (terms_from 0 k t.delta.object t.factor) (expanded_terms k ts)
      ∙ ap₂ ◌+ℤ◌ (one_here 0 k t.delta.object t.factor (omega arith) (omega (arith, inside))) (own_terms ts)

  zero_here : (j n y : ℕ) → j ≤ i → i < j + n → Each (IsZeroAt there) (deltas_from j n y) → x y ≡ pos 0
  unfolding definitions plan_definitions
  zero_here j zero y h l z = absurd (omega (arith, h, l))
  zero_here j (suc n) y h l z = go (j == i) refl (λ (less : suc j ≤ i). zero_here (suc j) n y less (omega (arith, l)) z.1) z.0
    where
      go : (v : Bool) → (j == i) ≡ v → (suc j ≤ i → x y ≡ pos 0) → cond v (x y) (pos 0) ≡ pos 0 → x y ≡ pos 0
      go true q ih e = e
      go false q ih e = ih (grind (arith, nat_tests, q, h))

  own_zeros : (ds : List forms.Delta) → Each (IsZeroAt there) (expanded_deltas k ds) → Each (IsZeroAt (own_state x)) ds
  unfolding definitions plan_definitions
  own_zeros [] z = tt
  own_zeros (d ∷ ds) z =
      let m = each_append (IsZeroAt there) (deltas_from 0 k d.object) (expanded_deltas k ds) z in
      (zero_here 0 k d.object (omega arith) (omega (arith, inside)) m.0, own_zeros ds m.1)

  own_atoms : (as' : List Linear) → Each (AtomHolds there) (map (expanded k) as') → Each (AtomHolds (own_state x)) as'
  unfolding definitions plan_definitions
  own_atoms [] h = tt
  own_atoms (a ∷ as') h = (
    record { mixed = own_zeros a.mixed h.0.mixed; below = subst (λ z. (a.constant +ℤ z) ≤ℤ pos 0) (own_terms a.terms) h.0.below },
    own_atoms as' h.1,
  )

-- ---- a call at a site that keeps its treaty
module _
    (k : ℕ) (b : ℕ → ℤ) (t : Template) (config : Config) (i : ℕ) (x : Deltas) (fits : Fits k t.clauses config) (keeps : Treaty t config i x)
    (g : PlannedCall) (covers : Covers t k b g) (here : g.site ≡ i) (inside : i < k) (w : IsWhole g.command)
  where
    all_keep : (j : ℕ) → Treaty t config j (only i x j)
    all_keep = only_keeps k t config i x fits keeps

    atoms_at : Each (AtomHolds (join k b (only i x))) (atoms_of k b g)
    unfolding plan_definitions meaning_definitions
    atoms_at =
        let walked : base_row k b g ≡ walk (shifted k g) (whole b) = row_at_walk (shifted k g) (whole b) (λ t. refl) in
        let formula : holds (base_row k b g).formula (whole b) ≡ true =
        ap (λ (r : Row). holds r.formula (whole b)) walked ∙ walk_holds (shifted k g) (whole b) (λ t. refl) in
        let clauses = clauses_hold k b (only i x) t.clauses config fits (λ j l. (all_keep j).clauses) in
        let freezes = freezes_hold k b (only i x) t.freezes (λ j l. (all_keep j).freezes) in
        atoms_hold (join k b (only i x)) (atoms_of k b g) (true_cond_below b (base_row k b g).formula formula)
        (each_map _ (λ (a : Linear). is_empty a.terms ≡ false → ClauseHolds (join k b (only i x)) (clause_of a))
        (λ a f e. each_member (ClauseHolds (join k b (only i x))) (clause_of a) t.clauses clauses (f e)) (atoms_of k b g) covers.clauses)
        (each_map _ (λ (a : Linear). Each (IsZeroAt (join k b (only i x))) a.mixed)
        (λ a f. each_map _ (IsZeroAt (join k b (only i x))) (λ d m. each_member (IsZeroAt (join k b (only i x))) d t.freezes freezes m) a.mixed f)
        (atoms_of k b g) covers.mixed)

    pub runs_by_forms : RunsBy x (followed b g.command) (exec g.command (whole (λ n. b n +ℤ x n)))
    unfolding definitions
    runs_by_forms =
        runs x g.command (object_forms b) (whole (λ n. b n +ℤ x n)) (own_begins b x)
        (own_atoms k i inside b x (followed b g.command).atoms
        (subst (λ s. Each (AtomHolds s) (map (expanded k) (followed b g.command).atoms)) (sym (alone_is_joined k b i x inside))
        (subst (Each (AtomHolds (join k b (only i x)))) (atoms_are_followed k b g (subst (λ j. j < k) (sym here) inside) w) atoms_at)))

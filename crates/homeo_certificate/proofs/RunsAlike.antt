-- Two runs from states that meet what a certificate asks, and have the same deltas of the call's site: where following the
-- command finds no fault, they take the same branches, print the same, and differ as the forms do.
use Rattle.homeo_meaning.specs.Key.{definitions as meaning_definitions}
use Rattle.homeo_plan.specs.Key.{definitions as plan_definitions}
use Rattle.homeo_certificate.specs.Key.{definitions}
use Rattle.std.proofs.Common.{◌≡◌, ℕ, ◌==◌, ◌&&◌, Bool, true, false, cond, List, [], ◌∷◌, ◌++◌, ℤ, refl, sym, ap, ap₂, ◌∙◌, subst, arith}
use Rattle.std.proofs.lemmas.Bool.Decides.{nat_tests}
use Rattle.std.specs.List.{flat_map}
use mathlib.Core.Path.{fun_ext}
use Rattle.homeo_lemmas.proofs.Lists.{not_nil}
use Rattle.homeo_syntax.specs.declared.low.SplitName.TheVariants as split
use Rattle.homeo_syntax.specs.Low.{Expr, Command, Commands, Skip, Assign, Write, Print, Seq, If, NoCommand, MoreCommand}
use Rattle.homeo_meaning.specs.LowMeaning.{Location, TempAt, BaseAt, DeltaAt, State, Run, same_location, put, value, holds, exec, exec_all, location_of}
use Rattle.homeo_plan.specs.Each.{Each}
use Rattle.homeo_plan.specs.Holding.{ZeroInBoth}
use Rattle.homeo_plan.specs.declared.forms.Delta.{Delta}
use Rattle.homeo_plan.specs.Linear.{Linear, IsZeroAt, support, Forms, form}
use Rattle.homeo_plan.specs.Split.{IsKept}
use Rattle.homeo_plan.proofs.Tracked.{tracks, same_by_support}
use Rattle.homeo_plan.specs.Tracking.{Tracks, TracksAll, IsSameUnlessWritten}
use Rattle.homeo_plan.proofs.Needs.{support_agrees, put_tracks, still_same}
use Rattle.homeo_certificate.specs.Met.{at_zero, met, met_in_cond}
use Rattle.homeo_certificate.specs.Kept.{kept}
use Rattle.homeo_certificate.specs.Branches.{branches, all_branches}
use Rattle.homeo_certificate.specs.declared.fault.Fault.TheVariants.{ForeignWrite}
use Rattle.homeo_certificate.specs.Followed.{Rules, too_large, not_frozen, atom_faults, remote_deltas, foreign, forms_after, forms_after_all, written, all_written, faults, all_faults}
use Rattle.homeo_certificate.proofs.Constants.{constant_is}
use Rattle.homeo_certificate.proofs.FaultLists.{none_of_both, all_frozen}
use Rattle.homeo_certificate.proofs.KeptTests.{Meets, cond_stays}

-- ---- what the forms say of deltas 0 follows the run from there
pub put_at_zero : (f : Forms) (p : Location) (e : Expr) → at_zero (put f p (form f e)) ≡ put (at_zero f) p (value e (at_zero f))
unfolding definitions plan_definitions meaning_definitions
put_at_zero f p e = fun_ext (λ q. go (same_location p q) (f q))
  where
    go : (v : Bool) (a : Linear) → (cond v (form f e) a).constant ≡ cond v (value e (at_zero f)) a.constant
    go true a = constant_is f e
    go false a = refl

mutual
  unfolding definitions plan_definitions meaning_definitions

  pub zero_after : (c : Command) (f : Forms) → at_zero (forms_after c f) ≡ (exec c (at_zero f)).state
  zero_after Skip f = refl
  zero_after (Assign t e) f = put_at_zero f (TempAt t) e
  zero_after (Write x e) f = put_at_zero f (location_of x) e
  zero_after (Print e) f = refl
  zero_after (Seq cs) f = zero_after_all cs f
  zero_after (If b c d) f = go (holds b (at_zero f)) (zero_after c f) (zero_after d f)
    where
      go :
          (v : Bool) → at_zero (forms_after c f) ≡ (exec c (at_zero f)).state → at_zero (forms_after d f) ≡ (exec d (at_zero f)).state →
          at_zero (cond v (forms_after c f) (forms_after d f)) ≡ (cond v (exec c (at_zero f)) (exec d (at_zero f))).state
      go true hc hd = hc
      go false hc hd = hd

  zero_after_all : (cs : Commands) (f : Forms) → at_zero (forms_after_all cs f) ≡ (exec_all cs (at_zero f)).state
  zero_after_all NoCommand f = refl
  zero_after_all (MoreCommand c cs) f =
      zero_after_all cs (forms_after c f) ∙ ap (λ z. (exec_all cs z).state) (zero_after c f)

own_site : (r : Rules) (x j : ℕ) → foreign r (split.Delta x j) ≡ [] → (j == r.site) ≡ true
unfolding definitions
own_site r x j e = go (j == r.site) e
  where
    go : (v : Bool) → cond v [] (ForeignWrite ∷ []) ≡ [] → v ≡ true
    go true e = refl
    go false e = absurd (not_nil ForeignWrite [] e)

module _
    (r : Rules) (s s' : State) (meets : Meets r s) (meets' : Meets r s')
    (agree : (x : ℕ) → s (DeltaAt x r.site) ≡ s' (DeltaAt x r.site))
  where
    zero_in_both : (ds : List Delta) → Each (IsZeroAt s) ds → Each (IsZeroAt s') ds → Each (ZeroInBoth s s') ds
    unfolding plan_definitions
    zero_in_both [] h h' = tt
    zero_in_both (d ∷ ds) h h' = (record { here = h.0; there = h'.0 }, zero_in_both ds h.1 h'.1)

    -- a form whose remote deltas are frozen has the same value in both
    pub same_if_frozen : (a : Linear) (x x' : ℤ) → Tracks a s s' x x' → not_frozen r (remote_deltas r a) ≡ [] → x ≡ x'
    unfolding definitions plan_definitions
    same_if_frozen a x x' h e =
        let z = all_frozen (ZeroInBoth s s') r (remote_deltas r a) (zero_in_both r.freezes meets.freezes meets'.freezes) e in
        same_by_support a s s' x x' h.apart (support_agrees r.site s s' agree (support a) z)

    -- the forms and the deltas written after two runs, the branches of the first, and those that are taken where all deltas
    -- are 0
    pub record Alike (f : Forms) (ds : List Delta) (bs zs : List Bool) (u : State) (run run' : Run) : Type 0 where
      pub branches : bs ≡ zs
      pub prints : run.prints ≡ run'.prints
      pub tracks : TracksAll f s s' run.state run'.state
      pub own : (x : ℕ) → IsSameUnlessWritten r.site run.state run'.state ds x
      pub kept : (p : Location) → IsKept r.site p → run.state p ≡ u p

    kept_by_temp : (u : State) (q : Location) (v : ℤ) (p : Location) → IsKept r.site p → ((x j : ℕ) → same_location q (DeltaAt x j) ≡ false) → ((x : ℕ) → same_location q (BaseAt x) ≡ false) → put u q v p ≡ u p
    unfolding plan_definitions meaning_definitions
    kept_by_temp u q v (TempAt t) k hd hb = absurd k
    kept_by_temp u q v (BaseAt x) k hd hb = ap (λ w. cond w v (u (BaseAt x))) (hb x)
    kept_by_temp u q v (DeltaAt x j) k hd hb = ap (λ w. cond w v (u (DeltaAt x j))) (hd x j)

    kept_by_own : (u : State) (x j : ℕ) (v : ℤ) → (j == r.site) ≡ true → (p : Location) → IsKept r.site p → put u (DeltaAt x j) v p ≡ u p
    unfolding plan_definitions meaning_definitions
    kept_by_own u x j v e (TempAt t) k = absurd k
    kept_by_own u x j v e (BaseAt y) k = refl
    kept_by_own u x j v e (DeltaAt y n) k = ap (λ w. cond w v (u (DeltaAt y n))) (go (x == y) (j == n) refl)
      where
        go : (a b : Bool) → (j == n) ≡ b → (a && b) ≡ false
        go true true q =
            let i : j ≡ r.site = grind (arith, nat_tests) in
            let h : j ≡ n = grind (arith, nat_tests) in
            absurd (k (sym i ∙ h))
        go true false q = refl
        go false b q = refl

    mutual
      unfolding definitions plan_definitions meaning_definitions

      pub alike :
          (c : Command) (f : Forms) (ds : List Delta) (u u' : State) → faults r c f ≡ [] → TracksAll f s s' u u' →
          ((x : ℕ) → IsSameUnlessWritten r.site u u' ds x) →
          Alike (forms_after c f) (written c f ds) (branches c u) (branches c (at_zero f)) u (exec c u) (exec c u')
      alike Skip f ds u u' e t w =
          record { branches = refl; prints = refl; tracks = t; own = w; kept = λ p k. refl }
      alike (Assign v a) f ds u u' e t w =
          record {
            branches = refl;
            prints = refl;
            tracks = put_tracks r.site s s' agree f u u' (TempAt v) (form f a) _ _ t (tracks f s s' u u' t a);
            own = w;
            kept = λ p k. kept_by_temp u (TempAt v) (value a u) p k (λ x j. refl) (λ x. refl);
          }
      alike (Write (split.Whole x) a) f ds u u' e t w = absurd (not_nil ForeignWrite (too_large (met f a)) e)
      alike (Write (split.Base x) a) f ds u u' e t w = absurd (not_nil ForeignWrite (too_large (met f a)) e)
      alike (Write (split.Delta x j) a) f ds u u' e t w =
          let p = none_of_both (foreign r (split.Delta x j)) (too_large (met f a)) e in
          record {
            branches = refl;
            prints = refl;
            tracks = put_tracks r.site s s' agree f u u' (DeltaAt x j) (form f a) _ _ t (tracks f s s' u u' t a);
            own = λ y. still_same r.site s s' agree u u' x j _ _ ds y (w y);
            kept = λ q k. kept_by_own u x j (value a u) (own_site r x j p.0) q k;
          }
      alike (Print a) f ds u u' e t w =
          let p = none_of_both (too_large (met f a)) (not_frozen r (remote_deltas r (form f a))) e in
          record {
            branches = refl;
            prints = ap (λ v. v ∷ []) (same_if_frozen (form f a) (value a u) (value a u') (tracks f s s' u u' t a) p.1);
            tracks = t;
            own = w;
            kept = λ q k. refl;
          }
      alike (Seq cs) f ds u u' e t w = all_alike cs f ds u u' e t w
      alike (If b c d) f ds u u' e t w =
          let p = none_of_both (too_large (met_in_cond f b)) (flat_map (atom_faults r) (kept f b) ++ cond (holds b (at_zero f)) (faults r c f) (faults r d f)) e in
          let q = none_of_both (flat_map (atom_faults r) (kept f b)) (cond (holds b (at_zero f)) (faults r c f) (faults r d f)) p.1 in
          go (holds b (at_zero f))
          (cond_stays r s meets f u (λ a. (tracks f s s' u u' t a).here) b q.0)
          (cond_stays r s' meets' f u' (λ a. (tracks f s s' u u' t a).there) b q.0)
          q.1 (λ h. alike c f ds u u' h t w) (λ h. alike d f ds u u' h t w)
        where
          Both : Bool → Bool → Bool → Type 0
          Both v h h' =
              Alike (cond v (forms_after c f) (forms_after d f)) (cond v (written c f ds) (written d f ds))
              (h ∷ cond h (branches c u) (branches d u)) (v ∷ cond v (branches c (at_zero f)) (branches d (at_zero f))) u
              (cond h (exec c u) (exec d u)) (cond h' (exec c u') (exec d u'))

          more :
              (v : Bool) (fs : Forms) (es : List Delta) (bs zs : List Bool) (run run' : Run) → Alike fs es bs zs u run run' →
              Alike fs es (v ∷ bs) (v ∷ zs) u run run'
          more v fs es bs zs run run' k =
              record { branches = ap (λ l. v ∷ l) k.branches; prints = k.prints; tracks = k.tracks; own = k.own; kept = k.kept }

          go :
              (v : Bool) → holds b u ≡ v → holds b u' ≡ v → cond v (faults r c f) (faults r d f) ≡ [] →
              (faults r c f ≡ [] → Alike (forms_after c f) (written c f ds) (branches c u) (branches c (at_zero f)) u (exec c u) (exec c u')) →
              (faults r d f ≡ [] → Alike (forms_after d f) (written d f ds) (branches d u) (branches d (at_zero f)) u (exec d u) (exec d u')) →
              Both v (holds b u) (holds b u')
          go true h h' e hc hd =
              subst (λ x. Both true (holds b u) x) (sym h') (subst (λ x. Both true x true) (sym h) (more true _ _ _ _ _ _ (hc e)))
          go false h h' e hc hd =
              subst (λ x. Both false (holds b u) x) (sym h') (subst (λ x. Both false x false) (sym h) (more false _ _ _ _ _ _ (hd e)))

      all_alike :
          (cs : Commands) (f : Forms) (ds : List Delta) (u u' : State) → all_faults r cs f ≡ [] → TracksAll f s s' u u' →
          ((x : ℕ) → IsSameUnlessWritten r.site u u' ds x) →
          Alike (forms_after_all cs f) (all_written cs f ds) (all_branches cs u) (all_branches cs (at_zero f)) u (exec_all cs u) (exec_all cs u')
      all_alike NoCommand f ds u u' e t w =
          record { branches = refl; prints = refl; tracks = t; own = w; kept = λ p k. refl }
      all_alike (MoreCommand c cs) f ds u u' e t w =
          let p = none_of_both (faults r c f) (all_faults r cs (forms_after c f)) e in
          let h = alike c f ds u u' p.0 t w in
          let k = all_alike cs (forms_after c f) (written c f ds) (exec c u).state (exec c u').state p.1 h.tracks h.own in
          record {
            branches = ap₂ ◌++◌ h.branches (k.branches ∙ ap (all_branches cs) (zero_after c f));
            prints = ap₂ ◌++◌ h.prints k.prints;
            tracks = k.tracks;
            own = k.own;
            kept = λ q i. k.kept q i ∙ h.kept q i;
          }

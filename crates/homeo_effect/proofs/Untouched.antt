-- What a residual does not write stays, and so does each sum over it.
use Rattle.std.proofs.Common.{◌≡◌, ℕ, ◌==◌, ℤ, pos, ◌+ℤ◌, ◌*ℤ◌, Bool, true, false, cond, ◌&&◌, List, [], ◌∷◌, refl, sym, ap, ap₂, ◌∙◌, arith}
use Rattle.std.proofs.lemmas.Bool.{or_parts}
use Rattle.std.proofs.lemmas.Bool.Decides.{nat_tests}
use Rattle.homeo_lemmas.proofs.Naturals.{nat_turned}
use Rattle.homeo_syntax.specs.declared.low.SplitName.TheVariants as split
use Rattle.homeo_syntax.specs.Low.{Commands, Skip, Assign, Write, Print, Seq, If, NoCommand, MoreCommand}
use Rattle.homeo_meaning.specs.Key.{definitions as meaning_definitions}
use Rattle.homeo_meaning.specs.LowMeaning.{State, DeltaAt, value, exec_all}
use Rattle.homeo_plan.specs.Key.{definitions as plan_definitions}
use Rattle.homeo_plan.specs.declared.forms.Delta.{Delta}
use Rattle.homeo_plan.specs.declared.forms.Term.{Term}
use Rattle.homeo_plan.specs.Joined.{Deltas, alone}
use Rattle.homeo_plan.specs.Needs.{IsStraight}
use Rattle.homeo_plan.specs.Template.{Clause}
use Rattle.homeo_plan.specs.Treaty.{site_sum}
use Rattle.homeo_effect.specs.Key.{definitions}
use Rattle.homeo_effect.specs.Touched.{written, is_among, are_on, is_touched}

-- a delta that is not written
module _ (d : Delta) where
  pub delta_stays :
      (cs : Commands) (s : State) → IsStraight cs → is_among (written cs) d ≡ false → (exec_all cs s).state (DeltaAt d.object d.site) ≡ s (DeltaAt d.object d.site)
  unfolding definitions meaning_definitions plan_definitions
  delta_stays NoCommand s st h = refl
  delta_stays (MoreCommand Skip cs) s st h = absurd st.0
  delta_stays (MoreCommand (Assign t e) cs) s st h = delta_stays cs _ st.1 h
  delta_stays (MoreCommand (Write (split.Whole x) e) cs) s st h = absurd st.0
  delta_stays (MoreCommand (Write (split.Base x) e) cs) s st h = absurd st.0
  delta_stays (MoreCommand (Write (split.Delta x j) e) cs) s st h =
      let parts = or_parts _ _ h in
      delta_stays cs _ st.1 parts.1
      ∙ ap (λ v. cond v (value e s) (s (DeltaAt d.object d.site))) (other x j parts.0)
    where
      other : (x j : ℕ) → ((d.object == x) && (d.site == j)) ≡ false → ((x == d.object) && (j == d.site)) ≡ false
      other x j h = ap₂ ◌&&◌ (nat_turned x d.object) (nat_turned j d.site) ∙ h
  delta_stays (MoreCommand (Print e) cs) s st h = delta_stays cs s st.1 h
  delta_stays (MoreCommand (Seq ds) cs) s st h = absurd st.0
  delta_stays (MoreCommand (If t c e) cs) s st h = absurd st.0

alone_own : (b : ℕ → ℤ) (i : ℕ) (x : Deltas) (n : ℕ) → alone b i x (DeltaAt n i) ≡ x n
unfolding plan_definitions
alone_own b i x n = let q : (i == i) ≡ true = grind (arith, nat_tests) in ap (λ v. cond v (x n) (pos 0)) q

module _ (b : ℕ → ℤ) (i : ℕ) (x : Deltas) (cs : Commands) (st : IsStraight cs) where
  pub own_delta_stays : (d : Delta) → is_among (written cs) d ≡ false → d.site ≡ i → (exec_all cs (alone b i x)).state (DeltaAt d.object i) ≡ x d.object
  own_delta_stays d h e =
      ap (λ j. (exec_all cs (alone b i x)).state (DeltaAt d.object j)) (sym e) ∙ delta_stays d cs (alone b i x) st h
      ∙ ap (λ j. alone b i x (DeltaAt d.object j)) e ∙ alone_own b i x d.object

  sums_stay : (ts : List Term) → are_on (written cs) ts ≡ false → site_sum i ts (λ n. (exec_all cs (alone b i x)).state (DeltaAt n i)) ≡ site_sum i ts x
  unfolding definitions plan_definitions
  sums_stay [] h = refl
  sums_stay (t ∷ ts) h =
      let parts = or_parts (is_among (written cs) t.delta) (are_on (written cs) ts) h in
      ap₂ ◌+ℤ◌ (one parts.0 (t.delta.site == i) refl) (sums_stay ts parts.1)
    where
      one :
          is_among (written cs) t.delta ≡ false → (v : Bool) → (t.delta.site == i) ≡ v →
          cond v (t.factor *ℤ (exec_all cs (alone b i x)).state (DeltaAt t.delta.object i)) (pos 0) ≡ cond v (t.factor *ℤ x t.delta.object) (pos 0)
      one h true q = let e : t.delta.site ≡ i = grind (arith, nat_tests) in ap (λ m. t.factor *ℤ m) (own_delta_stays t.delta h e)
      one h false q = refl

  pub clause_stays : (c : Clause) → is_touched (written cs) c ≡ false → site_sum i c.terms (λ n. (exec_all cs (alone b i x)).state (DeltaAt n i)) ≡ site_sum i c.terms x
  unfolding definitions
  clause_stays c h = sums_stay c.terms h

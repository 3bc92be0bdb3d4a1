-- A residual gives the same from the same own deltas, where the remote deltas that it needs are 0.
use Rattle.homeo_meaning.specs.Key.{definitions as meaning_definitions}
use Rattle.homeo_plan.specs.Key.{definitions}
use Rattle.std.proofs.Common.{◌≡◌, ℕ, ◌==◌, ◌&&◌, Bool, true, false, cond, List, [], ◌∷◌, ℤ, refl, sym, ap₂, ◌∙◌, subst, ◌⊎◌, inl, inr, ⊎_elim, arith}
use Rattle.std.proofs.lemmas.Bool.Decides.{nat_tests}
use Rattle.homeo_syntax.specs.declared.low.SplitName.TheVariants as split
use Rattle.homeo_syntax.specs.Low.{Commands, Skip, Assign, Write, Print, Seq, If, NoCommand, MoreCommand}
use Rattle.homeo_meaning.specs.LowMeaning.{Location, TempAt, DeltaAt, State, same_location, put, value, exec_all}
use Rattle.homeo_plan.specs.Each.{Member, Each}
use Rattle.homeo_plan.specs.declared.forms.Delta.{Delta}
use Rattle.homeo_plan.specs.Linear.{delta_of, same_delta, delta_before, Linear, add_delta, support, Forms, base_forms, form}
use Rattle.homeo_plan.specs.Needs.{remote, written_needs, needs_from, needs, IsStraight}
use Rattle.homeo_plan.proofs.Factors.{same_delta_is}
use Rattle.homeo_plan.proofs.Tracked.{each_add_deltas, tracks, same_by_support}
use Rattle.homeo_plan.specs.Tracking.{Agrees, Tracks, TracksAll, IsSameUnlessWritten}
use Rattle.homeo_plan.specs.Holding.{IsOn, ZeroInBoth, SameOwn}
use Rattle.homeo_plan.proofs.Atoms.{start_tracks}

-- ---- which deltas were written
member_added : (d : Delta) (es : List Delta) → Member d (add_delta d es)
unfolding definitions meaning_definitions
member_added d [] = inl refl
member_added d (e ∷ es) = go (same_delta d e) refl (delta_before d e) (member_added d es)
  where
    go : (v : Bool) → same_delta d e ≡ v → (w : Bool) → Member d (add_delta d es) → Member d (cond v (e ∷ es) (cond w (d ∷ e ∷ es) (e ∷ add_delta d es)))
    go true q w ih = inl (sym (same_delta_is d e q))
    go false q true ih = inl refl
    go false q false ih = inr ih

member_kept : (c d : Delta) (es : List Delta) → Member c es → Member c (add_delta d es)
unfolding definitions meaning_definitions
member_kept c d [] m = absurd m
member_kept c d (e ∷ es) m = go (same_delta d e) (delta_before d e) (member_kept c d es)
  where
    go : (v w : Bool) → (Member c es → Member c (add_delta d es)) → Member c (cond v (e ∷ es) (cond w (d ∷ e ∷ es) (e ∷ add_delta d es)))
    go true w ih = m
    go false true ih = inr m
    go false false ih = ⊎_elim inl (λ k. inr (ih k)) m

each_written :
    (P : Delta → Type 0) (i : ℕ) (f : Forms) (d : Delta) (ds : List Delta) → Member d ds → Each P (written_needs i f ds) →
    Each P (remote i (support (f (DeltaAt d.object d.site))))
unfolding definitions meaning_definitions
each_written P i f d [] m h = absurd m
each_written P i f d (e ∷ ds) m h =
    let k = each_add_deltas P (remote i (support (f (DeltaAt e.object e.site)))) (written_needs i f ds) h in
    ⊎_elim (λ q. subst (λ z. Each P (remote i (support (f (DeltaAt z.object z.site))))) q k.0) (λ n. each_written P i f d ds n k.1) m

module _ (i : ℕ) (s s' : State) (own : (x : ℕ) → s (DeltaAt x i) ≡ s' (DeltaAt x i)) where
  pub support_agrees : (ds : List Delta) → Each (ZeroInBoth s s') (remote i ds) → Each (Agrees s s') ds
  unfolding definitions meaning_definitions
  support_agrees [] h = tt
  support_agrees (d ∷ ds) h = go (d.site == i) refl (support_agrees ds) h
    where
      go :
          (v : Bool) → (d.site == i) ≡ v → (Each (ZeroInBoth s s') (remote i ds) → Each (Agrees s s') ds) →
          Each (ZeroInBoth s s') (cond v (remote i ds) (d ∷ remote i ds)) → Agrees s s' d × Each (Agrees s s') ds
      go true q ih h =
          let e : d.site ≡ i = grind (arith, nat_tests) in
          (subst (λ j. s (DeltaAt d.object j) ≡ s' (DeltaAt d.object j)) (sym e) (own d.object), ih h)
      go false q ih h = (h.0.here ∙ sym h.0.there, ih h.1)

  pub put_tracks :
      (f : Forms) (u u' : State) (p : Location) (a : Linear) (v v' : ℤ) → TracksAll f s s' u u' → Tracks a s s' v v' →
      TracksAll (put f p a) s s' (put u p v) (put u' p v')
  unfolding definitions meaning_definitions
  put_tracks f u u' p a v v' h k q = go (same_location p q)
    where
      go : (w : Bool) → Tracks (cond w a (f q)) s s' (cond w v (u q)) (cond w v' (u' q))
      go true = k
      go false = h q

  pub still_same :
      (u u' : State) (x j : ℕ) (v v' : ℤ) (ds : List Delta) (y : ℕ) → IsSameUnlessWritten i u u' ds y →
      IsSameUnlessWritten i (put u (DeltaAt x j) v) (put u' (DeltaAt x j) v') (add_delta (delta_of x j) ds) y
  unfolding definitions meaning_definitions
  still_same u u' x j v v' ds y h = go ((x == y) && (j == i)) refl
    where
      go :
          (w : Bool) → ((x == y) && (j == i)) ≡ w →
          (cond w v (u (DeltaAt y i)) ≡ cond w v' (u' (DeltaAt y i))) ⊎ Member (delta_of y i) (add_delta (delta_of x j) ds)
      go true q = inr (subst (λ d. Member d (add_delta (delta_of x j) ds)) (same_delta_is (delta_of x j) (delta_of y i) q) (member_added (delta_of x j) ds))
      go false q = ⊎_elim inl (λ m. inr (member_kept (delta_of y i) (delta_of x j) ds m)) h

  same_own :
      (cs : Commands) (f : Forms) (ds : List Delta) (u u' : State) → IsStraight cs → TracksAll f s s' u u' →
      ((x : ℕ) → IsSameUnlessWritten i u u' ds x) → Each (ZeroInBoth s s') (needs_from i f ds cs) →
      SameOwn i (exec_all cs u) (exec_all cs u')
  unfolding definitions meaning_definitions
  same_own NoCommand f ds u u' st t w z =
      record {
        prints = refl;
        own_deltas = λ x.
            ⊎_elim (λ e. e)
            (λ m.
            same_by_support (f (DeltaAt x i)) s s' _ _ (t (DeltaAt x i)).apart
            (support_agrees (support (f (DeltaAt x i))) (each_written (ZeroInBoth s s') i f (delta_of x i) ds m z)))
            (w x);
      }
  same_own (MoreCommand Skip cs) f ds u u' st t w z = absurd st.0
  same_own (MoreCommand (Assign v e) cs) f ds u u' st t w z =
      let k =
      same_own cs (put f (TempAt v) (form f e)) ds (put u (TempAt v) (value e u)) (put u' (TempAt v) (value e u')) st.1
      (put_tracks f u u' (TempAt v) (form f e) _ _ t (tracks f s s' u u' t e)) w z in
      record { prints = k.prints; own_deltas = k.own_deltas }
  same_own (MoreCommand (Write (split.Whole x) e) cs) f ds u u' st t w z = absurd st.0
  same_own (MoreCommand (Write (split.Base x) e) cs) f ds u u' st t w z = absurd st.0
  same_own (MoreCommand (Write (split.Delta x j) e) cs) f ds u u' st t w z =
      let k =
      same_own cs (put f (DeltaAt x j) (form f e)) (add_delta (delta_of x j) ds) (put u (DeltaAt x j) (value e u))
      (put u' (DeltaAt x j) (value e u')) st.1
      (put_tracks f u u' (DeltaAt x j) (form f e) _ _ t (tracks f s s' u u' t e))
      (λ y. still_same u u' x j _ _ ds y (w y)) z in
      record { prints = k.prints; own_deltas = k.own_deltas }
  same_own (MoreCommand (Print e) cs) f ds u u' st t w z =
      let m = each_add_deltas (ZeroInBoth s s') (remote i (support (form f e))) (needs_from i f ds cs) z in
      let k = same_own cs f ds u u' st.1 t w m.1 in
      let v = same_by_support (form f e) s s' _ _ (tracks f s s' u u' t e).apart (support_agrees (support (form f e)) m.0) in
      record { prints = ap₂ ◌∷◌ v k.prints; own_deltas = k.own_deltas }
  same_own (MoreCommand (Seq ds') cs) f ds u u' st t w z = absurd st.0
  same_own (MoreCommand (If b c d) cs) f ds u u' st t w z = absurd st.0

  pub residual_same :
      (b : ℕ → ℤ) (cs : Commands) → IsOn b s → IsOn b s' → IsStraight cs → Each (ZeroInBoth s s') (needs i b cs) →
      SameOwn i (exec_all cs s) (exec_all cs s')
  unfolding definitions meaning_definitions
  residual_same b cs on on' st z =
      same_own cs (base_forms b) [] s s' st (start_tracks b s s' on on') (λ x. inl (own x)) z

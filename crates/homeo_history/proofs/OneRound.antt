-- Two rounds from one base that go through one list of calls have the same segments, and close at the same call.
use Rattle.homeo_plan.specs.Key.{definitions as plan_definitions}
use Rattle.homeo_history.specs.Key.{definitions}
use Rattle.std.proofs.Common.{◌≡◌, ◌≢◌, ◌⊎◌, inl, inr, ℕ, ◌==◌, Bool, true, false, cond, List, [], ◌∷◌, length, count_by, Option, Some, None, ℤ, refl, sym, ap, ap₂, ◌∙◌, subst, arith}
use Rattle.std.proofs.lemmas.Bool.Decides.{nat_tests}
use Rattle.homeo_syntax.specs.Source as s
use Rattle.homeo_meaning.specs.declared.call.CallId.{CallId}
use Rattle.homeo_plan.specs.Joined.{Deltas}
use Rattle.homeo_plan.specs.Planned.{template_at, policy}
use Rattle.homeo_plan.specs.Treaty.{Treaty}
use Rattle.homeo_history.specs.History.{Entry, Closing, Round}
use Rattle.homeo_history.specs.Merge.{segment_of, put_at}
use Rattle.homeo_history.specs.Replayed.{prints_at, deltas_after, end_of, KeepsAll}
use Rattle.homeo_history.specs.Follows.{site_or_zero}
use Rattle.homeo_history.proofs.Counts.{count_same, count_other}
use Rattle.homeo_history.proofs.Steps.{Segments, StepsThrough}

-- a choice that picks all entries
abbrev pub Fits : Segments → List ℕ → Type 0
Fits segs choice = (i : ℕ) → count_by (λ j. i == j) choice ≡ length (segs i)

fits_more : (segs : Segments) (i : ℕ) (e : Entry) (es : List Entry) (choice : List ℕ) → segs i ≡ e ∷ es → Fits (put_at segs i es) choice → Fits segs (i ∷ choice)
fits_more segs i e es choice at fits j = go (i == j) refl (fits j)
  where
    go : (v : Bool) → (i == j) ≡ v → count_by (λ m. j == m) choice ≡ length (cond v es (segs j)) → count_by (λ m. j == m) (i ∷ choice) ≡ length (segs j)
    go true q f =
        let s : i ≡ j = grind (arith, nat_tests) in
        let f' : count_by (λ m. i == m) choice ≡ length es = subst (λ n. count_by (λ m. n == m) choice ≡ length es) (sym s) f in
        subst (λ n. count_by (λ m. n == m) (i ∷ choice) ≡ length (segs n)) s (omega (arith, count_same i choice, f', ap length at))
    go false q f =
        let ne : i ≢ j = grind (arith, nat_tests) in
        count_other i j choice ne ∙ f

-- how both go on after the round
pub record Onward (w : s.Workload) (closing closing' : Option Closing) (rounds rounds' : List Round) : Type 0 where
  pub c : Closing
  pub c' : Closing
  pub is : closing ≡ Some c
  pub is' : closing' ≡ Some c'
  pub call : c.entry.call ≡ c'.entry.call
  pub r : Round
  pub r' : Round
  pub rest : List Round
  pub rest' : List Round
  pub more : rounds ≡ r ∷ rest
  pub more' : rounds' ≡ r' ∷ rest'
  pub calls : List CallId
  pub steps : StepsThrough w calls (segment_of r.segments) r.closing rest
  pub steps' : StepsThrough w calls (segment_of r'.segments) r'.closing rest'

pub record Ended (closing closing' : Option Closing) (rounds rounds' : List Round) : Type 0 where
  pub is : closing ≡ None
  pub is' : closing' ≡ None
  pub none : rounds ≡ []
  pub none' : rounds' ≡ []

pub record SameRound (w : s.Workload) (segs segs' : Segments) (closing closing' : Option Closing) (rounds rounds' : List Round) : Type 0 where
  pub same : (i : ℕ) → segs i ≡ segs' i
  pub choice : List ℕ
  pub fits : Fits segs choice
  pub onward : Ended closing closing' rounds rounds' ⊎ Onward w closing closing' rounds rounds'

module _ (w : s.Workload) (base : List ℤ) where
  abbrev InTreaty : ℕ → Deltas → Type 0
  InTreaty i x = Treaty (template_at w base) (policy w base) i x

  -- what is left of a round, from the deltas x
  pub record Left (x : ℕ → Deltas) (segs : Segments) (closing : Option Closing) : Type 0 where
    pub keeps : (i : ℕ) → KeepsAll w base i (x i) (segs i)
    pub breaks : (c : Closing) → closing ≡ Some c → InTreaty c.site (deltas_after w base c.entry.call (end_of w base (segs c.site) (x c.site))) → ⊥
    pub placed : (c : Closing) → closing ≡ Some c → site_or_zero w c.entry.call ≡ c.site

  module _ (x : ℕ → Deltas) (id : CallId) where
    abbrev site : ℕ
    site = site_or_zero w id

    abbrev moved : ℕ → Deltas
    moved = put_at x site (deltas_after w base id (x site))

    after_step : (segs : Segments) (closing : Option Closing) (e : Entry) (es : List Entry) → segs site ≡ e ∷ es → e.call ≡ id → Left x segs closing → Left moved (put_at segs site es) closing
    unfolding definitions plan_definitions
    after_step segs closing e es at call left =
        record {
          keeps = λ i. keeps i (site == i) refl;
          breaks = λ c q t. left.breaks c q (subst (λ y. InTreaty c.site (deltas_after w base c.entry.call y)) (ends c.site (site == c.site) refl) t);
          placed = left.placed;
        }
      where
        kept : KeepsAll w base site (x site) (e ∷ es)
        kept = subst (KeepsAll w base site (x site)) at (left.keeps site)

        keeps : (i : ℕ) (v : Bool) → (site == i) ≡ v → KeepsAll w base i (cond v (deltas_after w base id (x site)) (x i)) (cond v es (segs i))
        keeps i true q =
            let s : site ≡ i = grind (arith, nat_tests) in
            subst (λ n. KeepsAll w base n (deltas_after w base id (x site)) es) s (subst (λ h. KeepsAll w base site (deltas_after w base h (x site)) es) call kept.1)
        keeps i false q = left.keeps i

        ends : (i : ℕ) (v : Bool) → (site == i) ≡ v → end_of w base (cond v es (segs i)) (cond v (deltas_after w base id (x site)) (x i)) ≡ end_of w base (segs i) (x i)
        ends i true q =
            let s : site ≡ i = grind (arith, nat_tests) in
            subst (λ n. end_of w base es (deltas_after w base id (x site)) ≡ end_of w base (segs n) (x n)) s (ap (λ h. end_of w base es (deltas_after w base h (x site))) (sym call) ∙ sym (ap (λ l. end_of w base l (x site)) at))
        ends i false q = refl

    -- the entry of a call that is next at its site
    entry_is : (segs : Segments) (closing : Option Closing) (e : Entry) (es : List Entry) → segs site ≡ e ∷ es → e.call ≡ id → Left x segs closing → e ≡ record { call = id; prints = prints_at w base id (x site) }
    unfolding definitions
    entry_is segs closing e es at call left =
        let kept : KeepsAll w base site (x site) (e ∷ es) = subst (KeepsAll w base site (x site)) at (left.keeps site) in
        let p = kept.0.prints ∙ ap (λ h. prints_at w base h (x site)) call in
        λ i. record { call = call i; prints = p i }

    -- a call that keeps the treaty is no closing call
    no_both : (segs segs' : Segments) (closing closing' : Option Closing) (e : Entry) (es : List Entry) (c : Closing) → segs site ≡ e ∷ es → e.call ≡ id → Left x segs closing → ((i : ℕ) → segs' i ≡ []) → closing' ≡ Some c → c.entry.call ≡ id → Left x segs' closing' → ⊥
    unfolding definitions plan_definitions
    no_both segs segs' closing closing' e es c at call left none is closes left' =
        let kept : KeepsAll w base site (x site) (e ∷ es) = subst (KeepsAll w base site (x site)) at (left.keeps site) in
        let t : InTreaty site (deltas_after w base id (x site)) = subst (λ h. InTreaty site (deltas_after w base h (x site))) call kept.0.keeps in
        let t' : InTreaty site (deltas_after w base id (end_of w base (segs' site) (x site))) = subst (λ l. InTreaty site (deltas_after w base id (end_of w base l (x site)))) (sym (none site)) t in
        let here : site ≡ c.site = ap (site_or_zero w) (sym closes) ∙ left'.placed c is in
        left'.breaks c is (subst (λ h. InTreaty c.site (deltas_after w base h (end_of w base (segs' c.site) (x c.site)))) (sym closes) (subst (λ i. InTreaty i (deltas_after w base id (end_of w base (segs' i) (x i)))) here t'))

    same_at : (segs segs' : Segments) (e e' : Entry) (es es' : List Entry) → segs site ≡ e ∷ es → segs' site ≡ e' ∷ es' → e ≡ e' → ((i : ℕ) → put_at segs site es i ≡ put_at segs' site es' i) → (i : ℕ) (v : Bool) → (site == i) ≡ v → segs i ≡ segs' i
    same_at segs segs' e e' es es' at at' one same i true q =
        let s : site ≡ i = grind (arith, nat_tests) in
        let tails : es ≡ es' = subst (λ v. cond v es (segs i) ≡ cond v es' (segs' i)) q (same i) in
        subst (λ n. segs n ≡ segs' n) s (at ∙ ap₂ ◌∷◌ one tails ∙ sym at')
    same_at segs segs' e e' es es' at at' one same i false q =
        subst (λ v. cond v es (segs i) ≡ cond v es' (segs' i)) q (same i)

  pub same_round : (calls : List CallId) (x : ℕ → Deltas) (segs segs' : Segments) (closing closing' : Option Closing) (rounds rounds' : List Round) → Left x segs closing → Left x segs' closing' → StepsThrough w calls segs closing rounds → StepsThrough w calls segs' closing' rounds' → SameRound w segs segs' closing closing' rounds rounds'
  same_round [] x segs segs' closing closing' rounds rounds' left left' f f' =
      record {
        same = λ i. f.0 i ∙ sym (f'.0 i);
        choice = [];
        fits = λ i. sym (ap length (f.0 i));
        onward = inl (record { is = f.1; is' = f'.1; none = f.2; none' = f'.2 });
      }
  same_round (id ∷ calls) x segs segs' closing closing' rounds rounds' left left' (inl f) (inl f') =
      let one : f.0 ≡ f'.0 = entry_is x id segs closing f.0 f.1 f.2 f.3 left ∙ sym (entry_is x id segs' closing' f'.0 f'.1 f'.2 f'.3 left') in
      let ih = same_round calls (moved x id) _ _ closing closing' rounds rounds' (after_step x id segs closing f.0 f.1 f.2 f.3 left) (after_step x id segs' closing' f'.0 f'.1 f'.2 f'.3 left') f.4 f'.4 in
      record {
        same = λ i. same_at x id segs segs' f.0 f'.0 f.1 f'.1 f.2 f'.2 one ih.same i (site_or_zero w id == i) refl;
        choice = site_or_zero w id ∷ ih.choice;
        fits = fits_more segs (site_or_zero w id) f.0 f.1 ih.choice f.2 ih.fits;
        onward = ih.onward;
      }
  same_round (id ∷ calls) x segs segs' closing closing' rounds rounds' left left' (inl f) (inr f') =
      absurd (no_both x id segs segs' closing closing' f.0 f.1 f'.0 f.2 f.3 left f'.3 f'.4 f'.5 left')
  same_round (id ∷ calls) x segs segs' closing closing' rounds rounds' left left' (inr f) (inl f') =
      absurd (no_both x id segs' segs closing' closing f'.0 f'.1 f.0 f'.2 f'.3 left' f.3 f.4 f.5 left)
  same_round (id ∷ calls) x segs segs' closing closing' rounds rounds' left left' (inr f) (inr f') =
      record {
        same = λ i. f.3 i ∙ sym (f'.3 i);
        choice = [];
        fits = λ i. sym (ap length (f.3 i));
        onward = inr (record {
          c = f.0;
          c' = f'.0;
          is = f.4;
          is' = f'.4;
          call = f.5 ∙ sym f'.5;
          r = f.1;
          r' = f'.1;
          rest = f.2;
          rest' = f'.2;
          more = f.6;
          more' = f'.6;
          calls = calls;
          steps = f.7;
          steps' = f'.7;
        });
      }

-- The form of what is written to the own delta: the expression's, without the base and the deltas of the other sites.
use Rattle.homeo_plan.specs.Key.{definitions}
use Rattle.homeo_meaning.specs.Key.{definitions as meaning_definitions}
use Rattle.std.proofs.Common.{◌≡◌, ℕ, zero, suc, ◌==◌, ◌+◌, ◌*◌, ◌≤◌, Bool, true, false, cond, [], ℤ, pos, negsuc, ◌+ℤ◌, ◌*ℤ◌, refl, sym, ap, ◌∙◌, subst, arith}
use Rattle.std.specs.Int.RustNames.{unsigned_abs}
use Rattle.std.proofs.lemmas.Int.{ints}
use Rattle.homeo_lemmas.proofs.Integers.{minus_itself}
use Rattle.homeo_syntax.specs.declared.low.SplitName.TheVariants as split
use Rattle.homeo_syntax.specs.Low.{Expr, Exprs, Read, Sum, Neg, MoreExpr}
use Rattle.homeo_meaning.specs.LowMeaning.{Location, BaseAt, DeltaAt}
use Rattle.homeo_meaning.specs.Small.{IsSmall}
use Rattle.homeo_plan.specs.Split.{other_deltas}
use Rattle.homeo_plan.specs.declared.forms.Delta.{Delta}
use Rattle.homeo_plan.specs.Linear.{delta_of, Linear, add_terms, scale_terms, constant_form, add_forms, scale_form, Forms, form, sum_form}
use Rattle.homeo_plan.specs.FormSizes.{Numbers, CanForm, CanSum}
use Rattle.homeo_plan.proofs.Factors.{at_delta, factor, add_terms_factor, scale_terms_factor}
use Rattle.homeo_plan.proofs.Order.{Sorted, sorted_adds}
use Rattle.homeo_plan.proofs.Sizes.{Within, numbers, within_constant, within_add, within_negated}
use Rattle.homeo_plan.proofs.Others.{others_from, IsBit, others_bit, Shape, shape_within}
use Rattle.homeo_plan.proofs.WholeReads.{Own, Holds, delta_within}
use Rattle.homeo_plan.proofs.Made.{Made}

-- the whole value of a delta, before the base and the deltas are taken off
abbrev pub own_value : ℕ → ℕ → ℕ → Expr → Expr
unfolding definitions
own_value k i x e = Sum (MoreExpr e (MoreExpr (Neg (Read (split.Base x))) (other_deltas i x 0 k)))

near : (a t g o : ℤ) (n : ℕ) → IsBit t → IsBit o → a +ℤ t ≡ g +ℤ o → unsigned_abs g ≤ n → unsigned_abs a ≤ n + 1
near a t g o n p q e h = grind (arith, ints, p.low, p.high, q.low, q.high, e, h)

module _ (k i m : ℕ) (f : Forms) (x : ℕ) (y : ℤ) (g : Delta → ℤ) where
  -- of a sum, where those of n sites from j on are to be taken off
  pub record Part (j n : ℕ) (a : Linear) : Type 0 where
    pub constant : a.constant ≡ y
    pub factors : (d : Delta) → factor d a.terms +ℤ others_from i x 0 k d ≡ g d +ℤ others_from i x j n d
    pub sorted : Sorted a.terms

  pub record Taken (a : Linear) (es : Exprs) : Type 0 where
    pub can : CanSum (IsSmall m) f a es
    pub constant : (sum_form f a es).constant ≡ y
    pub factors : (d : Delta) → factor d (sum_form f a es).terms +ℤ others_from i x 0 k d ≡ g d
    pub sorted : Sorted (sum_form f a es).terms

  part_numbers : (w j n : ℕ) (a : Linear) → w + 1 ≤ m → unsigned_abs y ≤ m → ((d : Delta) → unsigned_abs (g d) ≤ w) → Part j n a → Numbers (IsSmall m) a
  part_numbers w j n a l c q p =
      numbers m m a (omega arith)
      (record {
        constant = subst (λ z. unsigned_abs z ≤ m) (sym p.constant) c;
        factors = λ d.
            omega (
              arith,
              l,
              near (factor d a.terms) (others_from i x 0 k d) (g d) (others_from i x j n d) w (others_bit i x 0 k d)
                  (others_bit i x j n d) (p.factors d) (q d),
            );
        sorted = p.sorted;
      })

  -- of its own site there is nothing to take off
  skip : (j n : ℕ) (a : Linear) → (i == j) ≡ true → Part j (suc n) a → Part (suc j) n a
  unfolding definitions
  skip j n a q p = record { constant = p.constant; factors = λ d. factors d; sorted = p.sorted }
    where
      factors : (d : Delta) → factor d a.terms +ℤ others_from i x 0 k d ≡ g d +ℤ others_from i x (suc j) n d
      factors d =
          let none : cond (i == j) (pos 0) (at_delta (delta_of x j) (pos 1) d) ≡ pos 0 = ap (λ b. cond b (pos 0) (at_delta (delta_of x j) (pos 1) d)) q in
          let whole :
          factor d a.terms +ℤ others_from i x 0 k d ≡
          g d +ℤ (cond (i == j) (pos 0) (at_delta (delta_of x j) (pos 1) d) +ℤ others_from i x (suc j) n d) =
          p.factors d in
          omega (arith, ints, none, whole)

  take_off :
      (j n : ℕ) (a : Linear) → (i == j) ≡ false → Shape (pos 0) (at_delta (delta_of x j) (pos 1)) (f (DeltaAt x j)) →
      Part j (suc n) a → Part (suc j) n (add_forms (scale_form (negsuc 0) (f (DeltaAt x j))) a)
  unfolding definitions
  take_off j n a q s p =
      record {
        constant = omega (arith, ints, p.constant, s.constant, minus_itself (f (DeltaAt x j)).constant);
        factors = λ d. factors d;
        sorted = sorted_adds (scale_terms (negsuc 0) (f (DeltaAt x j)).terms) a.terms p.sorted;
      }
    where
      factors :
          (d : Delta) → factor d (add_forms (scale_form (negsuc 0) (f (DeltaAt x j))) a).terms +ℤ others_from i x 0 k d ≡
          g d +ℤ others_from i x (suc j) n d
      factors d =
          let one : cond (i == j) (pos 0) (at_delta (delta_of x j) (pos 1) d) ≡ at_delta (delta_of x j) (pos 1) d =
          ap (λ b. cond b (pos 0) (at_delta (delta_of x j) (pos 1) d)) q in
          let whole :
          factor d a.terms +ℤ others_from i x 0 k d ≡
          g d +ℤ (cond (i == j) (pos 0) (at_delta (delta_of x j) (pos 1) d) +ℤ others_from i x (suc j) n d) =
          p.factors d in
          let scaled : factor d (scale_form (negsuc 0) (f (DeltaAt x j))).terms ≡ negsuc 0 *ℤ at_delta (delta_of x j) (pos 1) d =
          scale_terms_factor (negsuc 0) (f (DeltaAt x j)).terms d ∙ ap (λ z. negsuc 0 *ℤ z) (s.factors d) in
          ap (λ z. z +ℤ others_from i x 0 k d) (add_terms_factor (scale_form (negsuc 0) (f (DeltaAt x j))).terms a.terms d)
          ∙ omega (arith, ints, scaled, minus_itself (at_delta (delta_of x j) (pos 1) d), one, whole)

  pub taken :
      (w : ℕ) → w + 1 ≤ m → unsigned_abs y ≤ m → ((d : Delta) → unsigned_abs (g d) ≤ w) →
      ((j : ℕ) → (i == j) ≡ false → Shape (pos 0) (at_delta (delta_of x j) (pos 1)) (f (DeltaAt x j))) →
      (n j : ℕ) (a : Linear) → Part j n a → Taken a (other_deltas i x j n)
  unfolding definitions meaning_definitions
  taken w l c q s zero j a p =
      record { can = part_numbers w j 0 a l c q p; constant = p.constant; factors = λ d. omega (arith, ints, p.factors d); sorted = p.sorted }
  taken w l c q s (suc n) j a p = go (i == j) refl (λ b. taken w l c q s n (suc j) b)
    where
      go :
          (u : Bool) → (i == j) ≡ u → ((b : Linear) → Part (suc j) n b → Taken b (other_deltas i x (suc j) n)) →
          Taken a (cond u (other_deltas i x (suc j) n) (MoreExpr (Neg (Read (split.Delta x j))) (other_deltas i x (suc j) n)))
      go true e ih = ih a (skip j n a e p)
      go false e ih =
          let one = delta_within (delta_of x j) (f (DeltaAt x j)) (s j e) in
          let r = ih (add_forms (scale_form (negsuc 0) (f (DeltaAt x j))) a) (take_off j n a e (s j e) p) in
          record {
            can = (
              part_numbers w j (suc n) a l c q p,
              (numbers m 1 _ (omega (arith, l)) one, numbers m 1 _ (omega (arith, l)) (within_negated 1 _ one)),
              r.can,
            );
            constant = r.constant;
            factors = r.factors;
            sorted = r.sorted;
          }

pub record Wrote (Can : Type 0) (k i : ℕ) (base : ℕ → ℤ) (x n : ℕ) (a : Linear) : Type 0 where
  pub can : Can
  pub own : Own k i base x n a

off_size : (z y : ℤ) (n b : ℕ) → unsigned_abs z ≤ n → unsigned_abs y ≤ b → unsigned_abs (z +ℤ (negsuc 0 *ℤ y)) ≤ n + b
off_size z y n b h l = grind (arith, ints, h, l, minus_itself y)

module _ (b k i : ℕ) (base : ℕ → ℤ) (small : (x : ℕ) → unsigned_abs (base x) ≤ b) (v : Location → ℕ) (f : Forms) (h : Holds k i base v f) where
  pub written :
      (x n : ℕ) (e : Expr) → 1 ≤ n → n ≤ b → Made (CanForm (IsSmall (2 * b + 1)) f e) n (form f e) →
      Wrote (CanForm (IsSmall (2 * b + 1)) f (own_value k i x e)) k i base x n (form f (own_value k i x e))
  unfolding definitions meaning_definitions
  written x n e one l r =
      let m = 2 * b + 1 in
      let F = form f e in
      let z = h.bases x in
      let zero_numbers : Numbers (IsSmall m) (constant_form (pos 0)) = numbers m 0 _ (omega arith) (within_constant 0 (pos 0) (omega arith)) in
      let base_within : Within b (f (BaseAt x)) = shape_within b (base x) (λ d. pos 0) (f (BaseAt x)) z (small x) (λ d. omega arith) in
      let first : Within (n + 0) (add_forms F (constant_form (pos 0))) =
      within_add n 0 F (constant_form (pos 0)) r.within (within_constant 0 (pos 0) (omega arith)) in
      let start :
      Part k i m f x (F.constant +ℤ (negsuc 0 *ℤ base x)) (λ d. factor d F.terms) 0 k
      (add_forms (scale_form (negsuc 0) (f (BaseAt x))) (add_forms F (constant_form (pos 0)))) =
      record {
        constant = start_constant F.constant (f (BaseAt x)).constant (base x) z.constant;
        factors = λ d. start_factor F d;
        sorted = sorted_adds (scale_terms (negsuc 0) (f (BaseAt x)).terms) (add_terms F.terms []) first.sorted;
      } in
      let t =
      taken k i m f x (F.constant +ℤ (negsuc 0 *ℤ base x)) (λ d. factor d F.terms) n (omega (arith, l, one))
      (omega (arith, l, off_size F.constant (base x) n b r.within.constant (small x))) r.within.factors (h.deltas x) k 0
      _ start in
      let made = sum_form f (add_forms (scale_form (negsuc 0) (f (BaseAt x))) (add_forms F (constant_form (pos 0)))) (other_deltas i x 0 k) in
      let constant : unsigned_abs (base x +ℤ made.constant) ≤ n =
      subst (λ c. unsigned_abs c ≤ n) (sym (back F.constant (base x) _ t.constant)) r.within.constant in
      record {
        can = (
          zero_numbers,
          r.can,
          (
            numbers m (n + 0) _ (omega (arith, l)) first,
            (numbers m b _ (omega arith) base_within, numbers m b _ (omega arith) (within_negated b _ base_within)),
            t.can,
          ),
        );
        own = record {
          constant = constant;
          factors = λ d.
              subst (λ c. unsigned_abs c ≤ n)
              (sym (turn (factor d made.terms) (others_from i x 0 k d) (factor d F.terms) (t.factors d)))
              (r.within.factors d);
          sorted = t.sorted;
        };
      }
    where
      start_constant : (c y z : ℤ) → y ≡ z → (negsuc 0 *ℤ y) +ℤ (c +ℤ pos 0) ≡ c +ℤ (negsuc 0 *ℤ z)
      start_constant c y z e = ap (λ u. (negsuc 0 *ℤ u) +ℤ (c +ℤ pos 0)) e ∙ omega (arith, ints)

      back : (c y z : ℤ) → z ≡ c +ℤ (negsuc 0 *ℤ y) → y +ℤ z ≡ c
      back c y z e = omega (arith, ints, e, minus_itself y)

      turn : (c t g : ℤ) → c +ℤ t ≡ g → t +ℤ c ≡ g
      turn c t g e = omega (arith, ints, e)

      start_factor :
          (F : Linear) (d : Delta) →
          factor d (add_forms (scale_form (negsuc 0) (f (BaseAt x))) (add_forms F (constant_form (pos 0)))).terms +ℤ others_from i x 0 k d ≡
          factor d F.terms +ℤ others_from i x 0 k d
      start_factor F d =
          let scaled : factor d (scale_form (negsuc 0) (f (BaseAt x))).terms ≡ negsuc 0 *ℤ pos 0 =
          scale_terms_factor (negsuc 0) (f (BaseAt x)).terms d ∙ ap (λ z. negsuc 0 *ℤ z) ((h.bases x).factors d) in
          ap (λ z. z +ℤ others_from i x 0 k d) (add_terms_factor (scale_form (negsuc 0) (f (BaseAt x))).terms (add_forms F (constant_form (pos 0))).terms d)
          ∙ omega (arith, ints, scaled, add_terms_factor F.terms [] d)

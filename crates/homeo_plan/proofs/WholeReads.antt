-- What is read of a whole object: the sum of its base and of its deltas, the own one as it was written last.
use Rattle.homeo_plan.specs.Key.{definitions}
use Rattle.homeo_meaning.specs.Key.{definitions as meaning_definitions}
use Rattle.std.proofs.Common.{◌≡◌, ℕ, zero, suc, ◌==◌, ◌+◌, ◌<◌, ◌≤◌, Bool, true, false, cond, ℤ, pos, ◌+ℤ◌, refl, sym, ap, ◌∙◌, subst, arith}
use Rattle.std.specs.Int.RustNames.{unsigned_abs}
use Rattle.std.proofs.lemmas.Int.{ints}
use Rattle.std.proofs.lemmas.Bool.Decides.{nat_tests}
use Rattle.homeo_syntax.specs.declared.low.Temp.{Temp}
use Rattle.homeo_meaning.specs.LowMeaning.{Location, TempAt, BaseAt, DeltaAt}
use Rattle.homeo_meaning.specs.Small.{IsSmall}
use Rattle.homeo_plan.specs.Split.{delta_reads}
use Rattle.homeo_plan.specs.declared.forms.Delta.{Delta}
use Rattle.homeo_plan.specs.Linear.{delta_of, same_delta, Linear, add_forms, Forms, sum_form}
use Rattle.homeo_plan.specs.FormSizes.{Numbers, CanSum}
use Rattle.homeo_plan.proofs.Factors.{at_delta, factor, add_terms_factor}
use Rattle.homeo_plan.proofs.Order.{Sorted, sorted_adds}
use Rattle.homeo_plan.proofs.Sizes.{Within, numbers}
use Rattle.homeo_plan.proofs.Others.{others_from, IsBit, others_bit, Shape, shape_within}

-- with an object's base and the deltas of the other sites, a form is at most n in size
pub record Own (k i : ℕ) (base : ℕ → ℤ) (x n : ℕ) (a : Linear) : Type 0 where
  pub constant : unsigned_abs (base x +ℤ a.constant) ≤ n
  pub factors : (d : Delta) → unsigned_abs (others_from i x 0 k d +ℤ factor d a.terms) ≤ n
  pub sorted : Sorted a.terms

-- the weights v bound the forms that a command of site i has made from a base
pub record Holds (k i : ℕ) (base : ℕ → ℤ) (v : Location → ℕ) (f : Forms) : Type 0 where
  pub temps : (t : Temp) → Within (v (TempAt t)) (f (TempAt t))
  pub bases : (x : ℕ) → Shape (base x) (λ d. pos 0) (f (BaseAt x))
  pub deltas : (x j : ℕ) → (i == j) ≡ false → Shape (pos 0) (at_delta (delta_of x j) (pos 1)) (f (DeltaAt x j))
  pub own : (x : ℕ) → Own k i base x (v (BaseAt x)) (f (DeltaAt x i))
  pub ones : (p : Location) → 1 ≤ v p

at_delta_bit : (b : Bool) → unsigned_abs (cond b (pos 1) (pos 0)) ≤ 1
at_delta_bit true = omega arith
at_delta_bit false = omega arith

pub delta_within : (s : Delta) (a : Linear) → Shape (pos 0) (at_delta s (pos 1)) a → Within 1 a
unfolding definitions
delta_within s a t =
    shape_within 1 (pos 0) (at_delta s (pos 1)) a t (omega arith) (λ d. at_delta_bit (same_delta s d))

pub delta_numbers : (m : ℕ) (s : Delta) (a : Linear) → 1 ≤ m → Shape (pos 0) (at_delta s (pos 1)) a → Numbers (IsSmall m) a
delta_numbers m s a h t = numbers m 1 a h (delta_within s a t)

near : (a o g : ℤ) (n : ℕ) → IsBit o → a +ℤ o ≡ g → unsigned_abs g ≤ n → unsigned_abs a ≤ n + 1
near a o g n t e h = grind (arith, ints, t.low, t.high, e, h)

module _ (k i m : ℕ) (f : Forms) (x : ℕ) where
  -- of a sum, where n deltas from that of site j on are to be added: what it will be
  pub record Part (z : ℤ) (g : Delta → ℤ) (j n : ℕ) (a : Linear) : Type 0 where
    pub constant : a.constant ≡ z
    pub factors : (d : Delta) → factor d a.terms +ℤ others_from i x j n d ≡ g d
    pub sorted : Sorted a.terms

  part_numbers :
      (w : ℕ) (z : ℤ) (g : Delta → ℤ) (j n : ℕ) (a : Linear) → w + 1 ≤ m → Part z g j n a → unsigned_abs z ≤ m →
      ((d : Delta) → unsigned_abs (g d) ≤ w) → Numbers (IsSmall m) a
  part_numbers w z g j n a l p h q =
      numbers m m a (omega arith)
      (record {
        constant = subst (λ y. unsigned_abs y ≤ m) (sym p.constant) h;
        factors = λ d.
            omega (arith, l, near (factor d a.terms) (others_from i x j n d) (g d) w (others_bit i x j n d) (p.factors d) (q d));
        sorted = p.sorted;
      })

  other_step :
      (z : ℤ) (g : Delta → ℤ) (j n : ℕ) (a : Linear) → (i == j) ≡ false →
      Shape (pos 0) (at_delta (delta_of x j) (pos 1)) (f (DeltaAt x j)) → Part z g j (suc n) a →
      Part z g (suc j) n (add_forms (f (DeltaAt x j)) a)
  unfolding definitions
  other_step z g j n a q s p =
      record { constant = omega (arith, ints, p.constant, s.constant); factors = λ d. factors d; sorted = sorted_adds (f (DeltaAt x j)).terms a.terms p.sorted }
    where
      factors : (d : Delta) → factor d (add_forms (f (DeltaAt x j)) a).terms +ℤ others_from i x (suc j) n d ≡ g d
      factors d =
          let one : cond (i == j) (pos 0) (at_delta (delta_of x j) (pos 1) d) ≡ at_delta (delta_of x j) (pos 1) d =
          ap (λ b. cond b (pos 0) (at_delta (delta_of x j) (pos 1) d)) q in
          let whole : factor d a.terms +ℤ (cond (i == j) (pos 0) (at_delta (delta_of x j) (pos 1) d) +ℤ others_from i x (suc j) n d) ≡ g d = p.factors d in
          ap (λ y. y +ℤ others_from i x (suc j) n d) (add_terms_factor (f (DeltaAt x j)).terms a.terms d)
          ∙ omega (arith, ints, s.factors d, one, whole)

  own_step :
      (z : ℤ) (g : Delta → ℤ) (n : ℕ) (a o : Linear) → Sorted o.terms → Part z g i (suc n) a →
      Part (z +ℤ o.constant) (λ d. g d +ℤ factor d o.terms) (suc i) n (add_forms o a)
  unfolding definitions
  own_step z g n a o s p =
      record { constant = omega (arith, ints, p.constant); factors = λ d. factors d; sorted = sorted_adds o.terms a.terms p.sorted }
    where
      same : (i == i) ≡ true
      same = grind (arith, nat_tests)

      factors : (d : Delta) → factor d (add_forms o a).terms +ℤ others_from i x (suc i) n d ≡ g d +ℤ factor d o.terms
      factors d =
          let none : cond (i == i) (pos 0) (at_delta (delta_of x i) (pos 1) d) ≡ pos 0 = ap (λ b. cond b (pos 0) (at_delta (delta_of x i) (pos 1) d)) same in
          let whole : factor d a.terms +ℤ (cond (i == i) (pos 0) (at_delta (delta_of x i) (pos 1) d) +ℤ others_from i x (suc i) n d) ≡ g d = p.factors d in
          ap (λ y. y +ℤ others_from i x (suc i) n d) (add_terms_factor o.terms a.terms d)
          ∙ omega (arith, ints, none, whole)

  pub record Summed (z : ℤ) (g : Delta → ℤ) (j n : ℕ) (a : Linear) : Type 0 where
    pub can : CanSum (IsSmall m) f a (delta_reads x j n)
    pub shape : Shape z g (sum_form f a (delta_reads x j n))

  summed_none :
      (w : ℕ) (z : ℤ) (g : Delta → ℤ) (j : ℕ) (a : Linear) → w + 1 ≤ m → unsigned_abs z ≤ m →
      ((d : Delta) → unsigned_abs (g d) ≤ w) → Part z g j 0 a → Summed z g j 0 a
  unfolding definitions meaning_definitions
  summed_none w z g j a l h q p =
      record {
        can = part_numbers w z g j 0 a l p h q;
        shape = record { constant = p.constant; factors = λ d. omega (arith, ints, p.factors d); sorted = p.sorted };
      }

  after_own :
      (w : ℕ) (z : ℤ) (g : Delta → ℤ) → w + 1 ≤ m → unsigned_abs z ≤ m → ((d : Delta) → unsigned_abs (g d) ≤ w) →
      ((j : ℕ) → (i == j) ≡ false → Shape (pos 0) (at_delta (delta_of x j) (pos 1)) (f (DeltaAt x j))) →
      (n j : ℕ) (a : Linear) → i < j → Part z g j n a → Summed z g j n a
  unfolding definitions meaning_definitions
  after_own w z g l h q s zero j a r p = summed_none w z g j a l h q p
  after_own w z g l h q s (suc n) j a r p =
      let other : (i == j) ≡ false = grind (arith, nat_tests) in
      let rest = after_own w z g l h q s n (suc j) (add_forms (f (DeltaAt x j)) a) (omega (arith, r)) (other_step z g j n a other (s j other) p) in
      record {
        can = (part_numbers w z g j (suc n) a l p h q, delta_numbers m (delta_of x j) (f (DeltaAt x j)) (omega (arith, l)) (s j other), rest.can);
        shape = rest.shape;
      }

  pub before_own :
      (w : ℕ) (z : ℤ) (g : Delta → ℤ) → w + 1 ≤ m → unsigned_abs z ≤ m → ((d : Delta) → unsigned_abs (g d) ≤ w) →
      unsigned_abs (z +ℤ (f (DeltaAt x i)).constant) ≤ m →
      ((d : Delta) → unsigned_abs (g d +ℤ factor d (f (DeltaAt x i)).terms) ≤ w) →
      ((j : ℕ) → (i == j) ≡ false → Shape (pos 0) (at_delta (delta_of x j) (pos 1)) (f (DeltaAt x j))) →
      Numbers (IsSmall m) (f (DeltaAt x i)) → Sorted (f (DeltaAt x i)).terms → (n j : ℕ) (a : Linear) → j ≤ i → i < j + n →
      Part z g j n a → Summed (z +ℤ (f (DeltaAt x i)).constant) (λ d. g d +ℤ factor d (f (DeltaAt x i)).terms) j n a
  unfolding definitions meaning_definitions
  before_own w z g l h q h' q' s o so zero j a r t p = absurd (never r t)
    where
      never : j ≤ i → i < j + 0 → ⊥
      never r t = omega (arith, r, t)
  before_own w z g l h q h' q' s o so (suc n) j a r t p =
      go (i == j) refl (λ up rest. before_own w z g l h q h' q' s o so n (suc j) (add_forms (f (DeltaAt x j)) a) up (omega (arith, t)) rest)
    where
      at_own : Part z g i (suc n) a → Summed (z +ℤ (f (DeltaAt x i)).constant) (λ d. g d +ℤ factor d (f (DeltaAt x i)).terms) i (suc n) a
      at_own p' =
          let rest =
          after_own w (z +ℤ (f (DeltaAt x i)).constant) (λ d. g d +ℤ factor d (f (DeltaAt x i)).terms) l h' q' s n
          (suc i) (add_forms (f (DeltaAt x i)) a) (omega arith) (own_step z g n a (f (DeltaAt x i)) so p') in
          record { can = (part_numbers w z g i (suc n) a l p' h q, o, rest.can); shape = rest.shape }

      go :
          (u : Bool) → (i == j) ≡ u →
          (suc j ≤ i → Part z g (suc j) n (add_forms (f (DeltaAt x j)) a) →
          Summed (z +ℤ (f (DeltaAt x i)).constant) (λ d. g d +ℤ factor d (f (DeltaAt x i)).terms) (suc j) n
          (add_forms (f (DeltaAt x j)) a)) →
          Summed (z +ℤ (f (DeltaAt x i)).constant) (λ d. g d +ℤ factor d (f (DeltaAt x i)).terms) j (suc n) a
      go true e ih =
          let same : i ≡ j = grind (arith, nat_tests) in
          subst (λ y. Part z g y (suc n) a → Summed (z +ℤ (f (DeltaAt x i)).constant) (λ d. g d +ℤ factor d (f (DeltaAt x i)).terms) y (suc n) a) same at_own p
      go false e ih =
          let up : suc j ≤ i = grind (arith, nat_tests, r, e) in
          let rest = ih up (other_step z g j n a e (s j e) p) in
          record {
            can = (part_numbers w z g j (suc n) a l p h q, delta_numbers m (delta_of x j) (f (DeltaAt x j)) (omega (arith, l)) (s j e), rest.can);
            shape = rest.shape;
          }

-- What is earliest, of one number, of two kinds of numbers, of more numbers, and of the numbers of a list.
use Rattle.std.proofs.Common.{◌≡◌, ◌⊎◌, ℕ, suc, ◌+◌, ◌<◌, ◌≤◌, Bool, true, false, cond, nat_lt, List, length, get_or, take, Option, Some, None, refl, sym, ap, ◌∙◌, subst, inl, inr, ⊎_elim, arith}
use Rattle.std.proofs.lemmas.Bool.Decides.{nat_tests}
use Rattle.std.proofs.lemmas.List.{take_all}
use Rattle.homeo_outline.specs.Numbers.{has}
use Rattle.homeo_site.specs.Earliest.{IsEarliest, earlier}
use Rattle.homeo_site.specs.Key.{definitions}
use Rattle.homeo_outline.proofs.Numbers.{more_numbers}

module _ {X : Type 0} (number : X → ℕ) (at : ℕ → Option X) where
  -- no number was looked at
  pub none_looked : (Looked : ℕ → Type 0) → ((n : ℕ) → Looked n → ⊥) → IsEarliest number at Looked None
  unfolding definitions
  none_looked Looked none = λ n h. absurd (none n h)

  -- one was, where what is there has its number
  pub one_looked :
      (n : ℕ) (o : Option X) → ((x : X) → o ≡ Some x → number x ≡ n) → o ≡ at n → IsEarliest number at (λ m. m ≡ n) o
  unfolding definitions
  one_looked n None numbered is = λ m same. ap at same ∙ sym is
  one_looked n (Some x) numbered is =
      let here : number x ≡ n = numbered x refl in
      record { looked = here; there = ap at here ∙ sym is; lower = λ m lt same. absurd (omega (arith, lt, same, here)) }

  -- those of both kinds were
  pub both_looked :
      (P Q : ℕ → Type 0) (a b : Option X) → IsEarliest number at P a → IsEarliest number at Q b →
      IsEarliest number at (λ n. P n ⊎ Q n) (earlier number a b)
  unfolding definitions
  both_looked P Q None None h g = λ n l. ⊎_elim (h n) (g n) l
  both_looked P Q None (Some b) h g =
      record { looked = inr g.looked; there = g.there; lower = λ n lt l. ⊎_elim (h n) (g.lower n lt) l }
  both_looked P Q (Some a) None h g =
      record { looked = inl h.looked; there = h.there; lower = λ n lt l. ⊎_elim (h.lower n lt) (g n) l }
  both_looked P Q (Some a) (Some b) h g = go (nat_lt (number b) (number a)) refl
    where
      go : (v : Bool) → nat_lt (number b) (number a) ≡ v → IsEarliest number at (λ n. P n ⊎ Q n) (cond v (Some b) (Some a))
      go true e =
          let less : number b < number a = grind (arith, nat_tests, e) in
          record { looked = inr g.looked; there = g.there; lower = λ n lt l. ⊎_elim (h.lower n (omega (arith, lt, less))) (g.lower n lt) l }
      go false e =
          let most : number b < number a → ⊥ = λ less. grind (arith, nat_tests, e, less) in
          record { looked = inl h.looked; there = h.there; lower = λ n lt l. ⊎_elim (h.lower n lt) (g.lower n (omega (arith, lt, most))) l }

  -- others were, at which nothing is that wasn't looked at before
  pub more_looked :
      (P Q : ℕ → Type 0) (o : Option X) → ((n : ℕ) → P n → Q n) → ((n : ℕ) → Q n → P n ⊎ (at n ≡ None)) →
      IsEarliest number at P o → IsEarliest number at Q o
  unfolding definitions
  more_looked P Q None in' back h = λ n q. ⊎_elim (h n) (λ e. e) (back n q)
  more_looked P Q (Some x) in' back h =
      record { looked = in' (number x) h.looked; there = h.there; lower = λ n lt q. ⊎_elim (h.lower n lt) (λ e. e) (back n q) }

  -- there is one that is earliest
  pub same_earliest : (P : ℕ → Type 0) (a b : Option X) → IsEarliest number at P a → IsEarliest number at P b → a ≡ b
  unfolding definitions
  same_earliest P None None h g = refl
  same_earliest P None (Some b) h g = some_none (h (number b) g.looked) g.there
    where
      some_none : {c : X} {o : Option X} → o ≡ None → o ≡ Some c → None ≡ Some c
      some_none p q = sym p ∙ q
  same_earliest P (Some a) None h g = sym h.there ∙ g (number a) h.looked
  same_earliest P (Some a) (Some b) h g = go (nat_lt (number a) (number b)) (nat_lt (number b) (number a)) refl refl
    where
      go : (u v : Bool) → nat_lt (number a) (number b) ≡ u → nat_lt (number b) (number a) ≡ v → Some a ≡ Some b
      go true v p q = let none = g.lower (number a) (grind (arith, nat_tests, p)) h.looked in let is = h.there in cc
      go false true p q = let none = h.lower (number b) (grind (arith, nat_tests, q)) g.looked in let is = g.there in cc
      go false false p q =
          let same : number a ≡ number b = grind (arith, nat_tests, p, q) in
          sym h.there ∙ ap at same ∙ g.there

  -- ---- the first numbers of a list
  pub none_yet : (ns : List ℕ) → IsEarliest number at (λ n. has n (take 0 ns) ≡ true) None
  none_yet ns = none_looked (λ n. has n (take 0 ns) ≡ true) (λ n h. cc)

  pub number_more :
      (ns : List ℕ) (i d : ℕ) → i < length ns → ((n : ℕ) (x : X) → at n ≡ Some x → number x ≡ n) → (found next both : Option X) →
      IsEarliest number at (λ n. has n (take i ns) ≡ true) found → next ≡ at (get_or ns i d) → both ≡ earlier number found next →
      IsEarliest number at (λ n. has n (take (i + 1) ns) ≡ true) both
  number_more ns i d lt numbered found next both h is e =
      let steps : (n : ℕ) → (has n (take (i + 1) ns) ≡ true → (has n (take i ns) ≡ true) ⊎ (n ≡ get_or ns i d)) ×
      ((has n (take i ns) ≡ true) ⊎ (n ≡ get_or ns i d) → has n (take (i + 1) ns) ≡ true) = λ n. more_numbers ns i n d lt in
      subst (IsEarliest number at (λ n. has n (take (i + 1) ns) ≡ true)) (sym e)
      (more_looked (λ n. (has n (take i ns) ≡ true) ⊎ (n ≡ get_or ns i d)) (λ n. has n (take (i + 1) ns) ≡ true) (earlier number found next)
      (λ n. (steps n).1) (λ n q. inl ((steps n).0 q))
      (both_looked (λ n. has n (take i ns) ≡ true) (λ n. n ≡ get_or ns i d) found next h
      (one_looked (get_or ns i d) next (λ x some. numbered (get_or ns i d) x (sym is ∙ some)) is)))

  pub numbers_all :
      (ns : List ℕ) (i : ℕ) → length ns ≤ i → (found : Option X) → IsEarliest number at (λ n. has n (take i ns) ≡ true) found →
      IsEarliest number at (λ n. has n ns ≡ true) found
  numbers_all ns i le found h = subst (λ l. IsEarliest number at (λ n. has n l ≡ true) found) (take_all i ns le) h

-- by what is the same at the numbers that were looked at
pub earliest_alike :
    {X : Type 0} (number : X → ℕ) (f g : ℕ → Option X) (P : ℕ → Type 0) (o : Option X) → ((n : ℕ) → P n → f n ≡ g n) →
    IsEarliest number f P o → IsEarliest number g P o
unfolding definitions
earliest_alike number f g P None same h = λ n p. sym (same n p) ∙ h n p
earliest_alike number f g P (Some x) same h = record {
  looked = h.looked;
  there = sym (same (number x) h.looked) ∙ h.there;
  lower = λ n lt p. sym (same n p) ∙ h.lower n lt p;
}

-- ---- numbers one after another
abbrev pub Within : ℕ → ℕ → ℕ → Type 0
Within k count n = (k ≤ n) × (n < k + count)

module _ {X : Type 0} (number : X → ℕ) (at : ℕ → Option X) where
  -- nothing is at the first number
  pub passed_one :
      (k count : ℕ) (o : Option X) → at k ≡ None → IsEarliest number at (Within (suc k) count) o → IsEarliest number at (Within k (suc count)) o
  passed_one k count o none = more_looked number at (Within (suc k) count) (Within k (suc count)) o (λ n h. (omega (arith, h.0), omega (arith, h.1))) back
    where
      back : (n : ℕ) → Within k (suc count) n → Within (suc k) count n ⊎ (at n ≡ None)
      back n h = go (nat_lt k n) refl
        where
          go : (v : Bool) → nat_lt k n ≡ v → Within (suc k) count n ⊎ (at n ≡ None)
          go true e = let lt : k < n = grind (arith, nat_tests, e) in inl (omega (arith, lt), omega (arith, h.1))
          go false e =
              let most : k < n → ⊥ = λ lt. grind (arith, nat_tests, e, lt) in
              let same : n ≡ k = omega (arith, h.0, most) in
              inr (ap at same ∙ none)

  -- something is
  pub found_one : (k count : ℕ) (x : X) → number x ≡ k → at k ≡ Some x → IsEarliest number at (Within k (suc count)) (Some x)
  unfolding definitions
  found_one k count x here there = record {
    looked = (omega (arith, here), omega (arith, here));
    there = ap at here ∙ there;
    lower = λ n lt h. absurd (omega (arith, lt, h.0, here));
  }

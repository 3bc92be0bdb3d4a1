-- The least slack at each terms, as a clause is put to the others.
use Rattle.std.proofs.Common.{◌≡◌, ℕ, ℤ, Bool, true, false, cond, ◌||◌, ◌&&◌, ◌==◌, Option, Some, None, List, [], ◌∷◌, map, int_le, refl, sym, ap, ap₂, ◌∙◌, arith, Vec, Global}
use Rattle.std.specs.declared.cmp.Ordering.{Ordering}
use Rattle.std.specs.declared.cmp.Ordering.TheVariants.{Less, Equal, Greater}
use Rattle.std.specs.Ordering.{nat_cmp, int_cmp, ordering_reverse, is_eq, int_eq}
use Rattle.std.specs.Cmp.Lexicographic.{slice_cmp}
use Rattle.std.specs.Cmp.{IsTotalOrder}
use Rattle.std.specs.BTreeMap.{get_by}
use Rattle.std.specs.Map.{lookup}
use Rattle.std.proofs.lemmas.Cmp.{nat_cmp_total, int_cmp_total, on_total, then_total, lists_total}
use Rattle.std.proofs.lemmas.Bool.Decides.{nat_tests}
use Rattle.std.proofs.lemmas.Int.{ints}
use Rattle.homeo_lemmas.proofs.Bools.{then_equal, and_assoc, or_neither}
use Rattle.homeo_plan.specs.Key.{definitions as plan_definitions}
use Rattle.homeo_plan.specs.Template.{Clause, same_term, same_terms}
use Rattle.homeo_verify.specs.declared.table.TermKey.{TermKey}
use Rattle.homeo_verify.specs.inner.Slacks.{term_of, key_cmp, Slacks, is_at_most, is_within, has_terms}

pub key_total : IsTotalOrder key_cmp
key_total = then_total (on_total (λ k. k.object) nat_cmp_total) (then_total (on_total (λ k. k.site) nat_cmp_total) (on_total (λ k. k.factor) int_cmp_total))

abbrev pub keys_cmp : List TermKey → List TermKey → Ordering
keys_cmp = slice_cmp key_cmp

pub keys_total : IsTotalOrder keys_cmp
keys_total = lists_total key_total

-- ---- keys that compare equal have the same terms
nat_same : (m n : ℕ) → is_eq (nat_cmp m n) ≡ (m == n)
nat_same m n = grind (arith, nat_tests)

int_same : (m n : ℤ) → is_eq (int_cmp m n) ≡ int_eq m n
int_same m n = grind (arith, ints)

key_same : (a b : TermKey) → is_eq (key_cmp a b) ≡ same_term (term_of a) (term_of b)
unfolding plan_definitions
key_same a b =
    then_equal (nat_cmp a.object b.object) _
    ∙ ap₂ ◌&&◌ (nat_same a.object b.object) (then_equal (nat_cmp a.site b.site) (int_cmp a.factor b.factor) ∙ ap₂ ◌&&◌ (nat_same a.site b.site) (int_same a.factor b.factor))
    ∙ and_assoc (a.object == b.object) (a.site == b.site) (int_eq a.factor b.factor)

pub keys_same : (xs ys : List TermKey) → is_eq (keys_cmp xs ys) ≡ same_terms (map term_of xs) (map term_of ys)
unfolding plan_definitions
keys_same [] [] = refl
keys_same [] (y ∷ ys) = refl
keys_same (x ∷ xs) [] = refl
keys_same (x ∷ xs) (y ∷ ys) = then_equal (key_cmp x y) (keys_cmp xs ys) ∙ ap₂ ◌&&◌ (key_same x y) (keys_same xs ys)

-- ---- least slacks
abbrev at : Slacks → List TermKey → Option ℤ
at m ts = get_by (λ k. keys_cmp ts k.items) m

equal_from : (o : Ordering) → is_eq o ≡ true → o ≡ Equal
equal_from Less h = absurd (cc)
equal_from Equal h = refl
equal_from Greater h = absurd (cc)

-- the same is found at keys that compare equal
lookup_same : (xs ys : List TermKey) → is_eq (keys_cmp xs ys) ≡ true → (es : List (Vec TermKey Global × ℤ)) →
    lookup (λ (k : Vec TermKey Global). is_eq (keys_cmp xs k.items)) es ≡ lookup (λ (k : Vec TermKey Global). is_eq (keys_cmp ys k.items)) es
lookup_same xs ys h [] = refl
lookup_same xs ys h (e ∷ es) =
    ap₂ (λ (b : Bool) o. cond b (Some e.1) o) (ap is_eq (keys_total.congr xs ys (e.0).items (equal_from _ h))) (lookup_same xs ys h es)

at_same : (m : Slacks) (xs ys : List TermKey) → is_eq (keys_cmp xs ys) ≡ true → at m xs ≡ at m ys
at_same m xs ys h = lookup_same xs ys h m.entries

tied : (xs ys : List TermKey) → is_eq (keys_cmp xs ys) ≡ is_eq (keys_cmp ys xs)
tied xs ys = ap is_eq (keys_total.antisymm xs ys) ∙ turned (keys_cmp ys xs)
  where
    turned : (o : Ordering) → is_eq (ordering_reverse o) ≡ is_eq o
    turned Less = refl
    turned Equal = refl
    turned Greater = refl

-- a slack that is at most another is at most what that is at most
enough : (o : Option ℤ) (n s : ℤ) → is_at_most o n ≡ true → is_at_most o s ≡ (is_at_most o s || int_le n s)
enough None n s h = absurd (cc)
enough (Some k) n s h = grind (arith, ints)

-- a slack that is less than the least takes its place
less : (o : Option ℤ) (n s : ℤ) → is_at_most o n ≡ false → int_le n s ≡ (is_at_most o s || int_le n s)
less None n s h = refl
less (Some k) n s h = grind (arith, ints)

module _ (m : Slacks) (key : List TermKey) (ts : List TermKey) (s : ℤ) (c : Clause) (is : map term_of key ≡ c.terms) where
  same_is : is_eq (keys_cmp ts key) ≡ same_terms (map term_of ts) c.terms
  same_is = keys_same ts key ∙ ap (same_terms (map term_of ts)) is

  pub put_enough : is_within m key c.slack ≡ true → is_within m ts s ≡ (is_within m ts s || has_terms (map term_of ts) s c)
  put_enough h = go (is_eq (keys_cmp ts key)) refl ∙ ap (λ v. is_within m ts s || (v && int_le c.slack s)) same_is
    where
      go : (v : Bool) → is_eq (keys_cmp ts key) ≡ v → is_within m ts s ≡ (is_within m ts s || (v && int_le c.slack s))
      go true e = ap (λ o. is_at_most o s) (at_same m ts key e) ∙ enough (at m key) c.slack s h ∙ ap (λ o. is_at_most o s || int_le c.slack s) (sym (at_same m ts key e))
      go false e = or_neither (is_within m ts s) (int_le c.slack s)

  pub put_less :
      (n : Slacks) → at n ts ≡ cond (is_eq (keys_cmp key ts)) (Some c.slack) (at m ts) → is_within m key c.slack ≡ false →
      is_within n ts s ≡ (is_within m ts s || has_terms (map term_of ts) s c)
  put_less n u h = ap (λ o. is_at_most o s) u ∙ go (is_eq (keys_cmp ts key)) (tied key ts) refl ∙ ap (λ v. is_within m ts s || (v && int_le c.slack s)) same_is
    where
      go : (v : Bool) → is_eq (keys_cmp key ts) ≡ is_eq (keys_cmp ts key) → is_eq (keys_cmp ts key) ≡ v →
          is_at_most (cond (is_eq (keys_cmp key ts)) (Some c.slack) (at m ts)) s ≡ (is_within m ts s || (v && int_le c.slack s))
      go true t e =
          ap (λ b. is_at_most (cond b (Some c.slack) (at m ts)) s) (t ∙ e) ∙ less (at m key) c.slack s h
          ∙ ap (λ o. is_at_most o s || int_le c.slack s) (sym (at_same m ts key e))
      go false t e = ap (λ b. is_at_most (cond b (Some c.slack) (at m ts)) s) (t ∙ e) ∙ or_neither (is_within m ts s) (int_le c.slack s)

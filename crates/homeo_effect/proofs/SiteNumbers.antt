-- Of the freezes of an object, those of a site.
use Rattle.std.proofs.Common.{◌≡◌, ℕ, zero, suc, ◌==◌, ◌+◌, ◌-◌, ◌<◌, ◌≤◌, nat_lt, Bool, true, false, cond, ◌&&◌, List, [], ◌∷◌, ◌++◌, map, take, get_or, length, refl, sym, ap, ap₂, ◌∙◌, arith}
use Rattle.std.specs.Prelude.{◌||◌}
use Rattle.std.proofs.lemmas.Bool.{false≢true}
use Rattle.std.proofs.lemmas.Bool.Decides.{nat_tests}
use Rattle.std.proofs.lemmas.List.{length-map}
use Rattle.std.proofs.lemmas.List.Folds.{list_any-append, list_any_more}
use Rattle.homeo_lemmas.proofs.Bools.{or_true}
use Rattle.homeo_syntax.specs.declared.list.List.{List as Held}
use Rattle.homeo_plan.specs.declared.forms.Delta.{Delta}
use Rattle.homeo_plan.specs.declared.forms.Term.{Term}
use Rattle.homeo_outline.specs.Numbers.{has, numbers_where, freezes_on}
use Rattle.homeo_outline.specs.Outlined.{Outlined}
use Rattle.homeo_effect.specs.inner.Uses.{freezes_at, marked_from}
use Rattle.homeo_effect.proofs.Marking.{read_from}
use Rattle.homeo_effect.proofs.RisingNumbers.{numbers_above, absent, has_first}

-- ---- numbers of items, by place
numbers_marked : {X : Type 0} (p : X → Bool) (first : ℕ) (xs : List X) → numbers_where p first xs ≡ marked_from first (map p xs)
numbers_marked p first [] = refl
numbers_marked p first (x ∷ xs) = ap (λ ns. cond (p x) (first ∷ ns) ns) (numbers_marked p (suc first) xs)

number_at : {X : Type 0} (p : X → Bool) (first n : ℕ) (xs : List X) → first ≤ n → has n (numbers_where p first xs) ≡ get_or (map p xs) (n - first) false
number_at p first n xs le =
    let e : n ≡ first + (n - first) = omega arith in
    ap (has n) (numbers_marked p first xs) ∙ ap (λ m. has m (marked_from first (map p xs))) e ∙ read_from (map p xs) first (n - first)

number_below : {X : Type 0} (p : X → Bool) (first n : ℕ) (xs : List X) → n < first → has n (numbers_where p first xs) ≡ false
number_below p first n xs lt = absent n n (numbers_where p first xs) (omega arith) (numbers_above p n first xs lt)

cases : (n first : ℕ) (C : Type 0) → (n < first → C) → (first ≤ n → C) → C
cases n first C below above = go (nat_lt n first) refl
  where
    go : (v : Bool) → nat_lt n first ≡ v → C
    go true q = below (grind (arith, nat_tests))
    go false q = above (grind (arith, nat_tests))

-- a number that there is stands for an item
set_within : {X : Type 0} (p : X → Bool) (xs : List X) (k : ℕ) → get_or (map p xs) k false ≡ true → k < length xs
set_within p [] k h = absurd (false≢true h)
set_within p (x ∷ xs) zero h = omega arith
set_within p (x ∷ xs) (suc k) h = let lt = set_within p xs k h in omega (arith, lt)

number_within : {X : Type 0} (p : X → Bool) (first n : ℕ) (xs : List X) → has n (numbers_where p first xs) ≡ true → (first ≤ n) × (n < first + length xs)
number_within p first n xs h =
    cases n first ((first ≤ n) × (n < first + length xs))
    (λ lt. absurd (false≢true (sym (number_below p first n xs lt) ∙ h)))
    (λ le. let lt = set_within p xs (n - first) (sym (number_at p first n xs le) ∙ h) in (le, omega (arith, le, lt)))

-- ---- two tests
both_set :
    {X : Type 0} (p q : X → Bool) (none : X) (xs : List X) (k : ℕ) → (get_or (map p xs) k false && q (get_or xs k none)) ≡ get_or (map (λ x. p x && q x) xs) k false
both_set p q none [] k = refl
both_set p q none (x ∷ xs) zero = refl
both_set p q none (x ∷ xs) (suc k) = both_set p q none xs k

both_numbers :
    {X : Type 0} (p q : X → Bool) (none : X) (first n : ℕ) (xs : List X) →
    (has n (numbers_where p first xs) && q (get_or xs (n - first) none)) ≡ has n (numbers_where (λ x. p x && q x) first xs)
both_numbers p q none first n xs =
    cases n first ((has n (numbers_where p first xs) && q (get_or xs (n - first) none)) ≡ has n (numbers_where (λ x. p x && q x) first xs))
    (λ lt. ap (λ v. v && q (get_or xs (n - first) none)) (number_below p first n xs lt) ∙ sym (number_below (λ x. p x && q x) first n xs lt))
    (λ le.
    ap (λ v. v && q (get_or xs (n - first) none)) (number_at p first n xs le) ∙ both_set p q none xs (n - first)
    ∙ sym (number_at (λ x. p x && q x) first n xs le))

-- ---- the freezes of an object
-- the freeze of a number is of the site
pub is_at_site : ℕ → Outlined → ℕ → Bool
is_at_site i o n = (get_or o.freezes (n - length o.terms) (record { object = 0; site = 0 })).site == i

pub freezes_at_site : (x i : ℕ) (o : Outlined) (n : ℕ) → (has n (freezes_on x (length o.terms) o.freezes) && is_at_site i o n) ≡ has n (freezes_at x i o)
unfolding is_at_site
freezes_at_site x i o n = both_numbers (λ d. d.object == x) (λ d. d.site == i) (record { object = 0; site = 0 }) (length o.terms) n o.freezes

-- a number that is lent is that of a freeze
there : (ns : List ℕ) (k : ℕ) → k < length ns → has (get_or ns k 0) ns ≡ true
there [] k lt = absurd (omega arith)
there (n ∷ ns) zero lt = has_first n ns
there (n ∷ ns) (suc k) lt = ap (λ v. (get_or ns k 0 == n) || v) (there ns k (omega arith)) ∙ or_true (get_or ns k 0 == n)

module _ (o : Outlined) (tss : List (Held Term)) (fs : List Delta) (terms : map (λ l. l.items) tss ≡ o.terms) (freezes : fs ≡ o.freezes) where
  counted : length tss ≡ length o.terms
  counted = sym (length-map tss (λ (l : Held Term). l.items)) ∙ ap length terms

  pub freeze_within :
      (x : ℕ) (ns : List ℕ) → ((n : ℕ) → has n ns ≡ has n (freezes_on x (length o.terms) o.freezes)) → (k : ℕ) → k < length ns →
      (length tss ≤ get_or ns k 0) × (get_or ns k 0 - length tss < length fs)
  freeze_within x ns on k lt =
      let n = get_or ns k 0 in
      let within = number_within (λ d. d.object == x) (length o.terms) n o.freezes (sym (on n) ∙ there ns k lt) in
      let long : length fs ≡ length o.freezes = ap length freezes in
      (omega (arith, counted, within.0), omega (arith, counted, within.0, within.1, long))

  site_is : (i n : ℕ) → is_at_site i o n ≡ ((get_or fs (n - length tss) (record { object = 0; site = 0 })).site == i)
  unfolding is_at_site
  site_is i n = ap₂ (λ (ds : List Delta) first. (get_or ds (n - first) (record { object = 0; site = 0 })).site == i) (sym freezes) (sym counted)

  pub is_of_site : (i n : ℕ) → (get_or fs (n - length tss) (record { object = 0; site = 0 })).site ≡ i → is_at_site i o n ≡ true
  is_of_site i n e = site_is i n ∙ grind (arith, nat_tests, e)

  pub is_of_other : (i n : ℕ) → ((get_or fs (n - length tss) (record { object = 0; site = 0 })).site ≡ i → ⊥) → is_at_site i o n ≡ false
  is_of_other i n apart = site_is i n ∙ grind (arith, nat_tests, apart)

-- ---- one more number
module _ (passes : ℕ → Bool) (ns : List ℕ) (k : ℕ) (lt : k < length ns) (first before : List ℕ)
    (so_far : (n : ℕ) → has n before ≡ (has n first || (has n (take k ns) && passes n)))
  where
    abbrev m : ℕ
    m = get_or ns k 0

    more : (n : ℕ) → has n (take (k + 1) ns) ≡ (has n (take k ns) || (n == m))
    more n = list_any_more (λ j. n == j) ns k 0 lt

    pub number_passed : passes m ≡ true → (n : ℕ) → has n (before ++ m ∷ []) ≡ (has n first || (has n (take (k + 1) ns) && passes n))
    number_passed p n =
        list_any-append (λ j. n == j) before (m ∷ []) ∙ ap (λ v. v || ((n == m) || false)) (so_far n) ∙ go (n == m) refl
        ∙ ap (λ v. has n first || (v && passes n)) (sym (more n))
      where
        bools : (a b c : Bool) → ((a || (b && c)) || false) ≡ (a || ((b || false) && c))
        bools true b c = refl
        bools false true true = refl
        bools false true false = refl
        bools false false c = refl

        here : (a b c : Bool) → c ≡ true → ((a || (b && c)) || true) ≡ (a || ((b || true) && c))
        here true b c h = refl
        here false true true h = refl
        here false true false h = absurd (false≢true h)
        here false false c h = sym h

        go : (v : Bool) → (n == m) ≡ v → ((has n first || (has n (take k ns) && passes n)) || (v || false)) ≡ (has n first || ((has n (take k ns) || v) && passes n))
        go true q = let e : n ≡ m = grind (arith, nat_tests) in here (has n first) (has n (take k ns)) (passes n) (ap passes e ∙ p)
        go false q = bools (has n first) (has n (take k ns)) (passes n)

    pub number_passed_over : passes m ≡ false → (n : ℕ) → has n before ≡ (has n first || (has n (take (k + 1) ns) && passes n))
    number_passed_over p n = so_far n ∙ go (n == m) refl ∙ ap (λ v. has n first || (v && passes n)) (sym (more n))
      where
        bools : (a b c : Bool) → (a || (b && c)) ≡ (a || ((b || false) && c))
        bools true b c = refl
        bools false true c = refl
        bools false false c = refl

        here : (a b c : Bool) → c ≡ false → (a || (b && c)) ≡ (a || ((b || true) && c))
        here true b c h = refl
        here false true c h = refl
        here false false c h = sym h

        go : (v : Bool) → (n == m) ≡ v → (has n first || (has n (take k ns) && passes n)) ≡ (has n first || ((has n (take k ns) || v) && passes n))
        go true q = let e : n ≡ m = grind (arith, nat_tests) in here (has n first) (has n (take k ns)) (passes n) (ap passes e ∙ p)
        go false q = bools (has n first) (has n (take k ns)) (passes n)

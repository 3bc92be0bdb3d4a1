-- Slacks are moved object by object: those of the clauses that name it, where it has another value.
use Rattle.std.proofs.Common.{◌≡◌, ℕ, zero, suc, ◌==◌, ◌+◌, ◌<◌, ◌≤◌, Bool, true, false, cond, List, [], ◌∷◌, length, take, get_or, ℤ, pos, neg_ℤ, ◌+ℤ◌, ◌*ℤ◌, refl, sym, ap, ap₂, ◌∙◌, inl, inr, subst, arith}
use Rattle.std.specs.Prelude.{◌⊎◌, ◌||◌}
use Rattle.std.proofs.lemmas.Bool.{cases_lt, false≢true, or_right}
use Rattle.std.proofs.lemmas.Bool.Decides.{nat_tests}
use Rattle.std.proofs.lemmas.Int.{ints}
use Rattle.std.proofs.lemmas.List.Folds.{list_any_more}
use Rattle.homeo_meaning.specs.Serial.{values_of}
use Rattle.homeo_plan.specs.declared.forms.Term.{Term}
use Rattle.homeo_follow.specs.Key.{definitions as follow_definitions}
use Rattle.homeo_follow.specs.Rebased.{gained, gains}
use Rattle.homeo_outline.specs.Numbers.{has, names_object, clauses_on}
use Rattle.homeo_outline.specs.inner.Moved.{slack_at, moved_slack}
use Rattle.homeo_outline.proofs.Numbers.{has_number}

-- ---- objects past both bases
pub no_gain_past : (from to : List ℤ) (x : ℕ) → length from ≤ x → length to ≤ x → gains (values_of from) (values_of to) x ≡ pos 0
unfolding follow_definitions
no_gain_past from to x past end = ap₂ (λ m n. n +ℤ neg_ℤ m) (get_or_past from x (pos 0) past) (get_or_past to x (pos 0) end)
  where
    get_or_past : (l : List ℤ) (n : ℕ) (d : ℤ) → length l ≤ n → get_or l n d ≡ d
    get_or_past [] n d h = refl
    get_or_past (y ∷ l) zero d h = absurd (omega (arith, h))
    get_or_past (y ∷ l) (suc n) d h = get_or_past l n d (omega (arith, h))

-- ---- the clauses of one object, one after another
pub moved_more :
    (numbers : List ℕ) (k d number n : ℕ) (moved before now next : ℤ) → k < length numbers → number ≡ get_or numbers k d →
    now ≡ cond (has n (take k numbers)) moved before → next ≡ cond (number == n) moved now → next ≡ cond (has n (take (k + 1) numbers)) moved before
moved_more numbers k d number n moved before now next lt is so_far put =
    put ∙ ap (cond (number == n) moved) so_far ∙ go (has n (take k numbers)) (number == n) (n == number) flip
    ∙ sym (ap (λ b. cond b moved before) (list_any_more (λ m. n == m) numbers k d lt ∙ ap (λ m. has n (take k numbers) || (n == m)) (sym is)))
  where
    flip : (number == n) ≡ (n == number)
    flip = grind (arith, nat_tests)

    go : (was is other : Bool) → is ≡ other → cond is moved (cond was moved before) ≡ cond (was || other) moved before
    go true true true e = refl
    go true false false e = refl
    go false true true e = refl
    go false false false e = refl
    go was true false e = absurd (false≢true (sym e))
    go was false true e = absurd (false≢true e)

-- ---- all objects, one after another
module _ (g : ℕ → ℤ) (tss : List (List Term)) (ss : List ℤ) where
  terms_of : ℕ → List Term
  terms_of n = get_or tss n []

  -- of the objects before number i: the slack is moved, or is as it was and the clause names none with another value
  abbrev pub Settled : ℕ → List ℤ → ℕ → Type 0
  Settled i made n =
      (slack_at made n ≡ moved_slack g tss ss n)
      ⊎ ((slack_at made n ≡ slack_at ss n) × ((x : ℕ) → x < i → (g x ≡ pos 0) ⊎ (names_object x (get_or tss n []) ≡ false)))

  pub settled_first : (made : List ℤ) → made ≡ ss → (n : ℕ) → Settled 0 made n
  settled_first made e n = inr (ap (λ l. slack_at l n) e, λ x l. absurd (omega (arith, l)))

  -- what holds of the objects so far holds of one more
  one_more :
      (i n : ℕ) → ((x : ℕ) → x < i → (g x ≡ pos 0) ⊎ (names_object x (get_or tss n []) ≡ false)) →
      ((g i ≡ pos 0) ⊎ (names_object i (get_or tss n []) ≡ false)) → (x : ℕ) → x < i + 1 → (g x ≡ pos 0) ⊎ (names_object x (get_or tss n []) ≡ false)
  one_more i n h k x l = go (cases_lt x i)
    where
      go : (x < i) ⊎ (i ≤ x) → (g x ≡ pos 0) ⊎ (names_object x (get_or tss n []) ≡ false)
      go (inl less) = h x less
      go (inr same) =
          let is : i ≡ x = omega (arith, l, same) in
          subst (λ y. (g y ≡ pos 0) ⊎ (names_object y (get_or tss n []) ≡ false)) is k

  pub settled_passed : (i : ℕ) (made : List ℤ) (n : ℕ) → g i ≡ pos 0 → Settled i made n → Settled (i + 1) made n
  settled_passed i made n e (inl p) = inl p
  settled_passed i made n e (inr h) = inr (h.0, one_more i n h.1 (inl e))

  pub settled_moved :
      (i : ℕ) (made after : List ℤ) (n : ℕ) → n < length tss → slack_at after n ≡ cond (has n (clauses_on i tss)) (moved_slack g tss ss n) (slack_at made n) →
      Settled i made n → Settled (i + 1) after n
  settled_moved i made after n lt put so_far = go (has n (clauses_on i tss)) refl so_far
    where
      go : (b : Bool) → has n (clauses_on i tss) ≡ b → Settled i made n → Settled (i + 1) after n
      go true e h = inl (put ∙ ap (λ b. cond b (moved_slack g tss ss n) (slack_at made n)) e)
      go false e (inl p) = inl (put ∙ ap (λ b. cond b (moved_slack g tss ss n) (slack_at made n)) e ∙ p)
      go false e (inr h) =
          inr (
            put ∙ ap (λ b. cond b (moved_slack g tss ss n) (slack_at made n)) e ∙ h.0,
            one_more i n h.1 (inr (sym (has_number (names_object i) n tss [] lt) ∙ e)),
          )

  -- terms of objects that gained nothing gain nothing
  none_gained : (ts : List Term) → ((x : ℕ) → names_object x ts ≡ true → g x ≡ pos 0) → gained g ts ≡ pos 0
  unfolding follow_definitions
  none_gained [] h = refl
  none_gained (t ∷ ts) h =
      nothing t.factor (g t.delta.object) (gained g ts) (h t.delta.object (named t.delta.object ts)) (none_gained ts (λ x e. h x (or_right (t.delta.object == x) (names_object x ts) e)))
    where
      nothing : (f m z : ℤ) → m ≡ pos 0 → z ≡ pos 0 → (f *ℤ m) +ℤ z ≡ pos 0
      nothing f m z e p = grind (arith, ints, e, p)

      named : (x : ℕ) (us : List Term) → ((x == x) || names_object x us) ≡ true
      named x us = let same : (x == x) ≡ true = grind (arith, nat_tests) in ap (λ b. b || names_object x us) same

  pub settled_all : (i : ℕ) (made : List ℤ) (n : ℕ) → ((x : ℕ) → i ≤ x → g x ≡ pos 0) → Settled i made n → slack_at made n ≡ moved_slack g tss ss n
  settled_all i made n none (inl p) = p
  settled_all i made n none (inr h) = h.0 ∙ same (slack_at ss n) (gained g (get_or tss n [])) (none_gained (get_or tss n []) (λ x named. still x named (cases_lt x i)))
    where
      same : (s z : ℤ) → z ≡ pos 0 → s ≡ s +ℤ neg_ℤ z
      same s z e = grind (arith, ints, e)

      still : (x : ℕ) → names_object x (get_or tss n []) ≡ true → (x < i) ⊎ (i ≤ x) → g x ≡ pos 0
      still x named (inl less) = go (h.1 x less)
        where
          go : (g x ≡ pos 0) ⊎ (names_object x (get_or tss n []) ≡ false) → g x ≡ pos 0
          go (inl e) = e
          go (inr e) = absurd (false≢true (sym e ∙ named))
      still x named (inr past) = none x past

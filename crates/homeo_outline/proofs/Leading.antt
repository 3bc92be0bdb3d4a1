-- Clauses that are led: with one more leader, with another one, with one more object, and at another base.
use Rattle.std.proofs.Common.{◌≡◌, ◌⊎◌, ℕ, zero, suc, ◌<◌, ◌==◌, Bool, true, false, List, [], ◌∷◌, ◌++◌, map, length, get_or, set, ℤ, pos, ◌≤ℤ◌, ◌+ℤ◌, neg_ℤ, int_lt, refl, sym, ap, ◌∙◌, subst, inl, inr, ⊎_elim, arith}
use Rattle.std.specs.Prelude.{◌||◌}
use Rattle.std.proofs.lemmas.Int.{ints}
use Rattle.std.proofs.lemmas.Bool.Decides.{nat_tests}
use Rattle.std.proofs.lemmas.List.{get_or-map}
use Rattle.std.proofs.lemmas.List.Folds.{list_any_at, list_any-append}
use Rattle.std.proofs.lemmas.Bool.{or_left, or_right}
use Rattle.homeo_lemmas.proofs.Integers.{at_most_both}
use Rattle.homeo_lemmas.proofs.Naturals.{nat_itself}
use Rattle.homeo_plan.specs.declared.forms.Term.{Term}
use Rattle.homeo_plan.specs.Template.{Clause}
use Rattle.homeo_follow.specs.Key.{definitions as follow_definitions}
use Rattle.homeo_follow.specs.Rebased.{gained, rebased_clause}
use Rattle.homeo_outline.specs.Leaders.{IsLed, Lead}
use Rattle.homeo_outline.specs.Numbers.{has, clauses_on}
use Rattle.homeo_outline.specs.ObjectPlan.{clauses_with}
use Rattle.homeo_outline.specs.inner.Moved.{slack_at, moved_slack}
use Rattle.homeo_outline.proofs.Slacks.{clause_count, clause_read}

-- ---- numbers in a list
pub has_at : (ns : List ℕ) (i d : ℕ) → i < length ns → has (get_or ns i d) ns ≡ true
has_at ns i d lt = list_any_at (λ m. get_or ns i d == m) ns i d lt (nat_itself (get_or ns i d))

-- what is read where there is something
pub read_alike : (ns : List ℕ) (i d e : ℕ) → i < length ns → get_or ns i d ≡ get_or ns i e
read_alike [] i d e lt = absurd (omega (arith, lt))
read_alike (n ∷ ns) zero d e lt = refl
read_alike (n ∷ ns) (suc i) d e lt = read_alike ns i d e (omega (arith, lt))

pub has_last : (v : ℕ) (ms : List ℕ) → has v (ms ++ v ∷ []) ≡ true
has_last v ms = list_any-append (λ m. v == m) ms (v ∷ []) ∙ or_right (has v ms) _ (or_left (v == v) false (nat_itself v))

-- in the place of another
pub has_still : (l : ℕ) (ms : List ℕ) (k v : ℕ) → has l ms ≡ true → (l ≡ get_or ms k 0) ⊎ (has l (set ms k v) ≡ true)
has_still l [] k v h = cc
has_still l (m ∷ ms) zero v h = go (l == m) refl h
  where
    go : (b : Bool) → (l == m) ≡ b → (b || has l ms) ≡ true → (l ≡ m) ⊎ (((l == v) || has l ms) ≡ true)
    go true e q = inl (grind (arith, nat_tests))
    go false e q = inr (or_right (l == v) (has l ms) q)
has_still l (m ∷ ms) (suc k) v h = go (l == m) (has_still l ms k v) h
  where
    go :
        (b : Bool) → (has l ms ≡ true → (l ≡ get_or ms k 0) ⊎ (has l (set ms k v) ≡ true)) → (b || has l ms) ≡ true →
        (l ≡ get_or ms k 0) ⊎ ((b || has l (set ms k v)) ≡ true)
    go true later q = inr refl
    go false later q = later q

pub has_put : (ms : List ℕ) (k v : ℕ) → k < length ms → has v (set ms k v) ≡ true
has_put [] k v lt = absurd (omega (arith, lt))
has_put (m ∷ ms) zero v lt = or_left (v == v) (has v ms) (nat_itself v)
has_put (m ∷ ms) (suc k) v lt = or_right (v == m) (has v (set ms k v)) (has_put ms k v (omega (arith, lt)))

-- ---- numbers
same_at_most : (a : ℤ) → a ≤ℤ a
same_at_most a = grind (arith, ints)

pub less_at_most : (a b : ℤ) → int_lt a b ≡ true → a ≤ℤ b
less_at_most a b h = grind (arith, ints)

less_both : (a b c : ℤ) → a ≤ℤ b → (a +ℤ c) ≤ℤ (b +ℤ c)
less_both a b c h = grind (arith, ints)

-- ---- leaders
module _ (tss : List (List Term)) (ss : List ℤ) where
  abbrev terms_at : ℕ → List Term
  terms_at n = get_or tss n []

  pub still_led : (old new : List ℕ) → ((l : ℕ) → has l old ≡ true → has l new ≡ true) → (n : ℕ) → IsLed tss ss old n → IsLed tss ss new n
  still_led old new kept n h =
      record { leader = h.leader; there = kept h.leader h.there; leads = h.leads; led = h.led; terms = h.terms; slack = h.slack }

  -- a leader leads itself
  pub led_itself : (ms : List ℕ) (n : ℕ) → has n ms ≡ true → n < length tss → IsLed tss ss ms n
  led_itself ms n h lt = record { leader = n; there = h; leads = lt; led = lt; terms = refl; slack = same_at_most (slack_at ss n) }

  module _ (ms : List ℕ) (place number : ℕ) (within : place < length ms) (leads : get_or ms place 0 < length tss) (led : number < length tss) (alike : terms_at (get_or ms place 0) ≡ terms_at number) where
    -- the one at its place has no more slack
    pub led_there : slack_at ss (get_or ms place 0) ≤ℤ slack_at ss number → IsLed tss ss ms number
    led_there le = record { leader = get_or ms place 0; there = has_at ms place 0 within; leads = leads; led = led; terms = alike; slack = le }

    -- it has less, and takes its place
    pub led_instead : slack_at ss number ≤ℤ slack_at ss (get_or ms place 0) → (n : ℕ) → IsLed tss ss ms n → IsLed tss ss (set ms place number) n
    led_instead le n h = ⊎_elim moved stayed (has_still h.leader ms place number h.there)
      where
        moved : h.leader ≡ get_or ms place 0 → IsLed tss ss (set ms place number) n
        moved e = record {
          leader = number;
          there = has_put ms place number within;
          leads = led;
          led = h.led;
          terms = sym alike ∙ ap terms_at (sym e) ∙ h.terms;
          slack = at_most_both _ _ _ le (subst (λ l. slack_at ss l ≤ℤ slack_at ss n) e h.slack);
        }

        stayed : has h.leader (set ms place number) ≡ true → IsLed tss ss (set ms place number) n
        stayed e = record { leader = h.leader; there = e; leads = h.leads; led = h.led; terms = h.terms; slack = h.slack }

  -- ---- object by object
  pub lead_none : Lead tss ss []
  lead_none x n some h = absurd (some refl)

  pub lead_more :
      (ls : List (List ℕ)) (v : List ℕ) → Lead tss ss ls →
      ((n : ℕ) → (v ≡ [] → ⊥) → has n (clauses_on (length ls) tss) ≡ true → IsLed tss ss v n) → Lead tss ss (ls ++ v ∷ [])
  lead_more ls v h g x n = go ls x (h x n) (λ e some is. g n some (subst (λ m. has n (clauses_on m tss) ≡ true) e is))
    where
      go :
          (ls : List (List ℕ)) (y : ℕ) →
          ((get_or ls y [] ≡ [] → ⊥) → has n (clauses_on x tss) ≡ true → IsLed tss ss (get_or ls y []) n) →
          (y ≡ length ls → (v ≡ [] → ⊥) → has n (clauses_on x tss) ≡ true → IsLed tss ss v n) →
          (get_or (ls ++ v ∷ []) y [] ≡ [] → ⊥) → has n (clauses_on x tss) ≡ true → IsLed tss ss (get_or (ls ++ v ∷ []) y []) n
      go [] zero old last = last refl
      go [] (suc y) old last = λ some is. absurd (some refl)
      go (l ∷ ls) zero old last = old
      go (l ∷ ls) (suc y) old last = go ls y old (λ e. last (ap suc e))

-- ---- at another base
module _ (g : ℕ → ℤ) (tss : List (List Term)) (ss made : List ℤ) (moved : clauses_with tss made ≡ map (rebased_clause g) (clauses_with tss ss)) where
  slack_moved : (n : ℕ) → n < length tss → slack_at made n ≡ moved_slack g tss ss n
  unfolding follow_definitions
  slack_moved n lt =
      let d : Clause = record { terms = []; slack = pos 0 } in
      let there : n < length (clauses_with tss ss) = subst (λ m. n < m) (sym (clause_count tss ss)) lt in
      sym (ap (λ (c : Clause). c.slack) (clause_read tss made n d lt)) ∙ ap (λ (cs : List Clause). (get_or cs n d).slack) moved
      ∙ ap (λ (c : Clause). c.slack) (get_or-map (rebased_clause g) (clauses_with tss ss) n d d there ∙ ap (rebased_clause g) (clause_read tss ss n d lt))

  pub leaders_stay : (ls : List (List ℕ)) → Lead tss ss ls → Lead tss made ls
  leaders_stay ls h x n some is =
      let l = h x n some is in
      let less = less_both _ _ (neg_ℤ (gained g (get_or tss n []))) l.slack in
      record {
        leader = l.leader;
        there = l.there;
        leads = l.leads;
        led = l.led;
        terms = l.terms;
        slack =
            subst (λ z. z ≤ℤ slack_at made n) (sym (slack_moved l.leader l.leads))
            (subst (λ z. moved_slack g tss ss l.leader ≤ℤ z) (sym (slack_moved n l.led))
            (subst (λ (ts : List Term). (slack_at ss l.leader +ℤ neg_ℤ (gained g ts)) ≤ℤ moved_slack g tss ss n) (sym l.terms) less));
      }

-- Tables of numbers by object, as numbers are put in.
use Rattle.std.proofs.Common.{◌≡◌, ℕ, ◌==◌, ◌+◌, ◌<◌, Bool, true, false, cond, ◌&&◌, List, [], ◌∷◌, ◌++◌, map, set, take, get_or, length, refl, sym, ap, ap₂, ◌∙◌, subst, arith}
use Rattle.std.specs.Prelude.{◌||◌}
use Rattle.std.proofs.lemmas.Bool.Decides.{nat_tests}
use Rattle.std.proofs.lemmas.List.{map-set, map-append, get_or-map, length-map, take_more}
use Rattle.std.proofs.lemmas.List.Folds.{list_any-append, list_any_more}
use Rattle.homeo_lemmas.proofs.Bools.{or_false}
use Rattle.homeo_meaning.proofs.AbsentItems.{padded_more, padded_set}
use Rattle.homeo_plan.specs.declared.forms.Term.{Term}
use Rattle.homeo_outline.specs.Numbers.{has, names_object, numbers_where}
use Rattle.homeo_outline.specs.inner.Uses.{at_object}
use Rattle.homeo_outline.proofs.Numbers.{has_more}

-- ---- one object's numbers
module _ {A : Type 0} (f : A → List ℕ) where
  pub room_more : (us : List A) (v : A) → f v ≡ [] → (x : ℕ) → at_object x (map f (us ++ v ∷ [])) ≡ at_object x (map f us)
  room_more us v e x =
      ap (at_object x) (map-append f us (v ∷ []) ∙ ap (λ t. map f us ++ t ∷ []) e) ∙ padded_more (map f us) [] x

  pub noted :
      (us : List A) (object : ℕ) (v new : A) (number : ℕ) → object < length us → v ≡ get_or us object v → f new ≡ f v ++ number ∷ [] → (x : ℕ) →
      at_object x (map f (set us object new)) ≡ cond (object == x) (at_object x (map f us) ++ number ∷ []) (at_object x (map f us))
  noted us object v new number h p e x =
      let long : object < length (map f us) = subst (λ n. object < n) (sym (length-map us f)) h in
      ap (at_object x) (map-set f us object new) ∙ padded_set (map f us) object (f new) [] x long ∙ go (object == x) refl
    where
      go :
          (b : Bool) → (object == x) ≡ b →
          cond b (f new) (at_object x (map f us)) ≡ cond b (at_object x (map f us) ++ number ∷ []) (at_object x (map f us))
      go true q =
          let same : object ≡ x = grind (arith, nat_tests) in
          e ∙ ap (λ ns. ns ++ number ∷ []) (ap f p ∙ sym (get_or-map f us object v [] h) ∙ ap (λ y. at_object y (map f us)) same)
      go false q = refl

-- ---- terms
named_more : (x : ℕ) (ts : List Term) (k : ℕ) (t d : Term) → k < length ts → t ≡ get_or ts k d → names_object x (take (k + 1) ts) ≡ (names_object x (take k ts) || (t.delta.object == x))
named_more x ts k t d h p =
    list_any_more (λ (u : Term). u.delta.object == x) ts k d h ∙ ap (λ (u : Term). names_object x (take k ts) || (u.delta.object == x)) (sym p)

-- what is put at an object
pub object_noted :
    (object number x n : ℕ) (before after : List ℕ) → after ≡ cond (object == x) (before ++ number ∷ []) before →
    has n after ≡ (has n before || ((object == x) && (n == number)))
object_noted object number x n before after put = ap (has n) put ∙ go (object == x)
  where
    go : (v : Bool) → has n (cond v (before ++ number ∷ []) before) ≡ (has n before || (v && (n == number)))
    go true = list_any-append (λ m. n == m) before (number ∷ []) ∙ ap (λ v. has n before || v) (or_false (n == number))
    go false = sym (or_false (has n before))

join_or : (b o v e : Bool) → ((b || (o && e)) || (v && e)) ≡ (b || ((o || v) && e))
join_or true o v e = refl
join_or false true v true = refl
join_or false true true false = refl
join_or false true false false = refl
join_or false false v e = refl

module _ (ts : List Term) (k : ℕ) (t d : Term) (lt : k < length ts) (p : t ≡ get_or ts k d) (number : ℕ) (first before : List (List ℕ))
    (so_far : (x n : ℕ) → has n (at_object x before) ≡ (has n (at_object x first) || (names_object x (take k ts) && (n == number))))
  where
    pub term_noted :
        (after : List (List ℕ)) →
        ((x : ℕ) → at_object x after ≡ cond (t.delta.object == x) (at_object x before ++ number ∷ []) (at_object x before)) → (x n : ℕ) →
        has n (at_object x after) ≡ (has n (at_object x first) || (names_object x (take (k + 1) ts) && (n == number)))
    term_noted after put x n =
        object_noted t.delta.object number x n (at_object x before) (at_object x after) (put x)
        ∙ ap (λ v. v || ((t.delta.object == x) && (n == number))) (so_far x n)
        ∙ join_or (has n (at_object x first)) (names_object x (take k ts)) (t.delta.object == x) (n == number)
        ∙ ap (λ v. has n (at_object x first) || (v && (n == number))) (sym (named_more x ts k t d lt p))

-- ---- one more item
-- at each object stand the numbers, from first on, of the items that pass its test
abbrev pub Keeps : {X : Type 0} → (ℕ → X → Bool) → ℕ → List X → List (List ℕ) → Type 0
Keeps test first xs uses = (o n : ℕ) → has n (at_object o uses) ≡ has n (numbers_where (test o) first xs)

module _ {X : Type 0} (test : ℕ → X → Bool) (first : ℕ) (xs : List X) (x : X) (number : ℕ) (before after : List (List ℕ)) where
  pub item_kept :
      number ≡ first + length xs → Keeps test first xs before →
      ((o n : ℕ) → has n (at_object o after) ≡ (has n (at_object o before) || (test o x && (n == number)))) →
      Keeps test first (xs ++ x ∷ []) after
  item_kept counted keeps h o n = h o n ∙ ap₂ (λ v m. v || (test o x && (n == m))) (keeps o n) counted ∙ sym (has_more (test o) first n xs x)

-- the items so far, with the next one
pub next_is : {X : Type 0} (xs : List X) (k : ℕ) (x d : X) → k < length xs → x ≡ get_or xs k d → take k xs ++ x ∷ [] ≡ take (k + 1) xs
next_is xs k x d lt p = ap (λ y. take k xs ++ y ∷ []) p ∙ sym (take_more xs k d lt)

-- The forms of objects at their places, as one is set.
use Rattle.std.proofs.Common.{◌≡◌, ◌==◌, ℕ, zero, suc, ◌<◌, ◌≤◌, Bool, true, false, cond, List, [], ◌∷◌, ◌++◌, length, get_or, set, take, replicate, is_some, true≢false, refl, sym, ap, ◌∙◌, subst, arith}
use Rattle.std.proofs.lemmas.Bool.Decides.{nat_tests}
use Rattle.std.specs.declared.option.Option.{Option}
use Rattle.std.specs.declared.option.Option.TheVariants.{None, Some}
use Rattle.homeo_lemmas.proofs.Naturals.{nat_itself}
use Rattle.homeo_plan.specs.Linear.{Linear}
use Rattle.homeo_form.specs.declared.objects.ObjectForm.{ObjectForm}
use Rattle.homeo_form.specs.declared.objects.ObjectForms.{ObjectForms}
use Rattle.homeo_form.specs.Key.{definitions}
use Rattle.homeo_form.specs.Objects.{form_there, place_in, form_in}

abbrev pub some : ℕ → Linear → ObjectForm
some x a = record { object = x; form = a }

-- ---- what stands at a place
pub there_is : (x n : ℕ) (fs : List ObjectForm) (o : ObjectForm) → n < length fs → o ≡ get_or fs n o → form_there x n fs ≡ cond (o.object == x) (Some o.form) None
unfolding definitions
there_is x n [] o h e = absurd (omega (arith, h))
there_is x zero (p ∷ fs) o h e = ap (λ (q : ObjectForm). cond (q.object == x) (Some q.form) None) (sym e)
there_is x (suc n) (p ∷ fs) o h e = there_is x n fs o (omega (arith, h)) e

pub there_none : (x n : ℕ) (fs : List ObjectForm) → (n < length fs → ⊥) → form_there x n fs ≡ None
unfolding definitions
there_none x n [] h = refl
there_none x zero (p ∷ fs) h = absurd (h (omega arith))
there_none x (suc n) (p ∷ fs) h = there_none x n fs (λ k. h (omega (arith, k)))

pub some_there : (b : Bool) (a : Linear) → is_some (cond b (Some a) None) ≡ b
some_there true a = refl
some_there false a = refl

-- ---- one that is set again
pub same_there : (x n : ℕ) (a : Linear) (fs : List ObjectForm) → true ≡ is_some (form_there x n fs) → form_there x n (set fs n (some x a)) ≡ Some a
unfolding definitions
same_there x n a [] h = absurd (true≢false h)
same_there x zero a (p ∷ fs) h = ap (λ b. cond b (Some a) None) (nat_itself x)
same_there x (suc n) a (p ∷ fs) h = same_there x n a fs h

pub others_there :
    (x y n m : ℕ) (a : Linear) (fs : List ObjectForm) → (x == y) ≡ false → true ≡ is_some (form_there x n fs) →
    form_there y m (set fs n (some x a)) ≡ form_there y m fs
unfolding definitions
others_there x y n m a [] k h = refl
others_there x y zero zero a (p ∷ fs) k h =
    ap (λ b. cond b (Some a) None) k ∙ sym (ap (λ b. cond b (Some p.form) None) (other p.object (h ∙ some_there (p.object == x) p.form)))
  where
    other : (z : ℕ) → true ≡ (z == x) → (z == y) ≡ false
    other z e = grind (arith, nat_tests, k, e)
others_there x y zero (suc m) a (p ∷ fs) k h = refl
others_there x y (suc n) zero a (p ∷ fs) k h = refl
others_there x y (suc n) (suc m) a (p ∷ fs) k h = others_there x y n m a fs k h

-- ---- one behind the others
pub last_there : (x : ℕ) (a : Linear) (fs : List ObjectForm) → form_there x (length fs) (fs ++ some x a ∷ []) ≡ Some a
unfolding definitions
last_there x a [] = ap (λ b. cond b (Some a) None) (nat_itself x)
last_there x a (p ∷ fs) = last_there x a fs

pub before_last : (x y m : ℕ) (a : Linear) (fs : List ObjectForm) → (x == y) ≡ false → form_there y m (fs ++ some x a ∷ []) ≡ form_there y m fs
unfolding definitions
before_last x y zero a [] k = ap (λ b. cond b (Some a) None) k
before_last x y (suc m) a [] k = refl
before_last x y zero a (p ∷ fs) k = refl
before_last x y (suc m) a (p ∷ fs) k = before_last x y m a fs k

-- ---- a form that is set
pub set_again :
    (s t : ObjectForms) (x : ℕ) (a : Linear) → t.places.items ≡ s.places.items → t.forms.items ≡ set s.forms.items (place_in s x) (some x a) →
    true ≡ is_some (form_in s x) → (y : ℕ) → form_in t y ≡ cond (x == y) (Some a) (form_in s y)
set_again s t x a p q h y = at (x == y) refl
  where
    moved : form_in t y ≡ form_there y (place_in s y) (set s.forms.items (place_in s x) (some x a))
    moved = λ i. form_there y (get_or (p i) y 0) (q i)

    at : (b : Bool) → (x == y) ≡ b → form_in t y ≡ cond b (Some a) (form_in s y)
    at true e = moved ∙ subst (λ z. form_there z (place_in s z) (set s.forms.items (place_in s x) (some x a)) ≡ Some a) (grind (arith, nat_tests, e)) (same_there x (place_in s x) a s.forms.items h)
    at false e = moved ∙ others_there x y (place_in s x) (place_in s y) a s.forms.items e h

pub set_last :
    (s t : ObjectForms) (x : ℕ) (a : Linear) → ((y : ℕ) → place_in t y ≡ cond (x == y) (length s.forms.items) (place_in s y)) →
    t.forms.items ≡ s.forms.items ++ some x a ∷ [] → (y : ℕ) → form_in t y ≡ cond (x == y) (Some a) (form_in s y)
set_last s t x a p q y = at (x == y) refl
  where
    at : (b : Bool) → (x == y) ≡ b → form_in t y ≡ cond b (Some a) (form_in s y)
    at true e =
        (λ i. form_there y ((p y ∙ ap (λ b. cond b (length s.forms.items) (place_in s y)) e) i) (q i))
        ∙ subst (λ z. form_there z (length s.forms.items) (s.forms.items ++ some x a ∷ []) ≡ Some a) (grind (arith, nat_tests, e)) (last_there x a s.forms.items)
    at false e =
        (λ i. form_there y ((p y ∙ ap (λ b. cond b (length s.forms.items) (place_in s y)) e) i) (q i))
        ∙ before_last x y (place_in s y) a s.forms.items e

-- ---- the form that is there, or none
pub inside : (x n : ℕ) (fs : List ObjectForm) → true ≡ is_some (form_there x n fs) → n < length fs
unfolding definitions
inside x n [] h = absurd (true≢false h)
inside x zero (p ∷ fs) h = omega arith
inside x (suc n) (p ∷ fs) h = omega (arith, inside x n fs h)

pub found : (x n : ℕ) (fs : List ObjectForm) (o : ObjectForm) → true ≡ is_some (form_there x n fs) → o ≡ get_or fs n o → Some o.form ≡ form_there x n fs
unfolding definitions
found x n [] o h e = absurd (true≢false h)
found x zero (p ∷ fs) o h e =
    ap (λ (q : ObjectForm). Some q.form) e ∙ sym (ap (λ b. cond b (Some p.form) None) (sym (h ∙ some_there (p.object == x) p.form)))
found x (suc n) (p ∷ fs) o h e = found x n fs o h e

pub missing : (o : Option Linear) → false ≡ is_some o → None ≡ o
missing None h = refl
missing (Some a) h = absurd (true≢false (sym h))

-- ---- the places, where they reach further
none_more : (k x : ℕ) → ◌≡◌ {A = ℕ} (get_or (replicate k 0) x 0) 0
none_more zero x = refl
none_more (suc k) zero = refl
none_more (suc k) (suc x) = none_more k x

pub places_kept : (ps : List ℕ) (n k x : ℕ) → length ps ≤ n → get_or (take n ps ++ replicate k 0) x 0 ≡ get_or ps x 0
places_kept [] zero k x h = none_more k x
places_kept [] (suc n) k x h = none_more k x
places_kept (p ∷ ps) zero k x h = absurd (omega (arith, h))
places_kept (p ∷ ps) (suc n) k zero h = refl
places_kept (p ∷ ps) (suc n) k (suc x) h = places_kept ps n k x (omega (arith, h))

-- ---- the places, where one is set
set_here : (ps : List ℕ) (i n : ℕ) → i < length ps → get_or (set ps i n) i 0 ≡ n
set_here [] i n h = absurd (omega (arith, h))
set_here (p ∷ ps) zero n h = refl
set_here (p ∷ ps) (suc i) n h = set_here ps i n (omega (arith, h))

set_other : (ps : List ℕ) (i n x : ℕ) → (i ≡ x → ⊥) → get_or (set ps i n) x 0 ≡ get_or ps x 0
set_other [] i n x h = refl
set_other (p ∷ ps) zero n zero h = absurd (h refl)
set_other (p ∷ ps) zero n (suc x) h = refl
set_other (p ∷ ps) (suc i) n zero h = refl
set_other (p ∷ ps) (suc i) n (suc x) h = set_other ps i n x (λ e. h (ap suc e))

pub place_set : (ps : List ℕ) (i n x : ℕ) → i < length ps → get_or (set ps i n) x 0 ≡ cond (i == x) n (get_or ps x 0)
place_set ps i n x h = at (i == x) refl
  where
    at : (b : Bool) → (i == x) ≡ b → get_or (set ps i n) x 0 ≡ cond b n (get_or ps x 0)
    at true e = subst (λ z. get_or (set ps i n) z 0 ≡ n) (grind (arith, nat_tests, e)) (set_here ps i n h)
    at false e = set_other ps i n x (λ k. grind (arith, nat_tests, e, k))

-- What a command depends on that was followed: its prints, and the gains of the objects that it writes.
use Rattle.homeo_plan.specs.Key.{definitions as plan_definitions}
use Rattle.homeo_follow.specs.Key.{definitions as follow_definitions}
use Rattle.std.proofs.Common.{◌≡◌, ℕ, ◌+◌, ◌-◌, ◌<◌, ◌≤◌, Bool, ◌||◌, List, [], ◌∷◌, ◌++◌, map, drop, get_or, length, ℤ, refl, sym, ap, ◌∙◌, add-one, arith}
use Rattle.std.specs.List.{list_any}
use Rattle.std.proofs.Math.Seq.{drop-cons}
use Rattle.homeo_lemmas.proofs.Bools.{or_false}
use Rattle.homeo_meaning.specs.LowMeaning.{BaseAt}
use Rattle.homeo_plan.specs.declared.forms.Delta.{Delta}
use Rattle.homeo_plan.specs.Linear.{AreInOrder, Linear, Forms, add_deltas, support}
use Rattle.homeo_follow.specs.Follow.{gain, print_needs, write_needs}
use Rattle.homeo_plan.proofs.DeltaLists.{has, any_adds, has_adds, in_order_adds, same_deltas}

-- the objects that deltas stand for
abbrev objects : List Delta → List ℕ
objects ds = map (λ d. d.object) ds

-- ---- one of the deltas that are put together
any_object : (q : ℕ → Bool) (ds : List Delta) → list_any q (objects ds) ≡ list_any (λ d. q d.object) ds
any_object q [] = refl
any_object q (d ∷ ds) = ap (λ v. q d.object || v) (any_object q ds)

pub any_once : (q : ℕ → Bool) (ds es : List Delta) → es ≡ add_deltas ds [] → list_any q (objects es) ≡ list_any q (objects ds)
any_once q ds es p =
    any_object q es ∙ ap (list_any (λ d. q d.object)) p ∙ any_adds (λ d. q d.object) ds [] ∙ or_false (list_any (λ d. q d.object) ds)
    ∙ sym (any_object q ds)

-- ---- gains
module _ (b : ℕ → ℤ) (f : Forms) where
  -- what the gain of an object depends on
  abbrev gained : ℕ → List Delta
  gained x = support (gain (b x) x (f (BaseAt x)))

  gains_have : (d : Delta) (xs : List ℕ) → has d (write_needs b f xs) ≡ list_any (λ x. has d (gained x)) xs
  unfolding follow_definitions
  gains_have d [] = refl
  gains_have d (x ∷ xs) = has_adds d (gained x) (write_needs b f xs) ∙ ap (λ v. has d (gained x) || v) (gains_have d xs)

  gains_in_order : (xs : List ℕ) → AreInOrder (write_needs b f xs)
  unfolding follow_definitions plan_definitions
  gains_in_order [] = tt
  gains_in_order (x ∷ xs) = in_order_adds (gained x) (write_needs b f xs) (gains_in_order xs)

  -- each object once is enough
  pub gains_once : (ds es : List Delta) → es ≡ add_deltas ds [] → write_needs b f (objects es) ≡ write_needs b f (objects ds)
  gains_once ds es p =
      same_deltas (write_needs b f (objects es)) (write_needs b f (objects ds)) (gains_in_order (objects es)) (gains_in_order (objects ds))
      (λ d. gains_have d (objects es) ∙ any_once (λ x. has d (gained x)) ds es p ∙ sym (gains_have d (objects ds)))

  pub gains_end : (ds es : List Delta) → es ≡ [] → add_deltas es [] ≡ write_needs b f (objects (drop (length ds) ds))
  unfolding plan_definitions follow_definitions
  gains_end ds es p = ap (λ l. add_deltas l []) p ∙ sym (ap (λ l. write_needs b f (objects l)) (none ds))
    where
      none : (xs : List Delta) → drop (length xs) xs ≡ []
      none [] = refl
      none (x ∷ xs) = none xs

  gains_more :
      (ds es fs : List Delta) (n : ℕ) (x : Delta) → n < length ds → add_deltas fs [] ≡ add_deltas (gained (get_or ds n x).object) (add_deltas es []) →
      add_deltas es [] ≡ write_needs b f (objects (drop (n + 1) ds)) → add_deltas fs [] ≡ write_needs b f (objects (drop n ds))
  unfolding plan_definitions follow_definitions
  gains_more ds es fs n x h pf pe =
      let d : Delta = get_or ds n x in
      let next : drop n ds ≡ d ∷ drop (n + 1) ds = rw add-one (drop-cons ds n x h) in
      pf ∙ ap (add_deltas (gained d.object)) pe
      ∙ sym (ap (λ l. write_needs b f (objects l)) next)

  -- the last object that is left
  pub gains_place :
      (ds es fs : List Delta) (p : ℕ) (x : Delta) → 0 < p → p ≤ length ds →
      add_deltas fs [] ≡ add_deltas (gained (get_or ds (p - 1) x).object) (add_deltas es []) → add_deltas es [] ≡ write_needs b f (objects (drop p ds)) → add_deltas fs [] ≡ write_needs b f (objects (drop (p - 1) ds))
  gains_place ds es fs p x m h pf pe =
      let same : p - 1 + 1 ≡ p = omega (arith, m) in
      gains_more ds es fs (p - 1) x (omega (arith, m, h)) pf (pe ∙ ap (λ n. write_needs b f (objects (drop n ds))) (sym same))

-- ---- prints
prints_push : (ps : List Linear) (p : Linear) (es : List Delta) → print_needs (ps ++ p ∷ []) es ≡ print_needs ps (add_deltas (support p) es)
unfolding follow_definitions
prints_push [] p es = refl
prints_push (q ∷ ps) p es = ap (add_deltas (support q)) (prints_push ps p es)

-- the last print that is left
pub prints_popped :
    (ps qs : List Linear) (a : Linear) (es fs : List Delta) → ps ≡ qs ++ a ∷ [] → add_deltas fs [] ≡ add_deltas (support a) (add_deltas es []) →
    print_needs qs (add_deltas fs []) ≡ print_needs ps (add_deltas es [])
prints_popped ps qs a es fs p q =
    ap (print_needs qs) q ∙ sym (prints_push qs a (add_deltas es []))
    ∙ sym (ap (λ l. print_needs l (add_deltas es [])) p)

pub prints_end : (ps : List Linear) (es ws : List Delta) → ps ≡ [] → print_needs ps es ≡ ws → es ≡ ws
unfolding follow_definitions
prints_end ps es ws p h = sym (ap (λ l. print_needs l es) p) ∙ h

-- Objects saved before a body and set again behind it.
use Rattle.std.proofs.Common.{◌≡◌, ℕ, suc, ◌+◌, ◌≤◌, ◌==◌, Bool, true, false, cond, ◌&&◌, ◌||◌, List, [], ◌∷◌, length, ℤ, pos, refl, ap, ◌∙◌, arith}
use Rattle.std.specs.Ordering.{int_eq}
use Rattle.std.proofs.lemmas.Bool.Decides.{nat_tests}
use Rattle.homeo_syntax.specs.declared.low.Temp.TheVariants as temp
use Rattle.homeo_syntax.specs.Low as L
use Rattle.homeo_meaning.specs.Key.{definitions}
use Rattle.homeo_meaning.specs.LowMeaning as M
use Rattle.homeo_meaning.specs.LForm.{saves, restores, undo}
use Rattle.homeo_lform.proofs.Lifts.{seen, quiet, at_fresh, Alike, alike_self, alike_then, alike_put, put_here}
use Rattle.homeo_lform.proofs.Fresh.{Keeps}
use Rattle.homeo_lform.proofs.Ends.{Ready}
use Rattle.homeo_lform.proofs.Written.{among}

-- the state in which the objects xs are saved, the first of them in the fresh temporary n
abbrev pub saved_state : ℕ → List ℕ → M.State → M.State
unfolding definitions
saved_state n [] s = s
saved_state n (x ∷ xs) s = saved_state (suc n) xs (M.put s (M.TempAt (temp.Fresh n)) (s (M.BaseAt x)))

pub saves_lead : (n : ℕ) (xs : List ℕ) (more : L.Commands) (s : M.State) → M.exec_all (saves n xs more) s ≡ M.exec_all more (saved_state n xs s)
unfolding definitions
saves_lead n [] more s = refl
saves_lead n (x ∷ xs) more s = saves_lead (suc n) xs more (M.put s (M.TempAt (temp.Fresh n)) (s (M.BaseAt x)))

saved_alike : (n : ℕ) (xs : List ℕ) (s : M.State) → Alike n s (saved_state n xs s)
unfolding definitions
saved_alike n [] s = alike_self n s
saved_alike n (x ∷ xs) s =
    let a = M.put s (M.TempAt (temp.Fresh n)) (s (M.BaseAt x)) in
    let k = saved_alike (suc n) xs a in
    alike_then n (suc n) s a (saved_state (suc n) xs a) (omega arith) (alike_put n n s (s (M.BaseAt x)) (omega arith)) k

-- the fresh temporaries from n on have these values of the objects xs
abbrev pub Saved : ℕ → List ℕ → (ℕ → ℤ) → M.State → Type 0
Saved n [] d s = Unit {0}
Saved n (x ∷ xs) d s = (at_fresh n s ≡ d x) × Saved (suc n) xs d s

saves_all : (n : ℕ) (xs : List ℕ) (s : M.State) → Saved n xs (λ x. s (M.BaseAt x)) (saved_state n xs s)
unfolding definitions
saves_all n [] s = tt
saves_all n (x ∷ xs) s =
    let a = M.put s (M.TempAt (temp.Fresh n)) (s (M.BaseAt x)) in
    ((saved_alike (suc n) xs a).keeps n (omega arith) ∙ put_here n s (s (M.BaseAt x)), saves_all (suc n) xs a)

pub saved_kept : (n m : ℕ) (xs : List ℕ) (d : ℕ → ℤ) (s u : M.State) → n + length xs ≤ m → Keeps n m s u → Saved n xs d s → Saved n xs d u
saved_kept n m [] d s u le h k = tt
saved_kept n m (x ∷ xs) d s u le h k =
    (h n (omega arith) (omega arith) ∙ k.0, saved_kept (suc n) m xs d s u (omega arith) (λ j a b. h j (omega arith) b) k.1)

-- where the body of a call that can be ended begins
abbrev pub begun : List ℕ → (ℕ → ℤ) → M.State
unfolding definitions
begun xs database = saved_state 1 xs (M.put (M.whole database) (M.TempAt (temp.Fresh 0)) (pos 0))

pub begun_sees : (xs : List ℕ) (database : ℕ → ℤ) → seen (begun xs database) ≡ record { database = database; temps = λ t. pos 0 }
unfolding definitions
begun_sees xs database = (saved_alike 1 xs (M.put (M.whole database) (M.TempAt (temp.Fresh 0)) (pos 0))).sees

pub begun_ready : (xs : List ℕ) (database : ℕ → ℤ) → Ready true (1 + length xs) (begun xs database)
unfolding definitions
begun_ready xs database =
    record {
      room = omega arith;
      down = (saved_alike 1 xs (M.put (M.whole database) (M.TempAt (temp.Fresh 0)) (pos 0))).keeps 0 (omega arith) ∙ put_here 0 (M.whole database) (pos 0);
    }

pub begun_saved : (xs : List ℕ) (database : ℕ → ℤ) → Saved 1 xs database (begun xs database)
unfolding definitions
begun_saved xs database = saves_all 1 xs (M.put (M.whole database) (M.TempAt (temp.Fresh 0)) (pos 0))

-- ---- setting them again
restores_print : (n : ℕ) (xs : List ℕ) (u : M.State) → (M.exec_all (restores n xs) u).prints ≡ []
unfolding definitions
restores_print n [] u = refl
restores_print n (x ∷ xs) u = restores_print (suc n) xs (M.put u (M.BaseAt x) (at_fresh n u))

still_saved : (n : ℕ) (xs : List ℕ) (d : ℕ → ℤ) (u : M.State) (x : ℕ) (v : ℤ) → Saved n xs d u → Saved n xs d (M.put u (M.BaseAt x) v)
unfolding definitions
still_saved n [] d u x v k = tt
still_saved n (y ∷ ys) d u x v k = (k.0, still_saved (suc n) ys d u x v k.1)

restored : (n : ℕ) (xs : List ℕ) (d : ℕ → ℤ) (u : M.State) (k : ℕ) → Saved n xs d u → (M.exec_all (restores n xs) u).state (M.BaseAt k) ≡ cond (among k xs) (d k) (u (M.BaseAt k))
unfolding definitions
restored n [] d u k h = refl
restored n (x ∷ xs) d u k h =
    let a = M.put u (M.BaseAt x) (at_fresh n u) in
    restored (suc n) xs d a k (still_saved (suc n) xs d u x (at_fresh n u) h.1)
    ∙ by_case (x == k) (among k xs) refl
  where
    by_case : (p q : Bool) → (x == k) ≡ p → cond q (d k) (cond p (at_fresh n u) (u (M.BaseAt k))) ≡ cond (p || q) (d k) (u (M.BaseAt k))
    by_case true true e = refl
    by_case true false e = let same : x ≡ k = grind (arith, nat_tests) in h.0 ∙ ap d same
    by_case false true e = refl
    by_case false false e = refl

-- ---- the undoing
pub undo_prints : (xs : List ℕ) (u : M.State) → (M.exec (undo xs) u).prints ≡ []
unfolding definitions
undo_prints xs u = by_case (int_eq (at_fresh 0 u) (pos 1))
  where
    by_case : (v : Bool) → (cond (v && true) (M.exec_all (restores 1 xs) u) (quiet u)).prints ≡ []
    by_case true = restores_print 1 xs u
    by_case false = refl

-- where the call goes on
pub undo_down : (xs : List ℕ) (u : M.State) → at_fresh 0 u ≡ pos 0 → M.exec (undo xs) u ≡ quiet u
unfolding definitions
undo_down xs u e = ap (λ z. cond (int_eq z (pos 1) && true) (M.exec_all (restores 1 xs) u) (quiet u)) e

-- where it is ended: an object that isn't saved has its value still
pub undo_up : (xs : List ℕ) (d : ℕ → ℤ) (u : M.State) (k : ℕ) → at_fresh 0 u ≡ pos 1 → Saved 1 xs d u → (among k xs ≡ false → u (M.BaseAt k) ≡ d k) → (M.exec (undo xs) u).state (M.BaseAt k) ≡ d k
unfolding definitions
undo_up xs d u k e h kept =
    ap (λ z. (cond (int_eq z (pos 1) && true) (M.exec_all (restores 1 xs) u) (quiet u)).state (M.BaseAt k)) e
    ∙ restored 1 xs d u k h
    ∙ by_case (among k xs) refl
  where
    by_case : (q : Bool) → among k xs ≡ q → cond q (d k) (u (M.BaseAt k)) ≡ d k
    by_case true q = refl
    by_case false q = kept q

-- Values that are within bounds, place by place.
use Rattle.std.proofs.Common.{◌≡◌, ℕ, zero, suc, ◌+◌, ◌<◌, ◌≤◌, List, [], ◌∷◌, length, take, map, get_or, ℤ, sym, ap, subst, arith}
use Rattle.std.proofs.lemmas.List.{take_all}
use Rattle.homeo_meaning.specs.Bounds.{Bounds, IsIn, AreIn}
use Rattle.homeo_meaning.proofs.Within.{length_in}

in_suc : (bs : List Bounds) (vs : List ℤ) (i : ℕ) (b : Bounds) (v : ℤ) → i < length bs → i < length vs → b ≡ get_or bs i b → v ≡ get_or vs i v → IsIn b v → AreIn (take i bs) (take i vs) → AreIn (take (suc i) bs) (take (suc i) vs)
in_suc [] vs i b v lt lv e f one all = absurd (omega (arith, lt))
in_suc (c ∷ bs) [] i b v lt lv e f one all = absurd (omega (arith, lv))
in_suc (c ∷ bs) (x ∷ vs) zero b v lt lv e f one all = (subst (λ y. IsIn y x) e (subst (IsIn b) f one), tt)
in_suc (c ∷ bs) (x ∷ vs) (suc i) b v lt lv e f one all = (all.0, in_suc bs vs i b v (omega (arith, lt)) (omega (arith, lv)) e f one all.1)

pub in_next : (bs : List Bounds) (vs : List ℤ) (i : ℕ) (b : Bounds) (v : ℤ) → i < length bs → i < length vs → b ≡ get_or bs i b → v ≡ get_or vs i v → IsIn b v → AreIn (take i bs) (take i vs) → AreIn (take (i + 1) bs) (take (i + 1) vs)
in_next bs vs i b v lt lv e f one all =
    subst (λ n. AreIn (take n bs) (take n vs)) (let h : suc i ≡ i + 1 = omega arith in h) (in_suc bs vs i b v lt lv e f one all)

pub in_all : (bs : List Bounds) (vs : List ℤ) (i : ℕ) → length bs ≤ i → length bs ≡ length vs → AreIn (take i bs) (take i vs) → AreIn bs vs
in_all bs vs i le long all =
    subst (λ ys. AreIn ys vs) (take_all i bs le) (subst (AreIn (take i bs)) (take_all i vs (let h : length vs ≤ i = omega (arith, le, long) in h)) all)

pub in_step : (bs : List Bounds) (vs : List ℤ) (i : ℕ) (b : Bounds) (v : ℤ) → length bs ≡ length vs → i < length bs → b ≡ get_or bs i b → v ≡ get_or vs i v → IsIn b v → AreIn (take i bs) (take i vs) → AreIn (take (i + 1) bs) (take (i + 1) vs)
in_step bs vs i b v long lt e f one all = in_next bs vs i b v lt (let h : i < length vs = omega (arith, lt, long) in h) e f one all

pub get_map : {A B : Type 0} (f : A → B) (xs : List A) (i : ℕ) (x : A) → i < length xs → x ≡ get_or xs i x → f x ≡ get_or (map f xs) i (f x)
get_map f [] i x lt e = absurd (omega (arith, lt))
get_map f (y ∷ xs) zero x lt e = ap f e
get_map f (y ∷ xs) (suc i) x lt e = get_map f xs i x (omega (arith, lt)) e

pub in_at : (bs : List Bounds) (vs : List ℤ) (i : ℕ) (b : Bounds) (v : ℤ) → i < length bs → b ≡ get_or bs i b → v ≡ get_or vs i v → AreIn bs vs → IsIn b v
in_at [] vs i b v lt e f all = absurd (omega (arith, lt))
in_at (c ∷ bs) [] i b v lt e f all = absurd all
in_at (c ∷ bs) (x ∷ vs) zero b v lt e f all = subst (λ y. IsIn y v) (sym e) (subst (IsIn c) (sym f) all.0)
in_at (c ∷ bs) (x ∷ vs) (suc i) b v lt e f all = in_at bs vs i b v (omega (arith, lt)) e f all.1

pub as_many : (bs : List Bounds) (vs : List ℤ) → AreIn bs vs → length bs ≡ length vs
as_many bs vs all = sym (length_in bs vs all)

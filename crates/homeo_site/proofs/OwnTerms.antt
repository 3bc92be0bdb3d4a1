-- The terms of a site, their sums, and its bounds, one clause after another.
use Rattle.std.proofs.Common.{◌≡◌, ℕ, zero, suc, ◌+◌, ◌*◌, ◌/◌, ◌<◌, ◌≤◌, ◌==◌, Bool, true, false, cond, List, [], ◌∷◌, ◌++◌, length, get_or, map, take, ℤ, pos, negsuc, ◌+ℤ◌, ◌*ℤ◌, ◌≤ℤ◌, refl, sym, ap, ap₂, ◌∙◌, subst, FitsSigned, arith}
use Rattle.std.proofs.lemmas.Int.{ints}
use Rattle.std.specs.Int.{w128}
use Rattle.std.specs.Prelude.{replicate}
use Rattle.std.proofs.Math.Nat.{add-mul, div-mul-le_self}
use Rattle.std.proofs.Math.Seq.{take-length}
use Rattle.std.proofs.lemmas.List.{map_more, take-map, get_or-map, length-map}
use Rattle.std.proofs.lemmas.Nat.{le-div}
use Rattle.homeo_lemmas.proofs.Integers.{is_plus_zero}
use Rattle.homeo_syntax.specs.Listed.{Listed}
use Rattle.homeo_plan.specs.Key.{definitions as plan_definitions}
use Rattle.homeo_plan.specs.declared.forms.Term.{Term}
use Rattle.homeo_plan.specs.Joined.{Deltas}
use Rattle.homeo_plan.specs.Config.{split, even}
use Rattle.homeo_plan.specs.Template.{Clause}
use Rattle.homeo_plan.specs.Treaty.{site_sum, bound_at}
use Rattle.homeo_config.proofs.EvenBounds.{even_bound_is}
use Rattle.homeo_site.specs.Key.{definitions}
use Rattle.homeo_site.specs.OwnTreaty.{own_term, OwnTerm, own_terms, own_sum, SumsFit}

-- a site's sum is that of its own terms
pub own_sum_is : (i : ℕ) (ts : List Term) (x : Deltas) → own_sum (own_terms i ts) x ≡ site_sum i ts x
unfolding definitions plan_definitions
own_sum_is i [] x = refl
own_sum_is i (t ∷ ts) x = go (t.delta.site == i) (own_sum_is i ts x)
  where
    go :
        (v : Bool) → own_sum (own_terms i ts) x ≡ site_sum i ts x →
        own_sum (cond v (record { object = t.delta.object; factor = t.factor } ∷ own_terms i ts) (own_terms i ts)) x ≡
        cond v (t.factor *ℤ x t.delta.object) (pos 0) +ℤ site_sum i ts x
    go true ih = ap (λ z. (t.factor *ℤ x t.delta.object) +ℤ z) ih
    go false ih = omega (arith, ints, ih)

sum_append : (ts us : List OwnTerm) (x : Deltas) → own_sum (ts ++ us) x ≡ own_sum ts x +ℤ own_sum us x
unfolding definitions
sum_append [] us x = omega (arith, ints)
sum_append (t ∷ ts) us x = omega (arith, ints, sum_append ts us x)

-- ---- steps of the sum, whose terms are over whole objects
pub sum_next :
    (ts : List Term) (k : ℕ) (d : Term) (x : Deltas) (sum next : ℤ) → k < length ts → sum ≡ own_sum (map own_term (take k ts)) x →
    next ≡ sum +ℤ ((get_or ts k d).factor *ℤ x (get_or ts k d).delta.object) → next ≡ own_sum (map own_term (take (k + 1) ts)) x
unfolding definitions
sum_next ts k d x sum next lt so_far e =
    e ∙ ap₂ ◌+ℤ◌ so_far (is_plus_zero ((get_or ts k d).factor *ℤ x (get_or ts k d).delta.object))
    ∙ sym (sum_append (map own_term (take k ts)) (own_term (get_or ts k d) ∷ []) x)
    ∙ ap (λ us. own_sum us x) (sym (map_more own_term ts k d lt))

pub product_fits :
    (ts : List Term) (k : ℕ) (d : Term) (x : Deltas) → k < length ts → SumsFit (map own_term ts) x →
    FitsSigned w128 ((get_or ts k d).factor *ℤ x (get_or ts k d).delta.object)
unfolding definitions
product_fits ts k d x lt fits =
    subst (λ (t : OwnTerm). FitsSigned w128 (t.factor *ℤ x t.object)) (get_or-map own_term ts k d (own_term d) lt)
    (fits.products k (own_term d) (subst (λ n. k < n) (sym (length-map ts own_term)) lt))

pub sum_fits :
    (ts : List Term) (k : ℕ) (d : Term) (x : Deltas) (sum : ℤ) → k < length ts → sum ≡ own_sum (map own_term (take k ts)) x →
    SumsFit (map own_term ts) x → FitsSigned w128 (sum +ℤ ((get_or ts k d).factor *ℤ x (get_or ts k d).delta.object))
sum_fits ts k d x sum lt so_far fits =
    subst (FitsSigned w128) (ap (λ us. own_sum us x) (take-map own_term (k + 1) ts) ∙ sym (sum_next ts k d x sum _ lt so_far refl))
    (fits.sums (k + 1))

pub all_sum : (ts : List Term) (x : Deltas) → own_sum (map own_term (take (length ts) ts)) x ≡ own_sum (map own_term ts) x
all_sum ts x = ap (λ us. own_sum (map own_term us) x) (take-length ts)

-- ---- bounds
bounds_at_place :
    (bs : List (Listed ℤ)) (n : ℕ) (b : Listed ℤ) → n < length bs → b ≡ get_or bs n b →
    get_or (map (λ (l : Listed ℤ). l.items) bs) n [] ≡ b.items
bounds_at_place [] n b lt e = absurd (omega arith)
bounds_at_place (a ∷ bs) zero b lt e = ap (λ (l : Listed ℤ). l.items) (sym e)
bounds_at_place (a ∷ bs) (suc n) b lt e = bounds_at_place bs n b (omega arith) e

pub bound_there :
    (bs ks : List (Listed ℤ)) (n i : ℕ) (b : Listed ℤ) (ns : List ℤ) (z : ℤ) → ks ≡ bs → n < length ks → b ≡ get_or ks n b →
    ns ≡ b.items → z ≡ get_or ns i (pos 0) → z ≡ bound_at (get_or (map (λ (l : Listed ℤ). l.items) bs) n []) i
unfolding plan_definitions
bound_there bs ks n i b ns z same lt at items e =
    e ∙ ap (λ l. get_or l i (pos 0)) (items ∙ sym (bounds_at_place ks n b lt at))
    ∙ ap (λ l. get_or (get_or (map (λ (l : Listed ℤ). l.items) l) n []) i (pos 0)) same

no_bounds : (bs : List (Listed ℤ)) (n : ℕ) → length bs ≤ n → get_or (map (λ (l : Listed ℤ). l.items) bs) n [] ≡ []
no_bounds [] n le = refl
no_bounds (a ∷ bs) zero le = absurd (omega arith)
no_bounds (a ∷ bs) (suc n) le = no_bounds bs n (omega arith)

pub no_bound :
    (bs ks : List (Listed ℤ)) (n i : ℕ) → ks ≡ bs → length ks ≤ n →
    pos 0 ≡ bound_at (get_or (map (λ (l : Listed ℤ). l.items) bs) n []) i
unfolding plan_definitions
no_bound bs ks n i same le =
    ap (λ l. get_or l i (pos 0)) (sym (no_bounds ks n le))
    ∙ ap (λ l. get_or (get_or (map (λ (l : Listed ℤ). l.items) l) n []) i (pos 0)) same

-- ---- bounds of a slack that is split evenly
pub even_at :
    (k : ℕ) (cs : List Clause) (n : ℕ) (d : Clause) → n < length cs → get_or (even k cs) n [] ≡ split (replicate k 1) (get_or cs n d).slack
unfolding plan_definitions
even_at k [] n d lt = absurd (omega arith)
even_at k (c ∷ cs) zero d lt = refl
even_at k (c ∷ cs) (suc n) d lt = even_at k cs n d (omega arith)

-- a sum that all sites may have is at most the bound of each
pub within_even :
    (k i : ℕ) (slack sum : ℤ) → i < k → pos 0 ≤ℤ slack → (sum *ℤ pos k) ≤ℤ slack → sum ≤ℤ bound_at (split (replicate k 1) slack) i
within_even k i (negsuc s) sum lt room h = absurd (omega (arith, ints))
within_even k i (pos s) (negsuc m) lt room h =
    let bound = even_bound_is k i s (s * i / k) (s * (i + 1) / k) (pos s) lt refl refl refl in
    subst (λ z. negsuc m ≤ℤ z) bound (omega (arith, ints))
within_even k i (pos s) (pos m) lt room h =
    let bound = even_bound_is k i s (s * i / k) (s * (i + 1) / k) (pos s) lt refl refl refl in
    let all : m * k ≤ s = omega (arith, ints, h) in
    let below : s * i / k * k ≤ s * i = div-mul-le_self (s * i) k in
    let both : (s * i / k + m) * k ≡ s * i / k * k + m * k = add-mul (s * i / k) m k in
    let next : s * (i + 1) ≡ s * i + s = grind arith in
    let part : s * i / k + m ≤ s * (i + 1) / k = le-div (s * i / k + m) (s * (i + 1)) k (omega arith) (omega (arith, all, below, both, next)) in
    subst (λ z. pos m ≤ℤ z) bound (omega (arith, ints, part))

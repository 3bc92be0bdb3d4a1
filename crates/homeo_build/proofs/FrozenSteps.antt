-- What is frozen, as one delta more is, and one atom more, and one object more is reached.
use Rattle.std.proofs.Common.{◌≡◌, ℕ, zero, suc, ◌+◌, ◌<◌, ◌≤◌, ◌==◌, Bool, true, false, not, ◌||◌, ◌&&◌, List, [], ◌∷◌, ◌++◌, map, take, get_or, set, length, replicate, refl, sym, ap, ap₂, ◌∙◌}
use Rattle.std.specs.Prelude.{if◌then◌else◌}
use Rattle.std.specs.List.{list_any}
use Rattle.std.proofs.lemmas.List.{map_push, take_all, take_more}
use Rattle.std.proofs.lemmas.List.Folds.{list_any-append}
use Rattle.homeo_lemmas.proofs.Bools.{or_false, or_unassoc}
use Rattle.homeo_lemmas.proofs.Naturals.{nat_is, nat_turned}
use Rattle.homeo_meaning.proofs.AbsentItems.{padded_set}
use Rattle.homeo_plan.specs.Linear.{Linear}
use Rattle.homeo_plan.specs.PlanView.{plain_atom}
use Rattle.homeo_plan.specs.declared.forms.Atom.{Atom}
use Rattle.homeo_plan.specs.declared.forms.Delta.{Delta}
use Rattle.homeo_build.specs.declared.frozen.Frozen.{Frozen}
use Rattle.homeo_build.specs.declared.frozen.Frozen.TheVariants.{Nowhere, Everywhere}
use Rattle.homeo_build.specs.declared.frozen.FrozenObjects.{FrozenObjects}
use Rattle.homeo_build.specs.inner.Frozen.{frozen_at, object_frozen, is_frozen_in, names_object}

-- ---- nothing yet
pub nothing_needed : (b c : Bool) → b ≡ (b || (c && false))
nothing_needed true c = refl
nothing_needed false true = refl
nothing_needed false false = refl

-- ---- one delta more
names_more : (x : ℕ) (ds : List Delta) (i : ℕ) (d : Delta) → i < length ds → names_object x (take (i + 1) ds) ≡ (names_object x (take i ds) || (x == (get_or ds i d).object))
names_more x ds i d h =
    ap (names_object x) (take_more ds i d h)
    ∙ list_any-append (λ (e : Delta). x == e.object) (take i ds) (get_or ds i d ∷ [])
    ∙ ap (λ b. names_object x (take i ds) || b) (or_false (x == (get_or ds i d).object))

module _
    (start : ℕ → ℕ → Bool) (before after : FrozenObjects) (ds : List Delta) (i : ℕ) (d : Delta) (within : i < length ds) (f : Frozen)
    (put : (x : ℕ) → object_frozen after x ≡ (if (get_or ds i d).object == x then f else object_frozen before x))
  where
    abbrev o : ℕ
    o = (get_or ds i d).object

    pub everywhere_next :
        f ≡ Everywhere → ((x j : ℕ) → is_frozen_in before x j ≡ (start x j || names_object x (take i ds))) →
        (x j : ℕ) → is_frozen_in after x j ≡ (start x j || names_object x (take (i + 1) ds))
    everywhere_next is so_far x j =
        ap (λ s. frozen_at s j) (put x) ∙ go (o == x)
        ∙ ap (λ b. b || (o == x)) (so_far x j) ∙ or_unassoc (start x j) (names_object x (take i ds)) (o == x)
        ∙ ap (λ b. start x j || (names_object x (take i ds) || b)) (nat_turned o x)
        ∙ ap (λ b. start x j || b) (sym (names_more x ds i d within))
      where
        or_all : (b : Bool) → true ≡ (b || true)
        or_all true = refl
        or_all false = refl

        go : (e : Bool) → frozen_at (if e then f else object_frozen before x) j ≡ (is_frozen_in before x j || e)
        go true = ap (λ s. frozen_at s j) is ∙ or_all (is_frozen_in before x j)
        go false = sym (or_false (is_frozen_in before x j))

    pub elsewhere_next :
        (so_far : Frozen) (site : ℕ) → so_far ≡ object_frozen before (get_or ds i d).object →
        ((j : ℕ) → frozen_at f j ≡ (frozen_at so_far j || not (j == site))) →
        ((x j : ℕ) → is_frozen_in before x j ≡ (start x j || (not (j == site) && names_object x (take i ds)))) →
        (x j : ℕ) → is_frozen_in after x j ≡ (start x j || (not (j == site) && names_object x (take (i + 1) ds)))
    elsewhere_next here site is moved frozen x j =
        ap (λ s. frozen_at s j) (put x) ∙ go (o == x) refl
        ∙ ap (λ b. b || ((o == x) && not (j == site))) (frozen x j)
        ∙ regroup (start x j) (not (j == site)) (names_object x (take i ds)) (o == x)
        ∙ ap (λ b. start x j || (not (j == site) && (names_object x (take i ds) || b))) (nat_turned o x)
        ∙ ap (λ b. start x j || (not (j == site) && b)) (sym (names_more x ds i d within))
      where
        go : (e : Bool) → (o == x) ≡ e → frozen_at (if e then f else object_frozen before x) j ≡ (is_frozen_in before x j || (e && not (j == site)))
        go true e = moved j ∙ ap (λ s. frozen_at s j || not (j == site)) (is ∙ ap (object_frozen before) (nat_is o x e))
        go false e = sym (or_false (is_frozen_in before x j))

        regroup : (a n b e : Bool) → ((a || (n && b)) || (e && n)) ≡ (a || (n && (b || e)))
        regroup true n b e = refl
        regroup false true true e = refl
        regroup false true false true = refl
        regroup false true false false = refl
        regroup false false b true = refl
        regroup false false b false = refl

-- ---- one atom more
abbrev mixes : ℕ → List Linear → Bool
mixes x atoms = list_any (λ (a : Linear). names_object x a.mixed) atoms

pub mixed_next :
    (start : ℕ → ℕ → Bool) (before after : FrozenObjects) (atoms : List Atom) (i : ℕ) (a : Atom) (lent : List Delta) → i < length atoms →
    a ≡ get_or atoms i a → lent ≡ a.form.mixed.items →
    ((x j : ℕ) → is_frozen_in before x j ≡ (start x j || mixes x (map plain_atom (take i atoms)))) →
    ((x j : ℕ) → is_frozen_in after x j ≡ (is_frozen_in before x j || names_object x lent)) →
    (x j : ℕ) → is_frozen_in after x j ≡ (start x j || mixes x (map plain_atom (take (i + 1) atoms)))
mixed_next start before after atoms i a lent within is l so_far put x j =
    put x j ∙ ap₂ (λ b ds. b || names_object x ds) (so_far x j) l
    ∙ or_unassoc (start x j) (mixes x (map plain_atom (take i atoms))) (names_object x a.form.mixed.items)
    ∙ ap (λ b. start x j || b)
    (ap (λ b. mixes x (map plain_atom (take i atoms)) || b) (sym (or_false (names_object x a.form.mixed.items)))
    ∙ sym (list_any-append (λ (b : Linear). names_object x b.mixed) (map plain_atom (take i atoms)) (plain_atom a ∷ []))
    ∙ ap (mixes x) (sym (map_push plain_atom (take i atoms) a) ∙ ap (map plain_atom) (ap (λ y. take i atoms ++ y ∷ []) is ∙ sym (take_more atoms i a within))))

-- ---- objects that are reached
padded_none : {X : Type 0} (a : X) (n m : ℕ) → get_or (replicate n a) m a ≡ a
padded_none a zero m = refl
padded_none a (suc n) zero = refl
padded_none a (suc n) (suc m) = padded_none a n m

padded_all : {X : Type 0} (xs : List X) (a : X) (n m : ℕ) → get_or (xs ++ replicate n a) m a ≡ get_or xs m a
padded_all [] a n m = padded_none a n m
padded_all (x ∷ xs) a n zero = refl
padded_all (x ∷ xs) a n (suc m) = padded_all xs a n m

pub reached : (fs more : List Frozen) (n m : ℕ) → length fs ≤ n → more ≡ take n fs ++ replicate m Nowhere → (x : ℕ) → get_or more x Nowhere ≡ get_or fs x Nowhere
reached fs more n m h e x =
    ap (λ l. get_or l x Nowhere) (e ∙ ap (λ l. l ++ replicate m Nowhere) (take_all n fs h)) ∙ padded_all fs Nowhere m x

pub set_next :
    (fs wide made : List Frozen) (o : ℕ) (f : Frozen) → o < length wide → ((x : ℕ) → get_or wide x Nowhere ≡ get_or fs x Nowhere) → made ≡ set wide o f →
    (x : ℕ) → get_or made x Nowhere ≡ (if o == x then f else get_or fs x Nowhere)
set_next fs wide made o f h same e x =
    ap (λ l. get_or l x Nowhere) e ∙ padded_set wide o f Nowhere x h ∙ ap (λ (s : Frozen). if o == x then f else s) (same x)

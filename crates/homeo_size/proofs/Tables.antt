-- What a change of the code's tables is as a change of the names' extents.
use Rattle.std.proofs.Common.{◌≡◌, ℕ, zero, suc, ◌<◌, ◌≤◌, ◌==◌, cond, List, [], ◌∷◌, ◌++◌, map, take, drop, length, get_or, refl, sym, ap, ◌∙◌, arith, append-nil, take_all, drop_of_length-le}
use Rattle.homeo_syntax.specs.declared.low.Temp.TheVariants.{Named, Fresh}
use Rattle.homeo_meaning.specs.Key.{definitions as meaning_definitions}
use Rattle.homeo_meaning.specs.LowMeaning.{Location, TempAt, BaseAt, DeltaAt, put}
use Rattle.homeo_size.specs.inner.Key.{definitions}
use Rattle.homeo_size.specs.inner.Sizing.{Sizes}
use Rattle.homeo_size.specs.inner.Store.{Store, with_entry, kept_in, set_entry, taken_back, back_to}
use Rattle.homeo_size.specs.inner.Tables.{sizes_with}
use Rattle.homeo_size.specs.declared.extent.Extent.{Extent}
use Rattle.homeo_size.specs.declared.extents.Entry.{Entry}
use Rattle.homeo_size.specs.declared.extents.Kept.{Kept}

module _ (objects : List Extent) (absent : Extent) (named fresh : ℕ → Extent) (e : Extent) where
  pub sizes_named : (new : ℕ → Extent) (n : ℕ) → ((m : ℕ) → new m ≡ cond (n == m) e (named m)) → sizes_with objects absent new fresh ≡ put (sizes_with objects absent named fresh) (TempAt (Named n)) e
  unfolding definitions meaning_definitions
  sizes_named new n h = λ i p. at p i
    where
      at : (p : Location) → sizes_with objects absent new fresh p ≡ put (sizes_with objects absent named fresh) (TempAt (Named n)) e p
      at (TempAt (Named m)) = h m
      at (TempAt (Fresh m)) = refl
      at (BaseAt k) = refl
      at (DeltaAt k j) = refl

  pub sizes_fresh : (new : ℕ → Extent) (n : ℕ) → ((m : ℕ) → new m ≡ cond (n == m) e (fresh m)) → sizes_with objects absent named new ≡ put (sizes_with objects absent named fresh) (TempAt (Fresh n)) e
  unfolding definitions meaning_definitions
  sizes_fresh new n h = λ i p. at p i
    where
      at : (p : Location) → sizes_with objects absent named new p ≡ put (sizes_with objects absent named fresh) (TempAt (Fresh n)) e p
      at (TempAt (Named m)) = refl
      at (TempAt (Fresh m)) = h m
      at (BaseAt k) = refl
      at (DeltaAt k j) = refl

  pub sizes_object : (new : List Extent) (place : ℕ) → ((m : ℕ) → get_or new m absent ≡ cond (place == m) e (get_or objects m absent)) → sizes_with new absent named fresh ≡ put (sizes_with objects absent named fresh) (BaseAt place) e
  unfolding definitions meaning_definitions
  sizes_object new place h = λ i p. at p i
    where
      at : (p : Location) → sizes_with new absent named fresh p ≡ put (sizes_with objects absent named fresh) (BaseAt place) e p
      at (TempAt (Named m)) = refl
      at (TempAt (Fresh m)) = refl
      at (BaseAt k) = h k
      at (DeltaAt k j) = refl

abbrev pub store_with : Sizes → List Kept → Store
store_with s l = record { sizes = s; log = l }

pub set_is : (s t : Sizes) (l m : List Kept) (k : Kept) (e : Entry) (x : Extent) → k ≡ kept_in s e → t ≡ with_entry s e x → m ≡ l ++ k ∷ [] → store_with t m ≡ set_entry (store_with s l) e x
unfolding definitions
set_is s t l m k e x h g f = λ i. store_with (g i) ((f ∙ ap (λ k. l ++ k ∷ []) h) i)

-- ---- the last change taken back
drop_last : (n : ℕ) (l : List Kept) (k : Kept) → n ≤ length l → drop n (l ++ k ∷ []) ≡ drop n l ++ k ∷ []
drop_last zero l k h = refl
drop_last (suc n) [] k h = absurd (omega arith)
drop_last (suc n) (j ∷ l) k h = drop_last n l k (omega arith)

take_last : (n : ℕ) (l : List Kept) (k : Kept) → n ≤ length l → take n (l ++ k ∷ []) ≡ take n l
take_last zero l k h = refl
take_last (suc n) [] k h = absurd (omega arith)
take_last (suc n) (j ∷ l) k h = ap (λ l. j ∷ l) (take_last n l k (omega arith))

pub back_last : (l : List Kept) (k : Kept) (s : Sizes) → taken_back (l ++ k ∷ []) s ≡ taken_back l (with_entry s k.entry k.extent)
unfolding definitions
back_last [] k s = refl
back_last (j ∷ l) k s = ap (λ t. with_entry t j.entry j.extent) (back_last l k s)

pub back_pop : (n : ℕ) (s t : Sizes) (l m : List Kept) (k : Kept) → m ≡ l ++ k ∷ [] → n < length m → t ≡ with_entry s k.entry k.extent → back_to n (store_with t l) ≡ back_to n (store_with s m)
unfolding definitions
back_pop n s t l m k e h g =
    let longer : length (l ++ k ∷ []) ≡ suc (length l) = length_last l in
    let same : length m ≡ suc (length l) = ap length e ∙ longer in
    let le : n ≤ length l = omega arith in
    (λ i. store_with ((ap (taken_back (drop n l)) g ∙ sym (back_last (drop n l) k s) ∙ ap (λ d. taken_back d s) (sym (drop_last n l k le))) i) (sym (take_last n l k le) i))
    ∙ ap (λ l. back_to n (store_with s l)) (sym e)
  where
    length_last : (l : List Kept) → length (l ++ k ∷ []) ≡ suc (length l)
    length_last [] = refl
    length_last (j ∷ l) = ap suc (length_last l)

-- what is kept so far is all, where nothing is left
pub all_kept : {A B : Type 0} (f : A → B) (kept : List B) (l : List A) (i start : ℕ) → length l ≤ i → kept ++ map f (drop i l) ≡ map f (drop start l) → kept ≡ map f (drop start l)
all_kept f kept l i start h e =
    sym (append-nil kept) ∙ ap (λ r. kept ++ map f r) (sym (drop_of_length-le l h)) ∙ e

pub nothing_back : (n : ℕ) (s : Sizes) (l : List Kept) → length l ≤ n → store_with s l ≡ back_to n (store_with s l)
unfolding definitions
nothing_back n s l h =
    λ i. store_with (ap (λ r. taken_back r s) (sym (drop_of_length-le l h)) i) (sym (take_all n l h) i)

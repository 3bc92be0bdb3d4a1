-- The place of a call among distinct ground calls to which others are put.
use Rattle.std.proofs.Common.{◌≡◌, ℕ, ◌+◌, ℤ, Bool, true, false, ◌&&◌, List, [], ◌∷◌, ◌++◌, map, refl, sym, ap, ◌∙◌, subst, append_assoc}
use Rattle.std.specs.Prelude.{◌||◌, not, if◌then◌else◌}
use Rattle.std.specs.Ordering.{int_eq}
use Rattle.std.specs.List.{list_any, position_or_len, flat_map}
use Rattle.std.proofs.lemmas.List.{map-append}
use Rattle.homeo_lemmas.proofs.Integers.{int_itself}
use Rattle.homeo_lemmas.proofs.Naturals.{nat_itself}
use Rattle.homeo_syntax.specs.Source as s
use Rattle.homeo_meaning.specs.Key.{definitions as meaning_definitions}
use Rattle.homeo_meaning.specs.GlobalNames.{SitedCall, sited_calls_of}
use Rattle.homeo_meaning.specs.NumberRules.{same_numbers, same_ground, distinct_after}
use Rattle.homeo_meaning.specs.CallPlaces.{place_among, places_among}

-- ---- a call is the same ground call as itself
numbers-same : (xs : List ℤ) → same_numbers xs xs ≡ true
numbers-same [] = refl
numbers-same (x ∷ xs) = ap (λ (b : Bool). b && same_numbers xs xs) (int_itself x) ∙ numbers-same xs

pub ground-same : (c : SitedCall) → same_ground c c ≡ true
unfolding meaning_definitions
ground-same c =
    ap (λ (b : Bool). (b && same_numbers c.args c.args) && int_eq c.site c.site) (nat_itself c.name.name)
    ∙ ap (λ (b : Bool). b && int_eq c.site c.site) (numbers-same c.args) ∙ int_itself c.site

-- ---- places in lists to which items are put, under any test
module _ {A : Type 0} (test : A → Bool) where
  first_place : (b c : Bool) (m n : ℕ) → (b || c) ≡ true → (c ≡ true → m ≡ n) → (if not b then 1 + m else 0) ≡ (if not b then 1 + n else 0)
  first_place true c m n h k = refl
  first_place false c m n h k = ap (λ (m : ℕ). 1 + m) (k h)

  last_place : (b c : Bool) (m n : ℕ) → (b || c) ≡ false → (c ≡ false → m ≡ n) → (if not b then 1 + m else 0) ≡ (if not b then 1 + n else 0)
  last_place true c m n h k = refl
  last_place false c m n h k = ap (λ (m : ℕ). 1 + m) (k h)

  or_more : (b c d : Bool) → (b || c) ≡ true → (c ≡ true → d ≡ true) → (b || d) ≡ true
  or_more true c d h k = refl
  or_more false c d h k = k h

  or_later : (b c : Bool) → c ≡ true → (b || c) ≡ true
  or_later true c h = refl
  or_later false c h = h

  place-stays : (xs more : List A) → list_any test xs ≡ true → position_or_len test (xs ++ more) ≡ position_or_len test xs
  place-stays [] more h = let no : ⊥ = cc in absurd no
  place-stays (x ∷ xs) more h = first_place (test x) (list_any test xs) _ _ h (λ e. place-stays xs more e)

  place-last : (x : A) (xs : List A) → test x ≡ true → list_any test xs ≡ false → position_or_len test (xs ++ x ∷ []) ≡ position_or_len test xs
  place-last x [] r h = ap (λ (b : Bool). if not b then 1 + 0 else 0) r
  place-last x (y ∷ xs) r h = last_place (test y) (list_any test xs) _ _ h (λ e. place-last x xs r e)

  any-more : (xs more : List A) → list_any test xs ≡ true → list_any test (xs ++ more) ≡ true
  any-more [] more h = let no : ⊥ = cc in absurd no
  any-more (x ∷ xs) more h = or_more (test x) (list_any test xs) _ h (λ e. any-more xs more e)

  any-last : (x : A) (xs : List A) → test x ≡ true → list_any test (xs ++ x ∷ []) ≡ true
  any-last x [] r = ap (λ (b : Bool). b || false) r
  any-last x (y ∷ xs) r = or_later (test y) _ (any-last x xs r)

-- ---- distinct ground calls
-- a call is among the distinct calls that it was put to, at the place that it had or was to have
pub put-there : (kept : List SitedCall) (u : SitedCall) → list_any (same_ground u) (distinct_after kept (u ∷ [])) ≡ true
unfolding meaning_definitions
put-there kept u = go (list_any (same_ground u) kept) refl
  where
    go : (b : Bool) → list_any (same_ground u) kept ≡ b → list_any (same_ground u) (if b then kept else kept ++ u ∷ []) ≡ true
    go true e = e
    go false e = any-last (same_ground u) u kept (ground-same u)

pub put-place : (kept : List SitedCall) (u : SitedCall) → place_among (distinct_after kept (u ∷ [])) u ≡ place_among kept u
unfolding meaning_definitions
put-place kept u = go (list_any (same_ground u) kept) refl
  where
    go : (b : Bool) → list_any (same_ground u) kept ≡ b → position_or_len (same_ground u) (if b then kept else kept ++ u ∷ []) ≡ position_or_len (same_ground u) kept
    go true e = refl
    go false e = place-last (same_ground u) u kept (ground-same u) e

pub distinct-append : (kept us vs : List SitedCall) → distinct_after kept (us ++ vs) ≡ distinct_after (distinct_after kept us) vs
unfolding meaning_definitions
distinct-append kept [] vs = refl
distinct-append kept (u ∷ us) vs = distinct-append (if list_any (same_ground u) kept then kept else kept ++ u ∷ []) us vs

-- a call that is there stays, and keeps its place
pub stays : (v : SitedCall) (us kept : List SitedCall) → list_any (same_ground v) kept ≡ true → (place_among (distinct_after kept us) v ≡ place_among kept v) × (list_any (same_ground v) (distinct_after kept us) ≡ true)
unfolding meaning_definitions
stays v [] kept h = (refl, h)
stays v (u ∷ us) kept h = go (λ l e. stays v us l e) (list_any (same_ground u) kept)
  where
    go : ((l : List SitedCall) → list_any (same_ground v) l ≡ true → (place_among (distinct_after l us) v ≡ place_among l v) × (list_any (same_ground v) (distinct_after l us) ≡ true)) → (b : Bool) → (place_among (distinct_after (if b then kept else kept ++ u ∷ []) us) v ≡ place_among kept v) × (list_any (same_ground v) (distinct_after (if b then kept else kept ++ u ∷ []) us) ≡ true)
    go rest true = rest kept h
    go rest false =
        let r = rest (kept ++ u ∷ []) (any-more (same_ground v) kept (u ∷ []) h) in
        (r.0 ∙ place-stays (same_ground v) kept (u ∷ []) h, r.1)

-- each of these calls is the same as one of the kept
abbrev pub Known : List SitedCall → List SitedCall → Type 0
Known kept [] = Unit {0}
Known kept (u ∷ us) = (list_any (same_ground u) kept ≡ true) × Known kept us

pub all-known : (us kept : List SitedCall) → Known (distinct_after kept us) us
unfolding meaning_definitions
all-known [] kept = tt
all-known (u ∷ us) kept = ((stays u us (distinct_after kept (u ∷ [])) (put-there kept u)).1, all-known us (distinct_after kept (u ∷ [])))

pub known-first : (kept us vs : List SitedCall) → Known kept (us ++ vs) → Known kept us
known-first kept [] vs h = tt
known-first kept (u ∷ us) vs h = (h.0, known-first kept us vs h.1)

pub known-second : (kept us vs : List SitedCall) → Known kept (us ++ vs) → Known kept vs
known-second kept [] vs h = h
known-second kept (u ∷ us) vs h = known-second kept us vs h.1

pub places-stay : (vs us kept : List SitedCall) → Known kept us → map (place_among (distinct_after kept vs)) us ≡ map (place_among kept) us
places-stay vs [] kept h = refl
places-stay vs (u ∷ us) kept h = λ i. (stays u vs kept h.0).0 i ∷ places-stay vs us kept h.1 i

pub all-places-stay : (vs : List SitedCall) (cs : List s.Client) (kept : List SitedCall) → Known kept (flat_map sited_calls_of cs) → places_among (distinct_after kept vs) cs ≡ places_among kept cs
unfolding meaning_definitions
all-places-stay vs [] kept h = refl
all-places-stay vs (c ∷ cs) kept h =
    λ i. places-stay vs (sited_calls_of c) kept (known-first kept (sited_calls_of c) (flat_map sited_calls_of cs) h) i ∷ all-places-stay vs cs kept (known-second kept (sited_calls_of c) (flat_map sited_calls_of cs) h) i

-- ---- one more call is numbered
module _ (kept us : List SitedCall) (u : SitedCall) (old new : List SitedCall) (o : old ≡ distinct_after kept us) (n : new ≡ distinct_after old (u ∷ [])) where
  pub calls-step : new ≡ distinct_after kept (us ++ u ∷ [])
  calls-step = n ∙ ap (λ (l : List SitedCall). distinct_after l (u ∷ [])) o ∙ sym (distinct-append kept us (u ∷ []))

  known_in : Known old us
  known_in = subst (λ (l : List SitedCall). Known l us) (sym o) (all-known us kept)

  pub places-step : (places : List ℕ) → places ≡ map (place_among old) us → places ++ place_among new u ∷ [] ≡ map (place_among new) (us ++ u ∷ [])
  places-step places e =
      ap (λ (l : List ℕ). l ++ place_among new u ∷ []) (e ∙ sym (places-stay (u ∷ []) us old known_in) ∙ ap (λ (l : List SitedCall). map (place_among l) us) (sym n))
      ∙ sym (map-append (place_among new) us (u ∷ []))

-- ---- one more client is numbered
flat-last : (cs : List s.Client) (c : s.Client) → flat_map sited_calls_of (cs ++ c ∷ []) ≡ flat_map sited_calls_of cs ++ sited_calls_of c
flat-last [] c = append_nil_of (sited_calls_of c)
  where
    append_nil_of : (l : List SitedCall) → l ++ [] ≡ l
    append_nil_of [] = refl
    append_nil_of (x ∷ l) = ap (λ (l : List SitedCall). x ∷ l) (append_nil_of l)
flat-last (d ∷ cs) c = ap (λ (l : List SitedCall). sited_calls_of d ++ l) (flat-last cs c) ∙ sym (append_assoc (sited_calls_of d) (flat_map sited_calls_of cs) (sited_calls_of c))

module _ (cs : List s.Client) (c : s.Client) (old new : List SitedCall) (o : old ≡ distinct_after [] (flat_map sited_calls_of cs)) (n : new ≡ distinct_after old (sited_calls_of c)) where
  pub clients-step : new ≡ distinct_after [] (flat_map sited_calls_of (cs ++ c ∷ []))
  clients-step =
      n ∙ ap (λ (l : List SitedCall). distinct_after l (sited_calls_of c)) o ∙ sym (distinct-append [] (flat_map sited_calls_of cs) (sited_calls_of c))
      ∙ ap (distinct_after []) (sym (flat-last cs c))

  all_known_in : Known old (flat_map sited_calls_of cs)
  all_known_in = subst (λ (l : List SitedCall). Known l (flat_map sited_calls_of cs)) (sym o) (all-known (flat_map sited_calls_of cs) [])

  pub tables-step : (tables : List (List ℕ)) (places : List ℕ) → tables ≡ places_among old cs → places ≡ map (place_among new) (sited_calls_of c) → tables ++ places ∷ [] ≡ places_among new (cs ++ c ∷ [])
  unfolding meaning_definitions
  tables-step tables places t p =
      (λ i. (t ∙ sym (all-places-stay (sited_calls_of c) cs old all_known_in) ∙ ap (λ (l : List SitedCall). places_among l cs) (sym n)) i ++ p i ∷ [])
      ∙ sym (map-append (λ (client : s.Client). map (place_among new) (sited_calls_of client)) cs (c ∷ []))

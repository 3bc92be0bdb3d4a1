-- Keys tell calls apart as the definition does, and the set of them stays beside the calls.
use Rattle.std.proofs.Common.{◌≡◌, ℕ, ◌+◌, ℤ, Bool, true, false, cond, ◌&&◌, ◌==◌, Some, None, List, [], ◌∷◌, ◌++◌, length, map, refl, sym, ap, ◌∙◌}
use Rattle.std.specs.Prelude.{◌||◌, not, if◌then◌else◌, nat_lt, position}
use Rattle.std.specs.Ordering.{int_eq}
use Rattle.std.specs.List.{list_any, position_or_len}
use Rattle.std.specs.Cmp.Lexicographic.{pointwise}
use Rattle.std.proofs.lemmas.List.{map-append}
use Rattle.homeo_lemmas.proofs.Bools.{and_assoc}
use Rattle.homeo_meaning.specs.Key.{definitions as meaning_definitions}
use Rattle.homeo_meaning.specs.GlobalNames as g
use Rattle.homeo_meaning.specs.NumberRules.{same_numbers, same_ground, distinct_after}
use Rattle.homeo_ground.specs.Sited.{sited}
use Rattle.homeo_ground.specs.inner.Keys.{unplaced, call_of}
use Rattle.homeo_meaning.specs.CallPlaces.{place_among}
use Rattle.homeo_ground.specs.declared.key.Key.{Key}
use Rattle.homeo_ground.specs.declared.sited.SitedCall.{SitedCall}

same-numbers : (xs ys : List ℤ) → pointwise int_eq xs ys ≡ same_numbers xs ys
same-numbers [] [] = refl
same-numbers [] (y ∷ ys) = refl
same-numbers (x ∷ xs) [] = refl
same-numbers (x ∷ xs) (y ∷ ys) = ap (λ (b : Bool). int_eq x y && b) (same-numbers xs ys)

-- the test of two keys in the code
abbrev pub same_key : Key → Key → Bool
same_key a b = (a.name == b.name) && (pointwise int_eq a.args.items b.args.items && int_eq a.site b.site)

same-key : (a b : Key) → same_key a b ≡ same_ground (call_of a) (call_of b)
unfolding meaning_definitions
same-key a b =
    ap (λ (c : Bool). (a.name == b.name) && (c && int_eq a.site b.site)) (same-numbers a.args.items b.args.items)
    ∙ and_assoc (a.name == b.name) (same_numbers a.args.items b.args.items) (int_eq a.site b.site)

any-keys : (k : Key) (ks : List Key) → list_any (same_key k) ks ≡ list_any (same_ground (call_of k)) (map call_of ks)
any-keys k [] = refl
any-keys k (j ∷ ks) = λ i. same-key k j i || any-keys k ks i

place-keys : (k : Key) (ks : List Key) → position_or_len (same_key k) ks ≡ position_or_len (same_ground (call_of k)) (map call_of ks)
place-keys k [] = refl
place-keys k (j ∷ ks) = λ i. if not (same-key k j i) then 1 + place-keys k ks i else 0

-- where calls stand in the text does not count
any-unplaced : (u : g.SitedCall) (us : List g.SitedCall)
    → list_any (same_ground (unplaced u)) (map unplaced us) ≡ list_any (same_ground u) us
unfolding meaning_definitions
any-unplaced u [] = refl
any-unplaced u (v ∷ us) = ap (λ (b : Bool). same_ground u v || b) (any-unplaced u us)

place-unplaced : (u : g.SitedCall) (us : List g.SitedCall)
    → position_or_len (same_ground (unplaced u)) (map unplaced us) ≡ position_or_len (same_ground u) us
unfolding meaning_definitions
place-unplaced u [] = refl
place-unplaced u (v ∷ us) = ap (λ (n : ℕ). if not (same_ground u v) then 1 + n else 0) (place-unplaced u us)

found_at : (n : ℕ) (b : Bool) (place : ℕ) → Some place ≡ cond b (Some n) None → place ≡ n
found_at n true place found = cc
found_at n false place found = cc

-- a key and a call that are put to those before them
module _ (ks : List Key) (cs : List SitedCall) (k : Key) (c : SitedCall) (keys : map call_of ks ≡ map unplaced (map sited cs)) (key : call_of k ≡ unplaced (sited c)) where
  pub there : list_any (same_key k) ks ≡ list_any (same_ground (sited c)) (map sited cs)
  there = any-keys k ks ∙ (λ i. list_any (same_ground (key i)) (keys i)) ∙ any-unplaced (sited c) (map sited cs)

  pub place-is : position_or_len (same_key k) ks ≡ place_among (map sited cs) (sited c)
  unfolding meaning_definitions
  place-is = place-keys k ks ∙ (λ i. position_or_len (same_ground (key i)) (keys i)) ∙ place-unplaced (sited c) (map sited cs)

  pub absent : false ≡ list_any (same_key k) ks → list_any (same_ground (sited c)) (map sited cs) ≡ false
  absent none = sym there ∙ sym none

  pub place-found : (place : ℕ) → Some place ≡ position (same_key k) ks → place ≡ place_among (map sited cs) (sited c)
  place-found place found = found_at (position_or_len (same_key k) ks) (nat_lt (position_or_len (same_key k) ks) (length ks)) place found ∙ place-is

  abbrev keys_after : Bool → List Key
  keys_after b = if b then ks else ks ++ k ∷ []

  abbrev calls_after : Bool → List SitedCall
  calls_after b = if b then cs ++ c ∷ [] else cs

  stand : (b : Bool) → map call_of (keys_after b) ≡ map unplaced (map sited (calls_after (not b)))
  stand true = keys
  stand false =
      map-append call_of ks (k ∷ [])
      ∙ (λ i. keys i ++ key i ∷ [])
      ∙ sym (ap (map unplaced) (map-append sited cs (c ∷ [])) ∙ map-append unplaced (map sited cs) (sited c ∷ []))

  after : (b : Bool) → map sited (calls_after (not b)) ≡ (if b then map sited cs else map sited cs ++ sited c ∷ [])
  after true = refl
  after false = map-append sited cs (c ∷ [])

  module _ (made : List SitedCall) (known : Bool) (t : list_any (same_key k) ks ≡ known) (m : made ≡ calls_after (not known)) where
    made_is : made ≡ calls_after (not (list_any (same_key k) ks))
    made_is = m ∙ ap (λ (b : Bool). calls_after (not b)) (sym t)

    pub keys-stand : (found : List Key) → found ≡ keys_after (list_any (same_key k) ks) → map call_of found ≡ map unplaced (map sited made)
    keys-stand found f = ap (map call_of) f ∙ stand (list_any (same_key k) ks) ∙ sym (ap (λ (l : List SitedCall). map unplaced (map sited l)) made_is)

    pub calls-put : map sited made ≡ distinct_after (map sited cs) (sited c ∷ [])
    unfolding meaning_definitions
    calls-put =
        ap (map sited) made_is ∙ after (list_any (same_key k) ks)
        ∙ ap (λ (b : Bool). if b then map sited cs else map sited cs ++ sited c ∷ []) there

-- Calls of one transaction with the same arguments have one L form, and one measure.
use Rattle.std.proofs.Common.{◌≡◌, ℕ, zero, suc, ◌<◌, Bool, true, false, ◌&&◌, ◌==◌, List, [], ◌∷◌, ◌++◌, map, Some, length, get_or, refl, sym, ap, subst, ◌∙◌, arith}
use Rattle.std.specs.Prelude.{◌||◌, slice_get, slice_index_or, option_map, position, if◌then◌else◌}
use Rattle.std.specs.Ordering.{int_eq}
use Rattle.std.specs.Cmp.Lexicographic.{pointwise}
use Rattle.std.specs.List.{list_any}
use Rattle.std.proofs.lemmas.List.{map_push}
use Rattle.std.proofs.lemmas.List.Quantifiers.{position-Some}
use Rattle.std.proofs.lemmas.Option.{slice_get-map}
use Rattle.homeo_lemmas.proofs.Bools.{and_first, and_second}
use Rattle.homeo_lemmas.proofs.Lists.{numbers_same}
use Rattle.homeo_lemmas.proofs.Naturals.{nat_is}
use Rattle.homeo_syntax.specs.LowView.{plain_lcommand}
use Rattle.homeo_syntax.specs.Source as s
use Rattle.homeo_syntax.specs.declared.low.LCommand.{LCommand}
use Rattle.homeo_meaning.specs.Forms.{CallBody, same_body, with_body}
use Rattle.homeo_meaning.specs.Schema.{nat_of, schema_of}
use Rattle.homeo_size.specs.Measured.{IsMeasure}
use Rattle.homeo_size.specs.declared.measures.Measure.{Measure}
use Rattle.homeo_rules.specs.inner.Bodies.{call_body, form_to, HaveMeasures}
use Rattle.homeo_rules.specs.declared.rules.bodies.Body.{Body}

-- ---- bodies that the code finds equal
-- the test of two bodies in the code
abbrev pub same_code : Body → Body → Bool
same_code a b = (a.transaction == b.transaction) && pointwise int_eq a.args.items b.args.items

alike : (a b : Body) → same_code a b ≡ true → call_body a ≡ call_body b
alike a b same =
    let number : a.transaction ≡ b.transaction = nat_is a.transaction b.transaction (and_first (a.transaction == b.transaction) (pointwise int_eq a.args.items b.args.items) same) in
    let args : a.args.items ≡ b.args.items = numbers_same a.args.items b.args.items (and_second (a.transaction == b.transaction) (pointwise int_eq a.args.items b.args.items) same) in
    λ i. record { transaction = number i; args = args i }

pub any_body : (b : Body) (bs : List Body) → list_any (same_code b) bs ≡ list_any (same_body (call_body b)) (map call_body bs)
any_body b [] = refl
any_body b (k ∷ bs) = ap (λ t. same_code b k || t) (any_body b bs)

-- one that is put stands behind the others, unless it is there
pub keys_put : (b : Body) (bs found : List Body) → found ≡ (if list_any (same_code b) bs then bs else bs ++ b ∷ []) → map call_body found ≡ with_body (map call_body bs) (call_body b)
keys_put b bs found put =
    ap (map call_body) put ∙ either (list_any (same_code b) bs)
    ∙ ap (λ t. if t then map call_body bs else map call_body bs ++ call_body b ∷ []) (any_body b bs)
  where
    either : (t : Bool) → map call_body (if t then bs else bs ++ b ∷ []) ≡ (if t then map call_body bs else map call_body bs ++ call_body b ∷ [])
    either true = refl
    either false = map_push call_body bs b

pub with_new : (bs : List CallBody) (b : CallBody) → list_any (same_body b) bs ≡ false → with_body bs b ≡ bs ++ b ∷ []
with_new bs b new = ap (λ t. if t then bs else bs ++ b ∷ []) new

pub with_old : (bs : List CallBody) (b : CallBody) → list_any (same_body b) bs ≡ true → bs ≡ with_body bs b
with_old bs b there = sym (ap (λ t. if t then bs else bs ++ b ∷ []) there)

-- ---- the place of one
pub stored_place : (bs : List Body) (place : ℕ) (b k : Body) → slice_get bs place ≡ Some k → same_code b k ≡ true → slice_get (map call_body bs) place ≡ Some (call_body b)
stored_place bs place b k at same = slice_get-map call_body bs place ∙ ap (option_map call_body) at ∙ ap Some (sym (alike b k same))

pub found_place : (bs : List Body) (place : ℕ) (b : Body) → Some place ≡ position (same_code b) bs → slice_get (map call_body bs) place ≡ Some (call_body b)
found_place bs place b found =
    let p = position-Some (same_code b) bs place b (sym found) in
    stored_place bs place b (get_or bs place b) (there bs place p.0) p.1
  where
    there : (l : List Body) (n : ℕ) → n < length l → slice_get l n ≡ Some (get_or l n b)
    there [] n h = absurd (omega (arith, h))
    there (x ∷ l) zero h = refl
    there (x ∷ l) (suc n) h = there l n (omega (arith, h))

-- ---- bodies with their L forms and measures
module _ (w : s.Workload) where
  abbrev HasMeasure : CallBody → Measure → Type 0
  HasMeasure b m = IsMeasure (schema_of w) (nat_of w.sites.value) (form_to w b) m

  measures_end : (bs : List CallBody) (ms : List Measure) (b : CallBody) (m : Measure) → HaveMeasures w bs ms → HasMeasure b m → HaveMeasures w (bs ++ b ∷ []) (ms ++ m ∷ [])
  measures_end [] [] b m h k = (k, tt)
  measures_end [] (n ∷ ms) b m h k = absurd h
  measures_end (a ∷ bs) [] b m h k = absurd h
  measures_end (a ∷ bs) (n ∷ ms) b m h k = (h.0, measures_end bs ms b m h.1 k)

  pub measure_there : (bs : List CallBody) (ms : List Measure) (j : ℕ) (b : CallBody) → HaveMeasures w bs ms → slice_get bs j ≡ Some b → j < length ms
  measure_there [] [] j b h e = cc
  measure_there [] (n ∷ ms) j b h e = absurd h
  measure_there (a ∷ bs) [] j b h e = absurd h
  measure_there (a ∷ bs) (n ∷ ms) zero b h e = omega arith
  measure_there (a ∷ bs) (n ∷ ms) (suc j) b h e = omega (arith, measure_there bs ms j b h.1 e)

  pub measure_at : (bs : List CallBody) (ms : List Measure) (j : ℕ) (b : CallBody) (d : Measure) → HaveMeasures w bs ms → slice_get bs j ≡ Some b → HasMeasure b (slice_index_or ms j d)
  measure_at [] [] j b d h e = cc
  measure_at [] (n ∷ ms) j b d h e = absurd h
  measure_at (a ∷ bs) [] j b d h e = absurd h
  measure_at (a ∷ bs) (n ∷ ms) zero b d h e =
      let same : a ≡ b = cc in
      subst (λ (x : CallBody). HasMeasure x n) same h.0
  measure_at (a ∷ bs) (n ∷ ms) (suc j) b d h e = measure_at bs ms j b d h.1 e

  -- one more
  module _ (bs more : List CallBody) (b : CallBody) (new : list_any (same_body b) bs ≡ false) (put : more ≡ with_body bs b) where
    pub more_forms : (old fs : List LCommand) (f : LCommand) → fs ≡ old ++ f ∷ [] → plain_lcommand f ≡ form_to w b → map plain_lcommand old ≡ map (form_to w) bs → map plain_lcommand fs ≡ map (form_to w) more
    more_forms old fs f pushed is have =
        ap (map plain_lcommand) pushed ∙ map_push plain_lcommand old f ∙ (λ i. have i ++ is i ∷ []) ∙ sym (map_push (form_to w) bs b)
        ∙ ap (map (form_to w)) (sym (put ∙ with_new bs b new))

    pub more_measures : (old ms : List Measure) (m : Measure) → ms ≡ old ++ m ∷ [] → HasMeasure b m → HaveMeasures w bs old → HaveMeasures w more ms
    more_measures old ms m pushed is have =
        subst (λ l. HaveMeasures w l ms) (sym (put ∙ with_new bs b new))
        (subst (HaveMeasures w (bs ++ b ∷ [])) (sym pushed) (measures_end bs old b m have is))

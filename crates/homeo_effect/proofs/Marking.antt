-- Numbers that are read off a table of marks.
use Rattle.std.proofs.Common.{◌≡◌, ℕ, zero, suc, ◌==◌, ◌+◌, ◌<◌, ◌≤◌, Bool, true, false, cond, List, [], ◌∷◌, ◌++◌, length, get_or, set, take, drop, refl, sym, ap, ◌∙◌, arith}
use Rattle.std.specs.Prelude.{◌||◌, nat_eq}
use Rattle.std.specs.Cmp.{nat_eq_equiv}
use Rattle.std.proofs.lemmas.Bool.Decides.{nat_tests}
use Rattle.std.proofs.lemmas.List.{append-nil, append_assoc, length-append, length-take-le, take_more_set, drop_more, drop_all}
use Rattle.std.proofs.lemmas.Map.Keys.{IsDistinct-from_apart, below_from_sorted}
use Rattle.std.proofs.lemmas.Map.Made.{length-le_from_is_member}
use Rattle.homeo_outline.specs.Numbers.{has}
use Rattle.homeo_effect.specs.inner.Uses.{marked_from}
use Rattle.homeo_effect.proofs.RisingNumbers.{numbers_above, numbers_rise, absent, has_first}

-- ---- one more mark: those before it are read into the first places, those behind it are left
next_read :
    (marks : List Bool) (i : ℕ) (mark : Bool) → i < length marks → get_or marks i false ≡ mark →
    cond mark (i ∷ marked_from (i + 1) (drop (i + 1) marks)) (marked_from (i + 1) (drop (i + 1) marks))
    ≡ marked_from i (drop i marks)
next_read marks i mark within is =
    ap (λ n. cond mark (i ∷ marked_from n later) (marked_from n later)) next
    ∙ ap (λ mark. cond mark (i ∷ marked_from (suc i) later) (marked_from (suc i) later)) (sym is)
    ∙ ap (marked_from i) (sym (drop_more marks i false within))
  where
    later : List Bool
    later = drop (i + 1) marks

    next : i + 1 ≡ suc i
    next = omega arith

module _ (marks : List Bool) (i : ℕ) (within : i < length marks) (numbers : List ℕ) (place : ℕ) (whole : List ℕ)
    (so_far : take place numbers ++ marked_from i (drop i marks) ≡ whole)
  where
    goes_on : (mark : Bool) → get_or marks i false ≡ mark →
        take place numbers ++ cond mark (i ∷ marked_from (i + 1) (drop (i + 1) marks)) (marked_from (i + 1) (drop (i + 1) marks)) ≡ whole
    goes_on mark is = ap (λ l. take place numbers ++ l) (next_read marks i mark within is) ∙ so_far

    pub number_fits : get_or marks i false ≡ true → place ≤ length numbers → length whole ≤ length numbers → place < length numbers
    number_fits is before room =
        omega (
          arith,
          before,
          room,
          ap length (goes_on true is),
          length-append (take place numbers) (i ∷ marked_from (i + 1) (drop (i + 1) marks)),
          length-take-le place numbers before,
        )

    pub number_put :
        get_or marks i false ≡ true → place < length numbers →
        take (place + 1) (set numbers place i) ++ marked_from (i + 1) (drop (i + 1) marks) ≡ whole
    number_put is fits =
        let later = marked_from (i + 1) (drop (i + 1) marks) in
        ap (λ l. l ++ later) (take_more_set numbers place i fits) ∙ append_assoc (take place numbers) (i ∷ []) later ∙ goes_on true is

    pub number_passed : get_or marks i false ≡ false → take place numbers ++ marked_from (i + 1) (drop (i + 1) marks) ≡ whole
    number_passed is = goes_on false is

pub no_more :
    (marks : List Bool) (i : ℕ) (before whole : List ℕ) → length marks ≤ i → before ++ marked_from i (drop i marks) ≡ whole → before ≡ whole
no_more marks i before whole past e = sym (append-nil before) ∙ ap (λ l. before ++ marked_from i l) (sym (drop_all i marks past)) ∙ e

-- ---- all marks
pub read_from : (marks : List Bool) (first n : ℕ) → has (first + n) (marked_from first marks) ≡ get_or marks n false
read_from [] first n = refl
read_from (mark ∷ marks) first zero =
    let here : first + 0 ≡ first = omega arith in
    ap (λ k. has k (cond mark (first ∷ later) later)) here ∙ go mark
  where
    later : List ℕ
    later = marked_from (suc first) marks

    go : (mark : Bool) → has first (cond mark (first ∷ later) later) ≡ mark
    go true = has_first first later
    go false = absent first first later (omega arith) (numbers_above (λ mark. mark) first (suc first) marks (omega arith))
read_from (mark ∷ marks) first (suc n) =
    let there : first + suc n ≡ suc first + n = omega arith in
    ap (λ k. has k (cond mark (first ∷ later) later)) there ∙ go mark ∙ read_from marks (suc first) n
  where
    later : List ℕ
    later = marked_from (suc first) marks

    go : (mark : Bool) → has (suc first + n) (cond mark (first ∷ later) later) ≡ has (suc first + n) later
    go true =
        let apart : (suc first + n == first) ≡ false = grind (arith, nat_tests) in
        ap (λ v. v || has (suc first + n) later) apart
    go false = refl

-- the numbers that are read are those that are marked
pub all_read : (marks : List Bool) (n : ℕ) → has n (marked_from 0 marks) ≡ get_or marks n false
all_read marks n =
    let here : n ≡ 0 + n = omega arith in
    ap (λ k. has k (marked_from 0 marks)) here ∙ read_from marks 0 n

-- they are no more than the numbers for which marks were set
pub few_read : (marks : List Bool) (numbers : List ℕ) → ((n : ℕ) → get_or marks n false ≡ has n numbers) → length (marked_from 0 marks) ≤ length numbers
few_read marks numbers set =
    length-le_from_is_member nat_eq_equiv read numbers (IsDistinct-from_apart nat_eq read apart) (λ n there. sym (all_read marks n ∙ set n) ∙ there)
  where
    read : List ℕ
    read = marked_from 0 marks

    apart : (i j d : ℕ) → i < j → j < length read → (get_or read i d == get_or read j d) ≡ false
    apart i j d less within =
        let below = below_from_sorted read i j d (numbers_rise (λ mark. mark) 0 marks) less within in
        grind (arith, nat_tests)

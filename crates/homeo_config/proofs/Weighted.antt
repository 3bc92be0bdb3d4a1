-- Bounds by a list of shares for each clause, one clause after another.
use Rattle.homeo_plan.specs.Key.{definitions}
use Rattle.homeo_meaning.specs.Key.{definitions as meaning_definitions}
use Rattle.std.proofs.Common.{◌≡◌, ℕ, zero, suc, ◌+◌, ◌*◌, ◌<◌, ◌≤◌, ◌^◌, List, [], ◌∷◌, ◌++◌, map, length, sum, take, get_or, ℤ, pos, negsuc, ◌≤ℤ◌, to_z, of_z, w64, refl, sym, ap, ap₂, ◌∙◌, subst, arith}
use Rattle.std.proofs.lemmas.Int.{ints, to_z-of_z, fits_signed_from_abs}
use Rattle.std.proofs.lemmas.List.{take_more, take_all, map_push, length-map}
use Rattle.std.proofs.lemmas.List.Sums.{sum_by-cons}
use Rattle.homeo_syntax.specs.Listed.{Listed}
use Rattle.homeo_meaning.specs.Schema.{nat_of}
use Rattle.homeo_plan.specs.declared.templates.Clause.{Clause}
use Rattle.homeo_plan.specs.PlanView.{plain_clause}
use Rattle.homeo_plan.specs.Template as template
use Rattle.homeo_plan.specs.Each.{Each}
use Rattle.homeo_plan.specs.Config.{Config, AreShares, CanShare, Fits, HaveSlack, natural_list, split, split_each}
use Rattle.homeo_plan.proofs.Splits.{split_fits}

-- ---- shares without a sign
pub each_at : {X : Type 0} (P : X → Type 0) (xs : List X) (i : ℕ) (d : X) → Each P xs → i < length xs → P (get_or xs i d)
unfolding definitions
each_at P [] i d all h = absurd (omega (arith, h))
each_at P (x ∷ xs) zero d all h = all.0
each_at P (x ∷ xs) (suc i) d all h = each_at P xs i d all.1 (omega (arith, h))

pub number_back : (z : ℤ) → pos 0 ≤ℤ z → z ≤ℤ pos 1000 → to_z w64 (of_z w64 z) ≡ z
number_back z low high = to_z-of_z w64 z (fits_signed_from_abs w64 z (omega (arith, ints, low, high)))

module _ (shares : List ℤ) (i : ℕ) (natural : Each (λ n. pos 0 ≤ℤ n) shares) (small : Each (λ n. n ≤ℤ pos 1000) shares) (h : i < length shares) where
  back : to_z w64 (of_z w64 (get_or shares i (pos 0))) ≡ get_or shares i (pos 0)
  back = number_back (get_or shares i (pos 0)) (each_at (λ n. pos 0 ≤ℤ n) shares i (pos 0) natural h) (each_at (λ n. n ≤ℤ pos 1000) shares i (pos 0) small h)

  pub natural_here : pos 0 ≤ℤ to_z w64 (of_z w64 (get_or shares i (pos 0)))
  natural_here = subst (λ z. pos 0 ≤ℤ z) (sym back) (each_at (λ n. pos 0 ≤ℤ n) shares i (pos 0) natural h)

  pub naturals_more :
      (before after : List ℕ) (own : ℕ) → before ≡ map nat_of (take i shares) → own ≡ nat_of (to_z w64 (of_z w64 (get_or shares i (pos 0)))) →
      after ≡ before ++ own ∷ [] → after ≡ map nat_of (take (i + 1) shares)
  naturals_more before after own so_far made pushed =
      pushed ∙ ap₂ (λ l n. l ++ n ∷ []) so_far (made ∙ ap nat_of back) ∙ sym (map_push nat_of (take i shares) (get_or shares i (pos 0)))
      ∙ ap (map nat_of) (sym (take_more shares i (pos 0) h))

pub naturals_all : (shares : List ℤ) (i : ℕ) (own : List ℕ) → length shares ≤ i → own ≡ map nat_of (take i shares) → own ≡ map nat_of shares
naturals_all shares i own h e = e ∙ ap (map nat_of) (take_all i shares h)

-- ---- their sum
pub nat_small : (z : ℤ) → z ≤ℤ pos 1000 → nat_of z ≤ 1000
unfolding meaning_definitions
nat_small (pos n) h = omega (arith, ints, h)
nat_small (negsuc n) h = omega arith

sum_small : (shares : List ℤ) → Each (λ n. n ≤ℤ pos 1000) shares → sum (map nat_of shares) ≤ 1000 * length shares
unfolding definitions
sum_small [] h = omega arith
sum_small (z ∷ zs) h = omega (arith, sum_by-cons (λ x. x) (nat_of z) (map nat_of zs), nat_small z h.0, sum_small zs h.1)

-- ---- one list of shares, as the code reads it
-- a clause that there is has one
pub below : {L : Type 0} (lists : List L) (clauses lent : List Clause) (i : ℕ) → length lists ≡ length (map plain_clause clauses) → lent ≡ clauses → i < length lent → i < length lists
below lists clauses lent i count same within = omega (arith, count, length-map clauses plain_clause, ap length same, within)

module _ (sites : ℕ) (lists : List (Listed ℤ)) (i : ℕ) (l : Listed ℤ) (can : Each (λ (l : Listed ℤ). CanShare sites l.items) lists) (h : i < length lists) (is : l ≡ get_or lists i l) where
  pub can_here : CanShare sites l.items
  can_here = subst (λ (l : Listed ℤ). CanShare sites l.items) (sym is) (each_at (λ (l : Listed ℤ). CanShare sites l.items) lists i l can h)

  module _ (lent : List ℤ) (own shares : List ℕ) (lend : lent ≡ l.items) (made : own ≡ map nat_of lent) (as_made : shares ≡ own) where
    pub shares_are : shares ≡ natural_list l
    shares_are = as_made ∙ made ∙ ap (map nat_of) lend

    pub some_shares : 1 ≤ sum shares
    some_shares = subst (λ (q : List ℕ). 1 ≤ sum q) (sym shares_are) can_here.are.some

    pub few_shares : sites < 2 ^ 32 → sum shares < 2 ^ 64
    few_shares few =
        let bound = sum_small l.items can_here.small in
        let count : length (map nat_of l.items) ≡ sites = can_here.are.count in
        let same = length-map l.items nat_of in
        let all : sum shares ≡ sum (map nat_of l.items) = ap sum shares_are in
        omega (arith, bound, count, same, all, few)

-- ---- one clause more
split_push :
    (qs : List (List ℕ)) (cs : List template.Clause) (q : List ℕ) (c : template.Clause) → length qs ≡ length cs →
    split_each (qs ++ q ∷ []) (cs ++ c ∷ []) ≡ split_each qs cs ++ split q c.slack ∷ []
unfolding definitions
split_push [] [] q c e = refl
split_push [] (x ∷ cs) q c e = absurd (omega (arith, e))
split_push (p ∷ qs) [] q c e = absurd (omega (arith, e))
split_push (p ∷ qs) (x ∷ cs) q c e = ap (λ bs. split p x.slack ∷ bs) (split_push qs cs q c (omega (arith, e)))

pub weighted_none : [] ≡ split_each [] []
unfolding definitions
weighted_none = refl

take_length : {X : Type 0} (xs : List X) (i : ℕ) → i ≤ length xs → length (take i xs) ≡ i
take_length [] zero h = refl
take_length [] (suc i) h = absurd (omega (arith, h))
take_length (x ∷ xs) zero h = refl
take_length (x ∷ xs) (suc i) h = ap suc (take_length xs i (omega (arith, h)))

pub weighted_more :
    (lists : List (Listed ℤ)) (lent : List Clause) (i : ℕ) (l : Listed ℤ) (c : Clause) (shares : List ℕ) (slack : ℤ) (bounds : Listed ℤ) (before after : List (Listed ℤ)) →
    i < length lists → i < length lent → l ≡ get_or lists i l → c ≡ get_or lent i c → shares ≡ natural_list l → slack ≡ c.slack →
    bounds.items ≡ split shares slack →
    map (λ (b : Listed ℤ). b.items) before ≡ split_each (map natural_list (take i lists)) (map plain_clause (take i lent)) →
    after ≡ before ++ bounds ∷ [] →
    map (λ (b : Listed ℤ). b.items) after ≡ split_each (map natural_list (take (i + 1) lists)) (map plain_clause (take (i + 1) lent))
unfolding definitions
weighted_more lists lent i l c shares slack bounds before after below within l_is c_is shares_are slack_is split_is so_far pushed =
    let qs : List (List ℕ) = map natural_list (take i lists) in
    let cs : List template.Clause = map plain_clause (take i lent) in
    let one : length qs ≡ i = length-map (take i lists) natural_list ∙ take_length lists i (omega (arith, below)) in
    let other : length cs ≡ i = length-map (take i lent) plain_clause ∙ take_length lent i (omega (arith, within)) in
    let more : take i lists ++ l ∷ [] ≡ take (i + 1) lists = ap (λ x. take i lists ++ x ∷ []) l_is ∙ sym (take_more lists i l below) in
    let clauses : take i lent ++ c ∷ [] ≡ take (i + 1) lent = ap (λ x. take i lent ++ x ∷ []) c_is ∙ sym (take_more lent i c within) in
    ap (map (λ (b : Listed ℤ). b.items)) pushed
    ∙ map_push (λ (b : Listed ℤ). b.items) before bounds
    ∙ ap₂ (λ bs b. bs ++ b ∷ []) so_far (split_is ∙ ap₂ split shares_are slack_is)
    ∙ sym (split_push qs cs (natural_list l) (plain_clause c) (one ∙ sym other))
    ∙ ap₂ split_each (sym (map_push natural_list (take i lists) l) ∙ ap (map natural_list) more) (sym (map_push plain_clause (take i lent) c) ∙ ap (map plain_clause) clauses)

pub weighted_all :
    (lists : List (Listed ℤ)) (clauses lent : List Clause) (i : ℕ) (made : Config) → lent ≡ clauses → length lists ≡ length (map plain_clause clauses) →
    length lent ≤ i → made ≡ split_each (map natural_list (take i lists)) (map plain_clause (take i lent)) →
    made ≡ split_each (map natural_list lists) (map plain_clause clauses)
weighted_all lists clauses lent i made same count past e =
    let past_lists : length lists ≤ i = omega (arith, count, length-map clauses plain_clause, ap length same, past) in
    e ∙ ap₂ (λ qs cs. split_each (map natural_list qs) (map plain_clause cs)) (take_all i lists past_lists) (take_all i lent past ∙ same)

all_shares : (sites : ℕ) (lists : List (Listed ℤ)) → Each (λ (l : Listed ℤ). CanShare sites l.items) lists → Each (AreShares sites) (map natural_list lists)
unfolding definitions
all_shares sites [] h = tt
all_shares sites (l ∷ lists) h = (h.0.are, all_shares sites lists h.1)

pub weighted_fits :
    (sites : ℕ) (lists : List (Listed ℤ)) (cs : List template.Clause) → Each (λ (l : Listed ℤ). CanShare sites l.items) lists → length lists ≡ length cs →
    HaveSlack cs → Fits sites cs (split_each (map natural_list lists) cs)
weighted_fits sites lists cs can count slack =
    split_fits sites (map natural_list lists) cs (all_shares sites lists can) (length-map lists natural_list ∙ count) slack

-- Bounds of one clause after another, and in each of one site after another.
use Rattle.homeo_meaning.specs.Key.{definitions as meaning_definitions}
use Rattle.homeo_plan.specs.Key.{definitions}
use Rattle.std.proofs.Common.{◌≡◌, ℕ, zero, suc, ◌+◌, ◌-◌, ◌*◌, ◌/◌, ◌%◌, ◌<◌, ◌≤◌, List, [], ◌∷◌, ◌++◌, map, length, sum, take, drop, get_or, ℤ, pos, negsuc, to_z, of_z, refl, sym, ap, ap₂, ◌∙◌, subst, arith}
use mir.Syntax.{w128}
use Rattle.std.specs.Prelude.{replicate}
use Rattle.std.proofs.Math.Nat.{add-mul, div-le_of_le-mul, div-mul-le_self, mul_comm, mul_right_comm, mul-add-div_right, mul-le-mul_left}
use Rattle.std.proofs.lemmas.Int.{fits_signed_from_abs, to_z-of_z}
use Rattle.std.proofs.lemmas.List.{append_assoc, append-nil, drop_more, drop_all, take_more, take_all, map_push}
use Rattle.std.proofs.lemmas.List.Sums.{sum_by_more}
use Rattle.std.proofs.lemmas.Nat.{div-add-mod', le-div}
use Rattle.homeo_syntax.specs.Listed.{Listed}
use Rattle.homeo_meaning.specs.Schema.{nat_of}
use Rattle.homeo_meaning.specs.Small.{IsSmall}
use Rattle.homeo_plan.specs.declared.templates.Clause.{Clause}
use Rattle.homeo_plan.specs.PlanView.{plain_clause}
use Rattle.homeo_plan.specs.Template as template
use Rattle.homeo_plan.specs.Each.{Each}
use Rattle.homeo_plan.specs.Config.{Config, bounds_from, split, split_by, even}
use Rattle.homeo_plan.specs.Limit.{form_limit}

-- ---- a slack that is divided once
-- what it gives some shares, by what it gives each and by the rest
pub part_is : (each rest shares all : ℕ) → 1 ≤ all → each * shares + rest * shares / all ≡ (each * all + rest) * shares / all
part_is each rest shares all some =
    sym (ap (λ n. n / all) (add-mul (each * all) rest shares ∙ ap (λ n. n + rest * shares) (mul_right_comm each all shares)) ∙ mul-add-div_right some (each * shares) (rest * shares))

pub once : (amount shares all part : ℕ) → part ≡ (amount / all * all + amount % all) * shares / all → part ≡ amount * shares / all
once amount shares all part e = e ∙ ap (λ n. n * shares / all) (div-add-mod' amount all)

pub whole_is_small : (amount all : ℕ) → amount ≤ form_limit → amount / all * all + amount % all ≤ form_limit
whole_is_small amount all small = subst (λ n. n ≤ form_limit) (sym (div-add-mod' amount all)) small

pub bound_of :
    (amount all below with_it given part : ℕ) (bound : ℤ) → given ≡ amount * below / all → part ≡ amount * with_it / all →
    bound ≡ pos (part - given) → bound ≡ pos (amount * with_it / all - amount * below / all)
bound_of amount all below with_it given part bound was is made = made ∙ ap₂ (λ m n. pos (m - n)) is was

-- no shares get more than the whole
pub part_within : (amount shares all : ℕ) → shares ≤ all → amount * shares / all ≤ amount
part_within amount shares all few =
    let more = mul-le-mul_left amount few in
    let same = mul_comm amount all in
    div-le_of_le-mul all (omega (arith, more, same))

-- more shares get no less
pub part_rises : (amount below share all : ℕ) → 1 ≤ all → amount * below / all ≤ amount * (below + share) / all
part_rises amount below share all some =
    let less = div-mul-le_self (amount * below) all in
    let more : amount * below ≤ amount * (below + share) = mul-le-mul_left amount (omega arith) in
    le-div (amount * below / all) (amount * (below + share)) all some (omega (arith, less, more))

-- ---- the bounds of a clause
pub amount_small : (slack : ℤ) (amount : ℕ) → IsSmall form_limit slack → amount ≡ nat_of slack → amount ≤ form_limit
unfolding meaning_definitions
amount_small (pos n) amount h e = omega (arith, h, e)
amount_small (negsuc n) amount h e = omega (arith, e)

-- one more site
pub shares_more : (shares : List ℕ) (i below : ℕ) → i < length shares → below ≡ sum (take i shares) → below + get_or shares i 0 ≡ sum (take (i + 1) shares)
shares_more shares i below h e = omega (arith, e, sum_by_more (λ n. n) shares i 0 h)

pub bounds_more :
    (n amount below i : ℕ) (shares : List ℕ) (bound : ℤ) (before after : List ℤ) (whole : List ℤ) → i < length shares →
    before ++ bounds_from n amount below (drop i shares) ≡ whole →
    bound ≡ pos (amount * (below + get_or shares i 0) / n - amount * below / n) → after ≡ before ++ bound ∷ [] →
    after ++ bounds_from n amount (below + get_or shares i 0) (drop (i + 1) shares) ≡ whole
unfolding definitions
bounds_more n amount below i shares bound before after whole h e made pushed =
    let rest : List ℤ = bounds_from n amount (below + get_or shares i 0) (drop (i + 1) shares) in
    ap (λ l. l ++ rest) (pushed ∙ ap (λ b. before ++ b ∷ []) made)
    ∙ append_assoc before (pos (amount * (below + get_or shares i 0) / n - amount * below / n) ∷ []) rest
    ∙ ap (λ qs. before ++ bounds_from n amount below qs) (sym (drop_more shares i 0 h))
    ∙ e

pub bounds_all :
    (n amount below i : ℕ) (shares : List ℕ) (slack : ℤ) (made : List ℤ) → length shares ≤ i →
    made ++ bounds_from n amount below (drop i shares) ≡ bounds_from n amount 0 shares → n ≡ sum shares →
    amount ≡ nat_of slack → made ≡ split shares slack
unfolding definitions
bounds_all n amount below i shares slack made h e all whole =
    sym (append-nil made) ∙ ap (λ qs. made ++ bounds_from n amount below qs) (sym (drop_all i shares h)) ∙ e
    ∙ ap₂ (λ n s. bounds_from n s 0 shares) all whole

-- ---- the bounds of clauses
clause_at :
    (P : template.Clause → Type 0) (cs : List Clause) (i : ℕ) (c : Clause) → Each P (map plain_clause cs) → i < length cs →
    c ≡ get_or cs i c → P (plain_clause c)
unfolding definitions
clause_at P [] i c all h is = absurd (omega (arith, h))
clause_at P (x ∷ cs) zero c all h is = subst (λ c. P (plain_clause c)) (sym is) all.0
clause_at P (x ∷ cs) (suc i) c all h is = clause_at P cs i c all.1 (omega (arith, h)) is

slack_back : (slack : ℤ) → IsSmall form_limit slack → to_z w128 (of_z w128 slack) ≡ slack
unfolding meaning_definitions
slack_back slack h = to_z-of_z w128 slack (fits_signed_from_abs w128 slack (omega (arith, h)))

split-push : (f : template.Clause → List ℕ) (cs : List template.Clause) (c : template.Clause) → split_by f (cs ++ c ∷ []) ≡ split_by f cs ++ split (f c) c.slack ∷ []
unfolding definitions
split-push f [] c = refl
split-push f (x ∷ cs) c = ap (λ bs. split (f x) x.slack ∷ bs) (split-push f cs c)

pub even-none : (k : ℕ) → [] ≡ even k []
unfolding definitions
even-none k = refl

pub even-whole :
    (k : ℕ) (clauses lent : List Clause) (i : ℕ) (made : Config) → lent ≡ clauses → length lent ≤ i →
    made ≡ even k (map plain_clause (take i lent)) → made ≡ even k (map plain_clause clauses)
even-whole k clauses lent i made same h e = e ∙ ap (λ l. even k (map plain_clause l)) (take_all i lent h ∙ same)

-- one clause more, as the code reads it
module _ (clauses lent : List Clause) (i : ℕ) (c : Clause) (same : lent ≡ clauses) (h : i < length lent) (is : c ≡ get_or lent i c) (small : Each (λ c. IsSmall form_limit c.slack) (map plain_clause clauses)) where
  at : (P : ℤ → Type 0) → Each (λ c. P c.slack) (map plain_clause clauses) → P c.slack
  at P all = clause_at (λ c. P c.slack) lent i c (subst (λ l. Each (λ c. P c.slack) (map plain_clause l)) (sym same) all) h is

  back : to_z w128 (of_z w128 c.slack) ≡ c.slack
  back = slack_back c.slack (at (λ z. IsSmall form_limit z) small)

  pub slack_as : to_z w128 (of_z w128 c.slack) ≡ c.slack
  slack_as = back

  pub slack_is : (P : ℤ → Type 0) → Each (λ c. P c.slack) (map plain_clause clauses) → P (to_z w128 (of_z w128 c.slack))
  slack_is P all = subst P (sym back) (at P all)

  pub even-more :
      (k : ℕ) (ones shares : List ℕ) (bounds : Listed ℤ) (before after : List (Listed ℤ)) → ones ≡ replicate k 1 → shares ≡ ones →
      bounds.items ≡ split shares (to_z w128 (of_z w128 c.slack)) →
      map (λ (b : Listed ℤ). b.items) before ≡ even k (map plain_clause (take i lent)) → after ≡ before ++ bounds ∷ [] →
      map (λ (b : Listed ℤ). b.items) after ≡ even k (map plain_clause (take (i + 1) lent))
  unfolding definitions
  even-more k ones shares bounds before after made lend split_is so_far pushed =
      let f = λ (c : template.Clause). let ns : List ℕ = replicate k 1 in ns in
      ap (map (λ (b : Listed ℤ). b.items)) pushed
      ∙ map_push (λ (b : Listed ℤ). b.items) before bounds
      ∙ ap₂ (λ l b. l ++ b ∷ []) so_far (split_is ∙ ap₂ split (lend ∙ made) back)
      ∙ sym (split-push f (map plain_clause (take i lent)) (plain_clause c))
      ∙ ap (split_by f) (sym (map_push plain_clause (take i lent) c))
      ∙ ap (λ l. split_by f (map plain_clause l)) (ap (λ c. take i lent ++ c ∷ []) is ∙ sym (take_more lent i c h))

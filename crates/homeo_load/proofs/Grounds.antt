-- There are few ground calls: each has a number of its own, below 680.
use Rattle.std.proofs.Common.{◌≡◌, ℕ, zero, suc, ◌+◌, ◌*◌, ◌<◌, ◌≤◌, Bool, true, false, cond, eqb, List, [], ◌∷◌, ◌++◌, map, length, ℤ, pos, refl, sym, ap, ap₂, ◌∙◌, subst, arith}
use Rattle.std.specs.Prelude.{All, ◌==◌, ◌||◌, ◌&&◌}
use Rattle.std.specs.Ordering.{int_eq}
use Rattle.std.specs.List.{list_any, IsDistinct}
use Rattle.std.proofs.lemmas.List.{length-map, map-append}
use Rattle.std.proofs.lemmas.List.Elements.{All-nil, All-head, All-tail, All-push}
use Rattle.std.proofs.lemmas.Map.Keys.{IsDistinct-push}
use Rattle.std.specs.Cmp.{nat_eq_equiv}
use Rattle.std.proofs.lemmas.Map.Steps.{length-le_from_distinct_below}
use Rattle.std.proofs.lemmas.Bool.Decides.{nat_tests}
use Rattle.std.proofs.lemmas.Bool.{or_parts}
use Rattle.homeo_meaning.specs.Key.{definitions as meaning_definitions}
use Rattle.homeo_meaning.specs.Schema.{nat_of}
use Rattle.homeo_meaning.specs.GlobalNames.{SitedCall}
use Rattle.homeo_meaning.specs.NumberRules.{same_ground, distinct_after}
use Rattle.homeo_load.specs.Key.{definitions}
use Rattle.homeo_load.specs.Load.{ident, transaction_name}
use Rattle.homeo_load.proofs.LoadCalls.{IsLoadCall}

-- ---- the number of a call
abbrev first_of : List ℤ → ℕ
first_of [] = 0
first_of (v ∷ vs) = nat_of v

abbrev pub key : SitedCall → ℕ
key c = (c.name.name * 10 + first_of c.args) * 4 + nat_of c.site

abbrev made : ℕ → ℕ → ℕ → SitedCall
made name n site = record { name = ident name; args = pos n ∷ []; site = pos site }

pub name_below : (p : ℕ) → p < 8 → transaction_name p < 17
unfolding definitions
name_below zero l = omega arith
name_below (suc p) l = omega arith

pub key_below : (c : SitedCall) → IsLoadCall c → key c < 680
unfolding definitions meaning_definitions
key_below c k =
    let e : key c ≡ (transaction_name k.object * 10 + k.number) * 4 + k.site = ap key k.same in
    let below : transaction_name k.object < 17 = name_below k.object k.object_below in
    omega (arith, e, below, k.most, k.site_below)

same_itself : (name n site : ℕ) → same_ground (made name n site) (made name n site) ≡ true
unfolding definitions meaning_definitions
same_itself name n site =
    let a : (name == name) ≡ true = grind (arith, nat_tests) in
    let b : int_eq (pos n) (pos n) ≡ true = grind (arith, nat_tests) in
    let c : int_eq (pos site) (pos site) ≡ true = grind (arith, nat_tests) in
    λ i. (a i && (b i && true)) && c i

same_key : (u v : SitedCall) → IsLoadCall u → IsLoadCall v → key u ≡ key v → same_ground u v ≡ true
unfolding definitions meaning_definitions
same_key u v k m e =
    let a : ℕ = transaction_name k.object in
    let b : ℕ = transaction_name m.object in
    let equal : (a * 10 + k.number) * 4 + k.site ≡ (b * 10 + m.number) * 4 + m.site = sym (ap key k.same) ∙ e ∙ ap key m.same in
    let site : m.site ≡ k.site = omega (arith, k.site_below, m.site_below) in
    let number : m.number ≡ k.number = omega (arith, k.site_below, m.site_below, k.most, m.most) in
    let name : b ≡ a = omega (arith, site, number) in
    ap₂ same_ground k.same m.same ∙ (λ i. same_ground (made a k.number k.site) (made (name i) (number i) (site i))) ∙ same_itself a k.number k.site

-- ---- those that are kept have different numbers
keys_differ : (u v : SitedCall) → IsLoadCall u → IsLoadCall v → same_ground u v ≡ false → (d : Bool) → eqb (key u) (key v) ≡ d → eqb (key u) (key v) ≡ false
keys_differ u v k m e false q = q
keys_differ u v k m e true q =
    let same : key u ≡ key v = grind (arith, nat_tests) in
    let ground : same_ground u v ≡ true = same_key u v k m same in
    cc

not_kept : (u : SitedCall) (kept : List SitedCall) → IsLoadCall u → All IsLoadCall kept → list_any (same_ground u) kept ≡ false → list_any (eqb (key u)) (map key kept) ≡ false
not_kept u [] k a e = refl
not_kept u (v ∷ kept) k a e =
    let parts = or_parts (same_ground u v) (list_any (same_ground u) kept) e in
    let here : eqb (key u) (key v) ≡ false = keys_differ u v k (All-head IsLoadCall v kept a) parts.0 (eqb (key u) (key v)) refl in
    (λ i. here i || list_any (eqb (key u)) (map key kept)) ∙ not_kept u kept k (All-tail IsLoadCall v kept a) parts.1

pub record AreGrounds (kept : List SitedCall) : Type 0 where
  pub fit : All IsLoadCall kept
  pub distinct : IsDistinct eqb (map key kept)

one_more : (u : SitedCall) (kept : List SitedCall) → IsLoadCall u → AreGrounds kept → (b : Bool) → list_any (same_ground u) kept ≡ b → AreGrounds (cond b kept (kept ++ u ∷ []))
one_more u kept k g true e = g
one_more u kept k g false e =
    let pushed : IsDistinct eqb (map key kept ++ key u ∷ []) = IsDistinct-push nat_eq_equiv (map key kept) (key u) g.distinct (not_kept u kept k g.fit e) in
    record { fit = All-push IsLoadCall kept u g.fit k; distinct = subst (IsDistinct eqb) (sym (map-append key kept (u ∷ []))) pushed }

distinct_fit : (kept us : List SitedCall) → AreGrounds kept → All IsLoadCall us → AreGrounds (distinct_after kept us)
unfolding meaning_definitions
distinct_fit kept [] g a = g
distinct_fit kept (u ∷ us) g a =
    distinct_fit (cond (list_any (same_ground u) kept) kept (kept ++ u ∷ [])) us
    (one_more u kept (All-head IsLoadCall u us a) g (list_any (same_ground u) kept) refl) (All-tail IsLoadCall u us a)

below_by : (q : ℕ) (v : SitedCall) (kept : List SitedCall) → IsLoadCall v → (list_any (eqb q) (map key kept) ≡ true → q < 680) → (b : Bool) → eqb q (key v) ≡ b → (b || list_any (eqb q) (map key kept)) ≡ true → q < 680
below_by q v kept k more true p e =
    let is : q ≡ key v = grind (arith, nat_tests) in
    omega (arith, is, key_below v k)
below_by q v kept k more false p e = more e

all_below : (kept : List SitedCall) → All IsLoadCall kept → (q : ℕ) → list_any (eqb q) (map key kept) ≡ true → q < 680
all_below [] a q e = cc
all_below (v ∷ kept) a q e = below_by q v kept (All-head IsLoadCall v kept a) (all_below kept (All-tail IsLoadCall v kept a) q) (eqb q (key v)) refl e

pub grounds_few : (kept : List SitedCall) → AreGrounds kept → length kept ≤ 680
grounds_few kept g =
    let few : length (map key kept) ≤ 680 = length-le_from_distinct_below (map key kept) 680 g.distinct (all_below kept g.fit) in
    omega (arith, few, length-map kept key)

pub first_grounds : AreGrounds []
unfolding IsDistinct
first_grounds = record { fit = All-nil IsLoadCall; distinct = tt }

pub distinct_grounds : (us : List SitedCall) → All IsLoadCall us → AreGrounds (distinct_after [] us)
distinct_grounds us a = distinct_fit [] us first_grounds a

-- The numbers of joint rows by their digits are the picks of the joint table.
use Rattle.homeo_plan.specs.Key.{definitions}
use Rattle.std.proofs.Common.{◌≡◌, ℕ, zero, suc, ◌+◌, ◌*◌, ◌<◌, ◌≤◌, ◌/◌, ◌%◌, List, [], ◌∷◌, ◌++◌, map, drop, length, pos, ℤ, ◌^◌, w64, to_z, refl, sym, ap, ap₂, ◌∙◌, arith}
use Rattle.std.specs.Prelude.{slice_index_or}
use Rattle.std.specs.List.{All}
use Rattle.std.proofs.Math.Nat.{div-le_self}
use Rattle.std.proofs.lemmas.Int.{to_z_pos}
use Rattle.std.proofs.lemmas.List.{append-nil, append_assoc, map_push, length-append, length-map}
use Rattle.std.proofs.lemmas.Nat.{div-mul-add, mod-mul-add}
use Rattle.homeo_plan.specs.Table.{Row}
use Rattle.homeo_plan.specs.Joint.{picks_from, joint_picks}
use Rattle.homeo_joint.specs.Counts.{product_of}
use Rattle.homeo_joint.specs.inner.Digits.{digits, digits_below}
use Rattle.homeo_joint.proofs.Products.{counts-drop, alike-more}

-- ---- how many choices there are
length_picks : (n : ℕ) (rs : List Row) (choices : List (List ℕ)) → length (picks_from n rs choices) ≡ length rs * length choices
unfolding definitions
length_picks n [] choices = omega arith
length_picks n (r ∷ rs) choices =
    let next : length choices + length rs * length choices ≡ (1 + length rs) * length choices = omega arith in
    let here : 1 + length rs ≡ length (r ∷ rs) = omega arith in
    length-append (map (λ picks. n ∷ picks) choices) (picks_from (n + 1) rs choices)
    ∙ ap₂ ◌+◌ (length-map choices (λ picks. n ∷ picks)) (length_picks (n + 1) rs choices)
    ∙ next ∙ ap (λ m. m * length choices) here

pub length_joint : (ts : List (List Row)) → length (joint_picks ts) ≡ product_of (map length ts)
unfolding definitions
length_joint [] = refl
length_joint (t ∷ ts) = length_picks 0 t (joint_picks ts) ∙ ap (λ n. length t * n) (length_joint ts)

-- ---- digits
-- a first digit in front of the others
abbrev after : ℕ → List ℕ → List ℕ
after n ds = n ∷ ds

-- a number in the block of its first digit
in_block : (a : ℕ) (ns : List ℕ) (k j : ℕ) → j < product_of ns → digits (a ∷ ns) (k * product_of ns + j) ≡ k ∷ digits ns j
in_block a ns k j h = ap₂ (λ q r. q ∷ digits ns r) (div-mul-add k (product_of ns) j h) (mod-mul-add k (product_of ns) j h)

block :
    (a : ℕ) (ns : List ℕ) (k j : ℕ) → j ≤ product_of ns →
    digits_below (a ∷ ns) (k * product_of ns + j) ≡ digits_below (a ∷ ns) (k * product_of ns) ++ map (after k) (digits_below ns j)
block a ns k zero h =
    let e : k * product_of ns + 0 ≡ k * product_of ns = omega arith in
    ap (digits_below (a ∷ ns)) e ∙ sym (append-nil (digits_below (a ∷ ns) (k * product_of ns)))
block a ns k (suc j) h =
    let start : ℕ = k * product_of ns in
    let below : j < product_of ns = omega arith in
    let le : j ≤ product_of ns = omega arith in
    let e : start + suc j ≡ suc (start + j) = omega arith in
    ap (digits_below (a ∷ ns)) e
    ∙ ap₂ (λ l ds. l ++ ds ∷ []) (block a ns k j le) (in_block a ns k j below)
    ∙ append_assoc (digits_below (a ∷ ns) start) (map (after k) (digits_below ns j)) ((k ∷ digits ns j) ∷ [])
    ∙ ap (λ l. digits_below (a ∷ ns) start ++ l) (sym (map_push (after k) (digits_below ns j) (digits ns j)))

blocks :
    (a : ℕ) (ns : List ℕ) (n : ℕ) (rs : List Row) →
    digits_below (a ∷ ns) (n * product_of ns) ++ picks_from n rs (digits_below ns (product_of ns)) ≡
    digits_below (a ∷ ns) ((n + length rs) * product_of ns)
unfolding definitions
blocks a ns n [] =
    let e : n ≡ n + 0 = omega arith in
    append-nil (digits_below (a ∷ ns) (n * product_of ns)) ∙ ap (λ m. digits_below (a ∷ ns) (m * product_of ns)) e
blocks a ns n (r ∷ rs) =
    let p : ℕ = product_of ns in
    let choices : List (List ℕ) = digits_below ns p in
    let le : product_of ns ≤ product_of ns = omega arith in
    let next : n * product_of ns + product_of ns ≡ (n + 1) * product_of ns = omega arith in
    let on : (n + 1) + length rs ≡ n + suc (length rs) = omega arith in
    sym (append_assoc (digits_below (a ∷ ns) (n * p)) (map (after n) choices) (picks_from (n + 1) rs choices))
    ∙ ap (λ l. l ++ picks_from (n + 1) rs choices) (sym (block a ns n p le) ∙ ap (digits_below (a ∷ ns)) next)
    ∙ blocks a ns (n + 1) rs
    ∙ ap (λ m. digits_below (a ∷ ns) (m * p)) on

pub joint-digits : (ts : List (List Row)) → digits_below (map length ts) (product_of (map length ts)) ≡ joint_picks ts
unfolding definitions
joint-digits [] = refl
joint-digits (t ∷ ts) =
    let ns : List ℕ = map length ts in
    let e : length t ≡ 0 + length t = omega arith in
    let none : 0 ≡ 0 * product_of ns = omega arith in
    ap (λ m. digits_below (length t ∷ ns) (m * product_of ns)) e
    ∙ sym (blocks (length t) ns 0 t)
    ∙ sym (ap (λ m. digits_below (length t ∷ ns) m ++ picks_from 0 t (digits_below ns (product_of ns))) none)
    ∙ ap (picks_from 0 t) (joint-digits ts)

-- ---- a joint row's picks, and the joint rows
pub picks-more :
    (ns : List ℕ) (i n : ℕ) → All (λ n. 1 ≤ n) ns → i < length ns → n ≡ slice_index_or ns i n → (a b : ℕ) → a ≡ product_of (drop i ns) → a ≤ 1024 → b < a →
    (before after whole : List ℤ) → before ++ map pos (digits (drop i ns) b) ≡ whole →
    after ≡ before ++ to_z w64 (b / (a / n)) ∷ [] →
    after ++ map pos (digits (drop (i + 1) ns) (b % (a / n))) ≡ whole
picks-more ns i n all h is a b e within below before after whole f made =
    let rest : List ℕ = drop (i + 1) ns in
    let q : ℕ = b / (a / n) in
    let small : q < 2 ^ 63 = omega (arith, div-le_self b (a / n)) in
    let pick : to_z w64 q ≡ pos q = to_z_pos w64 q small in
    let alike : a / n ≡ product_of rest = alike-more ns i n all h is a e in
    let split : digits (drop i ns) b ≡ q ∷ digits rest (b % (a / n)) =
    ap (λ ns. digits ns b) (counts-drop ns i n h is) ∙ sym (ap (λ m. (b / m) ∷ digits rest (b % m)) alike) in
    ap₂ (λ l z. l ++ z) (made ∙ ap (λ z. before ++ z ∷ []) pick) refl
    ∙ append_assoc before (pos q ∷ []) (map pos (digits rest (b % (a / n))))
    ∙ sym (ap (λ ds. before ++ map pos ds) split)
    ∙ f

-- all numbers by their digits
pub all_choices :
    (ns : List ℕ) (size : ℕ) → size ≡ product_of ns → (ts : List (List Row)) → map length ts ≡ ns → digits_below ns size ≡ joint_picks ts
all_choices ns size e ts is =
    ap (digits_below ns) e ∙ sym (ap (λ ns. digits_below ns (product_of ns)) is) ∙ joint-digits ts

pub digits_count : (ns : List ℕ) (n : ℕ) → length (digits_below ns n) ≡ n
digits_count ns zero = refl
digits_count ns (suc n) =
    let more = length-append (digits_below ns n) (digits ns n ∷ []) in
    let before = digits_count ns n in
    omega (arith, more, before)

pub digit_rows :
    {X : Type 0} (picks : X → List ℤ) (ns : List ℕ) (size : ℕ) (rs : List X) → size ≡ product_of ns → map picks rs ≡ map (map pos) (digits_below ns size) →
    length rs ≡ product_of ns
digit_rows picks ns size rs e f =
    sym (length-map rs picks) ∙ ap length f ∙ length-map (digits_below ns size) (map pos) ∙ digits_count ns size ∙ e

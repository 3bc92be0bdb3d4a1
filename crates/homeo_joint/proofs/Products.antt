-- Products of row counts, up to a table and from it on.
use Rattle.std.proofs.Common.{◌≡◌, ℕ, zero, suc, ◌+◌, ◌*◌, ◌<◌, ◌≤◌, ◌/◌, List, [], ◌∷◌, ◌++◌, take, drop, length, refl, sym, ap, ap₂, ◌∙◌, subst, arith}
use Rattle.std.specs.Prelude.{slice_index_or}
use Rattle.std.specs.List.{All}
use Rattle.std.proofs.Math.Nat.{mul_assoc, one-le-mul, le-mul_of_pos_right, mul-div_cancel_left}
use Rattle.std.proofs.lemmas.List.{take_more, take-append-drop, drop_more}
use Rattle.std.proofs.lemmas.List.Elements.{All-head, All-tail, All-drop}
use Rattle.homeo_joint.specs.Counts.{product_of, IsFirstOver}

pub product-append : (ms ns : List ℕ) → product_of (ms ++ ns) ≡ product_of ms * product_of ns
product-append [] ns = omega arith
product-append (m ∷ ms) ns = ap (λ p. m * p) (product-append ms ns) ∙ sym (mul_assoc m (product_of ms) (product_of ns))

-- one more table
pub product-more : (ns : List ℕ) (i d : ℕ) → i < length ns → product_of (take (i + 1) ns) ≡ product_of (take i ns) * slice_index_or ns i d
product-more ns i d h =
    let last : product_of (slice_index_or ns i d ∷ []) ≡ slice_index_or ns i d = omega arith in
    ap product_of (take_more ns i d h) ∙ product-append (take i ns) (slice_index_or ns i d ∷ [])
    ∙ ap (λ n. product_of (take i ns) * n) last

pub product_pos : (ns : List ℕ) → All (λ n. 1 ≤ n) ns → 1 ≤ product_of ns
product_pos [] h = omega arith
product_pos (n ∷ ns) h =
    let rest : All (λ n. 1 ≤ n) ns = All-tail (λ n. 1 ≤ n) n ns h in
    one-le-mul (All-head (λ n. 1 ≤ n) n ns h) (product_pos ns rest)

pub product_prefix : (ns : List ℕ) (i : ℕ) → All (λ n. 1 ≤ n) ns → product_of (take i ns) ≤ product_of ns
product_prefix ns i h =
    let whole : product_of (take i ns) * product_of (drop i ns) ≡ product_of ns =
    sym (product-append (take i ns) (drop i ns)) ∙ ap product_of (take-append-drop i ns) in
    let some : 1 ≤ product_of (drop i ns) = product_pos (drop i ns) (All-drop (λ n. 1 ≤ n) i ns h) in
    subst (λ p. product_of (take i ns) ≤ p) whole (le-mul_of_pos_right (product_of (take i ns)) some)

pub item-is : (ns : List ℕ) (i d e : ℕ) → i < length ns → slice_index_or ns i d ≡ slice_index_or ns i e
item-is [] i d e h = absurd (omega arith)
item-is (n ∷ ns) zero d e h = refl
item-is (n ∷ ns) (suc i) d e h = item-is ns i d e (omega arith)

pub counts-drop : (ns : List ℕ) (i n : ℕ) → i < length ns → n ≡ slice_index_or ns i n → drop i ns ≡ n ∷ drop (i + 1) ns
counts-drop ns i n h is = drop_more ns i n h ∙ ap (λ n. n ∷ drop (i + 1) ns) (sym is)

-- ---- the running product with one more table
pub size-more :
    (ns : List ℕ) (i : ℕ) (n : ℕ) → i < length ns → n ≡ slice_index_or ns i n → (p : ℕ) → p ≡ product_of (take i ns) →
    p * n ≡ product_of (take (i + 1) ns)
size-more ns i n h is p e = ap₂ ◌*◌ e is ∙ sym (product-more ns i n h)

-- where it first exceeds the limit
pub first_over :
    (ns : List ℕ) (i : ℕ) (n : ℕ) → i < length ns → n ≡ slice_index_or ns i n → (p limit : ℕ) → p ≡ product_of (take i ns) → limit < p * n → p ≤ limit →
    (place q : ℕ) → i ≡ place → p * n ≡ q → IsFirstOver limit ns place q
first_over ns i n h is p limit e over within place q s v =
    let here : IsFirstOver limit ns i (p * n) = record {
      exists = h;
      value = size-more ns i n h is p e;
      over = over;
      before = subst (λ m. m ≤ limit) e within;
    } in
    subst (λ k. IsFirstOver limit ns k q) s (subst (λ m. IsFirstOver limit ns i m) v here)

-- then the whole product does
pub whole_over :
    (limit : ℕ) (ns : List ℕ) (place p : ℕ) → All (λ n. 1 ≤ n) ns → IsFirstOver limit ns place p → limit < product_of ns
whole_over limit ns place p all f =
    let prefix : product_of (take (place + 1) ns) ≤ product_of ns = product_prefix ns (place + 1) all in
    let value : p ≡ product_of (take (place + 1) ns) = f.value in
    let over : limit < p = f.over in
    omega arith

-- how many joint rows share one more pick
pub alike-more :
    (ns : List ℕ) (i n : ℕ) → All (λ n. 1 ≤ n) ns → i < length ns → n ≡ slice_index_or ns i n → (a : ℕ) → a ≡ product_of (drop i ns) →
    a / n ≡ product_of (drop (i + 1) ns)
alike-more ns i n all h is a e =
    let some : 0 < n = subst (λ n. 1 ≤ n) (sym is) (all i n h) in
    ap (λ a. a / n) (e ∙ ap product_of (counts-drop ns i n h is)) ∙ mul-div_cancel_left (product_of (drop (i + 1) ns)) some

pub alike_positive :
    (ns : List ℕ) (i n : ℕ) → All (λ n. 1 ≤ n) ns → i < length ns → n ≡ slice_index_or ns i n → (a : ℕ) → a ≡ product_of (drop i ns) → 0 < a / n
alike_positive ns i n all h is a e =
    subst (λ p. 0 < p) (sym (alike-more ns i n all h is a e)) (product_pos (drop (i + 1) ns) (All-drop (λ n. 1 ≤ n) (i + 1) ns all))

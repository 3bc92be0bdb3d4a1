-- What is put for a list, its first item before the others.
use Rattle.std.proofs.Common.{◌≡◌, ℕ, ◌+◌, ◌-◌, ◌<◌, ◌≤◌, List, [], ◌∷◌, ◌++◌, length, take, drop, get_or, append_assoc, append-nil, refl, sym, ap, ◌∙◌, arith}
use Rattle.std.specs.List.{flat_map}
use Rattle.std.proofs.lemmas.List.{take_more, take_all}
use Rattle.std.proofs.lemmas.Grind.{flat_map-append}

-- a list with one more item, item by item
pub flat_more : {X Y : Type 0} (f : X → List Y) (xs : List X) (i : ℕ) (x : X) → i < length xs → x ≡ get_or xs i x → flat_map f (take (i + 1) xs) ≡ flat_map f (take i xs) ++ f x
flat_more f xs i x within is =
    ap (flat_map f) (take_more xs i x within) ∙ flat_map-append f (take i xs) (get_or xs i x ∷ [])
    ∙ ap (λ l. flat_map f (take i xs) ++ l) (append-nil (f (get_or xs i x)) ∙ ap f (sym is))

others : {X : Type 0} (x : X) (xs : List X) → take (length (x ∷ xs) - 1) (drop 1 (x ∷ xs)) ≡ xs
others x xs = take_all (length (x ∷ xs) - 1) xs (omega arith)

module _ {X K : Type 0} (one : X → List K) (behind whole : List X → List K) where
  -- all items are put
  pub list_end : ((x : X) (xs : List X) → whole (x ∷ xs) ≡ one x ++ behind xs) → (out mid old : List K) (all : List X) (first : X) (i : ℕ) → 1 ≤ length all → first ≡ get_or all 0 first → mid ≡ old ++ one first
      → length (take (length all - 1) (drop 1 all)) ≤ i → out ≡ mid ++ behind (take i (take (length all - 1) (drop 1 all))) → out ≡ old ++ whole all
  list_end split out mid old [] first i some is put past done = absurd (omega arith)
  list_end split out mid old (x ∷ xs) first i some is put past done =
      let short : length xs ≤ i = omega (arith, ap length (others x xs)) in
      done ∙ ap (λ l. mid ++ behind (take i l)) (others x xs) ∙ ap (λ l. mid ++ behind l) (take_all i xs short)
      ∙ ap (λ m. m ++ behind xs) put ∙ append_assoc old (one first) (behind xs)
      ∙ ap (λ y. old ++ (one y ++ behind xs)) is ∙ ap (λ l. old ++ l) (sym (split x xs))

  pub list_none : whole [] ≡ [] → (old : List K) (all : List X) → length all < 1 → old ≡ old ++ whole all
  list_none none old [] empty = sym (append-nil old) ∙ ap (λ l. old ++ l) (sym none)
  list_none none old (x ∷ xs) empty = absurd (omega arith)

  pub list_start : behind [] ≡ [] → (out : List K) → out ≡ out ++ behind []
  list_start none out = sym (append-nil out) ∙ ap (λ l. out ++ l) (sym none)

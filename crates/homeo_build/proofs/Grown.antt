-- Lists that grow by one element for each element of another list.
use Rattle.std.proofs.Common.{◌≡◌, ℕ, ◌+◌, ◌<◌, List, [], ◌∷◌, ◌++◌, map, length, take, get_or, sym, ap, ap₂, ◌∙◌, arith}
use Rattle.std.proofs.lemmas.List.{take_more, map-append, get_or-map, length-map}

module _ {X Y Z : Type 0} (f : X → Z) (h : Y → Z) where
  -- an element more on both sides
  pub grown :
      (made more : List X) (x : X) (ys : List Y) (i : ℕ) (y : Y) → i < length ys → y ≡ get_or ys i y → more ≡ made ++ x ∷ [] →
      map f made ≡ map h (take i ys) → f x ≡ h y → map f more ≡ map h (take (i + 1) ys)
  grown made more x ys i y within is pushed so_far here =
      ap (map f) pushed ∙ map-append f made (x ∷ []) ∙ ap₂ (λ l z. l ++ z ∷ []) so_far (here ∙ ap h is)
      ∙ sym (ap (map h) (take_more ys i y within) ∙ map-append h (take i ys) (get_or ys i y ∷ []))

  -- both have as many elements
  pub same_length : (xs : List X) (ys : List Y) → map f xs ≡ map h ys → length xs ≡ length ys
  same_length xs ys same = omega (arith, ap length same, length-map xs f, length-map ys h)

  -- and the same at each place
  pub same_place :
      (xs : List X) (ys : List Y) (i : ℕ) (x : X) (y : Y) → map f xs ≡ map h ys → i < length ys → x ≡ get_or xs i x →
      y ≡ get_or ys i y → f x ≡ h y
  same_place xs ys i x y same within x_is y_is =
      let here : i < length xs = omega (arith, same_length xs ys same, within) in
      ap f x_is ∙ sym (get_or-map f xs i x (f x) here) ∙ ap (λ l. get_or l i (f x)) same ∙ get_or-map h ys i y (f x) within
      ∙ ap h (sym y_is)

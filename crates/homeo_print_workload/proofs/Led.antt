-- Items behind a mark, with one more, and a list whose first item is copied.
use Rattle.std.proofs.Common.{◌≡◌, ℕ, ◌+◌, ◌-◌, ◌<◌, ◌≤◌, List, [], ◌∷◌, ◌++◌, length, take, drop, get_or, append_assoc, append-nil, refl, sym, ap, ◌∙◌, arith}
use Rattle.std.proofs.lemmas.List.{take_more}
use Rattle.std.proofs.lemmas.Grind.{flat_map-append}
use Rattle.homeo_syntax.specs.declared.token.Mark.{Mark}
use Rattle.homeo_syntax.specs.declared.token.Kind.TheVariants as kind
use Rattle.homeo_print.proofs.Listed.{list_end}
use Rattle.homeo_print_workload.specs.TokensOf.{Kinds, mark_of}
use Rattle.homeo_print_workload.proofs.Behind.{led_items}

-- a mark and one more item are put
pub list_more : {X : Type 0} (m : Mark) (f : X → Kinds) (xs : List X) (i : ℕ) (d : X) (start out marked new : Kinds) → i < length xs → out ≡ start ++ led_items m f (take i xs) → marked ≡ out ++ mark_of m → new ≡ marked ++ f (get_or xs i d)
    → new ≡ start ++ led_items m f (take (i + 1) xs)
list_more {X} m f xs i d start out marked new within so_far put_mark put_item =
    let x = get_or xs i d in
    let step : led_items m f (take (i + 1) xs) ≡ led_items m f (take i xs) ++ kind.Fixed m ∷ f x =
    ap (led_items m f) (take_more xs i d within) ∙ flat_map-append (λ (y : X). kind.Fixed m ∷ f y) (take i xs) (x ∷ []) ∙ ap (λ l. led_items m f (take i xs) ++ l) (append-nil (kind.Fixed m ∷ f x)) in
    put_item ∙ ap (λ k. k ++ f x) put_mark ∙ append_assoc out (mark_of m) (f x) ∙ ap (λ k. k ++ (kind.Fixed m ∷ f x)) so_far
    ∙ append_assoc start (led_items m f (take i xs)) (kind.Fixed m ∷ f x) ∙ ap (λ l. start ++ l) (sym step)

-- all items are put, and the first of them is a copy
pub list_end_copy : {X K : Type 0} (one : X → List K) (behind whole : List X → List K) → ((x : X) (xs : List X) → whole (x ∷ xs) ≡ one x ++ behind xs) → (out mid old : List K) (all : List X) (d : X) (i : ℕ) → 1 ≤ length all → mid ≡ old ++ one (get_or all 0 d)
    → length (take (length all - 1) (drop 1 all)) ≤ i → out ≡ mid ++ behind (take i (take (length all - 1) (drop 1 all))) → out ≡ old ++ whole all
list_end_copy one behind whole split out mid old [] d i some put past done = absurd (omega arith)
list_end_copy one behind whole split out mid old (x ∷ xs) d i some put past done = list_end one behind whole split out mid old (x ∷ xs) x i some refl put past done

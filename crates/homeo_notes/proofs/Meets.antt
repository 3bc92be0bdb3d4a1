-- Two lists of which each owner has seen at least its own on the other's line are equal.
use Rattle.std.proofs.Common.{◌≡◌, ℕ, sym, subst, ap}
use mathlib.Core.List.{IsPrefix}
use Rattle.homeo_notes.specs.Lines.{Held, TellsOf, HasSeen, list_at, seen_at, after_telling}
use Rattle.homeo_notes.proofs.Prefixes.{prefix_trans, prefix_both}

-- left and right begin, right' and left' were told, left'' and right'' have looked
pub met : (left right left' right' : Held) (one other : ℕ) → right' ≡ after_telling left right → left' ≡ after_telling right' left
    → ((i : ℕ) → TellsOf left right i) → ((i : ℕ) → TellsOf right' left i)
    → HasSeen left other (list_at left one) → HasSeen right one (list_at right other)
    → IsPrefix (seen_at left' one) (list_at left' one) → IsPrefix (seen_at right' other) (list_at right' other)
    → list_at left one ≡ list_at right other
met left right left' right' one other is_right is_left first second knows_left knows_right looks_left looks_right =
    let a = list_at left one in
    let b = list_at right other in
    let to_right : IsPrefix a (seen_at right' other) = subst (λ (h : Held). IsPrefix a (seen_at h other)) (sym is_right) (prefix_trans _ _ _ knows_left (first other).1) in
    let one_way : IsPrefix a b = prefix_trans a _ b to_right (subst (IsPrefix (seen_at right' other)) (ap (λ (h : Held). list_at h other) is_right) looks_right) in
    let to_right' : IsPrefix b (seen_at right' one) = subst (λ (h : Held). IsPrefix b (seen_at h one)) (sym is_right) (prefix_trans _ _ _ knows_right (first one).0) in
    let to_left : IsPrefix b (seen_at left' one) = subst (λ (h : Held). IsPrefix b (seen_at h one)) (sym is_left) (prefix_trans _ _ _ to_right' (second one).1) in
    let other_way : IsPrefix b a = prefix_trans b _ a to_left (subst (IsPrefix (seen_at left' one)) (ap (λ (h : Held). list_at h one) is_left) looks_left) in
    prefix_both a b one_way other_way

-- Names as texts, and arguments of different numbers.
use Rattle.std.proofs.Common.{◌≡◌, ℕ, suc, Bool, true, false, if◌then◌else◌, List, [], ◌∷◌, length, ℤ, refl, sym, ap, ◌∙◌}
use Rattle.std.specs.Ordering.{int_eq}
use Rattle.std.specs.Str.{IsUtf8, is_utf8}
use Rattle.std.proofs.lemmas.Str.{IsUtf8-from_is_utf8, is_utf8-from_IsUtf8}
use Rattle.std.proofs.lemmas.Bool.{and_right}
use Rattle.homeo_syntax.specs.declared.phrase.Number.{Number}
use Rattle.homeo_lines.specs.Named.{has_args}
use Rattle.homeo_lines.specs.Written.{key_of}

pub key_is : (name : List ℕ) → IsUtf8 name → name ≡ key_of name
key_is name h = ap (λ b. if b then name else []) (sym (is_utf8-from_IsUtf8 name h))

pub no_key : (name : List ℕ) → (IsUtf8 name → ⊥) → [] ≡ key_of name
no_key name h = go (is_utf8 name) refl
  where
    go : (b : Bool) → is_utf8 name ≡ b → [] ≡ (if b then name else [])
    go true e = absurd (h (IsUtf8-from_is_utf8 name e))
    go false e = refl

pub other_lengths : (xs : List Number) (ns : List ℤ) → (length xs ≡ length ns → ⊥) → has_args xs ns ≡ false
other_lengths [] [] h = absurd (h refl)
other_lengths [] (n ∷ ns) h = refl
other_lengths (x ∷ xs) [] h = refl
other_lengths (x ∷ xs) (n ∷ ns) h = and_right (int_eq x.value n) (has_args xs ns) (other_lengths xs ns (λ e. h (ap suc e)))

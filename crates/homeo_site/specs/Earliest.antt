-- What is earliest: of the numbers that were looked at, the lowest at which there is something.
use Rattle.std.specs.Prelude.{◌≡◌, ℕ, ◌<◌, nat_lt, cond, Option, Some, None}
use Rattle.homeo_site.specs.Key.{definitions}

-- this is there at its number, which was looked at, and nothing is at a lower one that was
pub record ComesFirst {X : Type 0} (number : X → ℕ) (at : ℕ → Option X) (Looked : ℕ → Type 0) (x : X) : Type 0 where
  pub looked : Looked (number x)
  pub there : at (number x) ≡ Some x
  pub lower : (n : ℕ) → n < number x → Looked n → at n ≡ None

-- nothing is there at the numbers that were looked at, or this comes first
abbrev pub IsEarliest : {X : Type 0} → (X → ℕ) → (ℕ → Option X) → (ℕ → Type 0) → Option X → Type 0
unfolding definitions
IsEarliest number at Looked None = (n : ℕ) → Looked n → at n ≡ None
IsEarliest number at Looked (Some x) = ComesFirst number at Looked x

-- of two the one of the lower number
abbrev pub earlier : {X : Type 0} → (X → ℕ) → Option X → Option X → Option X
unfolding definitions
earlier number None next = next
earlier number (Some a) None = Some a
earlier number (Some a) (Some b) = cond (nat_lt (number b) (number a)) (Some b) (Some a)

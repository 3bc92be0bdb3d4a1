-- `clap` takes the words of each command, and finds what they say: in a load whatever follows the first digits.
use Rattle.std.proofs.Common.{◌≡◌, ◌≤◌, ◌+◌, ◌-◌, ℕ, zero, suc, refl, true, subst, List, Option, Some, [], ◌∷◌, codes, arith}
use Rattle.std.specs.Prelude.{option_map}
use Rattle.clap.specs.Words.{Row, Text, first_of, is_simple, subcommand_of, takes}
use Rattle.clap.proofs.OnLiterals.{clap_on_literals}
use Rattle.homeo_words.specs.inner.App.{homeo}
use Rattle.homeo_words.proofs.Loads.{load_words, wire_words}

pub simple : is_simple homeo ≡ true
simple = refl

-- the name of a subcommand that was found, and the value that it has under an id
abbrev pub name_in : Option (Text × List Row) → Option Text
name_in found = option_map (λ p. p.0) found

abbrev pub value_in : Text → Option (Text × List Row) → Option (Option Text)
value_in id found = option_map (λ p. first_of id p.1) found

-- ---- one word
pub record TakesWord (word : Text) : Type 0 where
  pub taken : takes homeo (word ∷ []) ≡ true
  pub name : name_in (subcommand_of homeo (word ∷ [])) ≡ Some word

pub steps_taken : TakesWord (codes "steps")
unfolding clap_on_literals
steps_taken = record { taken = refl; name = refl }

pub run_taken : TakesWord (codes "run")
unfolding clap_on_literals
run_taken = record { taken = refl; name = refl }

pub tables_taken : TakesWord (codes "tables")
unfolding clap_on_literals
tables_taken = record { taken = refl; name = refl }

pub treaty_taken : TakesWord (codes "treaty")
unfolding clap_on_literals
treaty_taken = record { taken = refl; name = refl }

pub serve_taken : TakesWord (codes "serve")
unfolding clap_on_literals
serve_taken = record { taken = refl; name = refl }

pub forecast_taken : TakesWord (codes "forecast")
unfolding clap_on_literals
forecast_taken = record { taken = refl; name = refl }

pub certify_taken : TakesWord (codes "certify")
unfolding clap_on_literals
certify_taken = record { taken = refl; name = refl }

pub verify_taken : TakesWord (codes "verify")
unfolding clap_on_literals
verify_taken = record { taken = refl; name = refl }

-- ---- a wire
by_ten : (P : ℕ → Type 0) → P 0 → P 1 → P 2 → P 3 → P 4 → P 5 → P 6 → P 7 → P 8 → P 9 → (i : ℕ) → i ≤ 9 → P i
by_ten P a b c d e f g h i j zero l = a
by_ten P a b c d e f g h i j (suc zero) l = b
by_ten P a b c d e f g h i j (suc (suc zero)) l = c
by_ten P a b c d e f g h i j (suc (suc (suc zero))) l = d
by_ten P a b c d e f g h i j (suc (suc (suc (suc zero)))) l = e
by_ten P a b c d e f g h i j (suc (suc (suc (suc (suc zero))))) l = f
by_ten P a b c d e f g h i j (suc (suc (suc (suc (suc (suc zero)))))) l = g
by_ten P a b c d e f g h i j (suc (suc (suc (suc (suc (suc (suc zero))))))) l = h
by_ten P a b c d e f g h i j (suc (suc (suc (suc (suc (suc (suc (suc zero)))))))) l = i
by_ten P a b c d e f g h i j (suc (suc (suc (suc (suc (suc (suc (suc (suc zero))))))))) l = j
by_ten P a b c d e f g h i j (suc (suc (suc (suc (suc (suc (suc (suc (suc (suc k)))))))))) l = absurd (omega arith)

-- clap takes the words of a wire, and finds the name and the number
abbrev pub TakesWire : Text → Type 0
TakesWire n =
    (takes homeo (wire_words n) ≡ true) × (name_in (subcommand_of homeo (wire_words n)) ≡ Some (codes "wire"))
    × (value_in (codes "NUMBER") (subcommand_of homeo (wire_words n)) ≡ Some (Some n))

wire_from : (n : Text) (i : ℕ) → i ≤ 9 → TakesWire ((i + 48) ∷ n)
unfolding clap_on_literals
wire_from n =
    by_ten (λ i. TakesWire ((i + 48) ∷ n))
    (refl, refl, refl) (refl, refl, refl) (refl, refl, refl) (refl, refl, refl) (refl, refl, refl)
    (refl, refl, refl) (refl, refl, refl) (refl, refl, refl) (refl, refl, refl) (refl, refl, refl)

pub wire_taken : (d : ℕ) (n : Text) → 48 ≤ d → d ≤ 57 → TakesWire (d ∷ n)
wire_taken d n low high =
    let at : (d - 48) + 48 ≡ d = omega (arith, low) in
    subst (λ x. TakesWire (x ∷ n)) at (wire_from n (d - 48) (omega (arith, high)))

-- ---- a load
abbrev found : Text → Text → Option (Text × List Row)
found n c = subcommand_of homeo (load_words n c)

-- clap takes the words of a load, and finds the name and the two numbers
abbrev pub TakesLoad : Text → Text → Type 0
TakesLoad n c =
    (takes homeo (load_words n c) ≡ true) × (name_in (found n c) ≡ Some (codes "load"))
    × (value_in (codes "NUMBER") (found n c) ≡ Some (Some n)) × (value_in (codes "CALLS") (found n c) ≡ Some (Some c))

-- the same of a second word whose first byte is the digit j
abbrev TakesDigit : Text → Text → ℕ → Type 0
TakesDigit n c j = TakesLoad n ((j + 48) ∷ c)

from_48 : (n c : Text) (j : ℕ) → j ≤ 9 → TakesDigit (48 ∷ n) c j
unfolding clap_on_literals
from_48 n c =
    by_ten (TakesDigit (48 ∷ n) c)
    (refl, refl, refl, refl) (refl, refl, refl, refl) (refl, refl, refl, refl) (refl, refl, refl, refl)
    (refl, refl, refl, refl) (refl, refl, refl, refl) (refl, refl, refl, refl)
    (refl, refl, refl, refl) (refl, refl, refl, refl) (refl, refl, refl, refl)

from_49 : (n c : Text) (j : ℕ) → j ≤ 9 → TakesDigit (49 ∷ n) c j
unfolding clap_on_literals
from_49 n c =
    by_ten (TakesDigit (49 ∷ n) c)
    (refl, refl, refl, refl) (refl, refl, refl, refl) (refl, refl, refl, refl) (refl, refl, refl, refl)
    (refl, refl, refl, refl) (refl, refl, refl, refl) (refl, refl, refl, refl)
    (refl, refl, refl, refl) (refl, refl, refl, refl) (refl, refl, refl, refl)

from_50 : (n c : Text) (j : ℕ) → j ≤ 9 → TakesDigit (50 ∷ n) c j
unfolding clap_on_literals
from_50 n c =
    by_ten (TakesDigit (50 ∷ n) c)
    (refl, refl, refl, refl) (refl, refl, refl, refl) (refl, refl, refl, refl) (refl, refl, refl, refl)
    (refl, refl, refl, refl) (refl, refl, refl, refl) (refl, refl, refl, refl)
    (refl, refl, refl, refl) (refl, refl, refl, refl) (refl, refl, refl, refl)

from_51 : (n c : Text) (j : ℕ) → j ≤ 9 → TakesDigit (51 ∷ n) c j
unfolding clap_on_literals
from_51 n c =
    by_ten (TakesDigit (51 ∷ n) c)
    (refl, refl, refl, refl) (refl, refl, refl, refl) (refl, refl, refl, refl) (refl, refl, refl, refl)
    (refl, refl, refl, refl) (refl, refl, refl, refl) (refl, refl, refl, refl)
    (refl, refl, refl, refl) (refl, refl, refl, refl) (refl, refl, refl, refl)

from_52 : (n c : Text) (j : ℕ) → j ≤ 9 → TakesDigit (52 ∷ n) c j
unfolding clap_on_literals
from_52 n c =
    by_ten (TakesDigit (52 ∷ n) c)
    (refl, refl, refl, refl) (refl, refl, refl, refl) (refl, refl, refl, refl) (refl, refl, refl, refl)
    (refl, refl, refl, refl) (refl, refl, refl, refl) (refl, refl, refl, refl)
    (refl, refl, refl, refl) (refl, refl, refl, refl) (refl, refl, refl, refl)

from_53 : (n c : Text) (j : ℕ) → j ≤ 9 → TakesDigit (53 ∷ n) c j
unfolding clap_on_literals
from_53 n c =
    by_ten (TakesDigit (53 ∷ n) c)
    (refl, refl, refl, refl) (refl, refl, refl, refl) (refl, refl, refl, refl) (refl, refl, refl, refl)
    (refl, refl, refl, refl) (refl, refl, refl, refl) (refl, refl, refl, refl)
    (refl, refl, refl, refl) (refl, refl, refl, refl) (refl, refl, refl, refl)

from_54 : (n c : Text) (j : ℕ) → j ≤ 9 → TakesDigit (54 ∷ n) c j
unfolding clap_on_literals
from_54 n c =
    by_ten (TakesDigit (54 ∷ n) c)
    (refl, refl, refl, refl) (refl, refl, refl, refl) (refl, refl, refl, refl) (refl, refl, refl, refl)
    (refl, refl, refl, refl) (refl, refl, refl, refl) (refl, refl, refl, refl)
    (refl, refl, refl, refl) (refl, refl, refl, refl) (refl, refl, refl, refl)

from_55 : (n c : Text) (j : ℕ) → j ≤ 9 → TakesDigit (55 ∷ n) c j
unfolding clap_on_literals
from_55 n c =
    by_ten (TakesDigit (55 ∷ n) c)
    (refl, refl, refl, refl) (refl, refl, refl, refl) (refl, refl, refl, refl) (refl, refl, refl, refl)
    (refl, refl, refl, refl) (refl, refl, refl, refl) (refl, refl, refl, refl)
    (refl, refl, refl, refl) (refl, refl, refl, refl) (refl, refl, refl, refl)

from_56 : (n c : Text) (j : ℕ) → j ≤ 9 → TakesDigit (56 ∷ n) c j
unfolding clap_on_literals
from_56 n c =
    by_ten (TakesDigit (56 ∷ n) c)
    (refl, refl, refl, refl) (refl, refl, refl, refl) (refl, refl, refl, refl) (refl, refl, refl, refl)
    (refl, refl, refl, refl) (refl, refl, refl, refl) (refl, refl, refl, refl)
    (refl, refl, refl, refl) (refl, refl, refl, refl) (refl, refl, refl, refl)

from_57 : (n c : Text) (j : ℕ) → j ≤ 9 → TakesDigit (57 ∷ n) c j
unfolding clap_on_literals
from_57 n c =
    by_ten (TakesDigit (57 ∷ n) c)
    (refl, refl, refl, refl) (refl, refl, refl, refl) (refl, refl, refl, refl) (refl, refl, refl, refl)
    (refl, refl, refl, refl) (refl, refl, refl, refl) (refl, refl, refl, refl)
    (refl, refl, refl, refl) (refl, refl, refl, refl) (refl, refl, refl, refl)

from_any : (n c : Text) (j : ℕ) → j ≤ 9 → (i : ℕ) → i ≤ 9 → TakesDigit ((i + 48) ∷ n) c j
from_any n c j l =
    by_ten (λ i. TakesDigit ((i + 48) ∷ n) c j)
    (from_48 n c j l) (from_49 n c j l) (from_50 n c j l) (from_51 n c j l) (from_52 n c j l)
    (from_53 n c j l) (from_54 n c j l) (from_55 n c j l) (from_56 n c j l) (from_57 n c j l)

pub load_taken : (d e : ℕ) (n c : Text) → 48 ≤ d → d ≤ 57 → 48 ≤ e → e ≤ 57 → TakesLoad (d ∷ n) (e ∷ c)
load_taken d e n c low high from to =
    let at_d : (d - 48) + 48 ≡ d = omega (arith, low) in
    let at_e : (e - 48) + 48 ≡ e = omega (arith, from) in
    subst (λ x. TakesLoad (x ∷ n) (e ∷ c)) at_d
    (subst (λ y. TakesLoad (((d - 48) + 48) ∷ n) (y ∷ c)) at_e (from_any n c (e - 48) (omega (arith, to)) (d - 48) (omega (arith, high))))

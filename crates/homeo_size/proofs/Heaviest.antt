-- The greatest weight of an expression of an L form: each is light where that one is.
use Rattle.std.proofs.Common.{◌≡◌, ℕ, max, Bool, true, false, ◌&&◌, refl, ap₂, ◌∙◌, arith}
use Rattle.std.specs.Prelude.{nat_le}
use Rattle.std.proofs.lemmas.Int.{clamps}
use Rattle.std.proofs.lemmas.Bool.Decides.{nat_tests}
use Rattle.homeo_syntax.specs.Low.{Test, Cond, True, Not, Comparison, NoTest, MoreTest, Command, Commands, Skip, Assign, Write, Print, Seq, If, NoCommand, MoreCommand}
use Rattle.homeo_meaning.specs.Key.{definitions as meaning_definitions}
use Rattle.homeo_meaning.specs.LowMeaning.{Location}
use Rattle.homeo_meaning.specs.LowWeights.{weight, after, is_light_test, is_light_cond, is_light, are_light}

abbrev mutual
  pub heaviest_test : Test → (Location → ℕ) → ℕ
  heaviest_test True v = 0
  heaviest_test (Not c) v = heaviest_tests c v
  heaviest_test (Comparison op a b) v = max (weight a v) (weight b v)

  pub heaviest_tests : Cond → (Location → ℕ) → ℕ
  heaviest_tests NoTest v = 0
  heaviest_tests (MoreTest t c) v = max (heaviest_test t v) (heaviest_tests c v)

abbrev mutual
  pub heaviest : Command → (Location → ℕ) → ℕ
  heaviest Skip v = 0
  heaviest (Assign t e) v = weight e v
  heaviest (Write x e) v = weight e v
  heaviest (Print e) v = weight e v
  heaviest (Seq cs) v = heaviest_all cs v
  heaviest (If b c d) v = max (heaviest_tests b v) (max (heaviest c v) (heaviest d v))

  pub heaviest_all : Commands → (Location → ℕ) → ℕ
  heaviest_all NoCommand v = 0
  heaviest_all (MoreCommand c cs) v = max (heaviest c v) (heaviest_all cs (after c v))

none_heavy : (b : ℕ) → true ≡ nat_le 0 b
none_heavy b = grind (arith, nat_tests)

both_light : (m n b : ℕ) → nat_le m b && nat_le n b ≡ nat_le (max m n) b
both_light m n b = go (nat_le m b) (nat_le n b) (nat_le (max m n) b) refl refl refl
  where
    go : (p q r : Bool) → nat_le m b ≡ p → nat_le n b ≡ q → nat_le (max m n) b ≡ r → p && q ≡ r
    go true true true e f g = refl
    go true true false e f g = absurd (grind (arith, nat_tests, clamps))
    go true false true e f g = absurd (grind (arith, nat_tests, clamps))
    go true false false e f g = refl
    go false q true e f g = absurd (grind (arith, nat_tests, clamps))
    go false q false e f g = refl

mutual
  unfolding meaning_definitions

  test_light : (b : ℕ) (t : Test) (v : Location → ℕ) → is_light_test b t v ≡ nat_le (heaviest_test t v) b
  test_light b True v = none_heavy b
  test_light b (Not c) v = cond_light b c v
  test_light b (Comparison op d e) v = both_light (weight d v) (weight e v) b

  cond_light : (b : ℕ) (c : Cond) (v : Location → ℕ) → is_light_cond b c v ≡ nat_le (heaviest_tests c v) b
  cond_light b NoTest v = none_heavy b
  cond_light b (MoreTest t c) v =
      ap₂ ◌&&◌ (test_light b t v) (cond_light b c v) ∙ both_light (heaviest_test t v) (heaviest_tests c v) b

mutual
  unfolding meaning_definitions

  pub light_is : (b : ℕ) (c : Command) (v : Location → ℕ) → is_light b c v ≡ nat_le (heaviest c v) b
  light_is b Skip v = none_heavy b
  light_is b (Assign t e) v = refl
  light_is b (Write x e) v = refl
  light_is b (Print e) v = refl
  light_is b (Seq cs) v = all_light b cs v
  light_is b (If t c d) v =
      ap₂ ◌&&◌ (cond_light b t v) (ap₂ ◌&&◌ (light_is b c v) (light_is b d v) ∙ both_light (heaviest c v) (heaviest d v) b)
      ∙ both_light (heaviest_tests t v) (max (heaviest c v) (heaviest d v)) b

  all_light : (b : ℕ) (cs : Commands) (v : Location → ℕ) → are_light b cs v ≡ nat_le (heaviest_all cs v) b
  all_light b NoCommand v = none_heavy b
  all_light b (MoreCommand c cs) v =
      ap₂ ◌&&◌ (light_is b c v) (all_light b cs (after c v)) ∙ both_light (heaviest c v) (heaviest_all cs (after c v)) b

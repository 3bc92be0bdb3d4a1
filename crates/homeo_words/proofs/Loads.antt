-- Three words that are a load, and two that are a wire.
use Rattle.std.proofs.Common.{◌≡◌, ◌≤◌, ℕ, true, List, [], ◌∷◌, codes, subst, refl, arith}
use Rattle.std.specs.Prelude.{nat_le}
use Rattle.std.specs.List.{list_all}
use Rattle.std.proofs.lemmas.Bool.Decides.{nat_tests}
use Rattle.std.proofs.lemmas.Bool.{and_parts}
use Rattle.homeo_syntax.specs.Lexemes.{is_digit}
use Rattle.homeo_words.specs.declared.command.Command.{Command}
use Rattle.homeo_words.specs.declared.command.Command.TheVariants.{Steps, Run, Tables, Treaty, Serve, Forecast, Certify, Verify, Wire, Load}
use Rattle.homeo_words.specs.Numeral.{IsNumeral}
use Rattle.homeo_words.specs.Command.{Say}

abbrev pub load_words : List ℕ → List ℕ → List (List ℕ)
load_words n d = codes "load" ∷ n ∷ d ∷ []

-- the numbers of a command that three words are
pub record IsLoad (n d : List ℕ) (c : Command) : Type 0 where
  pub number : ℕ
  pub calls : ℕ
  pub is : Load number calls ≡ c
  pub number_is : IsNumeral 0 18446744073709551615 n number
  pub calls_are : IsNumeral 1 20000 d calls

pub load_numbers : (n d : List ℕ) (c : Command) → Say (load_words n d) c → IsLoad n d c
load_numbers n d Steps said = cc
load_numbers n d Run said = cc
load_numbers n d Tables said = cc
load_numbers n d Treaty said = cc
load_numbers n d Serve said = cc
load_numbers n d Forecast said = cc
load_numbers n d Certify said = cc
load_numbers n d Verify said = cc
load_numbers n d (Wire number) said = let all = said.said in cc
load_numbers n d (Load number calls) said =
    let all = said.said in
    let first : said.first ≡ n = cc in
    let second : said.second ≡ d = cc in
    record {
      number = number;
      calls = calls;
      is = refl;
      number_is = subst (λ w. IsNumeral 0 18446744073709551615 w number) first said.number_is;
      calls_are = subst (λ w. IsNumeral 1 20000 w calls) second said.calls_are;
    }

abbrev pub wire_words : List ℕ → List (List ℕ)
wire_words n = codes "wire" ∷ n ∷ []

-- the number of a command that two words are
pub record IsWire (n : List ℕ) (c : Command) : Type 0 where
  pub number : ℕ
  pub is : Wire number ≡ c
  pub number_is : IsNumeral 0 18446744073709551615 n number

pub wire_number : (n : List ℕ) (c : Command) → Say (wire_words n) c → IsWire n c
wire_number n Steps said = cc
wire_number n Run said = cc
wire_number n Tables said = cc
wire_number n Treaty said = cc
wire_number n Serve said = cc
wire_number n Forecast said = cc
wire_number n Certify said = cc
wire_number n Verify said = cc
wire_number n (Wire number) said =
    let all = said.said in
    let first : said.first ≡ n = cc in
    record { number = number; is = refl; number_is = subst (λ w. IsNumeral 0 18446744073709551615 w number) first said.number_is }
wire_number n (Load number calls) said = let all = said.said in cc

-- ---- a number begins with a digit
pub record BeginsWithDigit (word : List ℕ) : Type 0 where
  pub first : ℕ
  pub rest : List ℕ
  pub is : first ∷ rest ≡ word
  pub low : 48 ≤ first
  pub high : first ≤ 57

pub begins_with_digit : (least most : ℕ) (word : List ℕ) (v : ℕ) → IsNumeral least most word v → BeginsWithDigit word
begins_with_digit least most [] v is = absurd (omega (arith, is.some))
begins_with_digit least most (b ∷ bytes) v is =
    let here = and_parts (is_digit b) (list_all is_digit bytes) is.digits in
    let digit = and_parts (nat_le 48 b) (nat_le b 57) here.0 in
    record {
      first = b;
      rest = bytes;
      is = refl;
      low = (let q : nat_le 48 b ≡ true = digit.0 in grind (arith, nat_tests));
      high = (let q : nat_le b 57 ≡ true = digit.1 in grind (arith, nat_tests));
    }

-- The words of the lines of a report.
use Rattle.std.proofs.Common.{◌≡◌, ℕ, ◌<◌, Bool, true, false, List, [], ◌∷◌, ◌++◌, Option, Some, None, ℤ, codes, decimal, refl, arith}
use Rattle.std.specs.Prelude.{slice_get, unwrap_or}
use Rattle.std.specs.Fmt.{signed_decimal, digit_glyph}
use Rattle.std.specs.List.{list_all}
use Rattle.std.specs.Option.{option_map_or}
use Rattle.std.proofs.lemmas.Bool.{and_from}
use Rattle.homeo_syntax.specs.Source as s
use Rattle.homeo_syntax.specs.declared.phrase.Ident.{Ident}
use Rattle.homeo_meaning.specs.declared.call.CallId.{CallId}
use Rattle.homeo_meaning.specs.Serial.{call_of, arguments}
use Rattle.homeo_report.specs.Key.{definitions}
use Rattle.homeo_print.specs.Key.{definitions as print_definitions}
use Rattle.homeo_print.specs.Calls.{more_arguments_text, arguments_text, call_text}
use Rattle.homeo_print.specs.Names.{name_text, numbers_text}
use Rattle.homeo_report.specs.Report.{client_text, made_text}
use Rattle.homeo_report.proofs.Splits.{all_append, all_flat_map}
use Rattle.homeo_report.proofs.Bytes.{is_not, decimal_all, signed_all, digit_is_not}

-- a test that digits and a sign pass
pub record PassesNumbers (p : ℕ → Bool) : Type 0 where
  pub digits : (d : ℕ) → d < 10 → p (digit_glyph false d) ≡ true
  pub minus : p 45 ≡ true

pub numbers_no_newline : PassesNumbers (is_not 10)
numbers_no_newline = record { digits = λ d l. digit_is_not d 10 l (λ e. omega (arith, e)); minus = refl }

pub numbers_no_colon : PassesNumbers (is_not 58)
numbers_no_colon = record { digits = λ d l. digit_is_not d 58 l (λ e. omega (arith, e, l)); minus = refl }

-- a test that the names of the workload pass
pub client_all : (w : s.Workload) (p : ℕ → Bool) → ((i : ℕ) → list_all p (unwrap_or (slice_get w.names i) []) ≡ true) → (id : CallId) → list_all p (client_text w id) ≡ true
unfolding definitions print_definitions
client_all w p names id = by (slice_get w.clients id.client)
  where
    by : (c : Option s.Client) → list_all p (option_map_or (λ (client : s.Client). name_text w client.name) c []) ≡ true
    by None = refl
    by (Some c) = names c.name.name

-- A test that numbers pass, all names of the workload, and the marks of calls.
module _ (w : s.Workload) (p : ℕ → Bool) (n : PassesNumbers p) (names : (i : ℕ) → list_all p (unwrap_or (slice_get w.names i) []) ≡ true)
    (space : p 32 ≡ true) (comma : p 44 ≡ true) (open_mark : p 40 ≡ true) (close_mark : p 41 ≡ true) where
  decimals : (m : ℕ) → list_all p (decimal m) ≡ true
  decimals m = decimal_all p n.digits m

  signed : (z : ℤ) → list_all p (signed_decimal z) ≡ true
  signed z = signed_all p n.digits n.minus z

  more_all : (args : List ℤ) → list_all p (more_arguments_text args) ≡ true
  unfolding definitions print_definitions
  more_all args = all_flat_map p (λ (a : ℤ). codes ", " ++ signed_decimal a) args (λ a. all_append p (codes ", ") (signed_decimal a) (and_from (p 44) _ comma (and_from (p 32) _ space refl)) (signed a))

  arguments_all : (args : List ℤ) → list_all p (arguments_text args) ≡ true
  unfolding definitions print_definitions
  arguments_all [] = refl
  arguments_all (a ∷ more) = all_append p (signed_decimal a) (more_arguments_text more) (signed a) (more_all more)

  call_all : (name : Ident) (args : List ℤ) → list_all p (call_text w name args) ≡ true
  unfolding definitions print_definitions
  call_all name args =
      all_append p (name_text w name ++ codes "(" ++ arguments_text args) (codes ")")
      (all_append p (name_text w name ++ codes "(") (arguments_text args)
      (all_append p (name_text w name) (codes "(") (names name.name) (and_from (p 40) _ open_mark refl))
      (arguments_all args))
      (and_from (p 41) _ close_mark refl)

  pub made_all : (id : CallId) → list_all p (made_text w id) ≡ true
  unfolding definitions print_definitions
  made_all id = by (call_of w id)
    where
      by : (c : Option s.Call) → list_all p (option_map_or (λ (c : s.Call). call_text w c.name (arguments c)) c []) ≡ true
      by None = refl
      by (Some c) = call_all c.name (arguments c)

  pub prints_all : (prints : List ℤ) → list_all p (numbers_text prints) ≡ true
  unfolding definitions print_definitions
  prints_all prints = all_flat_map p (λ (v : ℤ). codes " " ++ signed_decimal v) prints (λ v. and_from (p 32) _ space (signed v))

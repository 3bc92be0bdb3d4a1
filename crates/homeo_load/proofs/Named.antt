-- Each identifier of a load is the place of a name.
use Rattle.std.proofs.Common.{◌<◌, ℕ, ◌+◌, ◌%◌, List, [], ◌∷◌, map, pos, refl, arith}
use Rattle.std.specs.Prelude.{All, ◌≤ℤ◌}
use Rattle.std.proofs.lemmas.List.Elements.{All-head, All-tail}
use Rattle.std.proofs.lemmas.Bool.Decides.{nat_tests}
use Rattle.homeo_syntax.specs.Key.{definitions as syntax_definitions}
use Rattle.homeo_syntax.specs.Source as s
use Rattle.homeo_syntax.specs.declared.phrase.Ident.{Ident}
use Rattle.homeo_syntax.specs.declared.token.Version.TheVariants.{First}
use Rattle.homeo_syntax.specs.WellFormed.{Each, EachIdent, EachInCommands, IsBelow, IsWellFormed, HasCommands}
use Rattle.homeo_load.specs.Key.{definitions}
use Rattle.homeo_load.specs.Additions.{Addition}
use Rattle.homeo_load.specs.Load.{ident, transaction_name, load_body, load_call, load_of, eight, dealt}
use Rattle.homeo_load.proofs.DrawnAdditions.{IsAddition}
use Rattle.homeo_load.proofs.Dealt.{dealt_fit}
use Rattle.homeo_load.proofs.Grounds.{name_below}
use Rattle.homeo_load.proofs.SpelledNames.{names_apart, names_spelled}

each_eight : (Q : ℕ → Type 0) → ((i : ℕ) → i < 8 → Q i) → Each Q eight
unfolding syntax_definitions
each_eight Q h = (
  h 0 (omega arith),
  (
    h 1 (omega arith),
    (
      h 2 (omega arith),
      (
        h 3 (omega arith),
        (h 4 (omega arith), (h 5 (omega arith), (h 6 (omega arith), (h 7 (omega arith), tt)))),
      ),
    ),
  ),
)

abbrev Named : Ident → Type 0
Named = IsBelow 25

named : (n : ℕ) → n < 25 → Named (ident n)
named n l = l

object_named : (i : ℕ) → i < 8 → Named (ident i)
object_named i l = named i (omega arith)

transaction_named : (i : ℕ) → i < 8 → Named (ident (transaction_name i))
transaction_named i l = named (transaction_name i) (omega (arith, name_below i l))

parameter_named : Named (ident 9)
parameter_named = named 9 (omega arith)

body_named : (i : ℕ) → i < 8 → EachInCommands Named (load_body i)
unfolding syntax_definitions definitions
body_named i l = ((object_named i l, (object_named i l, (parameter_named, tt))), (parameter_named, tt))

calls_named : (all : List Addition) → All IsAddition all → Each (λ (k : s.Call). Named k.name) (map load_call all)
unfolding syntax_definitions definitions
calls_named [] a = tt
calls_named (x ∷ all) a = (transaction_named x.object (All-head IsAddition x all a).object, calls_named all (All-tail IsAddition x all a))

client_named : (i : ℕ) → i < 8 → Named (ident (17 + i))
client_named i l = named (17 + i) (omega arith)

each_named : (all : List Addition) → All IsAddition all → EachIdent Named (load_of all)
unfolding syntax_definitions definitions
each_named all a = record {
  objects = each_eight (λ i. Named (ident i)) object_named;
  relations = tt;
  transactions = each_eight (λ i. Named (ident (transaction_name i)) × (Named (ident 9) × Unit {0}) × EachInCommands Named (load_body i)) (λ i l. (transaction_named i l, (parameter_named, tt), body_named i l));
  clients = each_eight (λ j. Named (ident (17 + j)) × Each (λ (k : s.Call). Named k.name) (map load_call (dealt j 0 all))) (λ j l. (client_named j l, calls_named (dealt j 0 all) (dealt_fit j 0 all a)));
  schedule = tt;
}

not_negative : (n : ℕ) → pos 0 ≤ℤ pos n
not_negative n = grind (arith, nat_tests)

pub load_well_formed : (all : List Addition) → All IsAddition all → IsWellFormed (load_of all)
unfolding syntax_definitions definitions
load_well_formed all a = record {
  form = First;
  version = refl;
  distinct = names_apart;
  spelled = names_spelled;
  named = each_named all a;
  sites = each_eight (λ j. pos 0 ≤ℤ pos (j % 4)) (λ j l. not_negative (j % 4));
  weights = refl;
  natural = tt;
  aborts = each_eight (λ i. HasCommands First (load_body i)) (λ i l. (tt, (tt, tt)));
}

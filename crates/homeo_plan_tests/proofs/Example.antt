-- The workload of the tests is accepted, and has the calls that they run.
use Rattle.std.proofs.Common.{◌≡◌, ◌≢◌, ◌<◌, ◌≤◌, ℕ, pos, ◌≤ℤ◌, List, [], ◌∷◌, ◌++◌, ◌-◌, All, refl, ap, sym, subst, ◌∙◌, arith}
use Rattle.std.specs.Prelude.{codes, AllPairs}
use Rattle.std.proofs.lemmas.List.Kept.{AllPairs-cons}
use Rattle.std.proofs.lemmas.List.Elements.{All-nil, All-cons}
use Rattle.homeo_syntax.specs.Key.{definitions as syntax_definitions}
use Rattle.homeo_syntax.specs.Listed.{Listed}
use Rattle.homeo_syntax.specs.Source as s
use Rattle.homeo_syntax.specs.declared.token.Version.TheVariants.{First}
use Rattle.homeo_syntax.specs.WellFormed.{IsName, EachIdent, IsBelow}
use Rattle.homeo_meaning.specs.Key.{definitions as meaning_definitions}
use Rattle.homeo_meaning.specs.Acceptance.{IsAccepted}
use Rattle.homeo_meaning.specs.Calls.{CallExists}
use Rattle.homeo_meaning.specs.Faults.{faults}
use Rattle.homeo_meaning.specs.declared.call.CallId.{CallId}
use Rattle.homeo_meaning.specs.declared.call.Purpose.TheVariants.{Run}
use Rattle.homeo_plan_tests.specs.inner.Example.{example}

no_faults : faults Run example ≡ []
unfolding meaning_definitions syntax_definitions
no_faults = refl

abbrev Differs : List ℕ → List ℕ → Type 0
Differs a b = a ≢ b

no_pairs : AllPairs Differs []
no_pairs i j d lt within = absurd (omega arith)

stock_is_not_sell : codes "stock" ≢ codes "sell"
stock_is_not_sell e = cc

stock_is_not_amount : codes "stock" ≢ codes "amount"
stock_is_not_amount e = cc

stock_is_not_cashier : codes "stock" ≢ codes "cashier"
stock_is_not_cashier e = cc

sell_is_not_amount : codes "sell" ≢ codes "amount"
sell_is_not_amount e = cc

sell_is_not_cashier : codes "sell" ≢ codes "cashier"
sell_is_not_cashier e = cc

amount_is_not_cashier : codes "amount" ≢ codes "cashier"
amount_is_not_cashier e = cc

differs_from_cashier : (a : List ℕ) → a ≢ codes "cashier" → All (Differs a) (codes "cashier" ∷ [])
differs_from_cashier a d = All-cons (Differs a) (codes "cashier") [] d (All-nil (Differs a))

differs_from_two : (a : List ℕ) → a ≢ codes "amount" → a ≢ codes "cashier" → All (Differs a) (codes "amount" ∷ codes "cashier" ∷ [])
differs_from_two a d e = All-cons (Differs a) (codes "amount") (codes "cashier" ∷ []) d (differs_from_cashier a e)

names_differ : AllPairs Differs example.names
names_differ =
    AllPairs-cons Differs (codes "stock") (codes "sell" ∷ codes "amount" ∷ codes "cashier" ∷ []) (All-cons (Differs (codes "stock")) (codes "sell") (codes "amount" ∷ codes "cashier" ∷ []) stock_is_not_sell (differs_from_two (codes "stock") stock_is_not_amount stock_is_not_cashier))
    (AllPairs-cons Differs (codes "sell") (codes "amount" ∷ codes "cashier" ∷ []) (differs_from_two (codes "sell") sell_is_not_amount sell_is_not_cashier)
    (AllPairs-cons Differs (codes "amount") (codes "cashier" ∷ []) (differs_from_cashier (codes "amount") amount_is_not_cashier)
    (AllPairs-cons Differs (codes "cashier") [] (All-nil (Differs (codes "cashier"))) no_pairs)))

named_stock : IsName First (codes "stock")
unfolding syntax_definitions
named_stock = record { first = refl; all = refl; short = omega arith; free = refl; also_free = refl }

named_sell : IsName First (codes "sell")
unfolding syntax_definitions
named_sell = record { first = refl; all = refl; short = omega arith; free = refl; also_free = refl }

named_amount : IsName First (codes "amount")
unfolding syntax_definitions
named_amount = record { first = refl; all = refl; short = omega arith; free = refl; also_free = refl }

named_cashier : IsName First (codes "cashier")
unfolding syntax_definitions
named_cashier = record { first = refl; all = refl; short = omega arith; free = refl; also_free = refl }

below : (n : ℕ) → n ≤ 3 → n < 4
below n h = omega arith

stock : 0 < 4
stock = below 0 (omega arith)

sell : 1 < 4
sell = below 1 (omega arith)

amount : 2 < 4
amount = below 2 (omega arith)

cashier : 3 < 4
cashier = below 3 (omega arith)

each_named : EachIdent (IsBelow 4) example
unfolding syntax_definitions
each_named = record {
  objects = (stock, tt);
  relations = tt;
  transactions = ((sell, (amount, tt), ((stock, (stock, (amount, tt))), (stock, tt))), tt);
  clients = ((cashier, (sell, (sell, tt))), tt);
  schedule = tt;
}

not_negative : pos 0 ≤ℤ pos 0
not_negative = omega arith

pub example-accepted : IsAccepted example
unfolding syntax_definitions
example-accepted = record {
  well_formed = record {
    form = First;
    version = refl;
    distinct = names_differ;
    spelled = (named_stock, (named_sell, (named_amount, (named_cashier, tt))));
    named = each_named;
    sites = (not_negative, tt);
    weights = refl;
    natural = tt;
    aborts = ((tt, (tt, tt)), tt);
  };
  rules = no_faults;
}

-- what a list holds after one more push
pub pushed : {A : Type 0} (old new : Listed A) (before : List A) (x : A) → old.items ≡ before → new ≡ record { items = old.items ++ x ∷ []; spare = old.spare - 1 } → new.items ≡ before ++ x ∷ []
pushed {A} old new before x e h = ap (λ (l : Listed A). l.items) h ∙ ap (λ (l : List A). l ++ x ∷ []) e

abbrev first : CallId
first = record { client = 0; seq = 1 }

abbrev second : CallId
second = record { client = 0; seq = 2 }

first_exists : CallExists example first
unfolding meaning_definitions
first_exists = refl

second_exists : CallExists example second
unfolding meaning_definitions
second_exists = refl

pub exist : (w : s.Workload) → w ≡ example → All (CallExists w) (record { client = 0; seq = 1 } ∷ record { client = 0; seq = 2 } ∷ [])
exist w e = subst (λ v. All (CallExists v) (first ∷ second ∷ [])) (sym e) (All-cons (CallExists example) first (second ∷ []) first_exists (All-cons (CallExists example) second [] second_exists (All-nil (CallExists example))))

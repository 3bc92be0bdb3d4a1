-- A small workload of one object, one transaction and one client, which tests take.
use Rattle.std.specs.Prelude.{ℕ, ℤ, pos, codes, [], ◌∷◌, None}
use Rattle.homeo_syntax.specs.Source as s
use Rattle.homeo_syntax.specs.declared.phrase.Ident.{Ident}
use Rattle.homeo_syntax.specs.declared.phrase.Number.{Number}

abbrev pub name : ℕ → Ident
name n = record { name = n; offset = 0 }

abbrev pub number : ℤ → Number
number n = record { value = n; offset = 0 }

-- `read(stock) - amount`
abbrev pub less : s.Expr
less = s.Sum (s.MoreExpr (s.Read (name 0)) (s.MoreExpr (s.Neg (s.Name (name 2))) s.NoExpr))

-- `transaction sell(amount in 1..3) { write(stock = read(stock) - amount); print(read(stock)) }`
abbrev pub transaction : s.Transaction
transaction = record {
  name = name 1;
  params = record { name = name 2; lo = number (pos 1); hi = number (pos 3) } ∷ [];
  body = s.MoreCommand (s.Write (name 0) less) (s.MoreCommand (s.Print (s.Read (name 0))) s.NoCommand);
}

-- `sell(3)`
abbrev pub sale : s.Call
sale = record { name = name 1; args = number (pos 3) ∷ [] }

-- `client cashier at 0 { sell(3); sell(3) }`
abbrev pub cashier : s.Client
cashier = record { name = name 3; site = number (pos 0); calls = sale ∷ sale ∷ [] }

-- `object stock in 0..10 = 5` before them, at one site
abbrev pub example : s.Workload
example = record {
  version = 1;
  names = codes "stock" ∷ codes "sell" ∷ codes "amount" ∷ codes "cashier" ∷ [];
  sites = number (pos 1);
  objects = record { name = name 0; lo = number (pos 0); hi = number (pos 10); start = number (pos 5) } ∷ [];
  relations = [];
  transactions = transaction ∷ [];
  clients = cashier ∷ [];
  schedule = None;
  end = 0;
  weights = [];
}

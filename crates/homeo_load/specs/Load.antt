-- The workload of a load: four sites, eight objects with a transaction each, eight clients (this project's rule).
use Rattle.std.specs.Prelude.{ℕ, zero, suc, ◌+◌, ◌%◌, ◌==◌, pos, List, [], ◌∷◌, ◌++◌, map, codes, cond, None}
use Rattle.homeo_syntax.specs.Source as s
use Rattle.homeo_syntax.specs.declared.phrase.Ident.{Ident}
use Rattle.homeo_syntax.specs.declared.phrase.Number.{Number}
use Rattle.homeo_syntax.specs.declared.workload.ObjectDecl.{ObjectDecl}
use Rattle.homeo_syntax.specs.declared.workload.RangeDecl.{RangeDecl}
use Rattle.homeo_load.specs.Key.{definitions}
use Rattle.homeo_load.specs.Additions.{Addition, additions}

-- ---- names: c0 to c7 are 0 to 7, add0 is 8, n is 9, add1 to add7 are 10 to 16, w0 to w7 are 17 to 24
abbrev pub load_object_names : List (List ℕ)
load_object_names =
    codes "c0" ∷ codes "c1" ∷ codes "c2" ∷ codes "c3" ∷ codes "c4" ∷ codes "c5" ∷ codes "c6" ∷ codes "c7" ∷ []

abbrev pub load_names : List (List ℕ)
load_names =
    load_object_names ++
    codes "add0" ∷ codes "n" ∷
    codes "add1" ∷ codes "add2" ∷ codes "add3" ∷ codes "add4" ∷ codes "add5" ∷ codes "add6" ∷ codes "add7" ∷
    codes "w0" ∷ codes "w1" ∷ codes "w2" ∷ codes "w3" ∷ codes "w4" ∷ codes "w5" ∷ codes "w6" ∷ codes "w7" ∷ []

abbrev pub ident : ℕ → Ident
ident n = record { name = n; offset = 0 }

abbrev pub number : ℕ → Number
number n = record { value = pos n; offset = 0 }

-- the name of the transaction of an object
abbrev pub transaction_name : ℕ → ℕ
unfolding definitions
transaction_name zero = 8
transaction_name (suc i) = 10 + i

abbrev pub parameter : Ident
parameter = ident 9

-- ---- declarations
-- object ci in 0..1000000 = 0
abbrev pub load_object : ℕ → ObjectDecl
unfolding definitions
load_object i = record { name = ident i; lo = number 0; hi = number 1000000; start = number 0 }

-- n in 1..9
abbrev pub parameter_range : RangeDecl
parameter_range = record { name = parameter; lo = number 1; hi = number 9 }

-- { write(ci = read(ci) + n); print(n) }
abbrev pub load_body : ℕ → s.Commands
unfolding definitions
load_body i =
    s.MoreCommand (s.Write (ident i) (s.Sum (s.MoreExpr (s.Read (ident i)) (s.MoreExpr (s.Name parameter) s.NoExpr))))
    (s.MoreCommand (s.Print (s.Name parameter)) s.NoCommand)

-- transaction addi(n in 1..9) { write(ci = read(ci) + n); print(n) }
abbrev pub load_transaction : ℕ → s.Transaction
unfolding definitions
load_transaction i = record { name = ident (transaction_name i); params = parameter_range ∷ []; body = load_body i }

-- addi(n)
abbrev pub load_call : Addition → s.Call
unfolding definitions
load_call a = record { name = ident (transaction_name a.object); args = number a.number ∷ [] }

-- of the calls, numbered from k on, those of client j: each whose number modulo 8 is j
abbrev pub dealt : ℕ → ℕ → List Addition → List Addition
unfolding definitions
dealt j k [] = []
dealt j k (a ∷ more) = cond ((k % 8) == j) (a ∷ dealt j (k + 1) more) (dealt j (k + 1) more)

-- client wj at j modulo 4, with its calls
abbrev pub load_client : List Addition → ℕ → s.Client
unfolding definitions
load_client all j = record { name = ident (17 + j); site = number (j % 4); calls = map load_call (dealt j 0 all) }

abbrev pub eight : List ℕ
eight = 0 ∷ 1 ∷ 2 ∷ 3 ∷ 4 ∷ 5 ∷ 6 ∷ 7 ∷ []

-- ---- the workload of a list of additions
abbrev pub load_of : List Addition → s.Workload
unfolding definitions
load_of all = record {
  version = 1;
  names = load_names;
  sites = number 4;
  objects = map load_object eight;
  relations = [];
  transactions = map load_transaction eight;
  clients = map (load_client all) eight;
  schedule = None;
  end = 0;
  weights = [];
}

-- the workload of so many calls, drawn from a number on
abbrev pub load_workload : ℕ → ℕ → s.Workload
unfolding definitions
load_workload number calls = load_of (additions number calls)

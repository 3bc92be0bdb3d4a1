-- The global names: objects, relations, transactions and clients.
pub use Rattle.homeo_meaning.specs.ListRules.{duplicate}
use Rattle.std.specs.Prelude.{ℕ, ℤ, ◌+◌, List, [], ◌∷◌, ◌++◌, map, Option, Some, None, ◌==◌, if◌then◌else◌, slice_get}
use Rattle.std.specs.List.{flat_map}
use Rattle.homeo_syntax.specs.Source as s
use Rattle.homeo_syntax.specs.declared.phrase.Ident.{Ident}
use Rattle.homeo_meaning.specs.Key.{definitions}
use Rattle.homeo_meaning.specs.Bindings.{Scope}
use Rattle.homeo_meaning.specs.Serial.{arguments}
use Rattle.homeo_meaning.specs.declared.rules.Item.{Item}
use Rattle.homeo_meaning.specs.declared.rules.Item.TheVariants as I

pub record GlobalName : Type 0 where
  pub name : Ident
  pub item : Item

abbrev pub numbered_from : (ℕ → Item) → ℕ → List Ident → List GlobalName
unfolding definitions
numbered_from kind i [] = []
numbered_from kind i (x ∷ xs) = record { name = x; item = kind i } ∷ numbered_from kind (i + 1) xs

-- the global names in the order of the text
abbrev pub global_names : s.Workload → List GlobalName
unfolding definitions
global_names w =
    numbered_from I.Object 0 (map (λ d. d.name) w.objects)
    ++ numbered_from I.Relation 0 (map (λ d. d.name) w.relations)
    ++ numbered_from I.Transaction 0 (map (λ d. d.name) w.transactions)
    ++ numbered_from I.Client 0 (map (λ d. d.name) w.clients)

-- what a global name names: the first that is declared so
abbrev pub first_named : List GlobalName → ℕ → Option Item
unfolding definitions
first_named [] n = None
first_named (d ∷ ds) n = if d.name.name == n then Some d.item else first_named ds n

abbrev pub field_names : Option s.RelationDecl → List ℕ
field_names None = []
field_names (Some q) = map (λ d. d.name.name) q.fields

abbrev pub scope_of : s.Workload → Scope
unfolding definitions
scope_of w = record { item = first_named (global_names w); fields = λ k. field_names (slice_get w.relations k) }

-- the transaction that a name names
abbrev pub transaction_at : s.Workload → Option Item → Option s.Transaction
transaction_at w (Some (I.Transaction k)) = slice_get w.transactions k
transaction_at w _ = None

abbrev pub called : s.Workload → Ident → Option s.Transaction
unfolding definitions
called w x = transaction_at w ((scope_of w).item x.name)

-- what a call calls, with which arguments, and the site of its client
pub record SitedCall : Type 0 where
  pub name : Ident
  pub args : List ℤ
  pub site : ℤ

abbrev pub sited_calls_of : s.Client → List SitedCall
unfolding definitions
sited_calls_of c = map (λ call. record { name = call.name; args = arguments call; site = c.site.value }) c.calls

-- all calls, in the order of the text
abbrev pub sited_calls : s.Workload → List SitedCall
unfolding definitions
sited_calls w = flat_map sited_calls_of w.clients

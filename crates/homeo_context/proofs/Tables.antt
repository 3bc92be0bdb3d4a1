-- A slots of places, filled from the last name to the first.
use Rattle.std.proofs.Common.{◌≡◌, ℕ, suc, ◌<◌, ◌≤◌, ◌==◌, cond, List, [], ◌∷◌, map, length, drop, get_or, refl, sym, ap, ◌∙◌, drop_of_length-le, arith}
use Rattle.std.proofs.Math.Seq.{drop-cons}
use Rattle.homeo_syntax.specs.Key.{definitions as syntax_definitions}
use Rattle.homeo_syntax.specs.declared.workload.ObjectDecl.{ObjectDecl}
use Rattle.homeo_syntax.specs.declared.workload.Transaction.{Transaction}
use Rattle.homeo_syntax.specs.declared.workload.Workload.{Workload}
use Rattle.homeo_syntax.specs.SourceView.{plain_relation, plain_transaction, plain_workload}
use Rattle.homeo_meaning.specs.Key.{definitions}
use Rattle.homeo_meaning.specs.Schema.{declared_object, declared_relation}
use Rattle.homeo_context.specs.declared.declarations.Placed.{Placed}
use Rattle.homeo_context.specs.Placed.{placed_relation}
use Rattle.homeo_meaning.specs.Declarations.{declarations, place_from}

pub no_names : (names places : List ℕ) (k n : ℕ) → places ≡ [] → length names ≤ k → get_or places n k ≡ place_from k (drop k names) n
unfolding definitions
no_names names places k n p h = ap (λ l. get_or l n k) p ∙ sym (ap (λ l. place_from k l n) (drop_of_length-le names h))

next_name : (names : List ℕ) (p n name : ℕ) → p < length names → name ≡ get_or names p name → place_from p (drop p names) n ≡ cond (name == n) p (place_from (suc p) (drop (suc p) names) n)
unfolding definitions
next_name names p n name h r =
    ap (λ l. place_from p l n) (drop-cons names p name h ∙ ap (λ y. y ∷ drop (suc p) names) (sym r))

pub table_step : (names : List ℕ) (p place name : ℕ) (old new : ℕ → ℕ) → suc p ≡ place → p < length names → name ≡ get_or names p name → ((n : ℕ) → old n ≡ place_from place (drop place names) n) → ((m : ℕ) → new m ≡ cond (name == m) p (old m)) → (n : ℕ) → new n ≡ place_from p (drop p names) n
table_step names p place name old new e h r f g n =
    g n ∙ ap (cond (name == n) p) (f n ∙ ap (λ k. place_from k (drop k names) n) (sym e)) ∙ sym (next_name names p n name h r)

pub table_whole : (names : List ℕ) (place n : ℕ) → place ≤ 0 → place_from place (drop place names) n ≡ place_from 0 names n
table_whole names place n h = let e : place ≡ 0 = omega arith in ap (λ k. place_from k (drop k names) n) e

plain_names : (ts : List Transaction) → map (λ t. t.name.name) (map plain_transaction ts) ≡ map (λ t. t.name.name) ts
unfolding syntax_definitions
plain_names [] = refl
plain_names (t ∷ ts) = ap (λ l. t.name.name ∷ l) (plain_names ts)

pub numbering_is : (w : Workload) (os : List ObjectDecl) (ps : List Placed) (ns : List ℕ) → os ≡ w.objects.items → map placed_relation ps ≡ map declared_relation (map plain_relation w.relations.items) → ns ≡ map (λ t. t.name.name) w.transactions.items → record { schema = record { objects = map declared_object os; relations = map placed_relation ps }; transactions = ns } ≡ declarations (plain_workload w)
unfolding definitions syntax_definitions
numbering_is w os ps ns p r q = λ i. record { schema = record { objects = map declared_object (p i); relations = r i }; transactions = (q ∙ sym (plain_names w.transactions.items)) i }

-- The transaction of a name stands at the first place of the name.
use Rattle.std.proofs.Common.{◌≡◌, ℕ, suc, ◌==◌, Bool, true, false, cond, Some, List, [], ◌∷◌, map, length, ◌<◌, ◌≤◌, get_or, None, refl, sym, ap, ◌∙◌}
use Rattle.std.specs.Prelude.{slice_get, option_map, find}
use Rattle.std.proofs.lemmas.Option.{slice_get_past, slice_get-map, slice_get_read}
use Rattle.homeo_syntax.specs.Key.{definitions as syntax_definitions}
use Rattle.homeo_syntax.specs.Source as s
use Rattle.homeo_syntax.specs.declared.workload.Transaction.{Transaction}
use Rattle.homeo_syntax.specs.declared.workload.Workload.{Workload}
use Rattle.homeo_syntax.specs.SourceView.{plain_transaction, plain_workload}
use Rattle.homeo_meaning.specs.Key.{definitions}
use Rattle.homeo_meaning.specs.Declarations.{declarations, place_from, place_of}
use Rattle.homeo_meaning.specs.Serial.{transaction_named}

cond_suc : (b : Bool) (m n : ℕ) → cond b (suc m) (suc n) ≡ suc (cond b m n)
cond_suc true m n = refl
cond_suc false m n = refl

place_suc : (k : ℕ) (names : List ℕ) (n : ℕ) → place_from (suc k) names n ≡ suc (place_from k names n)
unfolding definitions
place_suc k [] n = refl
place_suc k (m ∷ ms) n = ap (cond (m == n) (suc k)) (place_suc (suc k) ms n) ∙ cond_suc (m == n) k (place_from (suc k) ms n)

named_case : (t : s.Transaction) (ts : List s.Transaction) (n p : ℕ) (b : Bool) → slice_get ts p ≡ find (λ t. t.name.name == n) ts → slice_get (t ∷ ts) (cond b 0 (suc p)) ≡ cond b (Some t) (find (λ t. t.name.name == n) ts)
named_case t ts n p true h = refl
named_case t ts n p false h = h

transaction_at : (ts : List s.Transaction) (n : ℕ) → slice_get ts (place_from 0 (map (λ t. t.name.name) ts) n) ≡ find (λ t. t.name.name == n) ts
unfolding definitions
transaction_at [] n = refl
transaction_at (t ∷ ts) n =
    let names : List ℕ = map (λ t. t.name.name) ts in
    ap (λ k. slice_get (t ∷ ts) (cond (t.name.name == n) 0 k)) (place_suc 0 names n)
    ∙ named_case t ts n (place_from 0 names n) (t.name.name == n) (transaction_at ts n)

pub transaction_place : (w : s.Workload) (n : ℕ) → slice_get w.transactions (place_of (declarations w).transactions n) ≡ transaction_named w n
unfolding definitions
transaction_place w n = transaction_at w.transactions n

-- ---- the code's list
pub transaction_here : (w : Workload) (ts : List Transaction) (i : ℕ) (t : Transaction) → ts ≡ w.transactions.items → i < length ts → t ≡ get_or ts i t → slice_get (plain_workload w).transactions i ≡ Some (plain_transaction t)
unfolding syntax_definitions
transaction_here w ts i t e h p =
    ap (λ l. slice_get (map plain_transaction l) i) (sym e) ∙ slice_get-map plain_transaction ts i ∙ ap (option_map plain_transaction) (slice_get_read ts (length ts) i t refl h p)

pub transaction_past : (w : Workload) (ts : List Transaction) (i : ℕ) → ts ≡ w.transactions.items → length ts ≤ i → slice_get (plain_workload w).transactions i ≡ None
unfolding syntax_definitions
transaction_past w ts i e h =
    ap (λ l. slice_get (map plain_transaction l) i) (sym e) ∙ slice_get-map plain_transaction ts i ∙ ap (option_map plain_transaction) (slice_get_past ts i h)

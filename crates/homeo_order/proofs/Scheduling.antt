-- The calls of a schedule that names each client as often as it has calls: what one name more makes of them.
use Rattle.std.proofs.Common.{◌≡◌, ◌<◌, ◌≤◌, ◌+◌, ◌-◌, ◌∙◌, ◌++◌, ◌==◌, ℕ, zero, suc, Bool, true, false, cond, List, [], ◌∷◌, length, get_or, refl, sym, ap, subst, arith, add-zero, append_assoc, append-nil}
use Rattle.std.specs.Prelude.{Option, Some, None, slice_get}
use Rattle.std.specs.Option.{option_map_or}
use Rattle.std.proofs.lemmas.List.Sums.{sum_by-cons, sum_by-append}
use Rattle.std.proofs.lemmas.Bool.Decides.{Decides-eqb}
use Rattle.std.proofs.lemmas.List.{length-map, get_or-map}
use Rattle.std.proofs.lemmas.Option.{slice_get-get_or, same_Some}
use Rattle.homeo_syntax.specs.Source as s
use Rattle.homeo_syntax.specs.declared.phrase.Ident.{Ident}
use Rattle.homeo_meaning.specs.declared.call.CallId.{CallId}
use Rattle.homeo_meaning.specs.CallRules.{times}
use Rattle.homeo_meaning.specs.Declarations.{place_of, place_from}
use Rattle.homeo_meaning.specs.Key.{definitions as meaning_definitions}
use Rattle.homeo_context.proofs.Relations.{place_least}
use Rattle.homeo_history.specs.Legal.{call_count}
use Rattle.homeo_history.specs.Key.{definitions as history_definitions}
use Rattle.homeo_order.specs.Key.{definitions}
use Rattle.homeo_order.specs.Scheduled.{IsWholeOrder}
use Rattle.homeo_order.specs.Order.{calls_from, client_names, order_of}

-- ---- names and places
first_or_later : (b : Bool) (m j : ℕ) (ns : List ℕ) (n d : ℕ) → (m == n) ≡ b → (place_from (suc j) ns n < suc j + length ns → get_or ns (place_from (suc j) ns n - suc j) d ≡ n)
    → cond b j (place_from (suc j) ns n) < j + length (m ∷ ns) → get_or (m ∷ ns) (cond b j (place_from (suc j) ns n) - j) d ≡ n
first_or_later true m j ns n d same later less = let none : j - j ≡ 0 = omega arith in rw none ((Decides-eqb m n).0 same)
first_or_later false m j ns n d same later less =
    let past = place_least (suc j) ns n in
    let one_more : place_from (suc j) ns n - j ≡ suc (place_from (suc j) ns n - suc j) = omega (arith, past) in
    rw one_more (later (omega (arith, less)))

named_from : (j : ℕ) (ns : List ℕ) (n d : ℕ) → place_from j ns n < j + length ns → get_or ns (place_from j ns n - j) d ≡ n
unfolding meaning_definitions
named_from j [] n d less = absurd (omega (arith, less))
named_from j (m ∷ ns) n d less = first_or_later (m == n) m j ns n d refl (named_from (suc j) ns n d) less

-- at the place of a name stands the name
pub named_there : (ns : List ℕ) (n d : ℕ) → place_of ns n < length ns → get_or ns (place_of ns n) d ≡ n
unfolding meaning_definitions
named_there ns n d less =
    let same : place_from 0 ns n - 0 ≡ place_from 0 ns n = omega arith in
    let there = named_from 0 ns n d (omega (arith, less)) in
    subst (λ (i : ℕ). get_or ns i d ≡ n) same there

-- ---- counts
times-cons : (n : ℕ) (x : Ident) (xs : List Ident) → times n (x ∷ xs) ≡ cond (x.name == n) 1 0 + times n xs
times-cons n x xs = sum_by-cons (λ (y : Ident). cond (y.name == n) 1 0) x xs

pub times-snoc : (n : ℕ) (xs : List Ident) (x : Ident) → times n (xs ++ x ∷ []) ≡ times n xs + cond (x.name == n) 1 0
times-snoc n xs x =
    sum_by-append (λ (y : Ident). cond (y.name == n) 1 0) xs (x ∷ [])
    ∙ ap (λ (c : ℕ). times n xs + c) (times-cons n x [] ∙ add-zero (cond (x.name == n) 1 0))

-- a name stands once more among names than before its place
times_before : (n : ℕ) (before xs : List Ident) (x : Ident) → x.name ≡ n → times n before < times n (before ++ x ∷ xs)
times_before n before xs x is =
    let counts : Ident → ℕ = λ (y : Ident). cond (y.name == n) 1 0 in
    let one : counts x ≡ 1 = ap (λ (b : Bool). cond b 1 0) ((Decides-eqb x.name n).1 is) in
    omega (arith, sum_by-append counts before (x ∷ xs), times-cons n x xs, one)

-- ---- the clients of names
-- past the last client there is none
pub past_the_last : {X : Type 0} (xs : List X) (k : ℕ) → slice_get xs k ≡ None → length xs ≤ k
past_the_last [] k is = omega arith
past_the_last (x ∷ xs) zero is = absurd (cc)
past_the_last (x ∷ xs) (suc k) is = omega (arith, past_the_last xs k is)

-- the client at the place of a name has that name
its_name : (w : s.Workload) (n : ℕ) (c : s.Client) → place_of (client_names w) n < length w.clients → slice_get w.clients (place_of (client_names w) n) ≡ Some c → c.name.name ≡ n
unfolding definitions
its_name w n c named found =
    let k = place_of (client_names w) n in
    let many : length (client_names w) ≡ length w.clients = length-map w.clients (λ (c : s.Client). c.name.name) in
    let there : get_or w.clients k c ≡ c = same_Some _ _ (sym (slice_get-get_or w.clients k c named) ∙ found) in
    sym (ap (λ (c : s.Client). c.name.name) there) ∙ sym (get_or-map (λ (c : s.Client). c.name.name) w.clients k c 0 named)
    ∙ named_there (client_names w) n 0 (omega (arith, many, named))

-- a client that is named again has a call left
left_at : (w : s.Workload) (before xs : List Ident) (x : Ident) → IsWholeOrder w → before ++ x ∷ xs ≡ order_of w.schedule → place_of (client_names w) x.name < length w.clients
    → (found : Option s.Client) → slice_get w.clients (place_of (client_names w) x.name) ≡ found → times x.name before < option_map_or (λ (c : s.Client). length c.calls) found 0
left_at w before xs x order whole named None is = absurd (omega (arith, past_the_last w.clients (place_of (client_names w) x.name) is, named))
left_at w before xs x order whole named (Some c) is =
    let name : c.name.name ≡ x.name = its_name w x.name c named is in
    let counted : times x.name (before ++ x ∷ xs) ≡ length c.calls =
    ap (times x.name) whole ∙ ap (λ (n : ℕ). times n (order_of w.schedule)) (sym name) ∙ order.whole (place_of (client_names w) x.name) c is in
    omega (arith, counted, times_before x.name before xs x refl)

pub has_left : (w : s.Workload) (before xs : List Ident) (x : Ident) → IsWholeOrder w → before ++ x ∷ xs ≡ order_of w.schedule → place_of (client_names w) x.name < length w.clients
    → times x.name before < call_count w (place_of (client_names w) x.name)
unfolding history_definitions
has_left w before xs x order whole named = left_at w before xs x order whole named (slice_get w.clients (place_of (client_names w) x.name)) refl

-- ---- the calls of names
-- the calls of one name more
pub calls_from-snoc : (ns : List ℕ) (before xs : List Ident) (x : Ident) → calls_from ns before (xs ++ x ∷ []) ≡ calls_from ns before xs ++ record { client = place_of ns x.name; seq = suc (times x.name (before ++ xs)) } ∷ []
unfolding definitions
calls_from-snoc ns before [] x =
    let one : List Ident → List CallId = λ (l : List Ident). record { client = place_of ns x.name; seq = suc (times x.name l) } ∷ [] in
    ap one (sym (append-nil before))
calls_from-snoc ns before (y ∷ xs) x =
    let first : CallId = record { client = place_of ns y.name; seq = suc (times y.name before) } in
    ap (λ (l : List CallId). first ∷ l) (calls_from-snoc ns (before ++ y ∷ []) xs x)
    ∙ ap (λ (l : List Ident). first ∷ calls_from ns (before ++ y ∷ []) xs ++ record { client = place_of ns x.name; seq = suc (times x.name l) } ∷ []) (append_assoc before (y ∷ []) xs)

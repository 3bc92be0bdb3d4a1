-- What an accepted workload has few enough of.
use Rattle.std.proofs.Common.{◌≡◌, ◌≢◌, ℕ, suc, ◌+◌, ◌≤◌, ◌==◌, cond, ℤ, pos, ◌≤ℤ◌, Bool, true, false, List, [], ◌∷◌, ◌++◌, map, length, All, refl, arith, length-append}
use Rattle.std.specs.Prelude.{◌||◌, if◌then◌else◌, int_lt, int_le}
use Rattle.std.specs.List.{list_any, flat_map}
use Rattle.std.proofs.lemmas.Int.{ints}
use Rattle.std.proofs.lemmas.List.{length-map}
use Rattle.std.proofs.lemmas.Bool.Decides.{nat_tests}
use Rattle.std.proofs.lemmas.List.Elements.{All-nil, All-cons}
use Rattle.homeo_lemmas.proofs.Integers.{not_less}
use Rattle.homeo_syntax.specs.Key.{definitions as syntax_definitions}
use Rattle.homeo_syntax.specs.Source as s
use Rattle.homeo_syntax.specs.WellFormed.{Each}
use Rattle.homeo_syntax.specs.declared.phrase.Ident.{Ident}
use Rattle.homeo_syntax.specs.declared.phrase.Number.{Number}
use Rattle.homeo_meaning.specs.Key.{definitions as meaning_definitions}
use Rattle.homeo_meaning.specs.Acceptance.{IsAccepted}
use Rattle.homeo_meaning.specs.Bindings.{Scope}
use Rattle.homeo_meaning.specs.Declarations.{declarations, place_from, place_of}
use Rattle.homeo_meaning.specs.GlobalNames.{SitedCall, scope_of, sited_calls_of, sited_calls}
use Rattle.homeo_meaning.specs.NameRules.{when, fault}
use Rattle.homeo_meaning.specs.NumberRules.{same_ground, distinct_after, ground_calls, site_faults, site_count_faults, passes_limit, limit_faults}
use Rattle.homeo_meaning.specs.CallRules.{call_faults, client_faults}
use Rattle.homeo_meaning.specs.TransactionRules.{each_from}
use Rattle.homeo_meaning.specs.declared.call.Purpose.TheVariants.{Run}
use Rattle.homeo_meaning.specs.declared.rules.Fault.{Fault}
use Rattle.homeo_meaning.specs.declared.rules.Phase.TheVariants.{Bounds, Limits}
use Rattle.homeo_meaning.proofs.FaultParts.{none_first, none_second, NoFault, parts, declared_parts, NoLimitFault, limit_parts}
use Rattle.homeo_ground.specs.inner.Grounds.{IsSite}

-- ---- as many as there may be
not_full : (b : Bool) (x : Ident) → when b (fault Limits x) ≡ [] → b ≡ false
not_full true x e = cc
not_full false x e = refl

not_equal : (m n : ℕ) → (m == n) ≡ false → m ≢ n
not_equal m n h = grind (arith, nat_tests)

within : {A : Type 0} (most : ℕ) (name : A → Ident) (before xs : List A) → each_from (passes_limit most name) before xs ≡ [] → length before ≤ most → length before + length xs ≤ most
unfolding meaning_definitions
within most name before [] e h = omega arith
within most name before (x ∷ xs) e h =
    let rest : List Fault = each_from (passes_limit most name) (before ++ x ∷ []) xs in
    let room : length before ≢ most = not_equal (length before) most (not_full (length before == most) (name x) (none_first (when (length before == most) (fault Limits (name x))) rest e)) in
    let longer : length (before ++ x ∷ []) ≡ length before + 1 = length-append before (x ∷ []) in
    let more : length (before ++ x ∷ []) + length xs ≤ most = within most name (before ++ x ∷ []) xs (none_second (when (length before == most) (fault Limits (name x))) rest e) (omega arith) in
    omega arith

-- ---- sites
below : (a b : ℤ) → int_le a b ≡ false → a ≤ℤ pos 16 → pos 0 ≤ℤ b → IsSite b
below a b h k z = (z, grind (arith, ints))

site_here : (sites site : Number) → site_faults sites site ≡ [] → site_count_faults sites ≡ [] → pos 0 ≤ℤ site.value → IsSite site.value
unfolding meaning_definitions
site_here sites site e f z = go (int_le sites.value site.value) refl e (int_lt sites.value (pos 1)) (int_lt (pos 16) sites.value) refl f
  where
    go : (b : Bool) → int_le sites.value site.value ≡ b → when b (record { phase = Bounds; offset = site.offset } ∷ []) ≡ [] → (c d : Bool) → int_lt (pos 16) sites.value ≡ d → when (c || d) (record { phase = Limits; offset = sites.offset } ∷ []) ≡ [] → IsSite site.value
    go true h e c d k f = cc
    go false h e true d k f = cc
    go false h e false true k f = cc
    go false h e false false k f = below sites.value site.value h (not_less (pos 16) sites.value k) z

-- ---- a name's place is not past the names
place-fits : (k : ℕ) (names : List ℕ) (n : ℕ) → place_from k names n ≤ k + length names
unfolding meaning_definitions
place-fits k [] n = omega arith
place-fits k (m ∷ ms) n = go (m == n) (place-fits (suc k) ms n)
  where
    go : (b : Bool) → place_from (suc k) ms n ≤ suc k + length ms → cond b k (place_from (suc k) ms n) ≤ k + suc (length ms)
    go true h = omega arith
    go false h = omega arith

pub place-within : (names : List ℕ) (n : ℕ) → place_of names n ≤ length names
unfolding meaning_definitions
place-within names n = let h : place_from 0 names n ≤ 0 + length names = place-fits 0 names n in omega arith

-- ---- facts of each item
pub each-append : {A : Type 0} (P : A → Type 0) (xs ys : List A) → Each P xs → Each P ys → Each P (xs ++ ys)
unfolding syntax_definitions
each-append P [] ys h k = k
each-append P (x ∷ xs) ys h k = (h.0, each-append P xs ys h.1 k)

pub all-each : {A : Type 0} (P : A → Type 0) (xs : List A) → Each P xs → All P xs
unfolding syntax_definitions
all-each P [] h = All-nil P
all-each P (x ∷ xs) h = All-cons P x xs h.0 (all-each P xs h.1)

abbrev StandsAtSite : SitedCall → Type 0
StandsAtSite c = IsSite c.site

calls_sited : (client : s.Client) → IsSite client.site.value → Each StandsAtSite (sited_calls_of client)
unfolding meaning_definitions syntax_definitions
calls_sited client h = go client.calls
  where
    go : (calls : List s.Call) → Each StandsAtSite (map (λ (call : s.Call). record { name = call.name; args = map (λ (a : Number). a.value) call.args; site = client.site.value }) calls)
    go [] = tt
    go (c ∷ calls) = (h, go calls)

clients_sited : (sites : Number) (scope : Scope) (ts : List s.Transaction) (cs : List s.Client) → flat_map (client_faults sites scope ts) cs ≡ [] → site_count_faults sites ≡ [] → Each (λ (c : s.Client). pos 0 ≤ℤ c.site.value) cs → Each StandsAtSite (flat_map sited_calls_of cs)
unfolding meaning_definitions syntax_definitions
clients_sited sites scope ts [] e f z = tt
clients_sited sites scope ts (c ∷ cs) e f z =
    let called : List Fault = flat_map (λ (call : s.Call). call_faults ts (scope.item call.name.name) call) c.calls in
    let here : List Fault = site_faults sites c.site in
    let more : List Fault = flat_map (client_faults sites scope ts) cs in
    let one : IsSite c.site.value = site_here sites c.site (none_second called here (none_first (called ++ here) more e)) f z.0 in
    each-append StandsAtSite (sited_calls_of c) (flat_map sited_calls_of cs) (calls_sited c one) (clients_sited sites scope ts cs (none_second (called ++ here) more e) f z.1)

pub distinct-each : (P : SitedCall → Type 0) (us kept : List SitedCall) → Each P us → Each P kept → Each P (distinct_after kept us)
unfolding meaning_definitions syntax_definitions
distinct-each P [] kept h k = k
distinct-each P (u ∷ us) kept h k = go (list_any (same_ground u) kept) (λ l m. distinct-each P us l h.1 m)
  where
    go : (b : Bool) → ((l : List SitedCall) → Each P l → Each P (distinct_after l us)) → Each P (distinct_after (if b then kept else kept ++ u ∷ []) us)
    go true rest = rest kept k
    go false rest = rest (kept ++ u ∷ []) (each-append P kept (u ∷ []) k (h.0, tt))

-- ---- what acceptance says of them
pub record IsLimited (w : s.Workload) : Type 0 where
  pub transactions : length (declarations w).transactions ≤ 256
  pub grounds : length (ground_calls w) ≤ 1024
  pub sites : All (λ (c : SitedCall). IsSite c.site) (ground_calls w)

record AreFew (w : s.Workload) : Type 0 where
  sites : site_count_faults w.sites ≡ []
  transactions : length w.transactions ≤ 256
  grounds : length (ground_calls w) ≤ 1024

few : (w : s.Workload) → limit_faults w ≡ [] → AreFew w
unfolding meaning_definitions
few w e =
    let p : NoLimitFault w = limit_parts w e in
    let m : 0 + length w.transactions ≤ 256 = within 256 (λ (t : s.Transaction). t.name) [] w.transactions p.transactions (omega arith) in
    let n : 0 + length (ground_calls w) ≤ 1024 = within 1024 (λ (c : SitedCall). c.name) [] (ground_calls w) p.grounds (omega arith) in
    record { sites = p.sites; transactions = omega arith; grounds = omega arith }

no_call : Each StandsAtSite []
unfolding syntax_definitions
no_call = tt

pub limited : (w : s.Workload) → IsAccepted w → IsLimited w
unfolding meaning_definitions
limited w accepted =
    let p : NoFault Run w = parts Run w accepted.rules in
    let h : AreFew w = few w p.text.limits in
    let sited : Each StandsAtSite (sited_calls w) = clients_sited w.sites (scope_of w) w.transactions w.clients (declared_parts w p.text.declared).clients h.sites accepted.well_formed.sites in
    let same : length (map (λ (t : s.Transaction). t.name.name) w.transactions) ≡ length w.transactions = length-map w.transactions (λ (t : s.Transaction). t.name.name) in
    let m : length w.transactions ≤ 256 = h.transactions in
    record {
      transactions = omega arith;
      grounds = h.grounds;
      sites = all-each StandsAtSite (ground_calls w) (distinct-each StandsAtSite (sited_calls w) [] sited no_call);
    }

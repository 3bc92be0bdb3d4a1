-- In an accepted text each client is the first of its name, and each call that is listed has a small number.
use Rattle.homeo_syntax.specs.Key.{definitions as syntax_definitions}
use Rattle.homeo_meaning.specs.Key.{definitions as meaning_definitions}
use Rattle.homeo_history.specs.Key.{definitions as history_definitions}
use Rattle.homeo_print.specs.Key.{definitions as print_definitions}
use Rattle.std.proofs.Common.{◌≡◌, ℕ, zero, suc, ◌+◌, ◌<◌, ◌≤◌, nat_lt, Bool, true, false, if◌then◌else◌, List, [], ◌∷◌, length, ℤ, pos, negsuc, ◌≤ℤ◌, Option, Some, None, option_map, option_and_then, slice_get, IsUtf8, length-append, refl, sym, ap, ◌∙◌, subst, arith, le-leb}
use Rattle.std.specs.Prelude.{unwrap_or}
use Rattle.std.specs.List.{list_all, flat_map}
use Rattle.std.specs.Option.{option_map_or}
use Rattle.std.specs.Ordering.{int_eq}
use Rattle.std.specs.Str.{bytes_eq}
use Rattle.std.proofs.lemmas.Bool.{lt-ltb}
use Rattle.std.proofs.lemmas.Bool.Decides.{nat_tests}
use Rattle.std.proofs.lemmas.Int.{ints}
use Rattle.std.proofs.lemmas.List.{length-map}
use Rattle.std.proofs.lemmas.Slice.Eq.{bytes_eq-Decides}
use Rattle.json.proofs.Printed.Utf8.{are_ascii, IsUtf8-are_ascii}
use Rattle.homeo_syntax.specs.Source as s
use Rattle.homeo_syntax.specs.Lexemes.{is_word}
use Rattle.homeo_syntax.specs.WellFormed.{IsName}
use Rattle.homeo_syntax.specs.WellFormed as formed
use Rattle.homeo_syntax.specs.declared.token.Version.{Version}
use Rattle.homeo_meaning.specs.Acceptance.{IsAccepted}
use Rattle.homeo_meaning.specs.GlobalNames.{SitedCall, sited_calls_of, sited_calls}
use Rattle.homeo_meaning.specs.Schema.{nat_of}
use Rattle.homeo_meaning.specs.Serial.{arguments, numbered}
use Rattle.homeo_meaning.specs.declared.call.CallId.{CallId}
use Rattle.homeo_meaning.specs.declared.call.Purpose.TheVariants.{Run}
use Rattle.homeo_meaning.proofs.FaultParts.{parts, limit_parts}
use Rattle.homeo_meaning.proofs.SoundRelations.{globals-apart}
use Rattle.homeo_plan.proofs.PlannedCalls.{known}
use Rattle.homeo_history.specs.Legal.{IsCallAt}
use Rattle.std.proofs.lemmas.Option.{slice_get_within}
use Rattle.homeo_print.specs.Names.{name_text}
use Rattle.homeo_meaning.proofs.FewClients.{few_from}
use Rattle.homeo_report.proofs.CallsTold.{HasDistinctClients}
use Rattle.homeo_report.proofs.Names.{distinct_clients}
use Rattle.homeo_lemmas.proofs.Bools.{both, and_first, and_second}
use Rattle.homeo_core.proofs.SitesOfClients.{not_negative}
use Rattle.homeo_lines.specs.SmallNumbers.{AreNamed, IsSmallCall}
use Rattle.homeo_lines.specs.Named.{first_from, client_name, client_called, call_in}

-- ---- names are texts
word_is_ascii : (b : ℕ) → is_word b ≡ true → nat_lt b 128 ≡ true
word_is_ascii b h = grind (arith, nat_tests)

words_are_ascii : (bytes : List ℕ) → list_all is_word bytes ≡ true → are_ascii bytes ≡ true
words_are_ascii [] h = refl
words_are_ascii (b ∷ bytes) h =
    both (word_is_ascii b (and_first (is_word b) (list_all is_word bytes) h))
    (words_are_ascii bytes (and_second (is_word b) (list_all is_word bytes) h))

names_are_ascii : (v : Version) (names : List (List ℕ)) → formed.Each (IsName v) names → (i : ℕ) → are_ascii (unwrap_or (slice_get names i) []) ≡ true
unfolding syntax_definitions
names_are_ascii v [] h i = refl
names_are_ascii v (name ∷ names) h zero = words_are_ascii name h.0.all
names_are_ascii v (name ∷ names) h (suc i) = names_are_ascii v names h.1 i

-- ---- the first of a list that passes
first_at : {A : Type 0} (test : A → Bool) (xs : List A) (k i : ℕ) (x : A) → slice_get xs i ≡ Some x → test x ≡ true →
    ((j : ℕ) (y : A) → slice_get xs j ≡ Some y → test y ≡ true → j ≡ i) → first_from test k xs ≡ Some (k + i)
first_at test [] k i x e h only = absurd (cc)
first_at test (y ∷ xs) k zero x e h only =
    let same : y ≡ x = cc in
    let at : k ≡ k + 0 = omega arith in
    ap (λ b. if b then Some k else first_from test (suc k) xs) (ap test same ∙ h) ∙ ap Some at
first_at {A} test (y ∷ xs) k (suc i) x e h only =
    go (test y) refl (λ other. first_at test xs (suc k) i x e h (λ j z f g. let next : suc j ≡ suc i = only (suc j) z f g in omega (arith, next)))
  where
    go : (b : Bool) → test y ≡ b → ((test y ≡ false) → first_from test (suc k) xs ≡ Some (suc k + i)) → first_from test k (y ∷ xs) ≡ Some (k + suc i)
    go true t rest = let never : 0 ≡ suc i = only 0 y refl t in absurd (omega (arith, never))
    go false t rest =
        let at : suc k + i ≡ k + suc i = omega arith in
        ap (λ b. if b then Some k else first_from test (suc k) xs) t ∙ rest t ∙ ap Some at

-- ---- clients
module _ (w : s.Workload) (accepted : IsAccepted w) where
  apart : HasDistinctClients w
  apart = distinct_clients w accepted.well_formed (globals-apart w (parts Run w accepted.rules).text.names)

  name_is : (n : ℕ) (client : s.Client) → slice_get w.clients n ≡ Some client → client_name w n ≡ name_text w client.name
  name_is n client e = ap (λ o. option_map_or (λ (c : s.Client). name_text w c.name) o []) e

  first_named : (n : ℕ) (client : s.Client) → slice_get w.clients n ≡ Some client → client_called w (client_name w n) ≡ Some n
  first_named n client e =
      let test = λ (name : List ℕ) (c : s.Client). bytes_eq (name_text w c.name) name in
      ap (λ name. first_from (test name) 0 w.clients) (name_is n client e)
      ∙ first_at (test (name_text w client.name)) w.clients 0 n client e ((bytes_eq-Decides (name_text w client.name) (name_text w client.name)).1 refl)
      (λ j c f g. apart.distinct j n c client f e ((bytes_eq-Decides (name_text w c.name) (name_text w client.name)).0 g))
      ∙ ap Some (let at : 0 + n ≡ n = omega arith in at)

  name_text_utf8 : (n : ℕ) (o : Option s.Client) → slice_get w.clients n ≡ o → IsUtf8 (option_map_or (λ (c : s.Client). name_text w c.name) o [])
  unfolding print_definitions
  name_text_utf8 n None e = IsUtf8-are_ascii [] refl
  name_text_utf8 n (Some c) e =
      IsUtf8-are_ascii (name_text w c.name) (names_are_ascii accepted.well_formed.form w.names accepted.well_formed.spelled c.name.name)

  pub accepted_named : AreNamed w
  accepted_named = record {
    first = first_named;
    text = λ n. name_text_utf8 n (slice_get w.clients n) refl;
  }

-- ---- calls
natural : (z : ℤ) (n : ℕ) → pos 0 ≤ℤ z → nat_of z ≡ n → int_eq z (pos n) ≡ true
unfolding meaning_definitions
natural (pos m) n h e = grind (arith, nat_tests)
natural (negsuc m) n h e = absurd (omega (arith, ints, h))

numbered_in : (calls : List s.Call) (seq : ℕ) (call : s.Call) → numbered seq calls ≡ Some call → (0 < seq) × (seq ≤ length calls)
numbered_in calls zero call e = absurd (cc)
numbered_in calls (suc k) call e = (omega arith, let lt = slice_get_within calls k call e in omega (arith, lt))

sited_length : (c : s.Client) → length (sited_calls_of c) ≡ length c.calls
unfolding meaning_definitions
sited_length c = length-map c.calls (λ (call : s.Call). record { name = call.name; args = arguments call; site = c.site.value })

long_as : (cs : List s.Client) (i : ℕ) (c : s.Client) → slice_get cs i ≡ Some c → length c.calls ≤ length (flat_map sited_calls_of cs)
long_as [] i c e = absurd (cc)
long_as (d ∷ cs) zero c e =
    let same : length d.calls ≡ length c.calls = cc in
    let own = sited_length d in
    let both = length-append (sited_calls_of d) (flat_map sited_calls_of cs) in
    omega (arith, both, own, same)
long_as (d ∷ cs) (suc i) c e =
    let h = long_as cs i c e in
    let both = length-append (sited_calls_of d) (flat_map sited_calls_of cs) in
    omega (arith, both, h)

pub call_small : (w : s.Workload) (site : ℕ) (call : CallId) → IsAccepted w → IsCallAt w site call → IsSmallCall w site call
unfolding meaning_definitions history_definitions
call_small w site call accepted at =
    let k = known w call at.exists in
    let c : s.Client = k.client in
    let home : nat_of c.site.value ≡ site = some_is (nat_of c.site.value) site (sym (ap (option_map (λ (client : s.Client). nat_of client.site.value)) k.found) ∙ at.at_site) in
    let in_list = numbered_in c.calls call.seq k.call k.made in
    let few = few_from 20000 (λ (x : SitedCall). x.name) [] (sited_calls w) (omega arith) (limit_parts w (parts Run w accepted.rules).text.limits).calls in
    let long = long_as w.clients call.client c k.found in
    let lt = in_list.0 in
    let le = in_list.1 in
    record {
      listed =
          ap (option_and_then (call_in site call.client call.seq)) k.found
          ∙ ap (λ b. if b then Some call else None)
          (both
          (natural c.site.value site (not_negative w.clients call.client c accepted.well_formed.sites k.found) home)
          (both (lt-ltb 0 call.seq lt) (le-leb call.seq (length c.calls) le)));
      small = omega (arith, le, long, few);
    }
  where
    some_is : {X : Type 0} (x y : X) → Some x ≡ Some y → x ≡ y
    some_is x y e = cc

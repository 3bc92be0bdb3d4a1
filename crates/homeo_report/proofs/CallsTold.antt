-- The clients of calls, in order, tell the calls, where each client's calls stand in their order.
use Rattle.std.proofs.Common.{◌≡◌, ℕ, suc, ◌+◌, ◌==◌, Bool, true, false, cond, List, [], ◌∷◌, map, flat_map, Option, Some, None, slice_get, refl, sym, ap, ◌∙◌, arith}
use Rattle.std.specs.Prelude.{All, filter, slice_index_or, IfSome, option_map}
use Rattle.std.specs.Option.{option_to_list, option_map_or}
use Rattle.std.proofs.lemmas.List.Elements.{All-nil, All-cons, All-head, All-tail, All-append, All-weaker}
use Rattle.std.proofs.lemmas.Bool.Decides.{nat_tests}
use Rattle.homeo_lemmas.proofs.Lists.{cons_head, cons_tail, not_nil}
use Rattle.homeo_syntax.specs.Source as s
use Rattle.homeo_meaning.specs.Schema.{nat_of}
use Rattle.homeo_meaning.specs.declared.call.CallId.{CallId}
use Rattle.homeo_history.specs.Key.{definitions as history_definitions}
use Rattle.homeo_history.specs.History.{Entry, Closing, Round}
use Rattle.homeo_history.specs.Legal.{site_of, IsCallAt, IsAtSites, entries_of, numbers_of}
use Rattle.homeo_report.specs.Key.{definitions}
use Rattle.homeo_print.specs.Key.{definitions as print_definitions}
use Rattle.homeo_print.specs.Names.{name_text}
use Rattle.homeo_report.specs.Report.{client_text}
use Rattle.homeo_history.proofs.Choices.{flat}

-- two clients with one name are one
pub record HasDistinctClients (w : s.Workload) : Type 0 where
  pub distinct : (i j : ℕ) (c d : s.Client) → slice_get w.clients i ≡ Some c → slice_get w.clients j ≡ Some d → name_text w c.name ≡ name_text w d.name → i ≡ j

-- there is a client that the call is of
pub record IsOfClient (w : s.Workload) (id : CallId) : Type 0 where
  pub client : s.Client
  pub found : slice_get w.clients id.client ≡ Some client

-- ---- clients by their names
client_text_found : (w : s.Workload) (id : CallId) (c : s.Client) → slice_get w.clients id.client ≡ Some c → client_text w id ≡ name_text w c.name
unfolding definitions print_definitions
client_text_found w id c found = ap (λ o. option_map_or (λ (client : s.Client). name_text w client.name) o []) found

client_same : (w : s.Workload) → HasDistinctClients w → (x y : CallId) → IsOfClient w x → IsOfClient w y → client_text w x ≡ client_text w y → x.client ≡ y.client
client_same w d x y p q e =
    d.distinct x.client y.client p.client q.client p.found q.found (sym (client_text_found w x p.client p.found) ∙ e ∙ client_text_found w y q.client q.found)

-- ---- numbers
numbers_here : (c : ℕ) (x : CallId) (xs : List CallId) → x.client ≡ c → numbers_of c (x ∷ xs) ≡ x.seq ∷ numbers_of c xs
unfolding history_definitions
numbers_here c x xs e =
    let q : (x.client == c) ≡ true = grind (arith, nat_tests) in
    ap (λ b. map (λ (call : CallId). call.seq) (cond b (x ∷ filter (λ (call : CallId). call.client == c) xs) (filter (λ (call : CallId). call.client == c) xs))) q

numbers_other : (c : ℕ) (x : CallId) (xs : List CallId) → (x.client == c) ≡ false → numbers_of c (x ∷ xs) ≡ numbers_of c xs
unfolding history_definitions
numbers_other c x xs q =
    ap (λ b. map (λ (call : CallId). call.seq) (cond b (x ∷ filter (λ (call : CallId). call.client == c) xs) (filter (λ (call : CallId). call.client == c) xs))) q

pub calls_same : (w : s.Workload) → HasDistinctClients w → (xs ys : List CallId) → All (IsOfClient w) xs → All (IsOfClient w) ys → map (client_text w) xs ≡ map (client_text w) ys → ((c : ℕ) → numbers_of c xs ≡ numbers_of c ys) → xs ≡ ys
calls_same w d [] [] p q e n = refl
calls_same w d [] (y ∷ ys) p q e n = absurd (not_nil _ _ (sym e))
calls_same w d (x ∷ xs) [] p q e n = absurd (not_nil _ _ e)
calls_same w d (x ∷ xs) (y ∷ ys) p q e n =
    let text : client_text w x ≡ client_text w y = cons_head (client_text w x) (client_text w y) (map (client_text w) xs) (map (client_text w) ys) e in
    let client : x.client ≡ y.client = client_same w d x y (All-head (IsOfClient w) x xs p) (All-head (IsOfClient w) y ys q) text in
    let here : x.seq ∷ numbers_of y.client xs ≡ y.seq ∷ numbers_of y.client ys = sym (numbers_here y.client x xs client) ∙ n y.client ∙ numbers_here y.client y ys refl in
    let seq : x.seq ≡ y.seq = cons_head x.seq y.seq (numbers_of y.client xs) (numbers_of y.client ys) here in
    let rest : xs ≡ ys = calls_same w d xs ys (All-tail (IsOfClient w) x xs p) (All-tail (IsOfClient w) y ys q) (cons_tail (client_text w x) (client_text w y) (map (client_text w) xs) (map (client_text w) ys) e) (λ c. less x y xs ys client c (n c) (x.client == c) refl) in
    λ i. record { client = client i; seq = seq i } ∷ rest i
  where
    less : (x y : CallId) (xs ys : List CallId) → x.client ≡ y.client → (c : ℕ) → numbers_of c (x ∷ xs) ≡ numbers_of c (y ∷ ys) → (b : Bool) → (x.client == c) ≡ b → numbers_of c xs ≡ numbers_of c ys
    less x y xs ys client c n true t =
        let is : x.client ≡ c = grind (arith, nat_tests) in
        cons_tail x.seq y.seq (numbers_of c xs) (numbers_of c ys) (sym (numbers_here c x xs is) ∙ n ∙ numbers_here c y ys (sym client ∙ is))
    less x y xs ys client c n false t =
        sym (numbers_other c x xs t) ∙ n ∙ numbers_other c y ys (ap (λ m. m == c) (sym client) ∙ t)

-- ---- all calls of a legal history are of clients
of_client : (w : s.Workload) (id : CallId) (site : ℕ) → site_of w id ≡ Some site → IsOfClient w id
unfolding history_definitions
of_client w id site e = by (slice_get w.clients id.client) refl e
  where
    by : (o : Option s.Client) → slice_get w.clients id.client ≡ o → option_map (λ (client : s.Client). nat_of client.site.value) o ≡ Some site → IsOfClient w id
    by None found e = cc
    by (Some c) found e = record { client = c; found = found }

abbrev IsEntryOfClient : s.Workload → Entry → Type 0
IsEntryOfClient w e = IsOfClient w e.call

segments_of_clients : (w : s.Workload) (n : ℕ) (segments : List (List Entry)) → ((i : ℕ) → All (λ (e : Entry). site_of w e.call ≡ Some (n + i)) (slice_index_or segments i [])) → All (IsEntryOfClient w) (flat segments)
segments_of_clients w n [] h = All-nil (IsEntryOfClient w)
segments_of_clients w n (s ∷ segments) h =
    All-append (IsEntryOfClient w) s (flat segments)
    (All-weaker (λ (e : Entry). site_of w e.call ≡ Some (n + 0)) (IsEntryOfClient w) (λ e at. of_client w e.call (n + 0) at) s (h 0))
    (segments_of_clients w (n + 1) segments (λ i. All-weaker (λ (e : Entry). site_of w e.call ≡ Some (n + suc i)) (λ (e : Entry). site_of w e.call ≡ Some ((n + 1) + i)) (λ e at. let m : n + suc i ≡ (n + 1) + i = omega arith in at ∙ ap Some m) (slice_index_or segments i []) (h (suc i))))

round_of_clients : (w : s.Workload) (r : Round) → IsAtSites w r → All (IsEntryOfClient w) (entries_of r)
unfolding history_definitions
round_of_clients w r at =
    All-append (IsEntryOfClient w) (flat r.segments) (option_to_list (option_map (λ (c : Closing). c.entry) r.closing))
    (segments_of_clients w 0 r.segments (λ i. All-weaker (λ (e : Entry). IsCallAt w i e.call) (λ (e : Entry). site_of w e.call ≡ Some (0 + i)) (λ e at. let m : i ≡ 0 + i = omega arith in at.at_site ∙ ap Some m) (slice_index_or r.segments i []) (at.segments i)))
    (by r.closing at.closing)
  where
    by : (c : Option Closing) → IfSome c (λ (c : Closing). IsCallAt w c.site c.entry.call) → All (IsEntryOfClient w) (option_to_list (option_map (λ (c : Closing). c.entry) c))
    by None h = All-nil (IsEntryOfClient w)
    by (Some c) h = All-cons (IsEntryOfClient w) c.entry [] (of_client w c.entry.call c.site h.at_site) (All-nil (IsEntryOfClient w))

pub rounds_of_clients : (w : s.Workload) (rounds : List Round) → All (IsAtSites w) rounds → All (IsEntryOfClient w) (flat_map entries_of rounds)
rounds_of_clients w [] at = All-nil (IsEntryOfClient w)
rounds_of_clients w (r ∷ rounds) at =
    All-append (IsEntryOfClient w) (entries_of r) (flat_map entries_of rounds)
    (round_of_clients w r (All-head (IsAtSites w) r rounds at))
    (rounds_of_clients w rounds (All-tail (IsAtSites w) r rounds at))

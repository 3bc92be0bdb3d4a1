-- Calls that exist: their numbers are at most the count of their clients' calls.
use Rattle.std.proofs.Common.{◌≡◌, ℕ, zero, suc, ◌+◌, ◌<◌, ◌≤◌, List, [], ◌∷◌, map, length, get_or, eqb, Option, Some, None, refl, ap, subst, arith}
use Rattle.std.specs.Prelude.{All, IsSome, IfSome, slice_get, option_map}
use Rattle.std.specs.List.{range_with_len}
use Rattle.std.specs.Option.{option_and_then, option_map_or}
use Rattle.std.proofs.lemmas.List.FromFn.{get_or-range_with_len}
use Rattle.std.proofs.lemmas.List.Elements.{All-filter, filter_passes, All-weaker}
use Rattle.std.proofs.lemmas.Option.{slice_get_within}
use Rattle.std.proofs.lemmas.Bool.{eqb-true}
use Rattle.homeo_lemmas.proofs.Places.{place_some, All-get}
use Rattle.homeo_syntax.specs.Source as s
use Rattle.homeo_meaning.specs.Key.{definitions as meaning_definitions}
use Rattle.homeo_history.specs.Key.{definitions}
use Rattle.homeo_meaning.specs.declared.call.CallId.{CallId}
use Rattle.homeo_history.specs.History.{Entry, Closing, Round}
use Rattle.homeo_meaning.specs.Calls.{CallExists}
use Rattle.homeo_history.specs.Merge.{segment_of}
use Rattle.homeo_history.specs.Legal.{call_count, IsCallAt, IsAtSites, IsClientAt}
use Rattle.homeo_meaning.specs.Serial.{numbered}
use Rattle.homeo_history.specs.Answers.{Answer, local_answer, closing_answer, answers_of, answers_to}
use Rattle.homeo_history.proofs.Lists.{get_some}
use Rattle.homeo_history.proofs.ClientAnswers.{client_at, none_to, all_of_round, all_answers}

-- ---- clients
site_some : {X : Type 0} (f : X → ℕ) (xs : List X) (i site : ℕ) (o : Option X) → slice_get xs i ≡ o → option_map f o ≡ Some site → i < length xs
site_some f xs i site None e h = absurd (cc)
site_some f xs i site (Some x) e h = slice_get_within xs i x e

pub client_lt : (w : s.Workload) (site client : ℕ) → IsClientAt w site client → client < length w.clients
unfolding definitions
client_lt w site client at = site_some _ w.clients client site (slice_get w.clients client) refl at

pub has_site : (w : s.Workload) (client : ℕ) → client < length w.clients → (site : ℕ) × IsClientAt w site client
unfolding definitions
has_site w client lt =
    let one = get_some w.clients client lt in
    (_, ap (option_map _) one.1)

-- ---- calls
place_lt : {X : Type 0} (xs : List X) (i : ℕ) (o : Option X) → slice_get xs i ≡ o → IsSome o → i < length xs
place_lt xs i None e h = absurd (cc)
place_lt xs i (Some x) e h = slice_get_within xs i x e

number_le : (calls : List s.Call) (seq : ℕ) → IsSome (numbered seq calls) → seq ≤ length calls
number_le calls zero h = omega arith
number_le calls (suc n) h = let lt = place_lt calls n (slice_get calls n) refl h in omega arith

count_le : (o : Option s.Client) (seq : ℕ) → IsSome (option_and_then (λ (client : s.Client). numbered seq client.calls) o) → seq ≤ option_map_or (λ (client : s.Client). length client.calls) o 0
count_le None seq h = absurd (cc)
count_le (Some client) seq h = number_le client.calls seq h

seq_le : (w : s.Workload) (call : CallId) → CallExists w call → call.seq ≤ call_count w call.client
unfolding meaning_definitions definitions
seq_le w call h = count_le (slice_get w.clients call.client) call.seq h

-- ---- and each number from 1 to that count is a call's
number_some : (calls : List s.Call) (seq : ℕ) → 0 < seq → seq ≤ length calls → IsSome (numbered seq calls)
number_some calls zero lt le = let never : ⊥ = omega arith in absurd never
number_some calls (suc n) lt le = place_some calls n (omega arith)

client_some : (o : Option s.Client) (seq : ℕ) → 0 < seq → seq ≤ option_map_or (λ (client : s.Client). length client.calls) o 0 → IsSome (option_and_then (λ (client : s.Client). numbered seq client.calls) o)
client_some None seq lt le = let never : ⊥ = omega arith in absurd never
client_some (Some client) seq lt le = number_some client.calls seq lt le

pub is_call_at : (w : s.Workload) (site : ℕ) (call : CallId) → IsClientAt w site call.client → 0 < call.seq → call.seq ≤ call_count w call.client → IsCallAt w site call
unfolding definitions meaning_definitions
is_call_at w site call at lt le = record { exists = client_some (slice_get w.clients call.client) call.seq lt le; at_site = at }

-- an answer to a call that there is
pub record Exists (w : s.Workload) (a : Answer) : Type 0 where
  pub at : (site : ℕ) × IsClientAt w site a.client
  pub number : a.seq ≤ call_count w a.client

pub local_exists : (w : s.Workload) (round site : ℕ) (e : Entry) → IsCallAt w site e.call → Exists w (local_answer round site e)
unfolding definitions
local_exists w round site e at = record { at = (site, client_at w e.call site at.at_site); number = seq_le w e.call at.exists }

closing_exists : (w : s.Workload) (round : ℕ) (closing : Option Closing) → IfSome closing (λ c. IsCallAt w c.site c.entry.call) → IfSome closing (λ c. Exists w (closing_answer round c))
unfolding definitions
closing_exists w round None at = tt
closing_exists w round (Some c) at = record { at = (c.site, client_at w c.entry.call c.site at.at_site); number = seq_le w c.entry.call at.exists }

pub all_exist : (w : s.Workload) (round : ℕ) (rounds : List Round) → All (IsAtSites w) rounds → All (Exists w) (answers_of round rounds)
all_exist w round rounds all =
    all_answers (Exists w) round rounds (λ n j r e f. let at : IsAtSites w r = All-get (IsAtSites w) rounds j r all f in
    all_of_round (Exists w) n r (λ site. All-weaker (λ x. IsCallAt w site x.call) (λ x. Exists w (local_answer n site x)) (local_exists w n site) (segment_of r.segments site) (at.segments site)) (closing_exists w n r.closing at.closing))

-- no answer is to a client that there is not
pub none_to_none : (w : s.Workload) (client : ℕ) (answers : List Answer) → (client < length w.clients → ⊥) → All (Exists w) answers → answers_to client answers ≡ []
none_to_none w client answers none all =
    none_to client answers (All-weaker (Exists w) (λ a. a.client ≡ client → ⊥) (λ a x e. none (subst (λ c. c < length w.clients) e (client_lt w x.at.0 a.client x.at.1))) answers all)

pub seqs_at : (answers : List Answer) (k d : ℕ) (a : Answer) → k < length answers → get_or (map (λ x. x.seq) answers) k d ≡ (get_or answers k a).seq
seqs_at [] k d a lt = let never : ⊥ = omega arith in absurd never
seqs_at (x ∷ answers) zero d a lt = refl
seqs_at (x ∷ answers) (suc k) d a lt = seqs_at answers k d a (omega arith)

bound_of : (n : ℕ) (answers : List Answer) → map (λ a. a.seq) answers ≡ range_with_len 1 (length answers) → All (λ a. a.seq ≤ n) answers → length answers ≤ n
bound_of n [] e all = omega arith
bound_of n (a ∷ answers) e all =
    let k : ℕ = length answers in
    let last : (get_or (a ∷ answers) k a).seq ≤ n = all k a (omega arith) in
    let read : get_or (map (λ x. x.seq) (a ∷ answers)) k 0 ≡ (get_or (a ∷ answers) k a).seq = seqs_at (a ∷ answers) k 0 a (omega arith) in
    let number : get_or (range_with_len 1 (length (a ∷ answers))) k 0 ≡ 1 + k = get_or-range_with_len 1 (length (a ∷ answers)) k 0 (omega arith) in
    let same : get_or (map (λ x. x.seq) (a ∷ answers)) k 0 ≡ get_or (range_with_len 1 (length (a ∷ answers))) k 0 = ap (λ l. get_or l k 0) e in
    omega arith

-- answers to a client that are numbered 1, 2 and so on are at most as many as the client's calls
pub count_bound : (w : s.Workload) (client : ℕ) (answers : List Answer) → All (Exists w) answers → map (λ a. a.seq) (answers_to client answers) ≡ range_with_len 1 (length (answers_to client answers)) → length (answers_to client answers) ≤ call_count w client
unfolding definitions
count_bound w client answers all e =
    bound_of (call_count w client) (answers_to client answers) e (λ k d lt. subst (λ c. (get_or (answers_to client answers) k d).seq ≤ call_count w c) (eqb-true _ _ (filter_passes (λ (a : Answer). eqb a.client client) answers k d lt)) (All-filter (λ (a : Answer). eqb a.client client) (Exists w) answers all k d lt).number)

-- The answers to a client stand in its own site's segment; and what is true of all answers of rounds.
use Rattle.std.proofs.Common.{◌≡◌, ℕ, zero, suc, ◌+◌, ◌≤◌, List, [], ◌∷◌, ◌++◌, map, Bool, true, false, cond, eqb, Option, Some, None, refl, ap, subst, ◌∙◌, arith}
use Rattle.std.specs.Prelude.{All, slice_get, option_map, IfSome}
use Rattle.std.specs.Option.{option_to_list}
use Rattle.std.proofs.lemmas.List.{append-nil}
use Rattle.std.proofs.lemmas.List.Elements.{All-nil, All-cons, All-head, All-tail, All-append, All-map}
use Rattle.std.proofs.lemmas.Bool.{eqb-true}
use Rattle.homeo_syntax.specs.Source as s
use Rattle.homeo_history.specs.Key.{definitions}
use Rattle.homeo_meaning.specs.declared.call.CallId.{CallId}
use Rattle.homeo_history.specs.History.{Entry, Closing, Round}
use Rattle.homeo_history.specs.Merge.{segment_of}
use Rattle.homeo_history.specs.Legal.{site_of, IsCallAt, IsClientAt}
use Rattle.homeo_history.specs.Answers.{Answer, local_answer, closing_answer, local_answers, answers_of_round, answers_of, answers_to}
use Rattle.homeo_history.proofs.AnswerLists.{answers_to_more}

pub client_at : (w : s.Workload) (call : CallId) (site : ℕ) → site_of w call ≡ Some site → IsClientAt w site call.client
unfolding definitions
client_at w call site e = e

pub one_site : (w : s.Workload) (client i j : ℕ) → IsClientAt w i client → IsClientAt w j client → i ≡ j
unfolding definitions
one_site w client i j e f = cc

not_kept : (b : Bool) (a : Answer) (kept : List Answer) → (b ≡ true → ⊥) → kept ≡ [] → cond b (a ∷ kept) kept ≡ []
not_kept true a kept never e = absurd (never refl)
not_kept false a kept never e = e

-- where no answer is to the client
pub none_to : (client : ℕ) (answers : List Answer) → All (λ a. a.client ≡ client → ⊥) answers → answers_to client answers ≡ []
unfolding definitions
none_to client [] never = refl
none_to client (a ∷ answers) never =
    not_kept (eqb a.client client) a (answers_to client answers) (λ e. All-head (λ (x : Answer). x.client ≡ client → ⊥) a answers never (eqb-true a.client client e)) (none_to client answers (All-tail (λ (x : Answer). x.client ≡ client → ⊥) a answers never))

-- each call of these is at its site
abbrev pub AreFrom : s.Workload → ℕ → List (List Entry) → Type 0
AreFrom w k segments = (site j : ℕ) → k + j ≡ site → All (λ e. IsCallAt w site e.call) (segment_of segments j)

pub from_next : (w : s.Workload) (k : ℕ) (es : List Entry) (segments : List (List Entry)) → AreFrom w k (es ∷ segments) → AreFrom w (suc k) segments
unfolding definitions
from_next w k es segments at site j e = at site (suc j) (omega arith)

elsewhere : (w : s.Workload) (client round site : ℕ) (es : List Entry) → All (λ e. IsCallAt w site e.call) es → (IsClientAt w site client → ⊥) → answers_to client (map (local_answer round site) es) ≡ []
unfolding definitions
elsewhere w client round site [] at never = refl
elsewhere w client round site (e ∷ es) at never =
    let here : IsClientAt w site e.call.client = client_at w e.call site (All-head (λ (x : Entry). IsCallAt w site x.call) e es at).at_site in
    let rest : answers_to client (map (local_answer round site) es) ≡ [] = elsewhere w client round site es (All-tail (λ (x : Entry). IsCallAt w site x.call) e es at) never in
    not_kept (eqb e.call.client client) (local_answer round site e) (answers_to client (map (local_answer round site) es)) (λ t. never (subst (IsClientAt w site) (eqb-true e.call.client client t) here)) rest

-- from the sites from k on, where the client is at none of them
none_from : (w : s.Workload) (client round k : ℕ) (segments : List (List Entry)) → AreFrom w k segments → ((site : ℕ) → k ≤ site → IsClientAt w site client → ⊥) → answers_to client (local_answers round k segments) ≡ []
unfolding definitions
none_from w client round k [] at never = refl
none_from w client round k (es ∷ segments) at never =
    answers_to_more client (map (local_answer round k) es) (local_answers round (suc k) segments)
    ∙ ap (λ l. l ++ answers_to client (local_answers round (suc k) segments)) (elsewhere w client round k es (at k 0 (omega arith)) (never k (omega arith)))
    ∙ none_from w client round (suc k) segments (from_next w k es segments at) (λ site h. never site (omega arith))

-- those to a client stand at its own site
pub at_own_site : (w : s.Workload) (client round k i site : ℕ) (segments : List (List Entry)) → k + i ≡ site → AreFrom w k segments → IsClientAt w site client → answers_to client (local_answers round k segments) ≡ answers_to client (map (local_answer round site) (segment_of segments i))
unfolding definitions
at_own_site w client round k i site [] e at own = refl
at_own_site w client round k zero site (es ∷ segments) e at own =
    let here : k ≡ site = omega arith in
    answers_to_more client (map (local_answer round k) es) (local_answers round (suc k) segments)
    ∙ ap (λ l. answers_to client (map (local_answer round k) es) ++ l) (none_from w client round (suc k) segments (from_next w k es segments at) (λ other h there. let same = one_site w client site other own there in omega arith))
    ∙ append-nil (answers_to client (map (local_answer round k) es))
    ∙ ap (λ n. answers_to client (map (local_answer round n) es)) here
at_own_site w client round k (suc i) site (es ∷ segments) e at own =
    answers_to_more client (map (local_answer round k) es) (local_answers round (suc k) segments)
    ∙ ap (λ l. l ++ answers_to client (local_answers round (suc k) segments)) (elsewhere w client round k es (at k 0 (omega arith)) (λ there. let same = one_site w client site k own there in omega arith))
    ∙ at_own_site w client round (suc k) i site segments (omega arith) (from_next w k es segments at) own

-- ---- what is true of all answers
pub all_local : (P : Answer → Type 0) (round k : ℕ) (segments : List (List Entry)) → ((site j : ℕ) → k + j ≡ site → All (λ e. P (local_answer round site e)) (segment_of segments j)) → All P (local_answers round k segments)
unfolding definitions
all_local P round k [] h = All-nil P
all_local P round k (es ∷ segments) h =
    All-append P (map (local_answer round k) es) (local_answers round (suc k) segments) (All-map P (local_answer round k) es (h k 0 (omega arith))) (all_local P round (suc k) segments (λ site j e. h site (suc j) (omega arith)))

all_closing : (P : Answer → Type 0) (round : ℕ) (closing : Option Closing) → IfSome closing (λ c. P (closing_answer round c)) → All P (option_to_list (option_map (closing_answer round) closing))
unfolding definitions
all_closing P round None h = All-nil P
all_closing P round (Some c) h = All-cons P (closing_answer round c) [] h (All-nil P)

pub all_of_round : (P : Answer → Type 0) (round : ℕ) (r : Round) → ((site : ℕ) → All (λ e. P (local_answer round site e)) (segment_of r.segments site)) → IfSome r.closing (λ c. P (closing_answer round c)) → All P (answers_of_round round r)
unfolding definitions
all_of_round P round r h closing =
    All-append P (local_answers round 0 r.segments) _ (all_local P round 0 r.segments (λ site j e. subst (λ n. All (λ x. P (local_answer round n x)) (segment_of r.segments j)) (omega arith) (h j))) (all_closing P round r.closing closing)

pub all_answers : (P : Answer → Type 0) (round : ℕ) (rounds : List Round) → ((n j : ℕ) (r : Round) → round + j ≡ n → slice_get rounds j ≡ Some r → All P (answers_of_round n r)) → All P (answers_of round rounds)
unfolding definitions
all_answers P round [] h = All-nil P
all_answers P round (r ∷ rounds) h =
    All-append P (answers_of_round round r) (answers_of (suc round) rounds) (h round 0 r (omega arith) refl) (all_answers P (suc round) rounds (λ n j x e f. h n (suc j) x (omega arith) f))

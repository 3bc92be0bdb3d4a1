-- Sites, book and clients whose lists are found equal make a legal history, in which the answers stand.
use Rattle.homeo_history.specs.Key.{definitions as history_definitions}
use Rattle.homeo_core.specs.Key.{definitions as core_definitions}
use Rattle.homeo_assembly.specs.Key.{definitions}
use Rattle.std.proofs.Common.{◌≡◌, ℕ, zero, suc, ◌<◌, ◌≤◌, List, [], ◌∷◌, map, length, Option, Some, None, refl, sym, ap, subst, ◌∙◌, arith}
use Rattle.std.specs.Prelude.{All, slice_get, slice_index_or}
use Rattle.std.specs.List.{range_with_len}
use Rattle.std.proofs.lemmas.List.{length-map}
use Rattle.std.proofs.lemmas.Option.{slice_get_within}
use Rattle.homeo_lemmas.proofs.Places.{one_placed, get_map}
use Rattle.homeo_syntax.specs.Source as s
use Rattle.homeo_meaning.specs.Acceptance.{IsAccepted}
use Rattle.homeo_meaning.specs.Initial.{initial}
use Rattle.homeo_history.specs.Answers.{Answer, answers_of, answers_to}
use Rattle.homeo_history.specs.History.{Round}
use Rattle.homeo_history.specs.Legal.{IsClientAt, call_count, numbers_of, calls_of, IsInOrder}
use Rattle.homeo_history.proofs.Exists.{Exists, has_site, all_exist, none_to_none, count_bound}
use Rattle.homeo_history.proofs.Lists.{get_some, get_index}
use Rattle.homeo_history.proofs.Stand.{each_is}
use Rattle.homeo_core.specs.Joined.{BookState, rounds_of, history_of}
use Rattle.homeo_core.proofs.Joining.{joining}
use Rattle.homeo_core.proofs.OneAnswer.{numbers_are}
use Rattle.homeo_assembly.specs.Facts.{BookLists, BookFacts, Cell, states_of, AreMet, AreAsked}
use Rattle.homeo_assembly.specs.Laws.{IsAssembled, Assembly}
use Rattle.homeo_assembly.proofs.ClientsAtSites.{client_below}
use Rattle.homeo_assembly.proofs.MetLists.{HaveFacts}
use Rattle.homeo_assembly.proofs.MetLists as met_lists
use Rattle.homeo_assembly.proofs.NumberedAnswers.{AreNumbered}

-- ---- a place past the end of a list
past_map : {X : Type 0} (f : X → ℕ) (xs : List X) (i : ℕ) → slice_get xs i ≡ None → slice_index_or (map f xs) i 0 ≡ 0
past_map f [] i e = refl
past_map f (x ∷ xs) zero e = absurd (cc)
past_map f (x ∷ xs) (suc i) e = past_map f xs i e

none_lt : {X : Type 0} (xs : List X) (i : ℕ) → slice_get xs i ≡ None → i < length xs → ⊥
none_lt xs i e lt = let one = get_some xs i lt in let h = one.1 in cc

-- what a client was answered is all that the history answers it, numbered 1, 2 and so on
record IsWhole (client : ℕ) (rounds : List Round) (log : List Answer) : Type 0 where
  pub all : log ≡ answers_to client (answers_of 0 rounds)
  pub numbered : AreNumbered log

-- the rounds have the first calls of a client, in order, as many as count says, and it has as many
record AreCounted (w : s.Workload) (client : ℕ) (rounds : List Round) (count : ℕ) : Type 0 where
  pub exist : count ≤ call_count w client
  pub numbers : numbers_of client (calls_of rounds) ≡ range_with_len 1 count

module _ (w : s.Workload) (b : BookState) (l : BookLists) (cells : List Cell) (asked : List (List Answer))
    (accepted : IsAccepted w) (book : BookFacts w b l) (sites : HaveFacts w cells) (met : AreMet w l cells)
    (agreed : AreAsked w cells asked) where
  abbrev rounds : List Round
  rounds = rounds_of b (states_of cells)

  exist : All (Exists w) (answers_of 0 rounds)
  exist = all_exist w 0 rounds (met_lists.all_at_sites w b l cells book sites met accepted)

  log_is : (client : ℕ) (log : List Answer) → slice_get asked client ≡ Some log → IsWhole client rounds log
  log_is client log e =
      let home = has_site w client (subst (λ n. client < n) agreed.clients (slice_get_within asked client log e)) in
      let i : ℕ = home.0 in
      let own : IsClientAt w i client = home.1 in
      let cell = get_some cells i (subst (λ n. i < n) (sym met.count) (client_below w i client accepted own)) in
      let c : Cell = cell.0 in
      let same : log ≡ c.lists.done client =
      one_placed asked client log (c.lists.done client) e (agreed.done client i c own cell.1) in
      record {
        all = same ∙ met_lists.done_is w b l cells book sites met accepted client i c own cell.1;
        numbered = subst AreNumbered (sym same) (met_lists.done_numbered w b l cells book sites met client i c own cell.1);
      }

  counted :
      (client : ℕ) (o : Option (List Answer)) → slice_get asked client ≡ o →
      AreCounted w client rounds (slice_index_or (map length asked) client 0)
  counted client None e =
      let nobody : client < length w.clients → ⊥ =
      λ lt. none_lt asked client e (subst (λ n. client < n) (sym agreed.clients) lt) in
      let none : answers_to client (answers_of 0 rounds) ≡ [] = none_to_none w client (answers_of 0 rounds) nobody exist in
      let numbers : numbers_of client (calls_of rounds) ≡ [] =
      numbers_are client rounds ∙ ap (map (λ (a : Answer). a.seq)) none in
      subst (AreCounted w client rounds) (sym (past_map length asked client e))
      (record { exist = omega arith; numbers = numbers })
  counted client (Some log) e =
      let answers : List Answer = answers_to client (answers_of 0 rounds) in
      let is : IsWhole client rounds log = log_is client log e in
      let numbered : AreNumbered answers = subst AreNumbered is.all is.numbered in
      let count : slice_index_or (map length asked) client 0 ≡ length log =
      get_index (map length asked) client (length log) 0 (get_map length asked client log e) in
      subst (AreCounted w client rounds) (ap length (sym is.all) ∙ sym count)
      (record {
        exist = count_bound w client (answers_of 0 rounds) exist numbered;
        numbers = numbers_are client rounds ∙ numbered;
      })

  in_order : IsInOrder w (map length asked) (calls_of rounds)
  in_order = record {
    clients = length-map asked length ∙ agreed.clients;
    exist = λ client. (counted client (slice_get asked client) refl).exist;
    numbers = λ client. (counted client (slice_get asked client) refl).numbers;
  }

  pub is_assembled : IsAssembled w asked (history_of b (states_of cells))
  unfolding definitions history_definitions core_definitions
  is_assembled = record {
    legal =
        joining w (initial w) b (states_of cells) (map length asked) accepted (met_lists.joined w b l cells book sites met)
        in_order;
    answers = record {
      all = λ client log e. (log_is client log e).all;
      each = λ client log e. let is = log_is client log e in each_is client rounds log is.all is.numbered;
    };
  }

pub assembly : Assembly
unfolding definitions
assembly = is_assembled

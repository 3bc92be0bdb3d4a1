-- Each answer of a history is that of its call.
use Rattle.std.proofs.Common.{◌≡◌, ℕ, zero, suc, ◌+◌, ◌<◌, List, [], ◌∷◌, ◌++◌, map, length, get_or, Bool, true, false, cond, eqb, Option, Some, None, refl, sym, ap, subst, ◌∙◌, arith}
use Rattle.std.specs.Prelude.{All, IfSome, slice_get, slice_index_or, Contains, option_map}
use Rattle.std.specs.Option.{option_to_list}
use Rattle.std.specs.List.{range_with_len}
use Rattle.std.proofs.lemmas.List.{get_or_default, length-map}
use Rattle.std.proofs.lemmas.List.FromFn.{get_or-range_with_len, length-range_with_len}
use Rattle.std.proofs.lemmas.List.Elements.{All-nil, All-cons, All-weaker, All-contains, All-contains_itself, All-same, All-filter, filter_passes, Contains-get_or, Contains-append_left, Contains-append_right}
use Rattle.std.proofs.lemmas.Bool.{eq-eqb, eqb-true}
use Rattle.homeo_history.specs.Key.{definitions}
use Rattle.homeo_meaning.specs.declared.call.CallId.{CallId}
use Rattle.homeo_history.specs.History.{Entry, Closing, Round}
use Rattle.homeo_history.specs.Merge.{segment_of}
use Rattle.homeo_plan.specs.declared.treaty.Broken.{Broken}
use Rattle.homeo_history.specs.declared.answer.Path.{Path}
use Rattle.homeo_history.specs.Answers.{Answer, called, local_answer, closing_answer, local_answers, answers_of_round, answers_of, answers_to, answered_entry, IsAnswerMade, IsAnswerIn}
use Rattle.homeo_history.specs.declared.answer.Path.TheVariants.{Local, Cleanup}
use Rattle.homeo_history.proofs.ClientAnswers.{all_of_round, all_answers}
use Rattle.homeo_history.specs.Legal.{numbers_of}
use Rattle.homeo_history.specs.Laws.{AnswersStand}
use Rattle.homeo_history.proofs.AnswerLists.{called_all, numbers_called}
use Rattle.homeo_history.proofs.Exists.{seqs_at}

-- ---- where it stands
abbrev HasStood : Round → Answer → Path → Type 0
unfolding definitions
HasStood r a Local = Contains (segment_of r.segments a.site) (answered_entry a)
HasStood r a (Cleanup broken) = r.closing ≡ Some record { site = a.site; entry = answered_entry a; broken = broken }

record Stands (rounds : List Round) (a : Answer) : Type 0 where
  pub round : Round
  pub stands : slice_get rounds a.round ≡ Some round
  pub made : HasStood round a a.path

closing_is : (rounds : List Round) (n : ℕ) (r : Round) (closing : Option Closing) → r.closing ≡ closing → slice_get rounds n ≡ Some r → IfSome closing (λ c. Stands rounds (closing_answer n c))
unfolding definitions HasStood
closing_is rounds n r None e f = tt
closing_is rounds n r (Some c) e f = record { round = r; stands = f; made = e }

entry_is : (rounds : List Round) (n : ℕ) (r : Round) (site : ℕ) → slice_get rounds n ≡ Some r → (e : Entry) → Contains (segment_of r.segments site) e → Stands rounds (local_answer n site e)
unfolding definitions HasStood
entry_is rounds n r site f e there = record { round = r; stands = f; made = there }

all_stand : (rounds : List Round) → All (Stands rounds) (answers_of 0 rounds)
all_stand rounds =
    all_answers (Stands rounds) 0 rounds (λ n j r e f. let same : j ≡ n = omega arith in
    let there : slice_get rounds n ≡ Some r = subst (λ k. slice_get rounds k ≡ Some r) same f in
    all_of_round (Stands rounds) n r (λ site. All-weaker (Contains (segment_of r.segments site)) (λ x. Stands rounds (local_answer n site x)) (entry_is rounds n r site there) (segment_of r.segments site) (All-contains_itself (segment_of r.segments site))) (closing_is rounds n r r.closing refl there))

-- ---- a closing call's answer is among the answers
closing_in : (k j n : ℕ) (rounds : List Round) (r : Round) (c : Closing) → k + j ≡ n → slice_get rounds j ≡ Some r → r.closing ≡ Some c → Contains (answers_of k rounds) (closing_answer n c)
unfolding definitions
closing_in k j n [] r c e f g = absurd (cc)
closing_in k zero n (x ∷ rounds) r c e f g =
    let here : x.closing ≡ Some c = ap (λ o. unwrap_closing x o) f ∙ g in
    let same : k ≡ n = omega arith in
    let one : Contains (option_to_list (option_map (closing_answer n) x.closing)) (closing_answer n c) = subst (λ o. Contains (option_to_list (option_map (closing_answer n) o)) (closing_answer n c)) (sym here) (0, omega arith, refl) in
    subst (λ m. Contains (answers_of_round m x ++ answers_of (suc k) rounds) (closing_answer n c)) (sym same) (Contains-append_left (answers_of_round n x) (answers_of (suc k) rounds) (closing_answer n c) (Contains-append_right (local_answers n 0 x.segments) (option_to_list (option_map (closing_answer n) x.closing)) (closing_answer n c) one))
  where
    unwrap_closing : Round → Option Round → Option Closing
    unwrap_closing d None = d.closing
    unwrap_closing d (Some y) = y.closing
closing_in k (suc j) n (x ∷ rounds) r c e f g =
    Contains-append_right (answers_of_round k x) (answers_of (suc k) rounds) (closing_answer n c) (closing_in (suc k) j n rounds r c (omega arith) f g)

later : (b : Bool) (x y : Answer) (rest : List Answer) → Contains rest y → Contains (cond b (x ∷ rest) rest) y
later true x y rest h = Contains-append_right (x ∷ []) rest y h
later false x y rest h = h

head_in : (b : Bool) (x : Answer) (rest : List Answer) → b ≡ true → Contains (cond b (x ∷ rest) rest) x
head_in true x rest e = (0, omega arith, refl)
head_in false x rest e = absurd (cc)

-- an answer to a client is among the client's
in_own : (client : ℕ) (xs : List Answer) → All (λ x. x.client ≡ client → Contains (answers_to client xs) x) xs
unfolding definitions
in_own client [] = All-nil (λ (x : Answer). x.client ≡ client → Contains [] x)
in_own client (x ∷ xs) =
    All-cons (λ (y : Answer). y.client ≡ client → Contains (answers_to client (x ∷ xs)) y) x xs (λ e. head_in (eqb x.client client) x (answers_to client xs) (eq-eqb x.client client e)) (All-weaker (λ (y : Answer). y.client ≡ client → Contains (answers_to client xs) y) (λ (y : Answer). y.client ≡ client → Contains (answers_to client (x ∷ xs)) y) (λ y h e. later (eqb x.client client) x y (answers_to client xs) (h e)) xs (in_own client xs))

-- ---- among numbered answers none stands twice
one_of : (log : List Answer) → map (λ a. a.seq) log ≡ range_with_len 1 (length log) → (a b : Answer) → Contains log a → Contains log b → a.seq ≡ b.seq → a ≡ b
one_of log numbered a b here there same =
    let at : (k : ℕ) (x : Answer) → k < length log → get_or log k x ≡ x → x.seq ≡ 1 + k = λ k x lt e. ap (λ (y : Answer). y.seq) (sym e) ∙ sym (seqs_at log k 0 x lt) ∙ ap (λ xs. get_or xs k 0) numbered ∙ get_or-range_with_len 1 (length log) k 0 lt in
    let one : a.seq ≡ 1 + here.0 = at here.0 a here.1 here.2 in
    let two : b.seq ≡ 1 + there.0 = at there.0 b there.1 there.2 in
    let place : here.0 ≡ there.0 = omega arith in
    sym here.2 ∙ get_or_default log here.0 a b here.1 ∙ ap (λ k. get_or log k b) place ∙ there.2

no_other_path : (b : Broken) → Local ≡ Cleanup b → ⊥
no_other_path b e = cc

module _ (client : ℕ) (rounds : List Round) (log : List Answer) (is : log ≡ answers_to client (answers_of 0 rounds)) (numbered : map (λ a. a.seq) log ≡ range_with_len 1 (length log)) where
  not_closing : (a : Answer) (r : Round) → Contains log a → a.client ≡ client → a.path ≡ Local → slice_get rounds a.round ≡ Some r → (closing : Option Closing) → r.closing ≡ closing → IfSome closing (λ c. c.entry.call ≡ called a → ⊥)
  unfolding definitions
  not_closing a r here own path stands None e = tt
  not_closing a r here own path stands (Some c) e = never
    where
      never : c.entry.call ≡ called a → ⊥
      never h =
          let b : Answer = closing_answer a.round c in
          let in_all : Contains (answers_of 0 rounds) b = closing_in 0 a.round a.round rounds r c (omega arith) stands e in
          let caller : c.entry.call.client ≡ client = ap (λ (i : CallId). i.client) h ∙ own in
          let in_log : Contains log b = subst (λ xs. Contains xs b) (sym is) (All-contains (λ (x : Answer). x.client ≡ client → Contains (answers_to client (answers_of 0 rounds)) x) (answers_of 0 rounds) b (in_own client (answers_of 0 rounds)) in_all caller) in
          let equal : a ≡ b = one_of log numbered a b here in_log (ap (λ (i : CallId). i.seq) (sym h)) in
          no_other_path c.broken (sym path ∙ ap (λ (x : Answer). x.path) equal)

  is_answer_made : (a : Answer) (r : Round) → Contains log a → a.client ≡ client → slice_get rounds a.round ≡ Some r → (path : Path) → a.path ≡ path → HasStood r a path → IsAnswerMade r a path
  unfolding definitions HasStood
  is_answer_made a r here own stands Local e h = (h, not_closing a r here own e stands r.closing refl)
  is_answer_made a r here own stands (Cleanup broken) e h = h

  is_answer : (a : Answer) → Contains log a → a.client ≡ client → Stands rounds a → IsAnswerIn rounds a
  is_answer a here own h = record { round = h.round; stands = h.stands; made = is_answer_made a h.round here own h.stands a.path refl h.made }

  pub each_is : All (IsAnswerIn rounds) log
  unfolding definitions
  each_is =
      let to : All (λ a. a.client ≡ client) log = All-same (λ (a : Answer). a.client ≡ client) log (answers_to client (answers_of 0 rounds)) is (λ k d lt. eqb-true _ _ (filter_passes (λ (a : Answer). eqb a.client client) (answers_of 0 rounds) k d lt)) in
      let stood : All (Stands rounds) log = All-same (Stands rounds) log (answers_to client (answers_of 0 rounds)) is (All-filter _ (Stands rounds) (answers_of 0 rounds) (all_stand rounds)) in
      λ k d lt. is_answer (get_or log k d) (Contains-get_or log k d lt) (to k d lt) (stood k d lt)

-- ---- of a legal history
pub answers_stand : AnswersStand
unfolding definitions
answers_stand w start counts h client legal =
    let log : List Answer = answers_to client (answers_of 0 h.rounds) in
    let count : ℕ = slice_index_or counts client 0 in
    let numbers : map (λ (a : Answer). a.seq) log ≡ range_with_len 1 count =
    sym (numbers_called client (answers_of 0 h.rounds)) ∙ ap (numbers_of client) (called_all 0 h.rounds)
    ∙ legal.in_order.numbers client in
    let many : length log ≡ count = sym (length-map log (λ (a : Answer). a.seq)) ∙ ap length numbers ∙ length-range_with_len 1 count in
    record {
      numbers = numbers;
      each = each_is client h.rounds log refl (numbers ∙ ap (range_with_len 1) (sym many));
    }

-- The answers of rounds, to one client.
use Rattle.std.proofs.Common.{◌≡◌, ℕ, suc, ◌+◌, List, [], ◌∷◌, ◌++◌, map, length, Bool, true, false, cond, eqb, Option, Some, None, refl, sym, ap, ◌∙◌, arith, append_assoc}
use Rattle.std.specs.Prelude.{filter, option_map}
use Rattle.std.specs.List.{flat_map}
use Rattle.std.specs.Option.{option_to_list}
use Rattle.std.proofs.lemmas.List.{append-nil, map-append}
use Rattle.std.proofs.lemmas.List.Elements.{filter-append}
use Rattle.homeo_history.specs.Key.{definitions}
use Rattle.homeo_meaning.specs.declared.call.CallId.{CallId}
use Rattle.homeo_history.specs.History.{Entry, Closing, Round}
use Rattle.homeo_history.specs.Legal.{numbers_of, entries_of, calls_of}
use Rattle.homeo_history.specs.declared.answer.Path.{Path}
use Rattle.homeo_history.specs.Answers.{Answer, called, answer, local_answer, closing_answer, local_answers, answers_of_round, answers_of, answers_to}
use Rattle.homeo_history.specs.declared.answer.Path.TheVariants.{Local}

pub answers_to_more : (client : ℕ) (xs ys : List Answer) → answers_to client (xs ++ ys) ≡ answers_to client xs ++ answers_to client ys
unfolding definitions
answers_to_more client xs ys = filter-append (λ a. eqb a.client client) xs ys

-- one round more at the end
pub answers_of_end : (round : ℕ) (rounds : List Round) (r : Round) → answers_of round (rounds ++ r ∷ []) ≡ answers_of round rounds ++ answers_of_round (round + length rounds) r
unfolding definitions
answers_of_end round [] r = append-nil (answers_of_round round r) ∙ ap (λ n. answers_of_round n r) (omega arith)
answers_of_end round (x ∷ rounds) r =
    ap (λ l. answers_of_round round x ++ l) (answers_of_end (suc round) rounds r ∙ ap (λ n. answers_of (suc round) rounds ++ answers_of_round n r) (omega arith))
    ∙ sym (append_assoc (answers_of_round round x) (answers_of (suc round) rounds) (answers_of_round (round + length (x ∷ rounds)) r))

-- ---- the calls of the answers are the calls of the rounds
called_map : (round site : ℕ) (path : Path) (es : List Entry) → map called (map (answer round site path) es) ≡ map (λ e. e.call) es
unfolding definitions
called_map round site path [] = refl
called_map round site path (e ∷ es) = ap (λ l. e.call ∷ l) (called_map round site path es)

called_local : (round site : ℕ) (segments : List (List Entry)) → map called (local_answers round site segments) ≡ map (λ e. e.call) (flat_map (λ (entries : List Entry). entries) segments)
unfolding definitions
called_local round site [] = refl
called_local round site (es ∷ segments) =
    map-append called (map (local_answer round site) es) (local_answers round (suc site) segments)
    ∙ ap (λ l. map called (map (local_answer round site) es) ++ l) (called_local round (suc site) segments)
    ∙ ap (λ l. l ++ map (λ e. e.call) (flat_map (λ (entries : List Entry). entries) segments)) (called_map round site Local es)
    ∙ sym (map-append (λ (e : Entry). e.call) es (flat_map (λ (entries : List Entry). entries) segments))

called_closing : (round : ℕ) (closing : Option Closing) → map called (option_to_list (option_map (closing_answer round) closing)) ≡ map (λ e. e.call) (option_to_list (option_map (λ (c : Closing). c.entry) closing))
unfolding definitions
called_closing round None = refl
called_closing round (Some c) = refl

called_round : (round : ℕ) (r : Round) → map called (answers_of_round round r) ≡ map (λ e. e.call) (entries_of r)
unfolding definitions
called_round round r =
    map-append called (local_answers round 0 r.segments) (option_to_list (option_map (closing_answer round) r.closing))
    ∙ ap (λ l. l ++ map called (option_to_list (option_map (closing_answer round) r.closing))) (called_local round 0 r.segments)
    ∙ ap (λ l. map (λ (e : Entry). e.call) (flat_map (λ (entries : List Entry). entries) r.segments) ++ l) (called_closing round r.closing)
    ∙ sym (map-append (λ (e : Entry). e.call) (flat_map (λ (entries : List Entry). entries) r.segments) (option_to_list (option_map (λ (c : Closing). c.entry) r.closing)))

pub called_all : (round : ℕ) (rounds : List Round) → map called (answers_of round rounds) ≡ calls_of rounds
unfolding definitions
called_all round [] = refl
called_all round (r ∷ rounds) =
    map-append called (answers_of_round round r) (answers_of (suc round) rounds)
    ∙ ap (λ l. l ++ map called (answers_of (suc round) rounds)) (called_round round r)
    ∙ ap (λ l. map (λ (e : Entry). e.call) (entries_of r) ++ l) (called_all (suc round) rounds)
    ∙ sym (map-append (λ (e : Entry). e.call) (entries_of r) (flat_map entries_of rounds))

numbers_if : (b : Bool) (a : Answer) (answers : List Answer) (calls : List CallId) → map (λ (c : CallId). c.seq) calls ≡ map (λ (x : Answer). x.seq) answers → map (λ (c : CallId). c.seq) (cond b (called a ∷ calls) calls) ≡ map (λ (x : Answer). x.seq) (cond b (a ∷ answers) answers)
unfolding definitions
numbers_if true a answers calls e = ap (λ l. a.seq ∷ l) e
numbers_if false a answers calls e = e

pub numbers_called : (client : ℕ) (answers : List Answer) → numbers_of client (map called answers) ≡ map (λ a. a.seq) (answers_to client answers)
unfolding definitions
numbers_called client [] = refl
numbers_called client (a ∷ answers) =
    numbers_if (eqb a.client client) a (answers_to client answers) (filter (λ (c : CallId). eqb c.client client) (map called answers)) (numbers_called client answers)

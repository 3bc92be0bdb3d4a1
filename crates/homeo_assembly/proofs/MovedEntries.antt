-- While a round is closed, the answers to a site's entries go over to the closed ones one by one.
use Rattle.homeo_history.specs.Key.{definitions as history_definitions}
use Rattle.homeo_assembly.specs.Key.{definitions}
use Rattle.std.proofs.Common.{◌≡◌, ℕ, zero, suc, List, [], ◌∷◌, ◌++◌, map, take, Some, sym, ap, ◌∙◌, append_assoc}
use Rattle.std.specs.Prelude.{slice_get}
use Rattle.std.proofs.Math.Seq.{take-length}
use Rattle.std.proofs.lemmas.List.{append-nil}
use Rattle.homeo_history.specs.Answers.{Answer, local_answer, answers_to}
use Rattle.homeo_history.specs.History.{Entry}
use Rattle.homeo_core.proofs.OneAnswer.{one_more_entry}
use Rattle.homeo_assembly.specs.Laws.{Moving}

take_next : (es : List Entry) (k : ℕ) (e : Entry) → slice_get es k ≡ Some e → take (suc k) es ≡ take k es ++ e ∷ []
take_next [] k e h = absurd (cc)
take_next (x ∷ es) zero e h = let same : x ≡ e = cc in ap (λ y. y ∷ []) same
take_next (x ∷ es) (suc k) e h = ap (λ l. x ∷ l) (take_next es k e h)

pub moving : Moving
unfolding definitions history_definitions
moving w x l facts =
    let moved : ℕ → List Entry → List Answer = λ client es. answers_to client (map (local_answer x.round x.number) es) in
    record {
      none = λ client own. sym (append-nil (l.shut client));
      more = λ k e now later at before gives client own.
          let one : List Answer = answers_to client (local_answer x.round x.number e ∷ []) in
          gives client own
          ∙ ap (λ xs. xs ++ one) (before client own)
          ∙ append_assoc (l.shut client) (moved client (take k x.segment)) one
          ∙ ap (λ xs. l.shut client ++ xs) (sym (one_more_entry client x.round x.number (take k x.segment) e))
          ∙ ap (λ es. l.shut client ++ moved client es) (sym (take_next x.segment k e at));
      all = λ now before client own.
          before client own
          ∙ ap (λ es. l.shut client ++ moved client es) (take-length x.segment)
          ∙ sym (facts.serves client own).answered;
      closing = λ a now later done agree gives given client own.
          gives client own ∙ ap (λ xs. xs ++ answers_to client (a ∷ [])) (agree client own) ∙ sym (given client own);
    }

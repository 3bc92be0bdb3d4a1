-- Closed rounds and sites in one round, with each client's calls in order, are a legal history.
use Rattle.homeo_history.specs.Key.{definitions as history_definitions}
use Rattle.homeo_core.specs.Key.{definitions}
use Rattle.std.proofs.Common.{◌≡◌, ℕ, ◌+◌, List, ◌++◌, length, ℤ, Some, refl, ap, ◌∙◌, arith}
use Rattle.std.specs.Prelude.{All}
use Rattle.std.proofs.lemmas.List.{append-nil}
use Rattle.std.proofs.lemmas.List.Elements.{All-push}
use Rattle.homeo_syntax.specs.Source as s
use Rattle.homeo_meaning.specs.Acceptance.{IsAccepted}
use Rattle.homeo_plan.specs.Planned.{sites_of}
use Rattle.homeo_history.specs.Answers.{local_answers, answers_of_round, answers_of, answers_to}
use Rattle.homeo_history.specs.History.{Round}
use Rattle.homeo_history.specs.Legal.{IsFramed, IsAtSites, RunsTo}
use Rattle.homeo_history.specs.Replayed.{IsReplayed}
use Rattle.homeo_history.proofs.AnswerLists.{answers_to_more, answers_of_end}
use Rattle.homeo_history.proofs.Rounds.{first_is, only_last, serial_end}
use Rattle.homeo_site.specs.SiteState.{SiteState}
use Rattle.homeo_core.specs.Joined.{BookState, AreJoined, segments_of, open_round, gathered, rounds_of}
use Rattle.homeo_core.specs.Laws.{Joining}
use Rattle.homeo_core.proofs.OpenRound as open_round_facts

-- the answers to a client of closed rounds and an open one
pub with_open : (b : BookState) (sites : List SiteState) (client : ℕ) → answers_to client (answers_of 0 (rounds_of b sites)) ≡ answers_to client (answers_of 0 b.closed) ++ answers_to client (local_answers (length b.closed) 0 (segments_of sites))
unfolding definitions history_definitions
with_open b sites client =
    let number : 0 + length b.closed ≡ length b.closed = omega arith in
    ap (answers_to client) (answers_of_end 0 b.closed (open_round b.base sites))
    ∙ answers_to_more client (answers_of 0 b.closed) (answers_of_round (0 + length b.closed) (open_round b.base sites))
    ∙ ap (λ n. answers_to client (answers_of 0 b.closed) ++ answers_to client (answers_of_round n (open_round b.base sites))) number
    ∙ ap (λ xs. answers_to client (answers_of 0 b.closed) ++ answers_to client xs) (append-nil (local_answers (length b.closed) 0 (segments_of sites)))

module _ (w : s.Workload) (start : List ℤ) (b : BookState) (sites : List SiteState) (accepted : IsAccepted w) (joined : AreJoined w start b sites) where
  pub framed : IsFramed w start (rounds_of b sites)
  unfolding definitions
  framed = record {
    starts = first_is b.closed (open_round b.base sites) ∙ ap Some joined.book.starts;
    segments = All-push (λ (r : Round). length r.segments ≡ sites_of w) b.closed (open_round b.base sites) joined.book.segments (open_round_facts.count_is w start b sites accepted joined);
    closed = only_last b.closed (open_round b.base sites) joined.book.closed refl;
  }

  pub at_sites : All (IsAtSites w) (rounds_of b sites)
  unfolding definitions
  at_sites =
      All-push (IsAtSites w) b.closed (open_round b.base sites) joined.book.at_sites (record { segments = open_round_facts.calls_at w start b sites accepted joined; closing = tt })

  pub runs : RunsTo w (open_round b.base sites) (gathered b.base sites)
  unfolding definitions history_definitions
  runs = record { after = gathered b.base sites; merges = open_round_facts.merges w start b sites accepted joined; closes = refl }

pub joining : Joining
unfolding definitions
joining w start b sites counts accepted joined in_order = record {
  framed = framed w start b sites accepted joined;
  at_sites = at_sites w start b sites accepted joined;
  in_order = in_order;
  serial = serial_end w b.closed (open_round b.base sites) (gathered b.base sites) joined.book.serial (runs w start b sites accepted joined);
  replayed = All-push (IsReplayed w) b.closed (open_round b.base sites) joined.book.replayed (record { segments = open_round_facts.keeps_at w start b sites accepted joined; closing = tt });
}

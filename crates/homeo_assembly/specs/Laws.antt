-- The laws of sites and book that are known by their lists alone.
use Rattle.std.specs.Prelude.{◌≡◌, ℕ, ◌<◌, List, [], ◌∷◌, map, length, ℤ, All, Some, slice_get}
use Rattle.homeo_syntax.specs.Source as s
use Rattle.homeo_meaning.specs.Acceptance.{IsAccepted}
use Rattle.homeo_meaning.specs.Bounds.{IsWithin}
use Rattle.homeo_meaning.specs.Initial.{initial}
use Rattle.homeo_meaning.specs.Schema.{schema_of}
use Rattle.homeo_meaning.specs.declared.call.CallId.{CallId}
use Rattle.homeo_plan.specs.declared.treaty.Broken.{Broken}
use Rattle.homeo_plan.specs.Planned.{sites_of}
use Rattle.homeo_history.specs.Answers.{Answer, local_answer, closing_answer, answers_of, answers_to, IsAnswerIn}
use Rattle.homeo_history.specs.History.{Round, History}
use Rattle.homeo_history.specs.Legal.{IsCallAt, IsLegal}
use Rattle.homeo_site.specs.SiteState.{SiteState, KeepsCall, local_entry, after_local, begun, renewed}
use Rattle.homeo_core.specs.Events.{BreaksCall, closing_of, next_base, after_closing}
use Rattle.homeo_core.specs.Joined.{BookState, history_of}
use Rattle.homeo_assembly.specs.Key.{definitions}
use Rattle.homeo_assembly.specs.Facts.{SiteLists, SiteFacts, BookLists, BookFacts, Cell, states_of, AreMet, AreAsked}
use Rattle.homeo_assembly.specs.Events.{ExtendsDone, Renews, Closes, InHand, Moves, no_answers}

-- ---- the history that nobody has seen whole
-- each client's answers are all those to its calls in the rounds, and each is that of its call there
pub record AreAnswers (asked : List (List Answer)) (rounds : List Round) : Type 0 where
  pub all : (client : ℕ) (log : List Answer) → slice_get asked client ≡ Some log → log ≡ answers_to client (answers_of 0 rounds)
  pub each : (client : ℕ) (log : List Answer) → slice_get asked client ≡ Some log → All (IsAnswerIn rounds) log

-- a legal history of as many calls of each client as it got answers, in which these answers stand
pub record IsAssembled (w : s.Workload) (asked : List (List Answer)) (h : History) : Type 0 where
  pub legal : IsLegal w (map length asked) h
  pub answers : AreAnswers asked h.rounds

-- where the lists of sites, book and clients are found equal, the closed rounds and the sites make such a history
abbrev pub Assembly : Type 0
unfolding definitions
Assembly =
    (w : s.Workload) (b : BookState) (l : BookLists) (cells : List Cell) (asked : List (List Answer)) → IsAccepted w →
    BookFacts w b l → All (λ c. SiteFacts w c.site c.lists) cells → AreMet w l cells → AreAsked w cells asked →
    IsAssembled w asked (history_of b (states_of cells))

-- ---- what calls keep
-- a local call keeps what its site keeps, where the site gives its answer
abbrev pub LocalEvent : Type 0
unfolding definitions
LocalEvent =
    (w : s.Workload) (x : SiteState) (call : CallId) (l l' : SiteLists) → IsAccepted w → SiteFacts w x l →
    IsCallAt w x.number call → KeepsCall w x call →
    ExtendsDone w x (local_answer x.round x.number (local_entry w x call)) l l' → SiteFacts w (after_local w x call) l'

-- a site keeps it in the next round
abbrev pub SiteRenewal : Type 0
unfolding definitions
SiteRenewal =
    (w : s.Workload) (base : List ℤ) (x : SiteState) (a : Answer) (l l' : SiteLists) → IsAccepted w →
    IsWithin (schema_of w) base → SiteFacts w x l → Renews w base x a l l' → SiteFacts w (renewed base x) l'

-- and so do sites and book together, whose lists are then found equal again
abbrev pub CleanupEvent : Type 0
unfolding definitions
CleanupEvent =
    (w : s.Workload) (b : BookState) (l l' : BookLists) (cells cells' : List Cell) (home : ℕ) (call : CallId) (broken : Broken) →
    IsAccepted w → InHand w b l cells → BreaksCall w (states_of cells) home call broken →
    Closes w (next_base w b (states_of cells) call)
    (closing_answer (length b.closed) (closing_of w b (states_of cells) home call broken)) cells cells' l l' →
    InHand w (after_closing w b (states_of cells) home call broken) l' cells'

abbrev pub Moving : Type 0
unfolding definitions
Moving = (w : s.Workload) (x : SiteState) (l : SiteLists) → SiteFacts w x l → Moves w x l

-- ---- the start: no answer, and one base
abbrev pub SiteStart : Type 0
unfolding definitions
SiteStart =
    (w : s.Workload) (site : ℕ) → IsAccepted w → site < sites_of w →
    SiteFacts w (begun site 0 (initial w)) (record { at = initial w ∷ []; done = no_answers; shut = no_answers })

abbrev pub BookStart : Type 0
unfolding definitions
BookStart =
    (w : s.Workload) → IsAccepted w →
    BookFacts w (record { closed = []; base = initial w }) (record { bases = initial w ∷ []; kept = no_answers })

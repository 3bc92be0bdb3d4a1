-- Full histories of one workload with one report are equal.
use Rattle.std.proofs.Common.{◌≡◌, ℕ, List, [], ◌∷◌, map, length, flat_map, Some, ℤ, sym, ◌∙◌}
use Rattle.std.specs.Prelude.{All}
use Rattle.std.proofs.lemmas.List.Elements.{All-map}
use Rattle.std.proofs.lemmas.Option.{same_Some}
use Rattle.homeo_syntax.specs.Source as s
use Rattle.homeo_meaning.specs.Initial.{initial}
use Rattle.homeo_history.specs.Key.{definitions as history_definitions}
use Rattle.homeo_history.specs.Legal.{first_base, entries_of, calls_of, base_or, IsLegal, IsFull}
use Rattle.homeo_plan.specs.Planned.{sites_of}
use Rattle.homeo_history.specs.History.{Entry, Round, History}
use Rattle.homeo_report.specs.Report.{report}
use Rattle.homeo_report.proofs.Lines.{HasPlainNames}
use Rattle.homeo_report.proofs.Texts.{block}
use Rattle.homeo_history.proofs.RoundsTold.{SameRounds, rounds_same}
use Rattle.homeo_report.proofs.CallsTold.{HasDistinctClients, IsOfClient, calls_same, rounds_of_clients}
use Rattle.homeo_report.proofs.Reports.{blocks_told, shapes_told, clients_told}

base_first : (w : s.Workload) (rounds : List Round) (last : List ℤ) → first_base rounds ≡ Some (initial w) → base_or rounds last ≡ initial w
unfolding history_definitions
base_first w [] last e = cc
base_first w (r ∷ rounds) last e = same_Some r.base (initial w) e

calls_of_clients : (w : s.Workload) (counts : List ℕ) (h : History) → IsLegal w counts h → All (IsOfClient w) (calls_of h.rounds)
unfolding history_definitions
calls_of_clients w counts h legal =
    All-map (IsOfClient w) (λ (e : Entry). e.call) (flat_map entries_of h.rounds) (rounds_of_clients w h.rounds legal.at_sites)

-- legal histories of as many calls of each client
pub same_rounds :
    (w : s.Workload) → HasPlainNames w → HasDistinctClients w → (counts : List ℕ) (h g : History) → IsLegal w counts h →
    IsLegal w counts g → report w h ≡ report w g → SameRounds h.rounds g.rounds h.last g.last
unfolding history_definitions
same_rounds w names distinct counts h g p q e =
    let blocks : map (block w) h.rounds ≡ map (block w) g.rounds =
    blocks_told w names (sites_of w) h g p.framed.segments q.framed.segments e in
    let calls : calls_of h.rounds ≡ calls_of g.rounds =
    calls_same w distinct (calls_of h.rounds) (calls_of g.rounds) (calls_of_clients w counts h p) (calls_of_clients w counts g q)
    (clients_told w names h.rounds g.rounds blocks) (λ c. p.in_order.numbers c ∙ sym (q.in_order.numbers c)) in
    rounds_same w h.last g.last h.rounds g.rounds (shapes_told w h.rounds g.rounds blocks) calls
    (base_first w h.rounds h.last p.framed.starts ∙ sym (base_first w g.rounds g.last q.framed.starts))
    p.at_sites q.at_sites p.serial q.serial p.replayed q.replayed

pub one_report :
    (w : s.Workload) → HasPlainNames w → HasDistinctClients w → (h g : History) → IsFull w h → IsFull w g →
    report w h ≡ report w g → h ≡ g
unfolding history_definitions
one_report w names distinct h g p q e =
    let same = same_rounds w names distinct (map (λ (client : s.Client). length client.calls) w.clients) h g p q e in
    λ i. record { rounds = same.rounds i; last = same.last i }

-- What every full history of a load leaves and prints, and its summary.
use Rattle.std.proofs.Common.{◌≡◌, ◌≤◌, ℕ, ◌*◌, List, [], ◌∷◌, ◌++◌, flat_map, length, codes, ℤ, Some, refl, ◌∙◌, arith}
use Rattle.std.specs.Prelude.{All, sum_by}
use Rattle.std.proofs.lemmas.List.Concat.{length-flat_map}
use Rattle.std.proofs.lemmas.List.Elements.{All-weaker}
use Rattle.std.proofs.lemmas.List.Sums.{sum_by-le}
use Rattle.homeo_meaning.specs.Key.{definitions as meaning_definitions}
use Rattle.homeo_meaning.specs.Initial.{initial}
use Rattle.homeo_history.specs.Key.{definitions as history_definitions}
use Rattle.homeo_history.specs.History.{Entry, Round, History}
use Rattle.homeo_history.specs.Legal.{entries_of, first_base, base_or, IsFull}
use Rattle.homeo_print.specs.Key.{definitions as print_definitions}
use Rattle.homeo_print.specs.Names.{heading, object_names}
use Rattle.homeo_report.specs.Key.{definitions as report_definitions}
use Rattle.homeo_report.specs.Report.{object_lines}
use Rattle.homeo_report.specs.Summary.{summary}
use Rattle.homeo_load.specs.Key.{definitions}
use Rattle.homeo_load.specs.Additions.{Addition, additions}
use Rattle.homeo_load.specs.Load.{load_object_names, load_of, load_workload}
use Rattle.homeo_load.specs.Sums.{added_to}
use Rattle.homeo_load.specs.Output.{HasOutput, load_summary}
use Rattle.homeo_load.proofs.DrawnAdditions.{IsAddition, additions_fit, additions_length}
use Rattle.homeo_load.proofs.Adding.{database_of, same_database}
use Rattle.homeo_load.proofs.Dealt.{length_sum}
use Rattle.homeo_load.proofs.ByClients.{HasAllCalls, all_weights, all_counted}
use Rattle.homeo_load.proofs.Serials.{HasRoom, after, one_print}
use Rattle.homeo_load.proofs.Rounds.{calls, Adds, rounds_add}

zeros : ℕ → ℕ
zeros i = 0

starts_empty : (all : List Addition) → initial (load_of all) ≡ database_of zeros
unfolding meaning_definitions definitions zeros
starts_empty all = refl

first_is : (rounds : List Round) (last d : List ℤ) → first_base rounds ≡ Some d → base_or rounds last ≡ d
unfolding history_definitions
first_is [] last d e = cc
first_is (r ∷ rounds) last d e = cc

module _ (all : List Addition) (fits : All IsAddition all) (short : length all ≤ 20000) (h : History) (full : IsFull (load_of all) h) where
  has_calls : HasAllCalls all (calls (flat_map entries_of h.rounds))
  unfolding history_definitions
  has_calls = record { numbers = full.in_order.numbers }

  has_room : HasRoom all fits zeros (calls (flat_map entries_of h.rounds))
  unfolding zeros
  has_room i =
      let total = all_weights all (λ (a : Addition). a.number) (calls (flat_map entries_of h.rounds)) has_calls in
      let most : sum_by (λ (a : Addition). a.number) all ≤ length all * 9 = sum_by-le (λ (a : Addition). a.number) 9 all (All-weaker IsAddition (λ (a : Addition). a.number ≤ 9) (λ a f. f.most) all fits) in
      omega (arith, total, most, short)

  adds_all : Adds all fits zeros (flat_map entries_of h.rounds) h.last
  unfolding history_definitions
  adds_all = rounds_add all fits h.rounds h.last zeros (first_is h.rounds h.last (initial (load_of all)) full.framed.starts ∙ starts_empty all) full.serial has_room

  pub full_output : HasOutput all h
  unfolding history_definitions report_definitions definitions zeros
  full_output = record {
    last = adds_all.database ∙ same_database (after all fits zeros (calls (flat_map entries_of h.rounds))) (λ i. sum_by (added_to i) all) (λ i. omega (arith, all_weights all (added_to i) (calls (flat_map entries_of h.rounds)) has_calls));
    calls = all_counted all (calls (flat_map entries_of h.rounds)) has_calls;
    prints = length-flat_map (λ (e : Entry). e.prints) (flat_map entries_of h.rounds) ∙ adds_all.prints ∙ all_weights all one_print (calls (flat_map entries_of h.rounds)) has_calls ∙ length_sum all;
  }

pub load_output : (number calls : ℕ) → calls ≤ 20000 → (h : History) → IsFull (load_workload number calls) h → HasOutput (additions number calls) h
unfolding definitions
load_output number calls l h full = full_output (additions number calls) (additions_fit number calls) (omega (arith, l, additions_length number calls)) h full

-- ---- the summary
names_are : (all : List Addition) → object_names (load_of all) ≡ load_object_names
unfolding meaning_definitions print_definitions definitions
names_are all = refl

pub load_summary_is : (number calls : ℕ) → calls ≤ 20000 → (h : History) → IsFull (load_workload number calls) h → summary (load_workload number calls) h ≡ load_summary number calls
unfolding report_definitions definitions
load_summary_is number calls l h full =
    let made : HasOutput (additions number calls) h = load_output number calls l h full in
    let each : length (additions number calls) ≡ calls = additions_length number calls in
    (λ t. heading (codes "calls ") ((made.calls ∙ each) t) ++ heading (codes "prints ") ((made.prints ∙ each) t) ++ object_lines (names_are (additions number calls) t) (made.last t))

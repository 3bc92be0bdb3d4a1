-- The passes of clients that have run: they are all passes, with as many answers as there are calls.
use Rattle.std.proofs.Common.{◌≡◌, ◌∙◌, ◌<◌, ℕ, zero, suc, List, [], ◌∷◌, length, map, get_or, slice_get, Some, refl, sym, ap, subst, arith}
use Rattle.std.specs.Prelude.{All}
use Rattle.std.specs.Option.{option_map_or}
use Rattle.std.proofs.lemmas.Grind.{same_number_lists}
use Rattle.std.proofs.lemmas.List.{length-map}
use Rattle.std.proofs.lemmas.Option.{get_or_from_slice_get}
use Rattle.homeo_lemmas.proofs.Places.{get_map}
use Rattle.homeo_syntax.specs.Source as s
use Rattle.homeo_history.specs.Answers.{Answer}
use Rattle.homeo_history.specs.History.{History}
use Rattle.homeo_history.specs.Key.{definitions as history_definitions}
use Rattle.homeo_history.specs.Legal.{IsFull, IsLegal, call_count}
use Rattle.homeo_history.proofs.Lists.{get_map_back}
use Rattle.homeo_assembly.specs.Laws.{IsAssembled}
use Rattle.homeo_cluster.specs.Passes.{PassValue, AreAll, AreBegun, AreFinished, HasAllAnswers, logs_of}

abbrev client_of : PassValue → ℕ
client_of p = p.client

abbrev log_of : PassValue → List Answer
log_of p = p.log

-- how many calls each client has
calls_each : s.Workload → List ℕ
calls_each w = map (λ (c : s.Client). length c.calls) w.clients

-- passes that have run are all of them, in order
pub all_back : (w : s.Workload) (before after : List PassValue) → AreAll w before → AreFinished before after → AreAll w after
all_back w before after all done = record {
  count = sym (length-map after client_of) ∙ ap length done.same ∙ length-map before client_of ∙ all.count;
  clients = λ i p at.
      let here : slice_get (map client_of before) i ≡ Some p.client =
      ap (λ (ns : List ℕ). slice_get ns i) (sym done.same) ∙ get_map client_of after i p at in
      let was = get_map_back client_of before i p.client here in
      sym was.1.1 ∙ all.clients i was.0 was.1.0;
}

at_place : (passes : List PassValue) (k : ℕ) → k < length passes → (p : PassValue) × (slice_get passes k ≡ Some p)
at_place [] k less = absurd (omega (arith, less))
at_place (p ∷ passes) zero less = (p, refl)
at_place (p ∷ passes) (suc k) less = at_place passes k (omega (arith, less))

calls_at : (clients : List s.Client) (k : ℕ) → get_or (map (λ (c : s.Client). length c.calls) clients) k 0 ≡ option_map_or (λ (c : s.Client). length c.calls) (slice_get clients k) 0
calls_at [] k = refl
calls_at (c ∷ clients) zero = refl
calls_at (c ∷ clients) (suc k) = calls_at clients k

-- a client's pass has as many answers as the client has calls
count_at : (w : s.Workload) (passes : List PassValue) (k : ℕ) → AreAll w passes → All (HasAllAnswers w) passes → k < length passes
    → get_or (map length (logs_of passes)) k 0 ≡ get_or (calls_each w) k 0
unfolding history_definitions calls_each
count_at w passes k all answered less =
    let found = at_place passes k less in
    let p : PassValue = found.0 in
    let own : p.client ≡ k = all.clients k p found.1 in
    let read : get_or passes k p ≡ p = get_or_from_slice_get passes k p p found.1 in
    let answers : length p.log ≡ call_count w p.client = subst (HasAllAnswers w) read (answered k p less) in
    let counted : slice_get (map length (logs_of passes)) k ≡ Some (length p.log) =
    get_map length (logs_of passes) k p.log (get_map log_of passes k p found.1) in
    get_or_from_slice_get (map length (logs_of passes)) k (length p.log) 0 counted ∙ answers ∙ ap (call_count w) own ∙ sym (calls_at w.clients k)

all_counted : (w : s.Workload) (passes : List PassValue) → AreAll w passes → All (HasAllAnswers w) passes
    → map length (logs_of passes) ≡ map (λ (c : s.Client). length c.calls) w.clients
unfolding calls_each
all_counted w passes all answered =
    let logs : length (map length (logs_of passes)) ≡ length passes = length-map (logs_of passes) length ∙ length-map passes log_of in
    let calls : length (calls_each w) ≡ length w.clients = length-map w.clients (λ (c : s.Client). length c.calls) in
    same_number_lists (map length (logs_of passes)) (calls_each w) (logs ∙ all.count ∙ sym calls)
    (λ k less. count_at w passes k all answered (omega (arith, less, logs)))

-- the history in which these answers stand is full
pub full_history : (w : s.Workload) (before after : List PassValue) (h : History) → AreBegun w before → AreFinished before after
    → All (HasAllAnswers w) after → IsAssembled w (logs_of after) h → IsFull w h
unfolding history_definitions
full_history w before after h begun done answered made =
    subst (λ (counts : List ℕ). IsLegal w counts h) (all_counted w after (all_back w before after begun.all done) answered) made.legal

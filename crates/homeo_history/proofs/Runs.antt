-- Two rounds from one base with the same calls, as many at each site, have the same entries and leave one database.
use Rattle.std.proofs.Common.{◌≡◌, ℕ, List, [], ◌∷◌, ◌++◌, map, length, ℤ, length-append, refl, sym, ap, ap₂, ◌∙◌, subst, arith}
use Rattle.std.proofs.lemmas.List.{length-map}
use Rattle.homeo_lemmas.proofs.Lists.{cons_head, cons_tail, not_nil}
use Rattle.homeo_syntax.specs.Source as s
use Rattle.homeo_meaning.specs.declared.call.CallId.{CallId}
use Rattle.homeo_meaning.specs.Serial.{serial}
use Rattle.homeo_history.specs.Key.{definitions}
use Rattle.homeo_history.specs.History.{Entry, Round}
use Rattle.homeo_history.specs.Legal.{HasMerges}
use Rattle.homeo_history.proofs.Choices.{sites_from, flat, merged_flat, flat_fits}

-- ---- lists
pub cut_lengths : {A : Type 0} (a b c d : List A) → length a ≡ length b → a ++ c ≡ b ++ d → (a ≡ b) × (c ≡ d)
cut_lengths [] [] c d l e = (refl, e)
cut_lengths [] (y ∷ b) c d l e = absurd (omega arith)
cut_lengths (x ∷ a) [] c d l e = absurd (omega arith)
cut_lengths (x ∷ a) (y ∷ b) c d l e =
    let head : x ≡ y = cons_head x y (a ++ c) (b ++ d) e in
    let rest = cut_lengths a b c d (omega (arith, l)) (cons_tail x y (a ++ c) (b ++ d) e) in
    ((λ i. head i ∷ rest.0 i), rest.1)

-- how many entries each segment has
abbrev pub sizes : List (List Entry) → List ℕ
sizes segments = map length segments

pub flat_length : (ss ts : List (List Entry)) → sizes ss ≡ sizes ts → length (flat ss) ≡ length (flat ts)
flat_length [] [] e = refl
flat_length [] (t ∷ ts) e = absurd (not_nil _ _ (sym e))
flat_length (s ∷ ss) [] e = absurd (not_nil _ _ e)
flat_length (s ∷ ss) (t ∷ ts) e =
    let head : length s ≡ length t = cons_head (length s) (length t) (sizes ss) (sizes ts) e in
    let rest : length (flat ss) ≡ length (flat ts) = flat_length ss ts (cons_tail (length s) (length t) (sizes ss) (sizes ts) e) in
    omega (arith, length-append s (flat ss), length-append t (flat ts), head, rest)

flat_same : (ss ts : List (List Entry)) → sizes ss ≡ sizes ts → flat ss ≡ flat ts → ss ≡ ts
flat_same [] [] l e = refl
flat_same [] (t ∷ ts) l e = absurd (not_nil _ _ (sym l))
flat_same (s ∷ ss) [] l e = absurd (not_nil _ _ l)
flat_same (s ∷ ss) (t ∷ ts) l e =
    let here = cut_lengths s t (flat ss) (flat ts) (cons_head (length s) (length t) (sizes ss) (sizes ts) l) e in
    let rest : ss ≡ ts = flat_same ss ts (cons_tail (length s) (length t) (sizes ss) (sizes ts) l) here.1 in
    λ i. here.0 i ∷ rest i

abbrev pub call_list : List Entry → List CallId
call_list entries = map (λ e. e.call) entries

pub calls_length : (xs ys : List Entry) → length xs ≡ length ys → length (call_list xs) ≡ length (call_list ys)
calls_length xs ys e = length-map xs (λ (e : Entry). e.call) ∙ e ∙ sym (length-map ys (λ (e : Entry). e.call))

abbrev pub print_list : List Entry → List (List ℤ)
print_list entries = map (λ e. e.prints) entries

entries_same : (xs ys : List Entry) → call_list xs ≡ call_list ys → print_list xs ≡ print_list ys → xs ≡ ys
entries_same [] [] c p = refl
entries_same [] (y ∷ ys) c p = absurd (not_nil _ _ (sym c))
entries_same (x ∷ xs) [] c p = absurd (not_nil _ _ c)
entries_same (x ∷ xs) (y ∷ ys) c p =
    let call : x.call ≡ y.call = cons_head x.call y.call (call_list xs) (call_list ys) c in
    let prints : x.prints ≡ y.prints = cons_head x.prints y.prints (print_list xs) (print_list ys) p in
    let rest : xs ≡ ys = entries_same xs ys (cons_tail x.call y.call (call_list xs) (call_list ys) c) (cons_tail x.prints y.prints (print_list xs) (print_list ys) p) in
    λ i. record { call = call i; prints = prints i } ∷ rest i

-- ---- one round
module _ (w : s.Workload) (r : Round) (after : List ℤ) (m : HasMerges w r after) where
  flat_prints : (serial w r.base (call_list (flat r.segments))).logs ≡ print_list (flat r.segments)
  unfolding definitions
  flat_prints = subst (λ es. (serial w r.base (call_list es)).logs ≡ print_list es) (merged_flat r.segments) (m.prints (sites_from 0 (sizes r.segments)) (flat_fits r.segments))

  flat_after : (serial w r.base (call_list (flat r.segments))).database ≡ after
  unfolding definitions
  flat_after = subst (λ es. (serial w r.base (call_list es)).database ≡ after) (merged_flat r.segments) (m.database (sites_from 0 (sizes r.segments)) (flat_fits r.segments))

-- two rounds with one base and the same calls
pub record SameRun (r k : Round) (a b : List ℤ) : Type 0 where
  pub segments : r.segments ≡ k.segments
  pub after : a ≡ b

pub run_same : (w : s.Workload) (r k : Round) (a b : List ℤ) → HasMerges w r a → HasMerges w k b → r.base ≡ k.base → sizes r.segments ≡ sizes k.segments → call_list (flat r.segments) ≡ call_list (flat k.segments) → SameRun r k a b
run_same w r k a b m n base lengths calls =
    let run : serial w r.base (call_list (flat r.segments)) ≡ serial w k.base (call_list (flat k.segments)) = ap₂ (serial w) base calls in
    let prints : print_list (flat r.segments) ≡ print_list (flat k.segments) = sym (flat_prints w r a m) ∙ ap (λ u. u.logs) run ∙ flat_prints w k b n in
    record {
      segments = flat_same r.segments k.segments lengths (entries_same (flat r.segments) (flat k.segments) calls prints);
      after = sym (flat_after w r a m) ∙ ap (λ u. u.database) run ∙ flat_after w k b n;
    }

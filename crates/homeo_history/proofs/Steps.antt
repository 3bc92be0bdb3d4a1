-- The list of calls that a history follows, one call after another: through the segments, then the closing call.
use Rattle.homeo_history.specs.Key.{definitions}
use Rattle.std.proofs.Common.{◌≡◌, ◌≢◌, ◌⊎◌, inl, inr, ℕ, zero, suc, ◌+◌, ◌==◌, ◌<◌, ◌≤◌, nat_lt, Bool, true, false, cond, List, [], ◌∷◌, ◌++◌, length, map, take, drop, append_assoc, Option, Some, None, refl, sym, ap, ap₂, ◌∙◌, subst, true≢false, arith}
use Rattle.std.specs.Prelude.{sum, IsSome}
use Rattle.std.specs.Option.{option_map, option_to_list}
use Rattle.std.proofs.lemmas.List.Sums.{sum_by-cons}
use Rattle.std.proofs.lemmas.Bool.Decides.{nat_tests}
use Rattle.homeo_lemmas.proofs.Lists.{cons_head, cons_tail, not_nil}
use Rattle.homeo_syntax.specs.Source as s
use Rattle.homeo_meaning.specs.declared.call.CallId.{CallId}
use Rattle.homeo_history.specs.History.{Entry, Closing, Round}
use Rattle.homeo_history.specs.Merge.{segment_of, put_at, merge}
use Rattle.homeo_history.specs.Legal.{OnlyLastIsOpen}
use Rattle.homeo_history.specs.Follows.{site_or_zero, FollowsRounds}

abbrev pub Segments : Type 0
Segments = ℕ → List Entry

-- the calls go through the segments that are left, then the closing call, then the later rounds
abbrev pub StepsThrough : s.Workload → List CallId → Segments → Option Closing → List Round → Type 0
StepsThrough w [] segs closing rounds = ((i : ℕ) → segs i ≡ []) × (closing ≡ None) × (rounds ≡ [])
StepsThrough w (id ∷ calls) segs closing rounds =
    ((e : Entry) × (es : List Entry) × (segs (site_or_zero w id) ≡ e ∷ es) × (e.call ≡ id) × StepsThrough w calls (put_at segs (site_or_zero w id) es) closing rounds)
    ⊎ ((c : Closing) × (r : Round) × (rest : List Round) × ((i : ℕ) → segs i ≡ []) × (closing ≡ Some c) × (c.entry.call ≡ id) × (rounds ≡ r ∷ rest) × StepsThrough w calls (segment_of r.segments) r.closing rest)

abbrev pub StepsRounds : s.Workload → List Round → List CallId → Type 0
StepsRounds w [] calls = ⊥
StepsRounds w (r ∷ rounds) calls = StepsThrough w calls (segment_of r.segments) r.closing rounds

-- ---- how many entries the first n segments have
size : ℕ → Segments → ℕ
size zero segs = 0
size (suc n) segs = length (segs n) + size n segs

size_other : (n i : ℕ) (segs : Segments) (es : List Entry) → n ≤ i → size n (put_at segs i es) ≡ size n segs
unfolding size
size_other zero i segs es le = refl
size_other (suc n) i segs es le =
    let q : (i == n) ≡ false = grind (arith, nat_tests) in
    ap₂ ◌+◌ (ap (λ v. length (cond v es (segs n))) q) (size_other n i segs es (omega arith))

size_put : (n i : ℕ) (segs : Segments) (e : Entry) (es : List Entry) → i < n → segs i ≡ e ∷ es → size n segs ≡ suc (size n (put_at segs i es))
unfolding size
size_put zero i segs e es lt at = absurd (omega (arith, lt))
size_put (suc n) i segs e es lt at = go (i == n) refl (size_put n i segs e es)
  where
    go : (v : Bool) → (i == n) ≡ v → (i < n → segs i ≡ e ∷ es → size n segs ≡ suc (size n (put_at segs i es))) → length (segs n) + size n segs ≡ suc (length (cond v es (segs n)) + size n (put_at segs i es))
    go true q ih =
        let s : i ≡ n = grind (arith, nat_tests) in
        let here : length (segs n) ≡ suc (length es) = subst (λ m. length (segs m) ≡ suc (length es)) s (ap length at) in
        omega (arith, here, size_other n i segs es (omega (arith, s)))
    go false q ih =
        let ne : i ≢ n = grind (arith, nat_tests) in
        let less : i < n = grind (arith, nat_tests) in
        omega (arith, ih less at)

no_length : (l : List Entry) → length l ≡ 0 → l ≡ []
no_length [] e = refl
no_length (x ∷ l) e = absurd (omega (arith, e))

size_zero : (n : ℕ) (segs : Segments) → size n segs ≡ 0 → (i : ℕ) → i < n → segs i ≡ []
unfolding size
size_zero zero segs e i lt = absurd (omega (arith, lt))
size_zero (suc n) segs e i lt = go (i == n) refl (size_zero n segs (omega (arith, e)) i)
  where
    go : (v : Bool) → (i == n) ≡ v → (i < n → segs i ≡ []) → segs i ≡ []
    go true q ih =
        let s : i ≡ n = grind (arith, nat_tests) in
        subst (λ m. segs m ≡ []) (sym s) (no_length (segs n) (omega (arith, e)))
    go false q ih = ih (grind (arith, nat_tests))

size_front : (n : ℕ) (segs : Segments) → size (suc n) segs ≡ length (segs 0) + size n (λ i. segs (suc i))
unfolding size
size_front zero segs = refl
size_front (suc n) segs = omega (arith, size_front n segs)

size_is : (segments : List (List Entry)) → sum (map length segments) ≡ size (length segments) (segment_of segments)
unfolding size definitions
size_is [] = refl
size_is (l ∷ ls) =
    sum_by-cons (λ x. x) (length l) (map length ls) ∙ ap (λ n. length l + n) (size_is ls)
    ∙ sym (size_front (length ls) (segment_of (l ∷ ls)))

past : (segments : List (List Entry)) (i : ℕ) → length segments ≤ i → segment_of segments i ≡ []
unfolding definitions
past [] i le = refl
past (l ∷ ls) zero le = absurd (omega (arith, le))
past (l ∷ ls) (suc i) le = past ls i (omega (arith, le))

-- ---- through one round
few : (choice : List ℕ) (segs : Segments) → length (merge segs choice) ≤ length choice
unfolding definitions
few [] segs = omega arith
few (i ∷ choice) segs = go (segs i) (few choice)
  where
    go : (l : List Entry) → ((t : Segments) → length (merge t choice) ≤ length choice) → length (take 1 l ++ merge (put_at segs i (drop 1 l)) choice) ≤ suc (length choice)
    go [] ih = let h = ih (put_at segs i []) in omega (arith, h)
    go (e ∷ es) ih = let h = ih (put_at segs i es) in omega (arith, h)

calls_length : (es : List Entry) → length (map (λ (e : Entry). e.call) es) ≡ length es
calls_length [] = refl
calls_length (e ∷ es) = ap suc (calls_length es)

sites_length : (w : s.Workload) (calls : List CallId) → length (map (site_or_zero w) calls) ≡ length calls
sites_length w [] = refl
sites_length w (id ∷ calls) = ap suc (sites_length w calls)

through : (w : s.Workload) (closing : Option Closing) (rounds : List Round) (n : ℕ) (tail : List CallId) → ((segs : Segments) → ((i : ℕ) → segs i ≡ []) → StepsThrough w tail segs closing rounds) → (before : List CallId) (segs : Segments) → ((i : ℕ) → n ≤ i → segs i ≡ []) → length before ≡ size n segs → before ≡ map (λ (e : Entry). e.call) (merge segs (map (site_or_zero w) before)) → StepsThrough w (before ++ tail) segs closing rounds
unfolding definitions
through w closing rounds n tail then [] segs none count by = then segs empty
  where
    empty : (i : ℕ) → segs i ≡ []
    empty i = go (nat_lt i n) refl
      where
        go : (v : Bool) → nat_lt i n ≡ v → segs i ≡ []
        go true q = size_zero n segs (sym count) i (grind (arith, nat_tests))
        go false q = none i (grind (arith, nat_tests))
through w closing rounds n tail then (id ∷ before) segs none count by =
    go (segs (site_or_zero w id)) refl (through w closing rounds n tail then before)
  where
    choice : List ℕ
    choice = map (site_or_zero w) before

    go : (l : List Entry) → segs (site_or_zero w id) ≡ l
        → ((t : Segments) → ((i : ℕ) → n ≤ i → t i ≡ []) → length before ≡ size n t → before ≡ map (λ (e : Entry). e.call) (merge t choice) → StepsThrough w (before ++ tail) t closing rounds)
        → StepsThrough w (id ∷ (before ++ tail)) segs closing rounds
    go [] at ih =
        let e : id ∷ before ≡ map (λ (e : Entry). e.call) (merge (put_at segs (site_or_zero w id) []) choice) = by ∙ ap (λ l. map (λ (e : Entry). e.call) (take 1 l ++ merge (put_at segs (site_or_zero w id) (drop 1 l)) choice)) at in
        absurd (omega (arith, ap length e, calls_length (merge (put_at segs (site_or_zero w id) []) choice), few choice (put_at segs (site_or_zero w id) []), sites_length w before))
    go (x ∷ es) at ih =
        let e : id ∷ before ≡ x.call ∷ map (λ (e : Entry). e.call) (merge (put_at segs (site_or_zero w id) es) choice) = by ∙ ap (λ l. map (λ (e : Entry). e.call) (take 1 l ++ merge (put_at segs (site_or_zero w id) (drop 1 l)) choice)) at in
        let lt : site_or_zero w id < n = inside (nat_lt (site_or_zero w id) n) refl in
        inl (x, es, at, sym (cons_head _ _ _ _ e), ih (put_at segs (site_or_zero w id) es) (λ j le. still j le (site_or_zero w id == j) refl lt) (omega (arith, count, size_put n (site_or_zero w id) segs x es lt at)) (cons_tail _ _ _ _ e))
      where
        inside : (v : Bool) → nat_lt (site_or_zero w id) n ≡ v → site_or_zero w id < n
        inside true q = grind (arith, nat_tests)
        inside false q = absurd (not_nil x es (sym at ∙ none (site_or_zero w id) (grind (arith, nat_tests))))

        still : (j : ℕ) → n ≤ j → (v : Bool) → (site_or_zero w id == j) ≡ v → site_or_zero w id < n → cond v es (segs j) ≡ []
        still j le true q lt = let s : site_or_zero w id ≡ j = grind (arith, nat_tests) in absurd (omega (arith, s, lt, le))
        still j le false q lt = none j le

-- ---- through all rounds
pub to_steps : (w : s.Workload) (r : Round) (rounds : List Round) (calls : List CallId) → OnlyLastIsOpen (r ∷ rounds) → FollowsRounds w (r ∷ rounds) calls → StepsThrough w calls (segment_of r.segments) r.closing rounds
unfolding definitions
to_steps w r [] calls last (part, rest, cut, f, done) =
    let whole : calls ≡ f.before ++ [] = cut ∙ ap₂ ◌++◌ (f.cut ∙ ap (λ o. f.before ++ option_to_list (option_map (λ (c : Closing). c.entry.call) o)) last) done ∙ append_assoc f.before [] [] in
    subst (λ z. StepsThrough w z (segment_of r.segments) r.closing []) (sym whole)
    (through w r.closing [] (length r.segments) [] (λ segs empty. (empty, last, refl)) f.before (segment_of r.segments) (past r.segments) (f.whole ∙ size_is r.segments) f.by_sites)
to_steps w r (r' ∷ rounds) calls last (part, rest, cut, f, more) = go r.closing refl last.0 (to_steps w r' rounds rest last.1 more)
  where
    go : (o : Option Closing) → r.closing ≡ o → IsSome o → StepsThrough w rest (segment_of r'.segments) r'.closing rounds → StepsThrough w calls (segment_of r.segments) r.closing (r' ∷ rounds)
    go None q h ih = absurd (true≢false (sym h))
    go (Some c) q h ih =
        let whole : calls ≡ f.before ++ c.entry.call ∷ rest = cut ∙ ap (λ p. p ++ rest) (f.cut ∙ ap (λ o. f.before ++ option_to_list (option_map (λ (c : Closing). c.entry.call) o)) q) ∙ append_assoc f.before (c.entry.call ∷ []) rest in
        subst (λ z. StepsThrough w z (segment_of r.segments) r.closing (r' ∷ rounds)) (sym whole)
        (through w r.closing (r' ∷ rounds) (length r.segments) (c.entry.call ∷ rest) (λ segs empty. inr (c, r', rounds, empty, q, refl, refl, ih)) f.before (segment_of r.segments) (past r.segments) (f.whole ∙ size_is r.segments) f.by_sites)

-- Choices of sites with one number more: how often a site stands in them, and what they pick.
use Rattle.homeo_history.specs.Key.{definitions}
use Rattle.std.proofs.Common.{◌≡◌, ℕ, zero, suc, ◌+◌, ◌==◌, ◌<◌, ◌≤◌, nat_lt, Bool, true, false, cond, List, [], ◌∷◌, ◌++◌, length, map, take, drop, get_or, replicate, slice_set, count_by, Option, Some, None, refl, sym, ap, ap₂, ◌∙◌, subst, append_assoc, arith}
use Rattle.std.proofs.lemmas.List.{take_more, get_or_default, length-map, length-take-le, map-append}
use Rattle.std.proofs.lemmas.List.Sums.{sum_by_push, sum_by-take-le, count_by-le-length}
use Rattle.std.proofs.lemmas.Bool.Decides.{nat_tests}
use Rattle.homeo_meaning.specs.declared.call.CallId.{CallId}
use Rattle.homeo_history.specs.History as h
use Rattle.homeo_history.specs.HistoryView.{plain_entry, plain_segment}
use Rattle.homeo_history.specs.Merge.{segment_of, put_at, merge, interleave, FitsSegments}
use Rattle.homeo_merge.specs.Misfit.{IsMisfit}
use Rattle.homeo_merge.specs.inner.Lowest.{IsLowest}
use Rattle.homeo_merge.specs.inner.Picks.{calls_at}
use Rattle.homeo_history.specs.declared.history.Entry.{Entry}
use Rattle.homeo_history.specs.declared.history.Segment.{Segment}
use Rattle.homeo_history.proofs.Counts.{count_same, count_other}
use Rattle.homeo_history.proofs.Lists.{index_set_same, index_set_other}

-- ---- counts with one number more
abbrev times : ℕ → List ℕ → ℕ
times i choice = count_by (λ j. i == j) choice

push : (i n : ℕ) (choice : List ℕ) → times i (choice ++ n ∷ []) ≡ times i choice + cond (i == n) 1 0
push i n choice = sum_by_push (λ j. cond (i == j) 1 0) choice n

push_same : (n : ℕ) (choice : List ℕ) → times n (choice ++ n ∷ []) ≡ times n choice + 1
push_same n choice =
    let q : (n == n) ≡ true = grind (arith, nat_tests) in
    push n n choice ∙ ap (λ v. let one : ℕ = cond v 1 0 in times n choice + one) q

push_other : (i n : ℕ) (choice : List ℕ) → (i ≡ n → ⊥) → times i (choice ++ n ∷ []) ≡ times i choice
push_other i n choice ne =
    let q : (i == n) ≡ false = grind (arith, nat_tests) in
    push i n choice ∙ ap (λ v. let one : ℕ = cond v 1 0 in times i choice + one) q ∙ omega arith

-- ---- the lowest number past the last site
pub lowest_below :
    (sites n : ℕ) (choice : List ℕ) (o : Option ℕ) → n < sites → IsLowest sites choice o → IsLowest sites (choice ++ n ∷ []) o
unfolding definitions
lowest_below sites n choice None lt low = λ i le. push_other i n choice (λ e. absurd (omega arith)) ∙ low i le
lowest_below sites n choice (Some m) lt low = (
  low.0,
  subst (λ k. 1 ≤ k) (sym (push_other m n choice (λ e. absurd (omega (arith, low.0))))) low.1,
  λ i le less. push_other i n choice (λ e. absurd (omega arith)) ∙ low.2 i le less,
)

pub lowest_kept :
    (sites n m : ℕ) (choice : List ℕ) → m ≤ n → IsLowest sites choice (Some m) → IsLowest sites (choice ++ n ∷ []) (Some m)
unfolding definitions
lowest_kept sites n m choice le low = (
  low.0,
  omega (arith, low.1, push m n choice),
  λ i at less. push_other i n choice (λ e. absurd (omega arith)) ∙ low.2 i at less,
)

pub lowest_first :
    (sites n : ℕ) (choice : List ℕ) → sites ≤ n → IsLowest sites choice None → IsLowest sites (choice ++ n ∷ []) (Some n)
unfolding definitions
lowest_first sites n choice le low = (
  le,
  omega (arith, push_same n choice),
  λ i at less. push_other i n choice (λ e. absurd (omega arith)) ∙ low i at,
)

pub lowest_lower :
    (sites n m : ℕ) (choice : List ℕ) → sites ≤ n → n < m → IsLowest sites choice (Some m) →
    IsLowest sites (choice ++ n ∷ []) (Some n)
unfolding definitions
lowest_lower sites n m choice le lt low = (
  le,
  omega (arith, push_same n choice),
  λ i at less. push_other i n choice (λ e. absurd (omega arith)) ∙ low.2 i at (omega arith),
)

-- ---- segments of views
pub segment_long :
    (segments : List Segment) (i : ℕ) (s : Segment) → i < length segments → s ≡ get_or segments i s →
    segment_of (map plain_segment segments) i ≡ map plain_entry s.entries.items
unfolding definitions
segment_long [] i s lt is = absurd (omega arith)
segment_long (x ∷ segments) zero s lt is = ap (λ (y : Segment). map plain_entry y.entries.items) (sym is)
segment_long (x ∷ segments) (suc i) s lt is = segment_long segments i s (omega arith) is

pub long_there :
    (segments : List Segment) (i : ℕ) (s : Segment) → i < length segments → s ≡ get_or segments i s →
    length (segment_of (map plain_segment segments) i) ≡ length s.entries.items
long_there segments i s lt is = ap length (segment_long segments i s lt is) ∙ length-map s.entries.items plain_entry

pub segment_past : (segments : List Segment) (i : ℕ) → length segments ≤ i → segment_of (map plain_segment segments) i ≡ []
unfolding definitions
segment_past [] i le = refl
segment_past (x ∷ segments) zero le = absurd (omega arith)
segment_past (x ∷ segments) (suc i) le = segment_past segments i (omega arith)

-- ---- what one number more picks
first_of : (es : List h.Entry) (n : ℕ) (e : h.Entry) → n < length es → take 1 (drop n es) ≡ get_or es n e ∷ []
first_of [] n e lt = absurd (omega arith)
first_of (x ∷ es) zero e lt = refl
first_of (x ∷ es) (suc n) e lt = first_of es n e (omega arith)

drop_next : (n : ℕ) (es : List h.Entry) → drop n (drop 1 es) ≡ drop (suc n) es
drop_next zero [] = refl
drop_next (suc n) [] = refl
drop_next n (x ∷ es) = refl

merge_push :
    (f : ℕ → List h.Entry) (choice : List ℕ) (i : ℕ) →
    merge f (choice ++ i ∷ []) ≡ merge f choice ++ take 1 (drop (times i choice) (f i))
unfolding definitions
merge_push f [] i = go (f i)
  where
    go : (es : List h.Entry) → take 1 es ++ [] ≡ take 1 es
    go [] = refl
    go (e ∷ es) = refl
merge_push f (j ∷ choice) i =
    let rest : ℕ → List h.Entry = put_at f j (drop 1 (f j)) in
    ap (λ l. take 1 (f j) ++ l) (merge_push rest choice i ∙ ap (λ l. merge rest choice ++ take 1 l) (left (j == i) refl))
    ∙ sym (append_assoc (take 1 (f j)) (merge rest choice) (take 1 (drop (times i (j ∷ choice)) (f i))))
  where
    left : (v : Bool) → (j == i) ≡ v → drop (times i choice) (cond v (drop 1 (f j)) (f i)) ≡ drop (times i (j ∷ choice)) (f i)
    left true q =
        let same : j ≡ i = grind (arith, nat_tests) in
        ap (λ k. drop (times i choice) (drop 1 (f k))) same
        ∙ drop_next (times i choice) (f i)
        ∙ ap (λ k. drop k (f i)) (sym (subst (λ k. times i (k ∷ choice) ≡ suc (times i choice)) (sym same) (count_same i choice)))
    left false q =
        let ne : j ≡ i → ⊥ = grind (arith, nat_tests) in
        ap (λ k. drop k (f i)) (sym (count_other j i choice ne))

pub place_within :
    (segments : List Segment) (site place : ℕ) (s : Segment) (entries : List Entry) → site < length segments →
    s ≡ get_or segments site s → place < length (segment_of (map plain_segment segments) site) → entries ≡ s.entries.items →
    place < length entries
place_within segments site place s entries lt is within e =
    omega (arith, within, long_there segments site s lt is, ap length e)

pub call_there :
    (segments : List Segment) (site place : ℕ) (s : Segment) (e : Entry) → site < length segments → s ≡ get_or segments site s →
    place < length s.entries.items → e ≡ get_or s.entries.items place e →
    calls_at (map plain_segment segments) site place ≡ e.call ∷ []
unfolding definitions
call_there segments site place s e lt is within there =
    ap (λ es. map (λ (x : h.Entry). x.call) (take 1 (drop place es))) (segment_long segments site s lt is) ∙ go s.entries.items place within there
  where
    go : (es : List Entry) (n : ℕ) → n < length es → e ≡ get_or es n e → map (λ (x : h.Entry). x.call) (take 1 (drop n (map plain_entry es))) ≡ e.call ∷ []
    go [] n lt here = absurd (omega arith)
    go (x ∷ es) zero lt here = ap (λ (y : Entry). y.call ∷ []) (sym here)
    go (x ∷ es) (suc n) lt here = go es n (omega arith) here

-- the calls so far and one more
pub picks_more :
    (segments : List (List h.Entry)) (choice : List ℕ) (k next : ℕ) (call : CallId) (calls : List CallId) → k < length choice →
    calls ≡ interleave segments (take k choice) → next ≡ times (get_or choice k 0) (take k choice) →
    calls_at segments (get_or choice k 0) next ≡ call ∷ [] → calls ++ call ∷ [] ≡ interleave segments (take (k + 1) choice)
unfolding definitions
picks_more segments choice k next call calls lt so_far count there =
    let site : ℕ = get_or choice k 0 in
    let before : List ℕ = take k choice in
    ap₂ (λ xs ys. xs ++ ys) so_far (sym there ∙ ap (calls_at segments site) count)
    ∙ sym (map-append (λ (x : h.Entry). x.call) (merge (segment_of segments) before) (take 1 (drop (times site before) (segment_of segments site))))
    ∙ ap (map (λ (x : h.Entry). x.call)) (sym (merge_push (segment_of segments) before site))
    ∙ ap (interleave segments) (sym (take_more choice k 0 lt))

pub taken_so_far :
    (n : ℕ) (choice : List ℕ) (k : ℕ) (taken : List ℕ) (next : ℕ) → length taken ≡ n →
    ((i : ℕ) → i < n → get_or taken i 0 ≡ times i (take k choice)) → next ≡ get_or taken (get_or choice k 0) next →
    get_or choice k 0 < n → next ≡ times (get_or choice k 0) (take k choice)
taken_so_far n choice k taken next long counts is within =
    is ∙ get_or_default taken (get_or choice k 0) next 0 (omega (arith, within, long)) ∙ counts (get_or choice k 0) within

-- the counts so far and one more
pub counts_more :
    (n : ℕ) (choice : List ℕ) (k : ℕ) (taken : List ℕ) (next : ℕ) → k < length choice → length taken ≡ n →
    ((i : ℕ) → i < n → get_or taken i 0 ≡ times i (take k choice)) → next ≡ times (get_or choice k 0) (take k choice) →
    get_or choice k 0 < n → (i : ℕ) → i < n → get_or (slice_set taken (get_or choice k 0) (next + 1)) i 0 ≡ times i (take (k + 1) choice)
counts_more n choice k taken next lt long counts is within i inside = go (i == get_or choice k 0) refl
  where
    site : ℕ
    site = get_or choice k 0

    go : (v : Bool) → (i == site) ≡ v → get_or (slice_set taken site (next + 1)) i 0 ≡ times i (take (k + 1) choice)
    go true q =
        let same : i ≡ site = grind (arith, nat_tests) in
        subst (λ j. get_or (slice_set taken site (next + 1)) j 0 ≡ times j (take (k + 1) choice)) (sym same)
        (index_set_same taken site (next + 1) 0 (omega arith) ∙ ap (λ m. m + 1) is
        ∙ sym (push_same site (take k choice)) ∙ ap (times site) (sym (take_more choice k 0 lt)))
    go false q =
        let ne : i ≡ site → ⊥ = grind (arith, nat_tests) in
        index_set_other taken site i (next + 1) 0 ne ∙ counts i inside
        ∙ sym (push_other i site (take k choice) ne) ∙ ap (times i) (sym (take_more choice k 0 lt))

pub zeros_at : (n i : ℕ) → let zeros : List ℕ = replicate n 0 in get_or zeros i 0 ≡ 0
zeros_at zero i = refl
zeros_at (suc n) zero = refl
zeros_at (suc n) (suc i) = zeros_at n i

-- ---- choices that don't fit
-- a site is chosen another number of times than its segment is long
pub misfit_within :
    (segments : List Segment) (choice : List ℕ) (site chosen long : ℕ) (s : Segment) → site < length segments →
    s ≡ get_or segments site s → chosen ≡ times site choice → long ≡ length s.entries.items → (chosen ≡ long → ⊥) →
    ((i : ℕ) → i < site → times i choice ≡ length (segment_of (map plain_segment segments) i)) →
    IsMisfit (map plain_segment segments) choice site chosen long
misfit_within segments choice site chosen long s lt is count size differ lower =
    record { times = count; entries = size ∙ sym (long_there segments site s lt is); differ = differ; lowest = lower }

pub misfit_past :
    (segments : List Segment) (choice : List ℕ) (site chosen : ℕ) → IsLowest (length segments) choice (Some site) →
    chosen ≡ times site choice →
    ((i : ℕ) → i < length segments → times i choice ≡ length (segment_of (map plain_segment segments) i)) →
    IsMisfit (map plain_segment segments) choice site chosen 0
unfolding definitions
misfit_past segments choice site chosen low count lower =
    record {
      times = count;
      entries = sym (ap length (segment_past segments site low.0));
      differ = λ e. absurd (omega (arith, e, count, low.1));
      lowest = λ i lt. at i lt (nat_lt i (length segments)) refl;
    }
  where
    at : (i : ℕ) → i < site → (v : Bool) → nat_lt i (length segments) ≡ v → times i choice ≡ length (segment_of (map plain_segment segments) i)
    at i lt true q = lower i (grind (arith, nat_tests))
    at i lt false q =
        let le : length segments ≤ i = grind (arith, nat_tests) in
        low.2 i le lt ∙ sym (ap length (segment_past segments i le))

pub all_fit :
    (segments : List Segment) (choice : List ℕ) → IsLowest (length segments) choice None →
    ((i : ℕ) → i < length segments → times i choice ≡ length (segment_of (map plain_segment segments) i)) →
    FitsSegments (map plain_segment segments) choice
unfolding definitions
all_fit segments choice low lower site = at (nat_lt site (length segments)) refl
  where
    at : (v : Bool) → nat_lt site (length segments) ≡ v → times site choice ≡ length (segment_of (map plain_segment segments) site)
    at true q = lower site (grind (arith, nat_tests))
    at false q =
        let le : length segments ≤ site = grind (arith, nat_tests) in
        low site le ∙ sym (ap length (segment_past segments site le))

pub lower_more :
    (segments : List Segment) (choice : List ℕ) (site : ℕ) (s : Segment) → site < length segments → s ≡ get_or segments site s →
    times site choice ≡ length s.entries.items →
    ((i : ℕ) → i < site → times i choice ≡ length (segment_of (map plain_segment segments) i)) →
    (i : ℕ) → i < site + 1 → times i choice ≡ length (segment_of (map plain_segment segments) i)
lower_more segments choice site s lt is count lower i less = at (nat_lt i site) refl
  where
    at : (v : Bool) → nat_lt i site ≡ v → times i choice ≡ length (segment_of (map plain_segment segments) i)
    at true q = lower i (grind (arith, nat_tests))
    at false q =
        let low : site ≤ i = grind (arith, nat_tests) in
        let same : site ≡ i = omega arith in
        subst (λ j. times j choice ≡ length (segment_of (map plain_segment segments) j)) same
        (count ∙ sym (long_there segments site s lt is))

-- ---- choices that fit
module _ (segments : List Segment) (choice : List ℕ) (fits : FitsSegments (map plain_segment segments) choice) (k : ℕ) (lt : k < length choice) where
  abbrev site : ℕ
  site = get_or choice k 0

  -- the site has an entry that isn't picked yet
  pub one_left : times site (take k choice) < length (segment_of (map plain_segment segments) site)
  unfolding definitions
  one_left =
      let q : (site == site) ≡ true = grind (arith, nat_tests) in
      let more : times site (take (k + 1) choice) ≡ times site (take k choice) + 1 =
      ap (times site) (take_more choice k 0 lt) ∙ push_same site (take k choice) in
      omega (arith, more, sum_by-take-le (λ j. cond (site == j) 1 0) choice (k + 1), fits site)

  pub few_picked : times site (take k choice) ≤ k
  few_picked = omega (arith, count_by-le-length (λ j. site == j) (take k choice), length-take-le k choice)

  pub site_within : site < length segments
  unfolding definitions
  site_within = go (nat_lt site (length segments)) refl
    where
      go : (v : Bool) → nat_lt site (length segments) ≡ v → site < length segments
      go true q = grind (arith, nat_tests)
      go false q =
          let past : length segments ≤ site = grind (arith, nat_tests) in
          absurd (omega (arith, one_left, ap length (segment_past segments site past)))

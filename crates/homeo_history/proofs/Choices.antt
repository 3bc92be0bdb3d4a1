-- A choice that takes the sites one after another, each as often as its segment is long.
use Rattle.std.proofs.Common.{◌≡◌, ◌≢◌, ℕ, zero, suc, ◌+◌, ◌<◌, ◌==◌, true, false, cond, List, [], ◌∷◌, ◌++◌, map, length, replicate, take, drop, flat_map, count_by, slice_index_or, refl, sym, ap, ◌∙◌, arith}
use Rattle.std.proofs.lemmas.Bool.Decides.{nat_tests}
use Rattle.homeo_history.specs.Key.{definitions}
use Rattle.homeo_history.specs.History.{Entry}
use Rattle.homeo_history.specs.Merge.{segment_of, put_at, merge, merged, FitsSegments}
use Rattle.homeo_history.proofs.Counts.{count_same, count_other}

-- site k as often as the first number says, and so on with the next site
abbrev pub sites_from : ℕ → List ℕ → List ℕ
sites_from k [] = []
sites_from k (n ∷ sizes) = replicate n k ++ sites_from (k + 1) sizes

abbrev pub flat : List (List Entry) → List Entry
flat segments = flat_map (λ entries. entries) segments

-- ---- what it picks
put_same : {X : Type 0} (f : ℕ → X) (i : ℕ) (v : X) → put_at f i v i ≡ v
put_same f i v =
    let q : (i == i) ≡ true = grind (arith, nat_tests) in
    ap (λ b. cond b v (f i)) q

put_other : {X : Type 0} (f : ℕ → X) (i : ℕ) (v : X) (j : ℕ) → i < j → put_at f i v j ≡ f j
put_other f i v j l =
    let q : (i == j) ≡ false = grind (arith, nat_tests) in
    ap (λ b. cond b v (f j)) q

merge_site : (site : ℕ) (s : List Entry) (f : ℕ → List Entry) (rest : List ℕ) (out : List Entry) → f site ≡ s
    → ((g : ℕ → List Entry) → ((j : ℕ) → site < j → g j ≡ f j) → merge g rest ≡ out)
    → merge f (replicate (length s) site ++ rest) ≡ s ++ out
unfolding definitions
merge_site site [] f rest out at after = after f (λ j l. refl)
merge_site site (e ∷ s) f rest out at after =
    let more : List ℕ = replicate (length s) site ++ rest in
    ap (λ v. take 1 v ++ merge (put_at f site (drop 1 v)) more) at
    ∙ ap (λ l. e ∷ l) (merge_site site s (put_at f site s) rest out (put_same f site s) (λ g same. after g (λ j l. same j l ∙ put_other f site s j l)))

merge_all : (segments : List (List Entry)) (k : ℕ) (f : ℕ → List Entry) → ((i : ℕ) → f (k + i) ≡ slice_index_or segments i []) → merge f (sites_from k (map length segments)) ≡ flat segments
unfolding definitions
merge_all [] k f at = refl
merge_all (s ∷ segments) k f at =
    let first : k + 0 ≡ k = omega arith in
    merge_site k s f (sites_from (k + 1) (map length segments)) (flat segments) (sym (ap f first) ∙ at 0)
    (λ g same. merge_all segments (k + 1) g (λ i.
    let next : (k + 1) + i ≡ k + suc i = omega arith in
    same ((k + 1) + i) (omega arith) ∙ ap f next ∙ at (suc i)))

-- it picks all entries, site after site
pub merged_flat : (segments : List (List Entry)) → merged segments (sites_from 0 (map length segments)) ≡ flat segments
unfolding definitions
merged_flat segments = merge_all segments 0 (segment_of segments) (λ i. let e : 0 + i ≡ i = omega arith in ap (segment_of segments) e)

-- ---- that it fits
count_all : (i n : ℕ) (choice : List ℕ) → count_by (λ j. i == j) (replicate n i ++ choice) ≡ n + count_by (λ j. i == j) choice
count_all i zero choice = omega arith
count_all i (suc n) choice = omega (arith, count_same i (replicate n i ++ choice), count_all i n choice)

count_none : (i j n : ℕ) (choice : List ℕ) → i ≢ j → count_by (λ m. j == m) (replicate n i ++ choice) ≡ count_by (λ m. j == m) choice
count_none i j zero choice ne = refl
count_none i j (suc n) choice ne = count_other i j (replicate n i ++ choice) ne ∙ count_none i j n choice ne

count_below : (k site : ℕ) (sizes : List ℕ) → site < k → count_by (λ i. site == i) (sites_from k sizes) ≡ 0
count_below k site [] l = refl
count_below k site (n ∷ sizes) l =
    let ne : k ≢ site = λ e. omega (arith, e, l) in
    count_none k site n (sites_from (k + 1) sizes) ne ∙ count_below (k + 1) site sizes (omega arith)

count_at : (segments : List (List Entry)) (k i : ℕ) → count_by (λ j. (k + i) == j) (sites_from k (map length segments)) ≡ length (slice_index_or segments i [])
count_at [] k i = refl
count_at (s ∷ segments) k zero =
    let first : k + 0 ≡ k = omega arith in
    let rest : List ℕ = sites_from (k + 1) (map length segments) in
    ap (λ m. count_by (λ j. m == j) (replicate (length s) k ++ rest)) first ∙ omega (arith, count_all k (length s) rest, count_below (k + 1) k (map length segments) (omega arith))
count_at (s ∷ segments) k (suc i) =
    let next : k + suc i ≡ (k + 1) + i = omega arith in
    let rest : List ℕ = sites_from (k + 1) (map length segments) in
    let ne : k ≢ (k + 1) + i = λ e. omega (arith, e) in
    ap (λ m. count_by (λ j. m == j) (replicate (length s) k ++ rest)) next ∙ count_none k ((k + 1) + i) (length s) rest ne ∙ count_at segments (k + 1) i

pub flat_fits : (segments : List (List Entry)) → FitsSegments segments (sites_from 0 (map length segments))
unfolding definitions
flat_fits segments site =
    let e : 0 + site ≡ site = omega arith in
    ap (λ m. count_by (λ j. m == j) (sites_from 0 (map length segments))) (sym e) ∙ count_at segments 0 site

pub some_choice : List (List Entry) → List ℕ
some_choice segments = sites_from 0 (map length segments)

pub some_choice_fits : (segments : List (List Entry)) → FitsSegments segments (some_choice segments)
unfolding some_choice
some_choice_fits segments = flat_fits segments

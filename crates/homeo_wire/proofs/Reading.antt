-- The history that stands in the nodes is that of the closed rounds and the sites.
use Rattle.homeo_history.specs.Key.{definitions as history_definitions}
use Rattle.homeo_site.specs.Key.{definitions as site_definitions}
use Rattle.homeo_round.specs.Key.{definitions as round_definitions}
use Rattle.homeo_core.specs.Key.{definitions as core_definitions}
use Rattle.homeo_wire.specs.Key.{definitions}
use Rattle.std.proofs.Common.{inl, inr, ◌≡◌, ℕ, zero, suc, ◌+◌, ◌<◌, ◌≤◌, List, [], ◌∷◌, ◌++◌, map, length, replicate, take, Bool, true, false, cond, eqb, ℤ, pos, ◌+ℤ◌, Some, None, refl, sym, ap, subst, ◌∙◌, arith, slice_index_or}
use Rattle.std.specs.Prelude.{slice_get, ◌==◌, find, filter, ◌⊎◌}
use Rattle.std.specs.List.{range_with_len}
use Rattle.std.specs.Option.{option_map_or}
use Rattle.std.proofs.lemmas.Int.{ints}
use Rattle.std.proofs.lemmas.List.{append-nil, length-map, length_push, map-append, take-map}
use Rattle.std.proofs.lemmas.Option.{slice_get_past, slice_get_within}
use Rattle.std.proofs.lemmas.Simd.{map-map}
use Rattle.std.proofs.lemmas.Bool.{cases_eq, eq-eqb, ne_eqb, eqb-true, cond-true, cond-false}
use Rattle.std.proofs.lemmas.List.FromFn.{length-range_with_len}
use mathlib.Core.Logic.{⊎_elim}
use Rattle.homeo_lemmas.proofs.Places.{get_take, All-get, get_left, get_map, same_list}
use Rattle.homeo_syntax.specs.Source as s
use Rattle.homeo_plan.specs.Planned.{sites_of}
use Rattle.homeo_history.specs.History.{Entry, Round}
use Rattle.homeo_history.specs.Legal.{calls_of, numbers_of}
use Rattle.homeo_history.specs.Merge.{segment_of}
use Rattle.homeo_history.proofs.Lists.{get_index, get_past, get_some, get_end, get_map_back}
use Rattle.homeo_site.specs.SiteState.{SiteState}
use Rattle.homeo_round.specs.PlusDeltas.{plus_deltas}
use Rattle.homeo_core.specs.Joined.{BookState, segments_of, gathered, rounds_of}
use Rattle.homeo_core.specs.Joined as core
use Rattle.homeo_core.specs.Events.{closing_on}
use Rattle.homeo_wire.specs.Nodes.{Packet, Left, Journal, folded}
use Rattle.homeo_wire.specs.Read.{last_round, ran_in, rounds_left, history_by, history_of, counts_in}
use Rattle.homeo_wire.proofs.Courses.{Turn, caught_up, site_then, sites_then, up_here, up_behind, AreLeft, left_long, left_at, JournalHolds, Course}
use Rattle.homeo_wire.proofs.Places.{map_same}
use Rattle.homeo_wire.proofs.Starting.{range_at}

-- ---- a node in the last round
pub record Found {X : Type 0} (test : X → Bool) (xs : List X) : Type 0 where
  pub item : X
  pub place : ℕ
  pub is : find test xs ≡ Some item
  pub here : slice_get xs place ≡ Some item
  pub passes : test item ≡ true

module _ {X : Type 0} (test : X → Bool) where
  found_later : (x : X) (xs : List X) → (t : Bool) → test x ≡ t → (t ≡ false → Found test xs) → Found test (x ∷ xs)
  found_later x xs true e rest = record { item = x; place = 0; is = cond-true (test x) (Some x) (find test xs) e; here = refl; passes = e }
  found_later x xs false e rest =
      let r = rest refl in
      record { item = r.item; place = suc r.place; is = cond-false (test x) (Some x) (find test xs) e ∙ r.is; here = r.here; passes = r.passes }

  pub found : (xs : List X) (i : ℕ) (x : X) → slice_get xs i ≡ Some x → test x ≡ true → Found test xs
  found [] i x e passes = absurd (cc)
  found (y ∷ xs) zero x e passes =
      let same : x ≡ y = cc in
      found_later y xs (test y) refl (λ f. absurd (let h : test y ≡ true = ap test (sym same) ∙ passes in cc))
  found (y ∷ xs) (suc i) x e passes = found_later y xs (test y) refl (λ f. found xs i x e passes)

round_at_most : (js : List Journal) (top : ℕ) → ((i : ℕ) (j : Journal) → slice_get js i ≡ Some j → j.site.round ≤ top) → last_round js ≤ top
unfolding definitions
round_at_most [] top near = omega arith
round_at_most (j ∷ js) top near =
    let here = near 0 j refl in
    let rest = round_at_most js top (λ i k e. near (suc i) k e) in
    omega (arith, here, rest)

round_at_least : (js : List Journal) (i : ℕ) (j : Journal) → slice_get js i ≡ Some j → j.site.round ≤ last_round js
unfolding definitions
round_at_least [] i j e = absurd (cc)
round_at_least (k ∷ js) zero j e =
    let same : k ≡ j = cc in let h : k.site.round ≡ j.site.round = ap (λ (x : Journal). x.site.round) same in omega (arith, h)
round_at_least (k ∷ js) (suc i) j e = let h = round_at_least js i j e in omega (arith, h)

-- ---- lists
plus_zeros : (values : List ℤ) (n : ℕ) → plus_deltas values (replicate n (pos 0)) ≡ values
unfolding round_definitions
plus_zeros [] n = refl
plus_zeros (v ∷ values) zero = refl
plus_zeros (v ∷ values) (suc n) =
    let here : (v +ℤ pos 0) ≡ v = omega (arith, ints) in
    let rest = plus_zeros values n in
    cc

abbrev segments : List Left → List (List Entry)
segments left = map (λ l. l.segment) left

segment_at : (xs : List (List Entry)) (i : ℕ) (y : List Entry) → slice_get xs i ≡ Some y → segment_of xs i ≡ y
unfolding history_definitions
segment_at xs i y g = get_index xs i y [] g

-- ---- the rounds that a node has left
-- what the node ran in a closed round
segment_left : (i r : ℕ) (left : List Left) (rounds : List Round) (q : Round) (after : List (List Entry)) → AreLeft i left rounds → slice_get rounds r ≡ Some q → slice_index_or (segments left ++ after) r [] ≡ segment_of q.segments i
segment_left i r left rounds q after all e =
    let lt : r < length left = subst (λ n. r < n) (sym (left_long i left rounds all)) (slice_get_within rounds r q e) in
    let l = get_some left r lt in
    get_index (segments left ++ after) r l.0.segment [] (get_left (segments left) after r l.0.segment (get_map (λ (k : Left). k.segment) left r l.0 l.1))
    ∙ (left_at i r left rounds l.0 q all l.1 e).segment

record Segments (js : List Journal) (k : ℕ) (rounds : List Round) : Type 0 where
  pub at : (m n : ℕ) (q : Round) → n ≡ k + m → slice_get rounds m ≡ Some q → map (ran_in n) js ≡ q.segments

rounds_are : (js : List Journal) (i k : ℕ) (left : List Left) (rounds : List Round) → AreLeft i left rounds → Segments js k rounds → rounds_left js k left ≡ rounds
unfolding definitions
rounds_are js i k [] [] all same = refl
rounds_are js i k [] (q ∷ rounds) all same = absurd all
rounds_are js i k (l ∷ left) [] all same = absurd all
rounds_are js i k (l ∷ left) (q ∷ rounds) all same =
    let rest : rounds_left js (suc k) left ≡ rounds = rounds_are js i (suc k) left rounds all.1 (record { at = λ m n p e f. same.at (suc m) n p (omega (arith, e)) f }) in
    let base : l.base ≡ q.base = all.0.base in
    let closing : Some l.closing ≡ q.closing = sym all.0.closing in
    let ran : map (ran_in k) js ≡ q.segments = same.at 0 k q (omega arith) refl in
    ap (λ x. record { base = x; segments = map (ran_in k) js; closing = Some l.closing } ∷ rounds_left js (suc k) left) base
    ∙ ap (λ x. record { base = q.base; segments = x; closing = Some l.closing } ∷ rounds_left js (suc k) left) ran
    ∙ ap (λ x. record { base = q.base; segments = q.segments; closing = x } ∷ rounds_left js (suc k) left) closing
    ∙ ap (λ x. q ∷ x) rest

-- ---- the last database
-- each node is in the last round, or has made nothing of it
record IsThen (top : ℕ) (j : Journal) (x : SiteState) : Type 0 where
  pub then : ((j.site.round ≡ top) × (x ≡ j.site)) ⊎ ((j.site.round ≡ top → ⊥) × ((n : ℕ) × (x.deltas ≡ replicate n (pos 0))))

abbrev pub last_sites : ℕ → List Journal → List SiteState
last_sites top js = filter (λ x. x.round == top) (map (λ j. j.site) js)

then_step : (top : ℕ) (f : Journal → SiteState) (base : List ℤ) (j : Journal) (js : List Journal) → ((other : List ℤ) → gathered other (last_sites top js) ≡ gathered other (map f js)) → IsThen top j (f j) → gathered base (last_sites top (j ∷ js)) ≡ gathered base (map f (j ∷ js))
unfolding core_definitions
then_step top f base j js rest is = ⊎_elim here behind is.then
  where
    here : (j.site.round ≡ top) × (f j ≡ j.site) → gathered base (cond (eqb j.site.round top) (j.site ∷ last_sites top js) (last_sites top js)) ≡ gathered (plus_deltas base (f j).deltas) (map f js)
    here h =
        ap (gathered base) (cond-true (eqb j.site.round top) (j.site ∷ last_sites top js) (last_sites top js) (eq-eqb j.site.round top h.0))
        ∙ rest (plus_deltas base j.site.deltas)
        ∙ ap (λ (x : SiteState). gathered (plus_deltas base x.deltas) (map f js)) (sym h.1)

    behind : (j.site.round ≡ top → ⊥) × ((n : ℕ) × ((f j).deltas ≡ replicate n (pos 0))) → gathered base (cond (eqb j.site.round top) (j.site ∷ last_sites top js) (last_sites top js)) ≡ gathered (plus_deltas base (f j).deltas) (map f js)
    behind h =
        ap (gathered base) (cond-false (eqb j.site.round top) (j.site ∷ last_sites top js) (last_sites top js) (ne_eqb j.site.round top h.0))
        ∙ rest base
        ∙ ap (λ v. gathered v (map f js)) (sym (ap (plus_deltas base) h.1.1 ∙ plus_zeros base h.1.0))

gathered_then : (top : ℕ) (f : Journal → SiteState) (base : List ℤ) (js : List Journal) → ((i : ℕ) (j : Journal) → slice_get js i ≡ Some j → IsThen top j (f j)) → gathered base (last_sites top js) ≡ gathered base (map f js)
unfolding core_definitions
gathered_then top f base [] each = refl
gathered_then top f base (j ∷ js) each =
    then_step top f base j js (λ other. gathered_then top f other js (λ i k e. each (suc i) k e)) (each 0 j refl)

-- ---- the nodes' journals make the history
-- the round that a node that is behind leaves next
abbrev pub newest_of : s.Workload → Turn → Journal → Left
unfolding definitions
newest_of w t j = record {
  base = j.site.base;
  segment = j.site.segment;
  closing = closing_on w (folded j.site.base t.states) t.breach.site t.breach.call t.breach.broken;
}

module _ (w : s.Workload) (js : List Journal) (ps : List Packet) (b : BookState) (t : Turn) (counts : List ℕ) (course : Course w js ps b t counts) (long : length js ≡ sites_of w) where
  abbrev top : ℕ
  top = length b.closed

  abbrev sites : List SiteState
  sites = sites_then w b t js

  module _ (i : ℕ) (j : Journal) (here : slice_get js i ≡ Some j) where
    holds : JournalHolds w b counts i (caught_up w top t j)
    holds = course.journals i j here

    pub left_up : j.site.round ≡ top → AreLeft i j.left b.closed
    left_up e = subst (λ (x : Journal). AreLeft i x.left b.closed) (up_here w top t j e) holds.left

    pub left_behind : (j.site.round ≡ top → ⊥) → AreLeft i (j.left ++ newest_of w t j ∷ []) b.closed
    unfolding definitions
    left_behind other = subst (λ (x : Journal). AreLeft i x.left b.closed) (up_behind w top t j other) holds.left

    ran_closed : (r : ℕ) (q : Round) → slice_get b.closed r ≡ Some q → ran_in r j ≡ segment_of q.segments i
    unfolding definitions
    ran_closed r q e = ⊎_elim (λ up. segment_left i r j.left b.closed q (j.site.segment ∷ []) (left_up up) e) (λ other. ap (λ xs. slice_index_or xs r []) (sym (append-nil (segments j.left ++ j.site.segment ∷ [])) ∙ ap (λ xs. xs ++ []) (sym (map-append (λ (l : Left). l.segment) j.left (newest_of w t j ∷ [])))) ∙ segment_left i r (j.left ++ newest_of w t j ∷ []) b.closed q [] (left_behind other) e) (cases_eq j.site.round top)

    ran_last : ran_in top j ≡ (site_then w top t j).segment
    unfolding definitions site_definitions
    ran_last = ⊎_elim up behind (cases_eq j.site.round top)
      where
        up : j.site.round ≡ top → slice_index_or (segments j.left ++ j.site.segment ∷ []) top [] ≡ (site_then w top t j).segment
        up e =
            let count : length (segments j.left) ≡ top = length-map j.left (λ (l : Left). l.segment) ∙ left_long i j.left b.closed (left_up e) in
            get_index (segments j.left ++ j.site.segment ∷ []) top j.site.segment [] (subst (λ n. slice_get (segments j.left ++ j.site.segment ∷ []) n ≡ Some j.site.segment) count (get_end (segments j.left) j.site.segment))
            ∙ ap (λ (x : Journal). x.site.segment) (sym (up_here w top t j e))

        behind : (j.site.round ≡ top → ⊥) → slice_index_or (segments j.left ++ j.site.segment ∷ []) top [] ≡ (site_then w top t j).segment
        behind other =
            let all : length (j.left ++ newest_of w t j ∷ []) ≡ top = left_long i (j.left ++ newest_of w t j ∷ []) b.closed (left_behind other) in
            let a : length (j.left ++ newest_of w t j ∷ []) ≡ length j.left + 1 = length_push j.left (newest_of w t j) in
            let c : length (segments j.left ++ j.site.segment ∷ []) ≡ length (segments j.left) + 1 = length_push (segments j.left) j.site.segment in
            let d : length (segments j.left) ≡ length j.left = length-map j.left (λ (l : Left). l.segment) in
            get_past (segments j.left ++ j.site.segment ∷ []) top [] (slice_get_past (segments j.left ++ j.site.segment ∷ []) top (omega (arith, all, a, c, d)))
            ∙ ap (λ (x : Journal). x.site.segment) (sym (up_behind w top t j other))

    is_then : IsThen top j (site_then w top t j)
    unfolding definitions site_definitions
    is_then = record {
      then = ⊎_elim (λ e. inl (e, ap (λ (x : Journal). x.site) (up_here w top t j e))) (λ other. inr (other, (_, ap (λ (x : Journal). x.site.deltas) (up_behind w top t j other)))) (cases_eq j.site.round top);
    }

  closed_segments : (r n : ℕ) (q : Round) → n ≡ 0 + r → slice_get b.closed r ≡ Some q → map (ran_in n) js ≡ q.segments
  closed_segments r n q same e =
      let is : n ≡ r = omega (arith, same) in
      ap (λ m. map (ran_in m) js) is
      ∙ same_list (map (ran_in r) js) q.segments (length-map js (ran_in r) ∙ long ∙ sym (All-get (λ (x : Round). length x.segments ≡ sites_of w) b.closed r q course.joined.book.segments e)) (λ i x y f g. let was = get_map_back (ran_in r) js i x f in
      sym was.1.1 ∙ ran_closed i was.0 was.1.0 r q e ∙ segment_at q.segments i y g)

  open_segments : map (ran_in top) js ≡ segments_of sites
  unfolding core_definitions
  open_segments =
      map_same (ran_in top) (λ j. (site_then w top t j).segment) js ran_last
      ∙ sym (map-map (λ (x : SiteState). x.segment) (site_then w top t) js)

  -- by any node in the last round
  module _ (k : ℕ) (j : Journal) (here : slice_get js k ≡ Some j) (up : j.site.round ≡ top) where
    base_is : j.site.base ≡ b.base
    base_is =
        ap (λ (x : Journal). x.site.base) (sym (up_here w top t j up)) ∙ (course.joined.round.each k (site_then w top t j) (get_map (site_then w top t) js k j here)).base

    history_is : history_by js j ≡ core.history_of b sites
    unfolding definitions core_definitions
    history_is =
        ap (λ n. record { rounds = rounds_left js 0 j.left ++ record { base = j.site.base; segments = map (ran_in n) js; closing = None } ∷ []; last = gathered j.site.base (last_sites n js) }) up
        ∙ ap (λ v. record { rounds = rounds_left js 0 j.left ++ record { base = v; segments = map (ran_in top) js; closing = None } ∷ []; last = gathered v (last_sites top js) }) base_is
        ∙ ap (λ xs. record { rounds = xs ++ record { base = b.base; segments = map (ran_in top) js; closing = None } ∷ []; last = gathered b.base (last_sites top js) }) (rounds_are js k 0 j.left b.closed (left_up k j here up) (record { at = closed_segments }))
        ∙ ap (λ xs. record { rounds = b.closed ++ record { base = b.base; segments = xs; closing = None } ∷ []; last = gathered b.base (last_sites top js) }) open_segments
        ∙ ap (λ v. record { rounds = rounds_of b sites; last = v }) (gathered_then top (site_then w top t) b.base js is_then)

  pub last_is : last_round js ≡ top
  last_is =
      let most = round_at_most js top course.near in
      let least = round_at_least js course.place course.first course.there in
      let here = course.here in
      omega (arith, most, least, here)

  abbrev is_last : Journal → Bool
  is_last j = j.site.round == last_round js

  pub read_is : history_of js ≡ core.history_of b sites
  unfolding definitions
  read_is =
      let f = found is_last js course.place course.first course.there (eq-eqb course.first.site.round (last_round js) (course.here ∙ sym last_is)) in
      ap (λ o. option_map_or (history_by js) o (record { rounds = []; last = [] })) f.is
      ∙ history_is f.place f.item f.here (eqb-true f.item.site.round (last_round js) f.passes ∙ last_is)

  -- ---- what the first nodes add to the base of the last round is what the first sites add
  pub first_then : (m : ℕ) → gathered b.base (last_sites top (take m js)) ≡ gathered b.base (take m sites)
  first_then m =
      gathered_then top (site_then w top t) b.base (take m js) (λ i j e. is_then i j (get_take js m i j e))
      ∙ ap (gathered b.base) (sym (take-map (site_then w top t) m js))

  -- ---- as many calls of each client as stand there
  pub counts_are : counts ≡ counts_in w (rounds_of b sites)
  unfolding definitions
  counts_are =
      same_list counts (counts_in w (rounds_of b sites)) (course.ordered.clients ∙ sym (length-map (range_with_len 0 (length w.clients)) count_of ∙ length-range_with_len 0 (length w.clients))) at
    where
      count_of : ℕ → ℕ
      count_of client = length (numbers_of client (calls_of (rounds_of b sites)))

      at : (i x y : ℕ) → slice_get counts i ≡ Some x → slice_get (map count_of (range_with_len 0 (length w.clients))) i ≡ Some y → x ≡ y
      at i x y e f =
          let was = get_map_back count_of (range_with_len 0 (length w.clients)) i y f in
          let h = range_at 0 (length w.clients) i was.0 was.1.0 in
          let same : i ≡ was.0 = omega (arith, h.is) in
          sym (get_index counts i x 0 e) ∙ sym (length-range_with_len 1 (slice_index_or counts i 0)) ∙ ap length (sym (course.ordered.numbers i)) ∙ ap count_of same ∙ was.1.1

  -- ---- the bases of nodes that are behind
  pub base_behind : (i : ℕ) (j : Journal) (q : Round) → slice_get js i ≡ Some j → suc j.site.round ≡ top → slice_get b.closed j.site.round ≡ Some q → j.site.base ≡ q.base
  unfolding definitions
  base_behind i j q here e at =
      let all : AreLeft i (j.left ++ newest_of w t j ∷ []) b.closed = left_behind i j here (λ f. absurd (omega (arith, e, f))) in
      let a : length (j.left ++ newest_of w t j ∷ []) ≡ length j.left + 1 = length_push j.left (newest_of w t j) in
      let c : length (j.left ++ newest_of w t j ∷ []) ≡ top = left_long i (j.left ++ newest_of w t j ∷ []) b.closed all in
      let d : length j.left ≡ j.site.round = omega (arith, a, c, e) in
      (left_at i j.site.round (j.left ++ newest_of w t j ∷ []) b.closed (newest_of w t j) q all (subst (λ n. slice_get (j.left ++ newest_of w t j ∷ []) n ≡ Some (newest_of w t j)) d (get_end j.left (newest_of w t j))) at).base

  pub base_up : (i : ℕ) (j : Journal) → slice_get js i ≡ Some j → j.site.round ≡ top → j.site.base ≡ b.base
  base_up i j here up = base_is i j here up

-- A list of calls that was followed is followed with one call more.
use Rattle.homeo_history.specs.Key.{definitions as history_definitions}
use Rattle.homeo_site.specs.Key.{definitions as site_definitions}
use Rattle.homeo_core.specs.Key.{definitions}
use Rattle.std.proofs.Common.{◌≡◌, ℕ, zero, suc, ◌+◌, ◌<◌, ◌≤◌, List, [], ◌∷◌, ◌++◌, map, length, take, drop, Bool, true, false, cond, eqb, Some, refl, sym, ap, subst, ◌∙◌, arith, append_assoc}
use Rattle.std.specs.Prelude.{ℤ, sum, slice_get, slice_set, unwrap_or}
use Rattle.std.proofs.lemmas.List.{append-nil, map-append, length-map, length_push, length-append}
use Rattle.std.proofs.lemmas.List.Sums.{sum_by-cons}
use Rattle.std.proofs.lemmas.Bool.Decides.{nat_tests}
use Rattle.std.proofs.lemmas.Option.{slice_get_within}
use Rattle.homeo_syntax.specs.Source as s
use Rattle.homeo_meaning.specs.declared.call.CallId.{CallId}
use Rattle.homeo_plan.specs.declared.treaty.Broken.{Broken}
use Rattle.homeo_history.specs.Follows.{site_or_zero, FollowsRound, FollowsRounds}
use Rattle.homeo_history.specs.History.{Entry, Round}
use Rattle.homeo_history.specs.Legal.{site_of}
use Rattle.homeo_history.specs.Merge.{segment_of, put_at, merge}
use Rattle.homeo_site.specs.SiteState.{SiteState, local_entry, after_local, renewed}
use Rattle.homeo_core.specs.Joined.{BookState, segments_of, open_round}
use Rattle.homeo_core.specs.Events.{next_base, closed_round}
use Rattle.homeo_core.specs.Laws.{FollowsLocal, FollowsCleanup}

-- the segments, and the entry at the end of one of them
abbrev extended : List (List Entry) → ℕ → Entry → List (List Entry)
extended [] home e = []
extended (es ∷ segments) zero e = (es ++ e ∷ []) ∷ segments
extended (es ∷ segments) (suc home) e = es ∷ extended segments home e

-- segments without the first entry of one of them
abbrev picked : List (List Entry) → ℕ → List (List Entry)
picked [] i = []
picked (es ∷ segments) zero = drop 1 es ∷ segments
picked (es ∷ segments) (suc i) = es ∷ picked segments i

-- ---- merges depend on the segments' items alone
merge_same : (f g : ℕ → List Entry) → ((j : ℕ) → f j ≡ g j) → (choice : List ℕ) → merge f choice ≡ merge g choice
unfolding history_definitions
merge_same f g same [] = refl
merge_same f g same (i ∷ choice) =
    ap (λ es. take 1 es ++ merge (put_at f i (drop 1 (f i))) choice) (same i)
    ∙ ap (λ es. take 1 (g i) ++ es) (merge_same (put_at f i (drop 1 (f i))) (put_at g i (drop 1 (g i))) (λ j. put_same (eqb i j) (f i) (g i) (f j) (g j) (same i) (same j)) choice)
  where
    put_same : (b : Bool) (v u p q : List Entry) → v ≡ u → p ≡ q → cond b (drop 1 v) p ≡ cond b (drop 1 u) q
    put_same true v u p q d e = ap (drop 1) d
    put_same false v u p q d e = e

merge_short : (f : ℕ → List Entry) (choice : List ℕ) → length (merge f choice) ≤ length choice
unfolding history_definitions
merge_short f [] = omega arith
merge_short f (i ∷ choice) =
    let rest : length (merge (put_at f i (drop 1 (f i))) choice) ≤ length choice = merge_short (put_at f i (drop 1 (f i))) choice in
    let long : length (take 1 (f i) ++ merge (put_at f i (drop 1 (f i))) choice) ≡ length (take 1 (f i)) + length (merge (put_at f i (drop 1 (f i))) choice) = length-append (take 1 (f i)) (merge (put_at f i (drop 1 (f i))) choice) in
    let one : length (take 1 (f i)) ≤ 1 = at_most (f i) in
    omega arith
  where
    at_most : (es : List Entry) → length (take 1 es) ≤ 1
    at_most [] = omega arith
    at_most (e ∷ es) = omega arith

other_one : (b : Bool) (p q : List Entry) → b ≡ false → cond b p q ≡ q
other_one true p q e = absurd (cc)
other_one false p q e = refl

put_picked : (segments : List (List Entry)) (i j : ℕ) → put_at (segment_of segments) i (drop 1 (segment_of segments i)) j ≡ segment_of (picked segments i) j
unfolding history_definitions
put_picked [] i j = nothing (eqb i j)
  where
    nothing : (b : Bool) → cond {A = List Entry} b [] [] ≡ []
    nothing true = refl
    nothing false = refl
put_picked (es ∷ segments) zero zero = refl
put_picked (es ∷ segments) zero (suc j) = other_one (eqb 0 (suc j)) (drop 1 es) (segment_of segments j) (grind (arith, nat_tests))
put_picked (es ∷ segments) (suc i) zero = other_one (eqb (suc i) 0) (drop 1 (segment_of segments i)) es (grind (arith, nat_tests))
put_picked (es ∷ segments) (suc i) (suc j) = test (eqb (suc i) (suc j)) (eqb i j) (grind (arith, nat_tests)) ∙ put_picked segments i j
  where
    test : (a b : Bool) → a ≡ b → cond a (drop 1 (segment_of segments i)) (segment_of segments j) ≡ cond b (drop 1 (segment_of segments i)) (segment_of segments j)
    test a b e = ap (λ t. cond t (drop 1 (segment_of segments i)) (segment_of segments j)) e

merge_picked : (segments : List (List Entry)) (i : ℕ) (choice : List ℕ) → merge (segment_of segments) (i ∷ choice) ≡ take 1 (segment_of segments i) ++ merge (segment_of (picked segments i)) choice
unfolding history_definitions
merge_picked segments i choice =
    ap (λ es. take 1 (segment_of segments i) ++ es) (merge_same (put_at (segment_of segments) i (drop 1 (segment_of segments i))) (segment_of (picked segments i)) (put_picked segments i) choice)

-- ---- counts
abbrev total : List (List Entry) → ℕ
total segments = sum (map length segments)

sum_more : (n : ℕ) (ns : List ℕ) → sum (n ∷ ns) ≡ n + sum ns
sum_more n ns = sum_by-cons (λ x. x) n ns

none_left : (segments : List (List Entry)) (i : ℕ) → total segments ≡ 0 → segment_of segments i ≡ []
unfolding history_definitions
none_left [] i e = refl
none_left ([] ∷ segments) zero e = refl
none_left ((d ∷ es) ∷ segments) zero e =
    let more : total ((d ∷ es) ∷ segments) ≡ length (d ∷ es) + total segments = sum_more (length (d ∷ es)) (map length segments) in
    absurd (omega arith)
none_left (es ∷ segments) (suc i) e =
    let more : total (es ∷ segments) ≡ length es + total segments = sum_more (length es) (map length segments) in
    none_left segments i (omega arith)

one_less : (segments : List (List Entry)) (i : ℕ) (d : Entry) (es : List Entry) → segment_of segments i ≡ d ∷ es → total segments ≡ suc (total (picked segments i))
unfolding history_definitions
one_less [] i d es e = absurd (cc)
one_less (x ∷ segments) zero d es e =
    let long : length x ≡ suc (length es) = ap length e in
    let rest : length (drop 1 x) ≡ length es = ap (λ v. length (drop 1 v)) e in
    let more : total (x ∷ segments) ≡ length x + total segments = sum_more (length x) (map length segments) in
    let less : total (drop 1 x ∷ segments) ≡ length (drop 1 x) + total segments = sum_more (length (drop 1 x)) (map length segments) in
    omega arith
one_less (x ∷ segments) (suc i) d es e =
    let more : total (x ∷ segments) ≡ length x + total segments = sum_more (length x) (map length segments) in
    let less : total (x ∷ picked segments i) ≡ length x + total (picked segments i) = sum_more (length x) (map length (picked segments i)) in
    let ih : total segments ≡ suc (total (picked segments i)) = one_less segments i d es e in
    omega arith

total_extended : (segments : List (List Entry)) (home : ℕ) (e : Entry) → home < length segments → total (extended segments home e) ≡ suc (total segments)
total_extended [] home e lt = let never : ⊥ = omega arith in absurd never
total_extended (es ∷ segments) zero e lt =
    let long : length (es ++ e ∷ []) ≡ length es + 1 = length_push es e in
    let more : total ((es ++ e ∷ []) ∷ segments) ≡ length (es ++ e ∷ []) + total segments = sum_more (length (es ++ e ∷ [])) (map length segments) in
    let old : total (es ∷ segments) ≡ length es + total segments = sum_more (length es) (map length segments) in
    omega arith
total_extended (es ∷ segments) (suc home) e lt =
    let more : total (es ∷ extended segments home e) ≡ length es + total (extended segments home e) = sum_more (length es) (map length (extended segments home e)) in
    let old : total (es ∷ segments) ≡ length es + total segments = sum_more (length es) (map length segments) in
    let ih : total (extended segments home e) ≡ suc (total segments) = total_extended segments home e (omega arith) in
    omega arith

length_picked : (segments : List (List Entry)) (i : ℕ) → length (picked segments i) ≡ length segments
length_picked [] i = refl
length_picked (es ∷ segments) zero = refl
length_picked (es ∷ segments) (suc i) = ap suc (length_picked segments i)

-- ---- a pick from extended segments
drop_end : (x : List Entry) (d : Entry) (es : List Entry) (e : Entry) → x ≡ d ∷ es → drop 1 (x ++ e ∷ []) ≡ drop 1 x ++ e ∷ []
drop_end [] d es e h = absurd (cc)
drop_end (y ∷ x) d es e h = refl

take_end : (x : List Entry) (d : Entry) (es : List Entry) (e : Entry) → x ≡ d ∷ es → take 1 (x ++ e ∷ []) ≡ take 1 x
take_end [] d es e h = absurd (cc)
take_end (y ∷ x) d es e h = refl

picked_extended : (segments : List (List Entry)) (home i : ℕ) (e d : Entry) (es : List Entry) → segment_of segments i ≡ d ∷ es → picked (extended segments home e) i ≡ extended (picked segments i) home e
unfolding history_definitions
picked_extended [] home i e d es h = refl
picked_extended (x ∷ segments) zero zero e d es h = ap (λ v. v ∷ segments) (drop_end x d es e h)
picked_extended (x ∷ segments) (suc home) zero e d es h = refl
picked_extended (x ∷ segments) zero (suc i) e d es h = refl
picked_extended (x ∷ segments) (suc home) (suc i) e d es h = ap (λ v. x ∷ v) (picked_extended segments home i e d es h)

first_extended : (segments : List (List Entry)) (home i : ℕ) (e d : Entry) (es : List Entry) → segment_of segments i ≡ d ∷ es → take 1 (segment_of (extended segments home e) i) ≡ take 1 (segment_of segments i)
unfolding history_definitions
first_extended [] home i e d es h = refl
first_extended (x ∷ segments) zero zero e d es h = take_end x d es e h
first_extended (x ∷ segments) (suc home) zero e d es h = refl
first_extended (x ∷ segments) zero (suc i) e d es h = refl
first_extended (x ∷ segments) (suc home) (suc i) e d es h = first_extended segments home i e d es h

extended_at : (segments : List (List Entry)) (home : ℕ) (e : Entry) → home < length segments → segment_of (extended segments home e) home ≡ segment_of segments home ++ e ∷ []
unfolding history_definitions
extended_at [] home e lt = let never : ⊥ = omega arith in absurd never
extended_at (x ∷ segments) zero e lt = refl
extended_at (x ∷ segments) (suc home) e lt = extended_at segments home e (omega arith)

-- where a choice picks all entries, one entry more comes last
merge_more : (choice : List ℕ) (segments : List (List Entry)) (home : ℕ) (e : Entry) → home < length segments → length choice ≡ total segments → length (merge (segment_of segments) choice) ≡ length choice → merge (segment_of (extended segments home e)) (choice ++ home ∷ []) ≡ merge (segment_of segments) choice ++ e ∷ []
unfolding history_definitions
merge_more [] segments home e lt all picks =
    let none : segment_of segments home ≡ [] = none_left segments home (sym all) in
    ap (λ es. take 1 es ++ []) (extended_at segments home e lt ∙ ap (λ es. es ++ e ∷ []) none)
merge_more (i ∷ choice) segments home e lt all picks =
    go (segment_of segments i) refl (λ inside more all_picked. merge_more choice (picked segments i) home e inside more all_picked)
  where
    go : (es : List Entry) → segment_of segments i ≡ es → (home < length (picked segments i) → length choice ≡ total (picked segments i) → length (merge (segment_of (picked segments i)) choice) ≡ length choice → merge (segment_of (extended (picked segments i) home e)) (choice ++ home ∷ []) ≡ merge (segment_of (picked segments i)) choice ++ e ∷ []) → merge (segment_of (extended segments home e)) ((i ∷ choice) ++ home ∷ []) ≡ merge (segment_of segments) (i ∷ choice) ++ e ∷ []
    go [] none ih =
        let short : length (merge (segment_of (picked segments i)) choice) ≤ length choice = merge_short (segment_of (picked segments i)) choice in
        let is : length (merge (segment_of segments) (i ∷ choice)) ≡ length (merge (segment_of (picked segments i)) choice) = ap length (merge_picked segments i choice ∙ ap (λ es. take 1 es ++ merge (segment_of (picked segments i)) choice) none) in
        let never : ⊥ = omega arith in absurd never
    go (d ∷ es) some ih =
        let step : merge (segment_of segments) (i ∷ choice) ≡ take 1 (segment_of segments i) ++ merge (segment_of (picked segments i)) choice = merge_picked segments i choice in
        let one : take 1 (segment_of segments i) ≡ d ∷ [] = ap (take 1) some in
        let long : length (merge (segment_of segments) (i ∷ choice)) ≡ suc (length (merge (segment_of (picked segments i)) choice)) = ap length (step ∙ ap (λ v. v ++ merge (segment_of (picked segments i)) choice) one) in
        let less : total segments ≡ suc (total (picked segments i)) = one_less segments i d es some in
        let inside : home < length (picked segments i) = subst (λ n. home < n) (sym (length_picked segments i)) lt in
        let rest : merge (segment_of (extended (picked segments i) home e)) (choice ++ home ∷ []) ≡ merge (segment_of (picked segments i)) choice ++ e ∷ [] = ih inside (omega arith) (omega arith) in
        merge_picked (extended segments home e) i (choice ++ home ∷ [])
        ∙ ap (λ v. take 1 (segment_of (extended segments home e) i) ++ merge (segment_of v) (choice ++ home ∷ [])) (picked_extended segments home i e d es some)
        ∙ ap (λ v. v ++ merge (segment_of (extended (picked segments i) home e)) (choice ++ home ∷ [])) (first_extended segments home i e d es some)
        ∙ ap (λ v. take 1 (segment_of segments i) ++ v) rest
        ∙ sym (append_assoc (take 1 (segment_of segments i)) (merge (segment_of (picked segments i)) choice) (e ∷ []))
        ∙ ap (λ v. v ++ e ∷ []) (sym step)

-- ---- rounds
rounds_more : (w : s.Workload) (closed : List Round) (r r' : Round) (calls : List CallId) (call : CallId) → ((part : List CallId) → FollowsRound w r part → FollowsRound w r' (part ++ call ∷ [])) → FollowsRounds w (closed ++ r ∷ []) calls → FollowsRounds w (closed ++ r' ∷ []) (calls ++ call ∷ [])
unfolding history_definitions
rounds_more w [] r r' calls call more f =
    (f.0 ++ call ∷ [], [], ap (λ cs. cs ++ call ∷ []) (f.2 ∙ ap (λ rest. f.0 ++ rest) f.4 ∙ append-nil f.0) ∙ sym (append-nil (f.0 ++ call ∷ [])), more f.0 f.3, refl)
rounds_more w (x ∷ closed) r r' calls call more f =
    (f.0, f.1 ++ call ∷ [], ap (λ cs. cs ++ call ∷ []) f.2 ∙ append_assoc f.0 f.1 (call ∷ []), f.3, rounds_more w closed r r' f.1 call more f.4)

rounds_end : (w : s.Workload) (rounds : List Round) (r : Round) (calls : List CallId) → FollowsRound w r [] → FollowsRounds w rounds calls → FollowsRounds w (rounds ++ r ∷ []) calls
unfolding history_definitions
rounds_end w [] r calls none f = ([], [], f, none, refl)
rounds_end w (x ∷ rounds) r calls none f = (f.0, f.1, f.2, f.3, rounds_end w rounds r f.1 none f.4)

segments_extended : (sites : List SiteState) (home : ℕ) (x y : SiteState) (e : Entry) → slice_get sites home ≡ Some x → y.segment ≡ x.segment ++ e ∷ [] → segments_of (slice_set sites home y) ≡ extended (segments_of sites) home e
unfolding definitions
segments_extended [] home x y e at is = absurd (cc)
segments_extended (z ∷ sites) zero x y e at is =
    let same : x ≡ z = cc in
    ap (λ es. es ∷ map (λ (v : SiteState). v.segment) sites) (is ∙ ap (λ (v : SiteState). v.segment ++ e ∷ []) same)
segments_extended (z ∷ sites) (suc home) x y e at is = ap (λ es. z.segment ∷ es) (segments_extended sites home x y e at is)

site_is : (w : s.Workload) (call : CallId) (site : ℕ) → site_of w call ≡ Some site → site_or_zero w call ≡ site
unfolding history_definitions
site_is w call site e = ap (λ o. unwrap_or o 0) e

open_more : (w : s.Workload) (base : List ℤ) (sites sites' : List SiteState) (home : ℕ) (e : Entry) → home < length (segments_of sites) → segments_of sites' ≡ extended (segments_of sites) home e → site_or_zero w e.call ≡ home → (part : List CallId) → FollowsRound w (open_round base sites) part → FollowsRound w (open_round base sites') (part ++ e.call ∷ [])
unfolding definitions history_definitions
open_more w base sites sites' home e lt is at part f =
    let segments : List (List Entry) = segments_of sites in
    let choice : List ℕ = map (site_or_zero w) f.before in
    let long : length f.before ≡ total segments = f.whole in
    let chosen : length choice ≡ length f.before = length-map f.before (site_or_zero w) in
    let same : length f.before ≡ length (map (λ (x : Entry). x.call) (merge (segment_of segments) choice)) = ap length f.by_sites in
    let mapped : length (map (λ (x : Entry). x.call) (merge (segment_of segments) choice)) ≡ length (merge (segment_of segments) choice) = length-map (merge (segment_of segments) choice) (λ (x : Entry). x.call) in
    let push : length (f.before ++ e.call ∷ []) ≡ length f.before + 1 = length_push f.before e.call in
    let one : total (extended segments home e) ≡ suc (total segments) = total_extended segments home e lt in
    let new : total (segments_of sites') ≡ total (extended segments home e) = ap total is in
    let merged : merge (segment_of (extended segments home e)) (choice ++ home ∷ []) ≡ merge (segment_of segments) choice ++ e ∷ [] = merge_more choice segments home e lt (omega arith) (omega arith) in record {
      before = f.before ++ e.call ∷ [];
      cut = ap (λ cs. cs ++ e.call ∷ []) (f.cut ∙ append-nil f.before) ∙ sym (append-nil (f.before ++ e.call ∷ []));
      whole = omega arith;
      by_sites =
          ap (λ cs. cs ++ e.call ∷ []) f.by_sites
          ∙ sym (map-append (λ (x : Entry). x.call) (merge (segment_of segments) choice) (e ∷ []))
          ∙ ap (map (λ (x : Entry). x.call)) (sym merged)
          ∙ ap (λ n. map (λ (x : Entry). x.call) (merge (segment_of (extended segments home e)) (choice ++ n ∷ []))) (sym at)
          ∙ ap (λ cs. map (λ (x : Entry). x.call) (merge (segment_of (extended segments home e)) cs)) (sym (map-append (site_or_zero w) f.before (e.call ∷ [])))
          ∙ ap (λ v. map (λ (x : Entry). x.call) (merge (segment_of v) (map (site_or_zero w) (f.before ++ e.call ∷ [])))) (sym is);
    }

pub follows_local : FollowsLocal
unfolding definitions history_definitions site_definitions
follows_local w start b sites home x call calls joined here at_site f =
    let y : SiteState = after_local w x call in
    let e : Entry = local_entry w x call in
    let lt : home < length (segments_of sites) = subst (λ n. home < n) (sym (length-map sites (λ (z : SiteState). z.segment))) (slice_get_within sites home x here) in
    let at : site_or_zero w call ≡ home = site_is w call home at_site.at_site in
    rounds_more w b.closed (open_round b.base sites) (open_round b.base (slice_set sites home y)) calls call (open_more w b.base sites (slice_set sites home y) home e lt (segments_extended sites home x y e here refl) at) f

closed_more : (w : s.Workload) (b : BookState) (sites : List SiteState) (home : ℕ) (call : CallId) (broken : Broken) (part : List CallId) → FollowsRound w (open_round b.base sites) part → FollowsRound w (closed_round w b sites home call broken) (part ++ call ∷ [])
unfolding definitions history_definitions
closed_more w b sites home call broken part f = record {
  before = f.before;
  cut = ap (λ cs. cs ++ call ∷ []) (f.cut ∙ append-nil f.before);
  whole = f.whole;
  by_sites = f.by_sites;
}

no_total : (base : List ℤ) (sites : List SiteState) → total (segments_of (map (renewed base) sites)) ≡ 0
unfolding definitions site_definitions
no_total base [] = refl
no_total base (x ∷ sites) =
    let ih : total (segments_of (map (renewed base) sites)) ≡ 0 = no_total base sites in
    let more : total ([] ∷ segments_of (map (renewed base) sites)) ≡ 0 + total (segments_of (map (renewed base) sites)) = sum_more 0 (map length (segments_of (map (renewed base) sites))) in
    omega arith

pub follows_cleanup : FollowsCleanup
unfolding definitions history_definitions
follows_cleanup w b sites home call broken calls f =
    rounds_end w (b.closed ++ closed_round w b sites home call broken ∷ []) (open_round (next_base w b sites call) (map (renewed (next_base w b sites call)) sites)) (calls ++ call ∷ []) (record { before = []; cut = refl; whole = sym (no_total (next_base w b sites call) sites); by_sites = refl }) (rounds_more w b.closed (open_round b.base sites) (closed_round w b sites home call broken) calls call (closed_more w b sites home call broken) f)

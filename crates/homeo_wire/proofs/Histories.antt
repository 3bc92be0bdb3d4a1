-- The history as the code reads it from nodes.
use Rattle.homeo_core.specs.Key.{definitions as core_definitions}
use Rattle.homeo_wire.specs.Key.{definitions}
use Rattle.std.proofs.Common.{◌≡◌, ℕ, zero, suc, ◌+◌, ◌<◌, ◌≤◌, eqb, List, [], ◌∷◌, ◌++◌, map, length, take, drop, get_or, Bool, true, false, ℤ, Some, None, refl, sym, ap, ◌∙◌, arith}
use Rattle.std.specs.Prelude.{find, filter, ◌==◌}
use Rattle.std.proofs.lemmas.List.{length-map, map-append}
use Rattle.std.proofs.lemmas.List.Elements.{filter-append}
use Rattle.std.proofs.lemmas.Bool.{eq-eqb, ne_eqb, cond-true, cond-false}
use Rattle.homeo_lemmas.proofs.Lists.{length_take, take_past}
use Rattle.homeo_site.specs.SiteState.{SiteState}
use Rattle.homeo_round.specs.PlusDeltas.{plus_deltas}
use Rattle.homeo_core.specs.Joined.{gathered}
use Rattle.homeo_wire.specs.declared.node.Left.{Left}
use Rattle.homeo_wire.specs.declared.node.Node.{Node}
use Rattle.homeo_wire.specs.Nodes as n
use Rattle.homeo_wire.specs.Read.{ran_in, rounds_left, sites_in}
use Rattle.homeo_wire.specs.WireView.{plain_left, plain_journal}

-- ---- the first items and one more
take_suc : {X : Type 0} (xs : List X) (i : ℕ) (x : X) → i < length xs → x ≡ get_or xs i x → take (suc i) xs ≡ take i xs ++ x ∷ []
take_suc [] i x lt e = absurd (omega (arith, lt))
take_suc (y ∷ xs) zero x lt e = ap (λ z. z ∷ []) (sym e)
take_suc (y ∷ xs) (suc i) x lt e = ap (λ l. y ∷ l) (take_suc xs i x (omega (arith, lt)) e)

pub take_next : {X : Type 0} (xs : List X) (i : ℕ) (x : X) → i < length xs → x ≡ get_or xs i x → take (i + 1) xs ≡ take i xs ++ x ∷ []
take_next xs i x lt e = ap (λ m. take m xs) (let h : i + 1 ≡ suc i = omega arith in h) ∙ take_suc xs i x lt e

-- ---- rounds that a node has left
left_append : (js : List n.Journal) (k m : ℕ) (left : List n.Left) (l : n.Left) → m ≡ k + length left → rounds_left js k (left ++ l ∷ []) ≡ rounds_left js k left ++ record { base = l.base; segments = map (ran_in m) js; closing = Some l.closing } ∷ []
unfolding definitions
left_append js k m [] l e = ap (λ j. record { base = l.base; segments = map (ran_in j) js; closing = Some l.closing } ∷ []) (let h : k ≡ m = omega (arith, e) in h)
left_append js k m (x ∷ left) l e =
    ap (λ rounds. record { base = x.base; segments = map (ran_in k) js; closing = Some x.closing } ∷ rounds) (left_append js (suc k) m left l (omega (arith, e)))

-- one more of them
pub left_next : (js : List n.Journal) (left : List Left) (i : ℕ) (l : Left) → i < length left → l ≡ get_or left i l → rounds_left js 0 (map plain_left (take (i + 1) left)) ≡ rounds_left js 0 (map plain_left (take i left)) ++ record { base = (plain_left l).base; segments = map (ran_in i) js; closing = Some (plain_left l).closing } ∷ []
left_next js left i l lt e =
    ap (λ ls. rounds_left js 0 (map plain_left ls)) (take_next left i l lt e)
    ∙ ap (rounds_left js 0) (map-append plain_left (take i left) (l ∷ []))
    ∙ left_append js 0 i (map plain_left (take i left)) (plain_left l) (let a = length-map (take i left) plain_left in let b = length_take left i lt in omega (arith, a, b))

-- ---- the last database
gathered_append : (base : List ℤ) (xs ys : List SiteState) → gathered base (xs ++ ys) ≡ gathered (gathered base xs) ys
unfolding core_definitions
gathered_append base [] ys = refl
gathered_append base (x ∷ xs) ys = gathered_append (plus_deltas base x.deltas) xs ys

-- one node more
pub last_more : (base : List ℤ) (round : ℕ) (nodes : List Node) (i : ℕ) (x : Node) → i < length nodes → x ≡ get_or nodes i x → gathered base (sites_in round (map plain_journal (take (i + 1) nodes))) ≡ gathered (gathered base (sites_in round (map plain_journal (take i nodes)))) (sites_in round (plain_journal x ∷ []))
unfolding definitions
last_more base round nodes i x lt e =
    ap (λ ns. gathered base (filter (λ (y : SiteState). y.round == round) (map (λ (j : n.Journal). j.site) (map plain_journal ns)))) (take_next nodes i x lt e)
    ∙ ap (λ js. gathered base (filter (λ (y : SiteState). y.round == round) (map (λ (j : n.Journal). j.site) js))) (map-append plain_journal (take i nodes) (x ∷ []))
    ∙ ap (λ ys. gathered base (filter (λ (y : SiteState). y.round == round) ys)) (map-append (λ (j : n.Journal). j.site) (map plain_journal (take i nodes)) (plain_journal x ∷ []))
    ∙ ap (gathered base) (filter-append (λ (y : SiteState). y.round == round) (map (λ (j : n.Journal). j.site) (map plain_journal (take i nodes))) (x.site.state ∷ []))
    ∙ gathered_append base (filter (λ (y : SiteState). y.round == round) (map (λ (j : n.Journal). j.site) (map plain_journal (take i nodes)))) (filter (λ (y : SiteState). y.round == round) (x.site.state ∷ []))

-- ---- the first node that is in the last round
find_suc : (test : n.Journal → Bool) (nodes : List Node) (i : ℕ) (x : Node) → i < length nodes → x ≡ get_or nodes i x → test (plain_journal x) ≡ false → find test (map plain_journal (drop i nodes)) ≡ find test (map plain_journal (drop (suc i) nodes))
find_suc test [] i x lt e fails = absurd (omega (arith, lt))
find_suc test (y ∷ nodes) zero x lt e fails =
    cond-false (test (plain_journal y)) (Some (plain_journal y)) (find test (map plain_journal nodes)) (ap (λ z. test (plain_journal z)) (sym e) ∙ fails)
find_suc test (y ∷ nodes) (suc i) x lt e fails = find_suc test nodes i x (omega (arith, lt)) e fails

pub find_next : (test : n.Journal → Bool) (nodes : List Node) (i : ℕ) (x : Node) → i < length nodes → x ≡ get_or nodes i x → test (plain_journal x) ≡ false → find test (map plain_journal (drop i nodes)) ≡ find test (map plain_journal (drop (i + 1) nodes))
find_next test nodes i x lt e fails = find_suc test nodes i x lt e fails ∙ ap (λ k. find test (map plain_journal (drop k nodes))) (let h : suc i ≡ i + 1 = omega arith in h)

pub find_here : (test : n.Journal → Bool) (nodes : List Node) (i : ℕ) (x : Node) → i < length nodes → x ≡ get_or nodes i x → test (plain_journal x) ≡ true → find test (map plain_journal (drop i nodes)) ≡ Some (plain_journal x)
find_here test [] i x lt e passes = absurd (omega (arith, lt))
find_here test (y ∷ nodes) zero x lt e passes =
    cond-true (test (plain_journal y)) (Some (plain_journal y)) (find test (map plain_journal nodes)) (ap (λ z. test (plain_journal z)) (sym e) ∙ passes) ∙ ap (λ z. Some (plain_journal z)) (sym e)
find_here test (y ∷ nodes) (suc i) x lt e passes = find_here test nodes i x (omega (arith, lt)) e passes

pub find_end : (test : n.Journal → Bool) (nodes : List Node) (i : ℕ) → length nodes ≤ i → find test (map plain_journal (drop i nodes)) ≡ None
find_end test [] zero le = refl
find_end test [] (suc i) le = refl
find_end test (y ∷ nodes) zero le = absurd (omega (arith, le))
find_end test (y ∷ nodes) (suc i) le = find_end test nodes i (omega (arith, le))

-- ---- one node
pub one_in : (values : List ℤ) (round : ℕ) (x : Node) → x.site.state.round ≡ round → gathered values (sites_in round (plain_journal x ∷ [])) ≡ plus_deltas values x.site.state.deltas
unfolding definitions core_definitions
one_in values round x same =
    ap (gathered values) (cond-true (eqb x.site.state.round round) (x.site.state ∷ []) [] (eq-eqb x.site.state.round round same))

pub one_out : (values : List ℤ) (round : ℕ) (x : Node) → (x.site.state.round ≡ round → ⊥) → gathered values (sites_in round (plain_journal x ∷ [])) ≡ values
unfolding definitions core_definitions
one_out values round x other =
    ap (gathered values) (cond-false (eqb x.site.state.round round) (x.site.state ∷ []) [] (ne_eqb x.site.state.round round other))

pub last_none : (base : List ℤ) (round : ℕ) (nodes : List Node) → base ≡ gathered base (sites_in round (map plain_journal (take 0 nodes)))
unfolding definitions core_definitions
last_none base round [] = refl
last_none base round (x ∷ nodes) = refl

pub last_all : (base : List ℤ) (round : ℕ) (nodes : List Node) (i : ℕ) → length nodes ≤ i → gathered base (sites_in round (map plain_journal (take i nodes))) ≡ gathered base (sites_in round (map plain_journal nodes))
last_all base round nodes i le = ap (λ ns. gathered base (sites_in round (map plain_journal ns))) (take_past nodes i le)

pub left_none : (js : List n.Journal) (left : List Left) → [] ≡ rounds_left js 0 (map plain_left (take 0 left))
unfolding definitions
left_none js [] = refl
left_none js (l ∷ left) = refl

-- States that are kept, as the code goes over them.
use Rattle.std.proofs.Common.{◌≡◌, ℕ, zero, suc, ◌+◌, ◌<◌, List, [], ◌∷◌, map, length, drop, get_or, Bool, true, false, Option, Some, None, refl, sym, ap, subst, ◌∙◌, arith}
use Rattle.std.specs.Prelude.{slice_get, is_some}
use Rattle.std.proofs.lemmas.List.{length-map}
use Rattle.homeo_lemmas.proofs.Options.{is_some_map}
use Rattle.homeo_lemmas.proofs.Places.{get_read, get_map}
use Rattle.homeo_history.proofs.Lists.{get_some}
use Rattle.homeo_nodes.specs.Nodes as n
use Rattle.homeo_nodes.specs.Nodes.{all_of}
use Rattle.homeo_nodes.proofs.Places.{all_there}
use Rattle.homeo_carry.specs.CarryView.{plain_said}
use Rattle.homeo_carry.specs.declared.said.Said.{Said}
use Rattle.homeo_live.specs.LiveView.{plain_state}

-- ---- whether all are there, from a place on
abbrev pub from_on : List (Option Said) → ℕ → Bool
from_on xs i = is_some (all_of (map plain_state (drop i xs)))

from_suc : (xs : List (Option Said)) (i : ℕ) (x : Option Said) → i < length xs → x ≡ get_or xs i x → is_some x ≡ true → from_on xs i ≡ from_on xs (suc i)
from_suc [] i x lt e s = absurd (omega (arith, lt))
from_suc (None ∷ xs) zero x lt e s = absurd (let h : x ≡ None = e in let f : is_some x ≡ false = ap is_some h in cc)
from_suc (Some y ∷ xs) zero x lt e s = is_some_map (λ ys. plain_said y ∷ ys) (all_of (map plain_state xs))
from_suc (y ∷ xs) (suc i) x lt e s = from_suc xs i x (omega (arith, lt)) e s

pub from_next : (xs : List (Option Said)) (i : ℕ) (x : Option Said) → i < length xs → x ≡ get_or xs i x → is_some x ≡ true → from_on xs i ≡ from_on xs (i + 1)
from_next xs i x lt e s = from_suc xs i x lt e s ∙ ap (from_on xs) (let h : suc i ≡ i + 1 = omega arith in h)

pub from_none : (xs : List (Option Said)) (i : ℕ) (x : Option Said) → i < length xs → x ≡ get_or xs i x → is_some x ≡ false → from_on xs i ≡ false
from_none [] i x lt e s = absurd (omega (arith, lt))
from_none (None ∷ xs) zero x lt e s = refl
from_none (Some y ∷ xs) zero x lt e s = absurd (let h : x ≡ Some y = e in let f : is_some x ≡ true = ap is_some h in cc)
from_none (y ∷ xs) (suc i) x lt e s = from_none xs i x (omega (arith, lt)) e s

-- ---- states that are all there
state_at : (xs : List (Option Said)) (all : List n.Said) (i : ℕ) (x : Option Said) → all_of (map plain_state xs) ≡ Some all → i < length xs → x ≡ get_or xs i x → (d : n.Said) × (slice_get all i ≡ Some d) × (plain_state x ≡ Some d)
state_at xs all i x e lt r =
    let there = all_there (map plain_state xs) all e in
    let d = get_some all i (subst (λ k. i < k) (sym (there.long ∙ length-map xs plain_state)) lt) in
    let one = there.each i d.0 d.1 in
    let other = get_map plain_state xs i x (get_read xs i x lt r) in
    (d.0, d.1, cc)

pub state_missing : (xs : List (Option Said)) (i : ℕ) (x : Option Said) (all : List n.Said) → all_of (map plain_state xs) ≡ Some all → i < length xs → x ≡ get_or xs i x → x ≡ None → ⊥
state_missing xs i x all e lt r is =
    let one = state_at xs all i x e lt r in
    let none : None ≡ Some one.0 = ap plain_state (sym is) ∙ one.2 in
    cc

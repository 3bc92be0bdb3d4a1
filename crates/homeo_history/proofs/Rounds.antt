-- A round more at the end of rounds.
use Rattle.std.proofs.Common.{◌≡◌, List, [], ◌∷◌, ◌++◌, map, Some, None, refl, sym, subst}
use Rattle.std.specs.Prelude.{ℤ, All, IsSome, slice_get}
use Rattle.std.proofs.lemmas.List.Elements.{All-head, All-tail}
use Rattle.homeo_syntax.specs.Source as s
use Rattle.homeo_history.specs.Key.{definitions}
use Rattle.homeo_history.specs.History.{Round}
use Rattle.homeo_history.specs.Legal.{first_base, OnlyLastIsOpen, base_or, RunsTo, AreSerial}

pub base_first : (rounds : List Round) (base : List ℤ) → slice_get (map (λ r. r.base) rounds ++ base ∷ []) 0 ≡ Some (base_or rounds base)
unfolding definitions
base_first [] base = refl
base_first (r ∷ rounds) base = refl

pub first_is : (rounds : List Round) (r : Round) → first_base (rounds ++ r ∷ []) ≡ Some (base_or rounds r.base)
unfolding definitions
first_is [] r = refl
first_is (x ∷ rounds) r = refl

pub only_last : (rounds : List Round) (r : Round) → All (λ x. IsSome x.closing) rounds → r.closing ≡ None → OnlyLastIsOpen (rounds ++ r ∷ [])
unfolding definitions
only_last [] r all e = e
only_last (x ∷ []) r all e = (All-head (λ (z : Round). IsSome z.closing) x [] all, e)
only_last (x ∷ y ∷ rounds) r all e =
    (All-head (λ (z : Round). IsSome z.closing) x (y ∷ rounds) all, only_last (y ∷ rounds) r (All-tail (λ (z : Round). IsSome z.closing) x (y ∷ rounds) all) e)

pub base_or_end : (rounds : List Round) (r : Round) (last : List ℤ) → base_or (rounds ++ r ∷ []) last ≡ base_or rounds r.base
unfolding definitions
base_or_end [] r last = refl
base_or_end (x ∷ rounds) r last = refl

pub serial_end : (w : s.Workload) (rounds : List Round) (r : Round) (last : List ℤ) → AreSerial w rounds r.base → RunsTo w r last → AreSerial w (rounds ++ r ∷ []) last
unfolding definitions
serial_end w [] r last all run = (run, tt)
serial_end w (x ∷ rounds) r last all run =
    (subst (RunsTo w x) (sym (base_or_end rounds r last)) all.0, serial_end w rounds r last all.1 run)

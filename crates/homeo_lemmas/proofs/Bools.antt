-- Tests, and choices by a test.
use Rattle.std.proofs.Common.{◌≡◌, ◌&&◌, ◌||◌, Bool, true, false, not, cond, List, ◌∷◌, ◌++◌, Ordering, Less, Equal, Greater, is_eq, ap, refl}
use Rattle.std.specs.Ordering.{ordering_then}
use Rattle.std.proofs.lemmas.Bool.{and_from}

pub never_both : (a : Bool) → not a ≡ true → a ≡ true → ⊥
never_both true h k = cc
never_both false h k = cc

pub both : {a b : Bool} → a ≡ true → b ≡ true → (a && b) ≡ true
both {a} {b} e f = and_from a b e f

pub and_first : (a b : Bool) → (a && b) ≡ true → a ≡ true
and_first true b h = refl
and_first false b h = h

pub and_second : (a b : Bool) → (a && b) ≡ true → b ≡ true
and_second true b h = h
and_second false b h = cc

pub and_false : (a : Bool) → (a && false) ≡ false
and_false true = refl
and_false false = refl

pub and_assoc : (a b c : Bool) → (a && (b && c)) ≡ ((a && b) && c)
and_assoc true b c = refl
and_assoc false b c = refl

pub or_first : (a b : Bool) → (a || b) ≡ false → a ≡ false
or_first true b h = h
or_first false b h = refl

pub or_second : (a b : Bool) → (a || b) ≡ false → b ≡ false
or_second true b h = cc
or_second false b h = h

pub or_true : (a : Bool) → (a || true) ≡ true
or_true true = refl
or_true false = refl

pub or_false : (a : Bool) → (a || false) ≡ a
or_false true = refl
or_false false = refl

pub or_nothing : (a : Bool) → a ≡ (a || false)
or_nothing true = refl
or_nothing false = refl

pub or_neither : (a b : Bool) → a ≡ (a || (false && b))
or_neither a b = or_nothing a

pub or_assoc : (a b c : Bool) → (a || (b || c)) ≡ ((a || b) || c)
or_assoc true b c = refl
or_assoc false b c = refl

pub or_unassoc : (a b c : Bool) → ((a || b) || c) ≡ (a || (b || c))
or_unassoc true b c = refl
or_unassoc false b c = refl

pub or_again : (a b : Bool) → (a || b) ≡ (a || (a || b))
or_again true b = refl
or_again false b = refl

-- ---- choices
pub cond_same : {X : Type 0} (t : Bool) (x : X) → cond t x x ≡ x
cond_same true x = refl
cond_same false x = refl

pub cond_holds : (t a b : Bool) → a ≡ true → b ≡ true → cond t a b ≡ true
cond_holds true a b e f = e
cond_holds false a b e f = f

pub cond_append : {X : Type 0} (t : Bool) (x : X) (all some more : List X) → all ≡ some ++ more → cond t (x ∷ all) all ≡ cond t (x ∷ some) some ++ more
cond_append true x all some more e = ap (λ l. x ∷ l) e
cond_append false x all some more e = e

-- ---- orders, one after another
pub then_equal : (o p : Ordering) → is_eq (ordering_then o p) ≡ (is_eq o && is_eq p)
then_equal Less p = refl
then_equal Equal p = refl
then_equal Greater p = refl

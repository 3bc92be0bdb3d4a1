-- Tokens have one first fault at most.
use Rattle.std.proofs.Common.{◌≡◌, List, [], ◌∷◌, ◌++◌, refl, sym, subst, ap, ◌∙◌}
use Rattle.homeo_syntax.specs.declared.token.Token.{Token}
use Rattle.homeo_syntax.specs.Grammar.{SameHead, IsFault}

abbrev tail_of : List Token → List Token
tail_of [] = []
tail_of (t ∷ ts) = ts

head_is : (f : List Token) (t : Token) (more z : List Token) → f ≡ t ∷ more → SameHead f (t ∷ z)
head_is f t more z e = subst (λ (x : List Token). SameHead x (t ∷ z)) (sym e) (z, refl)

split : {A : Type 0} → (P : A → List Token → Type 0) (u v f g : List Token) → u ++ f ≡ v ++ g →
    ((a : A) (z : List Token) → SameHead f z → P a (u ++ z) → ⊥) → ((a : A) (z : List Token) → SameHead g z → P a (v ++ z) → ⊥) →
    (a b : A) (m n : List Token) → P a (u ++ m) → P b (v ++ n) → f ≡ g
split P [] [] f g e s t a b m n p q = e
split P [] (y ∷ v) f g e s t a b m n p q = absurd (s b (y ∷ (v ++ n)) (head_is f y (v ++ g) (v ++ n) e) q)
split P (x ∷ u) [] f g e s t a b m n p q = absurd (t a (x ∷ (u ++ m)) (head_is g x (u ++ f) (u ++ m) (sym e)) p)
split P (x ∷ u) (y ∷ v) f g e s t a b m n p q =
    let same : y ≡ x = cc in
    split (λ a w. P a (x ∷ w)) u v f g (ap tail_of e) s (λ a z h k. t a z h (subst (λ (w : Token). P a (w ∷ (v ++ z))) (sym same) k)) a b m n p
    (subst (λ (w : Token). P b (w ∷ (v ++ n))) same q)

pub one_fault : {A : Type 0} → (P : A → List Token → Type 0) (ts f g : List Token) → IsFault P ts f → IsFault P ts g → f ≡ g
one_fault P ts f g x y =
    split P x.front y.front f g (sym x.cut ∙ y.cut) x.stuck y.stuck x.value y.value x.more y.more x.goes_on y.goes_on

-- what has a fault is no phrase
pub no_phrase : {A : Type 0} → (P : A → List Token → Type 0) (ts f : List Token) → IsFault P ts f → (a : A) → P a ts → ⊥
no_phrase P ts f x a p = x.stuck a f (same f) (subst (P a) x.cut p)
  where
    same : (f : List Token) → SameHead f f
    same [] = refl
    same (t ∷ f) = (f, refl)

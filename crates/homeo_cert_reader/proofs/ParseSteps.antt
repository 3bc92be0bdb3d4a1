-- Reading one node, and then its parts.
use Rattle.homeo_certificate.specs.Key.{definitions}
use Rattle.std.proofs.Common.{◌≡◌, ℕ, zero, suc, ◌+◌, ◌-◌, ◌<◌, ◌≤◌, List, [], ◌∷◌, ◌++◌, map, Option, Some, None, option_map, refl, sym, ap, ap₂, ◌∙◌, subst, arith}
use Rattle.std.proofs.lemmas.List.{append-nil, map-append}
use Rattle.homeo_certificate.specs.declared.nodes.Node.{Node}
use Rattle.homeo_certificate.specs.declared.nodes.Node.TheVariants as node
use Rattle.homeo_certificate.specs.Parse.{Parse, then, seen, many, parse_expr, parse_test, parse_temp, parse_command, Gives}

-- no phrase is read where no node is left, and none where no level is
pub without_nodes : {A : Type 0} (f : ℕ → Parse A) → f 0 [] ≡ None → ((m : ℕ) → f (suc m) [] ≡ None) → (m : ℕ) (ns : List Node) → ns ≡ [] → f m ns ≡ None
without_nodes f z s zero ns e = ap (f 0) e ∙ z
without_nodes f z s (suc m) ns e = ap (f (suc m)) e ∙ s m

pub without_levels : {A : Type 0} (f : ℕ → Parse A) (m : ℕ) (ns : List Node) → f 0 ns ≡ None → m ≡ 0 → f m ns ≡ None
without_levels f m ns z e = ap (λ k. f k ns) e ∙ z

-- the first node of any phrase is at hand
pub first_of :
    {A : Type 0} (f : ℕ → Parse A) (m : ℕ) (n k : Node) (ns rest : List Node) → 0 < m → ns ≡ n ∷ rest → n ≡ k → f m ns ≡ f (suc (m - 1)) (k ∷ rest)
first_of f m n k ns rest l e q = let p : m ≡ suc (m - 1) = omega (arith, l) in ap₂ f p (e ∙ ap (λ z. z ∷ rest) q)

pub other_test :
    (m : ℕ) (n : Node) (ns rest : List Node) → ns ≡ n ∷ rest → (n ≡ node.True → ⊥) → ((x : _) → n ≡ node.Not x → ⊥) → ((x : _) → n ≡ node.Comparison x → ⊥) →
    parse_test m ns ≡ None
unfolding definitions
other_test m n ns rest e nt nn nc = ap (parse_test m) e ∙ go m n nt nn nc
  where
    go : (m : ℕ) (n : Node) → (n ≡ node.True → ⊥) → ((x : _) → n ≡ node.Not x → ⊥) → ((x : _) → n ≡ node.Comparison x → ⊥) → parse_test m (n ∷ rest) ≡ None
    go zero n nt nn nc = refl
    go (suc m) node.True nt nn nc = absurd (nt refl)
    go (suc m) (node.Not c) nt nn nc = absurd (nn c refl)
    go (suc m) (node.Comparison op) nt nn nc = absurd (nc op refl)
    go (suc m) other nt nn nc = refl

pub other_temp : (m : ℕ) (n : Node) (ns rest : List Node) → ns ≡ n ∷ rest → ((x : _) → n ≡ node.Temp x → ⊥) → parse_temp m ns ≡ None
unfolding definitions
other_temp m n ns rest e nt = ap (parse_temp m) e ∙ go m n nt
  where
    go : (m : ℕ) (n : Node) → ((x : _) → n ≡ node.Temp x → ⊥) → parse_temp m (n ∷ rest) ≡ None
    go zero n nt = refl
    go (suc m) (node.Temp t) nt = absurd (nt t refl)
    go (suc m) other nt = refl

pub other_command :
    (m : ℕ) (n : Node) (ns rest : List Node) → ns ≡ n ∷ rest → (n ≡ node.Skip → ⊥) → (n ≡ node.Assign → ⊥) → ((x j : _) → n ≡ node.Write x j → ⊥) →
    (n ≡ node.Print → ⊥) → ((x : _) → n ≡ node.Seq x → ⊥) → ((x : _) → n ≡ node.If x → ⊥) → parse_command m ns ≡ None
unfolding definitions
other_command m n ns rest e ns' na nw np nq ni = ap (parse_command m) e ∙ go m n ns' na nw np nq ni
  where
    go :
        (m : ℕ) (n : Node) → (n ≡ node.Skip → ⊥) → (n ≡ node.Assign → ⊥) → ((x j : _) → n ≡ node.Write x j → ⊥) → (n ≡ node.Print → ⊥) →
        ((x : _) → n ≡ node.Seq x → ⊥) → ((x : _) → n ≡ node.If x → ⊥) → parse_command m (n ∷ rest) ≡ None
    go zero n ns na nw np nq ni = refl
    go (suc m) node.Skip ns na nw np nq ni = absurd (ns refl)
    go (suc m) node.Assign ns na nw np nq ni = absurd (na refl)
    go (suc m) (node.Write x j) ns na nw np nq ni = absurd (nw x j refl)
    go (suc m) node.Print ns na nw np nq ni = absurd (np refl)
    go (suc m) (node.Seq c) ns na nw np nq ni = absurd (nq c refl)
    go (suc m) (node.If c) ns na nw np nq ni = absurd (ni c refl)
    go (suc m) other ns na nw np nq ni = refl

pub other_node :
    (m : ℕ) (n : Node) (ns rest : List Node) → ns ≡ n ∷ rest → ((x : _) → n ≡ node.Literal x → ⊥) → ((x : _) → n ≡ node.Temp x → ⊥) → ((x : _) → n ≡ node.Base x → ⊥) →
    ((x j : _) → n ≡ node.Delta x j → ⊥) → ((x : _) → n ≡ node.Sum x → ⊥) → ((x : _) → n ≡ node.Product x → ⊥) → (n ≡ node.Neg → ⊥) → parse_expr m ns ≡ None
unfolding definitions
other_node m n ns rest e nl nt nb nd ns' np nn = ap (parse_expr m) e ∙ go m n nl nt nb nd ns' np nn
  where
    go :
        (m : ℕ) (n : Node) → ((x : _) → n ≡ node.Literal x → ⊥) → ((x : _) → n ≡ node.Temp x → ⊥) → ((x : _) → n ≡ node.Base x → ⊥) →
        ((x j : _) → n ≡ node.Delta x j → ⊥) → ((x : _) → n ≡ node.Sum x → ⊥) → ((x : _) → n ≡ node.Product x → ⊥) → (n ≡ node.Neg → ⊥) →
        parse_expr m (n ∷ rest) ≡ None
    go zero n nl nt nb nd ns np nn = refl
    go (suc m) (node.Temp t) nl nt nb nd ns np nn = absurd (nt t refl)
    go (suc m) (node.Literal x) nl nt nb nd ns np nn = absurd (nl x refl)
    go (suc m) (node.Base x) nl nt nb nd ns np nn = absurd (nb x refl)
    go (suc m) (node.Delta x j) nl nt nb nd ns np nn = absurd (nd x j refl)
    go (suc m) (node.Sum c) nl nt nb nd ns np nn = absurd (ns c refl)
    go (suc m) (node.Product c) nl nt nb nd ns np nn = absurd (np c refl)
    go (suc m) node.Neg nl nt nb nd ns np nn = absurd (nn refl)
    go (suc m) other nl nt nb nd ns np nn = refl

-- ---- so many: what is left to read, in front of what was read
abbrev with_read : {A : Type 0} → List A → Option (List A × List Node) → Option (List A × List Node)
with_read xs r = seen (λ more. xs ++ more) r

with_none : {A : Type 0} (r : Option (List A × List Node)) → with_read [] r ≡ r
with_none None = refl
with_none (Some p) = refl

with_one_more :
    {A : Type 0} (f : Parse A) (n : ℕ) (xs : List A) (x : A) (ns rest : List Node) → f ns ≡ Some (x, rest) →
    with_read xs (many f (suc n) ns) ≡ with_read (xs ++ x ∷ []) (many f n rest)
unfolding definitions
with_one_more f n xs x ns rest e =
    ap (λ r. with_read xs (then r (λ a left. seen (λ more. a ∷ more) (many f n left)))) e ∙ go (many f n rest)
  where
    assoc : (ys zs : List _) → ys ++ (x ∷ zs) ≡ (ys ++ x ∷ []) ++ zs
    assoc [] zs = refl
    assoc (y ∷ ys) zs = ap (λ l. y ∷ l) (assoc ys zs)

    go : (r : Option (List _ × List Node)) → with_read xs (seen (λ more. x ∷ more) r) ≡ with_read (xs ++ x ∷ []) r
    go None = refl
    go (Some p) = ap (λ l. Some (l, p.1)) (assoc xs p.0)

with_failed : {A : Type 0} (f : Parse A) (n : ℕ) (xs : List A) (ns : List Node) → f ns ≡ None → with_read xs (many f (suc n) ns) ≡ None
unfolding definitions
with_failed f n xs ns e = ap (λ r. with_read xs (then r (λ a left. seen (λ more. a ∷ more) (many f n left)))) e

with_all : {A : Type 0} (f : Parse A) (xs : List A) (ns : List Node) → with_read xs (many f 0 ns) ≡ Some (xs, ns)
unfolding definitions
with_all f xs ns = ap (λ l. Some (l, ns)) (append-nil xs)

-- n of so many are read as these, and what is left is still to be read
abbrev pub SoFar : {A X : Type 0} → Parse A → (X → A) → ℕ → List Node → ℕ → List X → List Node → Type 0
SoFar f see count all n xs left = many f count all ≡ with_read (map see xs) (many f (count - n) left)

module _ {A X : Type 0} (f : Parse A) (see : X → A) (count : ℕ) (all : List Node) where
  pub none_so_far : (xs : List X) → xs ≡ [] → SoFar f see count all 0 xs all
  none_so_far xs e =
      let m : count ≡ count - 0 = omega arith in
      sym (with_none (many f count all)) ∙ ap₂ (λ ys k. with_read (map see ys) (many f k all)) (sym e) m

  module _ (n : ℕ) (xs : List X) (ns : List Node) (so_far : SoFar f see count all n xs ns) where
    pub one_so_far : n < count → (x : X) (rest : List Node) (ys : List X) → f ns ≡ Some (see x, rest) → ys ≡ xs ++ x ∷ [] → SoFar f see count all (n + 1) ys rest
    one_so_far l x rest ys e p =
        let m : count - n ≡ suc (count - (n + 1)) = omega (arith, l) in
        so_far
        ∙ ap (λ k. with_read (map see xs) (many f k ns)) m
        ∙ with_one_more f (count - (n + 1)) (map see xs) (see x) ns rest e
        ∙ ap (λ zs. with_read zs (many f (count - (n + 1)) rest)) (sym (map-append see xs (x ∷ [])) ∙ ap (map see) (sym p))

    pub one_fails : n < count → f ns ≡ None → many f count all ≡ None
    one_fails l e =
        let m : count - n ≡ suc (count - (n + 1)) = omega (arith, l) in
        so_far ∙ ap (λ k. with_read (map see xs) (many f k ns)) m ∙ with_failed f (count - (n + 1)) (map see xs) ns e

    pub all_read : count ≤ n → many f count all ≡ Some (map see xs, ns)
    all_read l =
        let m : count - n ≡ 0 = omega (arith, l) in
        so_far ∙ ap (λ k. with_read (map see xs) (many f k ns)) m ∙ with_all f (map see xs) ns

-- ---- what a call gave
pub given_some :
    {A X : Type 0} (p : Option (A × List Node)) (see : X → A) (o : Option X) (x : X) (rest : List Node) → o ≡ Some x →
    Gives p (option_map see o) rest → p ≡ Some (see x, rest)
given_some p see o x rest e h = subst (λ q. Gives p (option_map see q) rest) e h

pub given_none :
    {A X : Type 0} (p : Option (A × List Node)) (see : X → A) (o : Option X) (rest : List Node) → o ≡ None →
    Gives p (option_map see o) rest → p ≡ None
given_none p see o rest e h = subst (λ q. Gives p (option_map see q) rest) e h

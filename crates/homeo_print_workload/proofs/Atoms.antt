-- The names and numbers among tokens, and lists of tokens cut in two.
use Rattle.std.proofs.Common.{◌≡◌, ℕ, ℤ, pos, negsuc, Bool, true, false, List, [], ◌∷◌, ◌++◌, map, refl, sym, ap, ◌∙◌, rules, true≢false}
use Rattle.std.specs.Prelude.{◌||◌, ◌&&◌, ◌==◌}
use Rattle.std.proofs.lemmas.List.{map-append, append-nil}
use Rattle.std.proofs.lemmas.Bool.{eq-eqb}
use Rattle.homeo_syntax.specs.declared.token.Mark.{Mark}
use Rattle.homeo_syntax.specs.declared.token.Mark.TheVariants as mark
use Rattle.homeo_syntax.specs.declared.token.Kind.{Kind}
use Rattle.homeo_syntax.specs.declared.token.Kind.TheVariants as kind
use Rattle.homeo_syntax.specs.declared.token.Token.{Token}
use Rattle.homeo_syntax.specs.Classes.{number_of, name_class, number_class}
use Rattle.homeo_syntax.specs.Grammar.{takes}
use Rattle.homeo_syntax.specs.Rules.{name_in, value_in, is_natural, is_natural_value, is_value}

abbrev pub kinds_of : List Token → List Kind
kinds_of ts = map (λ (t : Token). t.kind) ts

-- these, with that one in front unless it is a mark
abbrev pub with_atom : Kind → List Kind → List Kind
with_atom (kind.Name n) ks = kind.Name n ∷ ks
with_atom (kind.Number n) ks = kind.Number n ∷ ks
with_atom (kind.Fixed m) ks = ks

-- the names and numbers, in order
abbrev pub atoms : List Kind → List Kind
atoms [] = []
atoms (k ∷ ks) = with_atom k (atoms ks)

atom_front : (k : Kind) (ks ls : List Kind) → with_atom k (ks ++ ls) ≡ with_atom k ks ++ ls
atom_front (kind.Name n) ks ls = refl
atom_front (kind.Number n) ks ls = refl
atom_front (kind.Fixed m) ks ls = refl

pub atoms_append : (ks ls : List Kind) → atoms (ks ++ ls) ≡ atoms ks ++ atoms ls
atoms_append [] ls = refl
atoms_append (k ∷ ks) ls = ap (with_atom k) (atoms_append ks ls) ∙ atom_front k (atoms ks) (atoms ls)

pub atoms_both : (ks ls : List Kind) (u v : List Token) → atoms ks ≡ atoms (kinds_of u) → atoms ls ≡ atoms (kinds_of v) → atoms (ks ++ ls) ≡ atoms (kinds_of (u ++ v))
atoms_both ks ls u v h k =
    atoms_append ks ls ∙ ap (λ (x : List Kind). x ++ atoms ls) h ∙ ap (λ (x : List Kind). atoms (kinds_of u) ++ x) k
    ∙ sym (atoms_append (kinds_of u) (kinds_of v)) ∙ sym (ap atoms (map-append (λ (t : Token). t.kind) u v))

pub atoms_last : (ks : List Kind) (m : Mark) → atoms (ks ++ kind.Fixed m ∷ []) ≡ atoms ks
atoms_last ks m = atoms_append ks (kind.Fixed m ∷ []) ∙ append-nil (atoms ks)

-- ---- cutting
pub heads : (k l : Kind) (ks ls : List Kind) → k ∷ ks ≡ l ∷ ls → (k ≡ l) × (ks ≡ ls)
heads k l ks ls h =
    let a : k ≡ l = cc in
    let b : ks ≡ ls = cc in
    (a, b)

pub nothing_left : (us : List Token) → kinds_of us ≡ [] → us ≡ []
nothing_left [] h = refl
nothing_left (u ∷ us) h = let no : ⊥ = cc in absurd no

pub record First (k : Kind) (ks : List Kind) (us : List Token) : Type 0 where
  pub token : Token
  pub rest : List Token
  pub cut : us ≡ token ∷ rest
  pub is : token.kind ≡ k
  pub others : kinds_of rest ≡ ks

pub first_of_kinds : (k : Kind) (ks : List Kind) (us : List Token) → kinds_of us ≡ k ∷ ks → First k ks us
first_of_kinds k ks [] h = let no : ⊥ = cc in absurd no
first_of_kinds k ks (u ∷ us) h =
    let e = heads u.kind k (kinds_of us) ks h in
    record { token = u; rest = us; cut = refl; is = e.0; others = e.1 }

pub record Cut (ks ls : List Kind) (us : List Token) : Type 0 where
  pub front : List Token
  pub back : List Token
  pub cut : us ≡ front ++ back
  pub first : kinds_of front ≡ ks
  pub second : kinds_of back ≡ ls

pub cut_kinds : (ks ls : List Kind) (us : List Token) → kinds_of us ≡ ks ++ ls → Cut ks ls us
cut_kinds [] ls us h = record { front = []; back = us; cut = refl; first = refl; second = h }
cut_kinds (k ∷ ks) ls us h =
    let f = first_of_kinds k (ks ++ ls) us h in
    let c = cut_kinds ks ls f.rest f.others in
    record {
      front = f.token ∷ c.front;
      back = c.back;
      cut = f.cut ∙ ap (λ (x : List Token). f.token ∷ x) c.cut;
      first = ap (λ (x : Kind). x ∷ kinds_of c.front) f.is ∙ ap (λ (x : List Kind). k ∷ x) c.first;
      second = c.second;
    }

-- ---- which tokens the grammar takes
pub mark_taken : (m : Mark) (k : Kind) → k ≡ kind.Fixed m → takes (number_of m ∷ []) (λ k. true) k ≡ true
mark_taken m k e = ap (takes (number_of m ∷ []) (λ k. true)) e ∙ ap (λ (b : Bool). (b || false) && true) (eq-eqb (number_of m) (number_of m) refl)

not_name : (m : Mark) → (name_class == number_of m) ≡ false
not_name mark.Assign = refl
not_name m = refl

not_number : (m : Mark) → (number_class == number_of m) ≡ false
not_number mark.Assign = refl
not_number m = refl

taken_not : (b : Bool) → b ≡ false → ((b || false) && true) ≡ true → ⊥
taken_not true h k = true≢false h
taken_not false h k = true≢false (sym k)

-- a mark is no name and no number
pub mark_skipped : (m : Mark) (k : Kind) (ks : List Kind) → takes (number_of m ∷ []) (λ k. true) k ≡ true → atoms (k ∷ ks) ≡ atoms ks
mark_skipped m (kind.Name n) ks h = absurd (taken_not (name_class == number_of m) (not_name m) h)
mark_skipped m (kind.Number n) ks h = absurd (taken_not (number_class == number_of m) (not_number m) h)
mark_skipped m (kind.Fixed o) ks h = refl

pub name_taken : (k : Kind) → takes (name_class ∷ []) (λ k. true) k ≡ true → k ≡ kind.Name (name_in k)
name_taken (kind.Name m) h = refl
name_taken (kind.Fixed mark.Assign) h = let no : ⊥ = cc in absurd no
name_taken k h = let no : ⊥ = cc in absurd no

-- a number without a sign
abbrev pub Natural : Kind → Type 0
Natural (kind.Name n) = Unit {0}
Natural (kind.Number n) = is_natural_value n ≡ true
Natural (kind.Fixed m) = Unit {0}

pub record IsNumber (k : Kind) : Type 0 where
  pub size : ℕ
  pub is : k ≡ kind.Number (pos size)

number_value : (n : ℤ) → is_natural_value n ≡ true → IsNumber (kind.Number n)
number_value (pos n) h = record { size = n; is = refl }
number_value (negsuc n) h = absurd (true≢false (sym h))

pub literal_taken : (k : Kind) → takes (number_class ∷ []) (λ k. true) k ≡ true → Natural k → IsNumber k
literal_taken (kind.Number n) h f = number_value n f
literal_taken (kind.Fixed mark.Assign) h f = let no : ⊥ = cc in absurd no
literal_taken k h f = let no : ⊥ = cc in absurd no

pub number_taken : (k : Kind) → takes (number_class ∷ []) is_natural k ≡ true → IsNumber k
number_taken (kind.Number n) h = number_value n h
number_taken (kind.Fixed mark.Assign) h = let no : ⊥ = cc in absurd no
number_taken k h = let no : ⊥ = cc in absurd no

same_value : (n m : ℕ) → (m == n) ≡ true → kind.Number (pos m) ≡ kind.Number (pos n)
same_value n m h = let e : m ≡ n = search rules in ap (λ (x : ℕ). kind.Number (pos x)) e

pub value_taken : (n : ℕ) (k : Kind) → takes (number_class ∷ []) (λ k. is_value n (value_in k)) k ≡ true → k ≡ kind.Number (pos n)
value_taken n (kind.Number (pos m)) h = same_value n m h
value_taken n (kind.Number (negsuc m)) h = absurd (true≢false (sym h))
value_taken n (kind.Fixed mark.Assign) h = absurd (true≢false (sym h))
value_taken n k h = absurd (true≢false (sym h))

-- each token's number is without a sign
abbrev pub Fine : List Token → Type 0
Fine [] = Unit {0}
Fine (t ∷ ts) = Natural t.kind × Fine ts

pub fine_split : (u v : List Token) → Fine (u ++ v) → Fine u × Fine v
fine_split [] v h = (tt, h)
fine_split (t ∷ u) v h = let r = fine_split u v h.1 in ((h.0, r.0), r.1)

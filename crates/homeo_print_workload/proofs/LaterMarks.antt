-- No text of version 1 has a mark of version 2: its grammar takes none.
use Rattle.std.proofs.Common.{◌≡◌, ℕ, zero, suc, Bool, true, false, not, ◌&&◌, List, [], ◌∷◌, ◌++◌, map, refl, sym, ap, subst, ◌∙◌, inl, inr}
use Rattle.homeo_lemmas.proofs.Bools.{and_first, and_second, never_both}
use Rattle.homeo_syntax.specs.Key.{definitions as syntax_definitions}
use Rattle.homeo_syntax.specs.declared.token.Mark.TheVariants as mark
use Rattle.homeo_syntax.specs.declared.token.Kind.{Kind}
use Rattle.homeo_syntax.specs.declared.token.Kind.TheVariants as kind
use Rattle.homeo_syntax.specs.declared.token.Token.{Token}
use Rattle.homeo_syntax.specs.declared.token.Version.{Version}
use Rattle.homeo_syntax.specs.declared.token.Version.TheVariants.{First, Second}
use Rattle.homeo_syntax.specs.Source as s
use Rattle.homeo_syntax.specs.Classes.{class_of, number_of}
use Rattle.homeo_syntax.specs.Grammar.{Grammar, token, nothing, call, seq, alt, many, part, as_value, has, Spells, Repeats, Means}
use Rattle.homeo_syntax.specs.Rules.{Deep, Factor, Test, Command, Tree, rule, limit, workload}
use Rattle.homeo_syntax.specs.Versions.{CanMark}
use Rattle.homeo_syntax.specs.WellFormed.{Each}
use Rattle.homeo_print_workload.proofs.Atoms.{kinds_of}

-- a phrase that version 1 has
abbrev has_first : Deep → Bool
has_first Factor = true
has_first Test = true
has_first (Command First) = true
has_first (Command Second) = false

-- no token of the grammar is of this class, and its calls are those of version 1
abbrev free : {X : Type 0} → ℕ → Grammar Deep Tree X → Bool
free n (token classes test value sample) = not (has classes n)
free n (nothing a) = true
free n (call c) = has_first c
free n (seq g h) = free n g && free n h
free n (alt g h) = free n g && free n h
free n (many g) = free n g
free n (part g) = free n g
free n (as_value f g) = free n g

-- none of the tokens is
abbrev Away : ℕ → List Token → Type 0
Away n [] = Unit {0}
Away n (t ∷ ts) = (class_of t.kind ≡ n → ⊥) × Away n ts

away_both : (n : ℕ) (u v : List Token) → Away n u → Away n v → Away n (u ++ v)
away_both n [] v a b = b
away_both n (t ∷ u) v a b = (a.0, away_both n u v a.1 b)

module _ (n : ℕ) (M : (c : Deep) → Tree c → List Token → Type 0) (hyp : (c : Deep) → has_first c ≡ true → (a : Tree c) (ts : List Token) → M c a ts → Away n ts) where
  away_many : {X : Type 0} (P : X → List Token → Type 0) → ((a : X) (ts : List Token) → P a ts → Away n ts) → (all : List X) (ts : List Token) → Repeats P all ts → Away n ts
  away_many P one [] ts s = subst (Away n) (sym s) tt
  away_many P one (a ∷ all) ts s = subst (Away n) (sym s.2) (away_both n s.0 s.1 (one a s.0 s.3) (away_many P one all s.1 s.4))

  away : {X : Type 0} → (g : Grammar Deep Tree X) → free n g ≡ true → (a : X) (ts : List Token) → Spells M g a ts → Away n ts
  away (token classes test value sample) e a ts s =
      subst (Away n) (sym s.1)
      (λ same. never_both (has classes n) e (ap (has classes) (sym same) ∙ and_first (has classes (class_of s.0.kind)) (test s.0.kind) s.2), tt)
  away (nothing b) e a ts s = subst (Away n) (sym s.0) tt
  away (call c) e a ts s = hyp c e a ts s
  away (seq g h) e a ts s =
      subst (Away n) (sym s.2) (away_both n s.0 s.1 (away g (and_first (free n g) (free n h) e) a.0 s.0 s.3) (away h (and_second (free n g) (free n h) e) a.1 s.1 s.4))
  away (alt g h) e a ts s =
      elim s [ inl x ↦ away g (and_first (free n g) (free n h) e) a ts x | inr x ↦ away h (and_second (free n g) (free n h) e) a ts x ]
  away (many g) e a ts s = away_many (Spells M g) (λ b us x. away g e b us x) a ts s
  away (part g) e a ts s = away g e a ts s
  away (as_value f g) e a ts s = away g e s.0 ts s.1

free_weights : (c : Deep) → has_first c ≡ true → free (number_of mark.Weights) (rule c) ≡ true
free_weights Factor h = refl
free_weights Test h = refl
free_weights (Command First) h = refl
free_weights (Command Second) h = let no : ⊥ = cc in absurd no

free_abort : (c : Deep) → has_first c ≡ true → free (number_of mark.Abort) (rule c) ≡ true
free_abort Factor h = refl
free_abort Test h = refl
free_abort (Command First) h = refl
free_abort (Command Second) h = let no : ⊥ = cc in absurd no

away_at : (n : ℕ) → ((c : Deep) → has_first c ≡ true → free n (rule c) ≡ true) → (d : ℕ) (c : Deep) → has_first c ≡ true → (a : Tree c) (ts : List Token) →
    Means rule d c a ts → Away n ts
away_at n none zero c h a ts s = absurd s
away_at n none (suc d) c h a ts s = away n (Means rule d) (away_at n none d) (rule c) (none c h) a ts s

-- a mark that stands in a text of the version
abbrev pub HasMark : Version → Kind → Type 0
HasMark v (kind.Name n) = Unit {0}
HasMark v (kind.Number n) = Unit {0}
HasMark v (kind.Fixed m) = CanMark v m

earlier : (k : Kind) → (class_of k ≡ number_of mark.Weights → ⊥) → (class_of k ≡ number_of mark.Abort → ⊥) → HasMark First k
earlier (kind.Name n) a b = tt
earlier (kind.Number n) a b = tt
earlier (kind.Fixed mark.Weights) a b = absurd (a refl)
earlier (kind.Fixed mark.Abort) a b = absurd (b refl)
earlier (kind.Fixed m) a b = refl

all_earlier : (ts : List Token) → Away (number_of mark.Weights) ts → Away (number_of mark.Abort) ts → Each (HasMark First) (kinds_of ts)
unfolding syntax_definitions
all_earlier [] a b = tt
all_earlier (t ∷ ts) a b = (earlier t.kind a.0 b.0, all_earlier ts a.1 b.1)

all_marks : (ks : List Kind) → Each (HasMark Second) ks
unfolding syntax_definitions
all_marks [] = tt
all_marks (kind.Name n ∷ ks) = (tt, all_marks ks)
all_marks (kind.Number n ∷ ks) = (tt, all_marks ks)
all_marks (kind.Fixed m ∷ ks) = (tt, all_marks ks)

abbrev bare : Kind → Token
bare k = record { kind = k; offset = 0 }

bare_kinds : (ks : List Kind) → kinds_of (map bare ks) ≡ ks
bare_kinds [] = refl
bare_kinds (k ∷ ks) = ap (λ l. k ∷ l) (bare_kinds ks)

-- the marks of tokens that are a workload in the version
pub marks_stand :
    (v : Version) (names : List (List ℕ)) (ks : List Kind) → ((us : List Token) → kinds_of us ≡ ks → (w : s.Workload) × Spells (Means rule limit) (workload v names) w us) →
    Each (HasMark v) ks
marks_stand First names ks again =
    let r = again (map bare ks) (bare_kinds ks) in
    let one = away (number_of mark.Weights) (Means rule limit) (away_at (number_of mark.Weights) free_weights limit) (workload First names) refl r.0 (map bare ks) r.1 in
    let other = away (number_of mark.Abort) (Means rule limit) (away_at (number_of mark.Abort) free_abort limit) (workload First names) refl r.0 (map bare ks) r.1 in
    subst (Each (HasMark First)) (bare_kinds ks) (all_earlier (map bare ks) one other)
marks_stand Second names ks again = all_marks ks

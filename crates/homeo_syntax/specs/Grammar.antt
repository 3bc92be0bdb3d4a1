-- Grammars as data: which tokens are which phrases.
use Rattle.std.specs.Prelude.{◌≡◌, ℕ, zero, suc, Bool, true, false, ◌||◌, ◌&&◌, ◌==◌, List, [], ◌∷◌, ◌++◌, ◌⊎◌}
use Rattle.homeo_syntax.specs.declared.token.Kind.{Kind}
use Rattle.homeo_syntax.specs.declared.token.Token.{Token}
use Rattle.homeo_syntax.specs.Classes.{class_of}

-- A grammar of phrases with values of a type. Phrases that count as deeper are called by their names.
pub data Grammar (Call : Type 0) (Value : Call → Type 0) : Type 0 → Type 1 where
  -- one token of these classes that passes the test; a sample of them
  token : {A : Type 0} → List ℕ → (Kind → Bool) → (Token → A) → Token → Grammar Call Value A
  -- nothing
  nothing : {A : Type 0} → A → Grammar Call Value A
  -- a phrase that is one deeper
  call : (c : Call) → Grammar Call Value (Value c)
  -- one after the other
  seq : {A B : Type 0} → Grammar Call Value A → Grammar Call Value B → Grammar Call Value (A × B)
  -- one or the other
  alt : {A : Type 0} → Grammar Call Value A → Grammar Call Value A → Grammar Call Value A
  -- any number
  many : {A : Type 0} → Grammar Call Value A → Grammar Call Value (List A)
  -- a phrase with a name of its own
  part : {A : Type 0} → Grammar Call Value A → Grammar Call Value A
  -- the same, seen as another value
  as_value : {A B : Type 0} → (A → B) → Grammar Call Value A → Grammar Call Value B

-- whether the number is one of these
abbrev pub has : List ℕ → ℕ → Bool
has [] n = false
has (m ∷ ms) n = (n == m) || has ms n

-- whether a token is of one of the classes and passes the test
abbrev pub takes : List ℕ → (Kind → Bool) → Kind → Bool
takes classes test kind = has classes (class_of kind) && test kind

-- any number of phrases one after another
abbrev pub Repeats : {A : Type 0} → (A → List Token → Type 0) → List A → List Token → Type 0
Repeats P [] ts = ts ≡ []
Repeats P (a ∷ rest) ts =
    (u : List Token) × (v : List Token) × (ts ≡ u ++ v) × P a u × Repeats P rest v

-- These tokens are a phrase with this value, where the calls mean this.
abbrev pub Spells : {Call : Type 0} {Value : Call → Type 0} {X : Type 0} →
    ((c : Call) → Value c → List Token → Type 0) → Grammar Call Value X → X → List Token → Type 0
Spells meaning (token classes test value sample) a ts =
    (t : Token) × (ts ≡ t ∷ []) × (takes classes test t.kind ≡ true) × (a ≡ value t)
Spells meaning (nothing b) a ts = (ts ≡ []) × (a ≡ b)
Spells meaning (call c) a ts = meaning c a ts
Spells meaning (seq g h) a ts =
    (u : List Token) × (v : List Token) × (ts ≡ u ++ v) × Spells meaning g a.0 u × Spells meaning h a.1 v
Spells meaning (alt g h) a ts = Spells meaning g a ts ⊎ Spells meaning h a ts
Spells meaning (many g) a ts = Repeats (Spells meaning g) a ts
Spells meaning (part g) a ts = Spells meaning g a ts
Spells meaning (as_value {A = B} f g) a ts = (b : B) × Spells meaning g b ts × (a ≡ f b)

-- What a call means where phrases may go n deep.
abbrev pub Means : {Call : Type 0} {Value : Call → Type 0} →
    ((c : Call) → Grammar Call Value (Value c)) → ℕ → (c : Call) → Value c → List Token → Type 0
Means rule zero c a ts = ⊥
Means rule (suc n) c a ts = Spells (Means rule n) (rule c) a ts

-- what comes begins as this does
abbrev pub SameHead : List Token → List Token → Type 0
SameHead [] z = z ≡ []
SameHead (t ∷ ts) z = (others : List Token) × (z ≡ t ∷ others)

-- The first fault of these tokens: those before it begin a phrase, and together with the next one, or with
-- the end where there is none, they begin no phrase.
pub record IsFault {A : Type 0} (P : A → List Token → Type 0) (ts fault : List Token) : Type 0 where
  pub front : List Token
  pub cut : ts ≡ front ++ fault
  pub value : A
  pub more : List Token
  pub goes_on : P value (front ++ more)
  pub stuck : (a : A) (z : List Token) → SameHead fault z → P a (front ++ z) → ⊥

-- What is true of the words of every grammar.
use Rattle.std.proofs.Common.{◌≡◌, ℕ, Bool, true, ◌||◌, ◌&&◌, List, [], ◌∷◌, ◌++◌, refl, inl, inr, sym, subst}
use Rattle.std.specs.Prelude.{Ok, Err}
use Rattle.std.proofs.lemmas.Bool.{and_parts, and_from, or_cases, or_left, or_right}
use Rattle.homeo_syntax.specs.declared.token.Kind.{Kind}
use Rattle.homeo_syntax.specs.declared.token.Token.{Token}
use Rattle.homeo_syntax.specs.Classes.{class_of}
use Rattle.homeo_syntax.specs.Grammar.{Grammar, token, nothing, call, seq, alt, many, part, as_value, takes, Repeats, Spells, has, SameHead}
use Rattle.homeo_reader.specs.inner.Engine.{Reading, Calls, empty, exists, begins, Classes, starts, decides, where_empty}
use Rattle.homeo_reader.proofs.Bools.{has_left, has_right, has_where}

-- no token of these classes comes first
abbrev pub Clear : List ℕ → List Token → Type 0
Clear ms [] = Unit {0}
Clear ms (t ∷ ts) = has ms (class_of t.kind) ≡ true → ⊥

-- A phrase was read, and would be read the same before all that begins as what came after it.
pub record Takes {A : Type 0} (P : A → List Token → Type 0) (reads : List Token → Reading A) (ts : List Token) (a : A) (rest : List Token) : Type 0 where
  pub word : List Token
  pub cut : ts ≡ word ++ rest
  pub is : P a word
  pub steady : (z : List Token) → SameHead rest z → reads (word ++ z) ≡ Ok (a, z)

-- What was read begins a phrase, and with all that begins as what came next it is stuck at the same place.
pub record Stops {A : Type 0} (P : A → List Token → Type 0) (reads : List Token → Reading A) (ts : List Token) (rest : List Token) : Type 0 where
  pub word : List Token
  pub cut : ts ≡ word ++ rest
  pub more : List Token
  pub value : A
  pub is : P value (word ++ more)
  pub steady : (z : List Token) → SameHead rest z → reads (word ++ z) ≡ Err z

abbrev pub Outcome : {A : Type 0} → (A → List Token → Type 0) → (List Token → Reading A) → List Token → Reading A → Type 0
Outcome P reads ts (Ok x) = Takes P reads ts x.0 x.1
Outcome P reads ts (Err rest) = Stops P reads ts rest

-- What has to be known of the calls.
pub record Known {Call : Type 0} {Value : Call → Type 0} (cl : Classes Call) (cs : Calls Call Value)
    (M : (c : Call) → Value c → List Token → Type 0) : Type 0 where
  pub some : (c : Call) → cs.exists c ≡ true → (a : Value c) × (w : List Token) × M c a w
  pub exists : (c : Call) (a : Value c) (w : List Token) → M c a w → cs.exists c ≡ true
  pub full : (c : Call) (a : Value c) → M c a [] → ⊥
  pub begins : (c : Call) (a : Value c) (t : Token) (w : List Token) → M c a (t ∷ w) → cs.begins c t.kind ≡ true
  pub begun : (c : Call) (k : Kind) → cs.begins c k ≡ true → cs.exists c ≡ true
  pub starts : (c : Call) (k : Kind) → cs.begins c k ≡ true → has (cl.starts c) (class_of k) ≡ true
  pub outcome : (c : Call) (ts : List Token) → cs.exists c ≡ true → Outcome (M c) (cs.reads c) ts (cs.reads c ts)
  pub complete : (c : Call) (a : Value c) (w z : List Token) → M c a w → Clear (cl.goes_on c) z → cs.reads c (w ++ z) ≡ Ok (a, z)

pub nil_cut : (u v : List Token) → [] ≡ u ++ v → (u ≡ []) × (v ≡ [])
nil_cut [] v h = (refl, sym h)
nil_cut (x ∷ u) v h = cc

begin_seq : (bg eh eg bh : Bool) (P Q : List Token → Type 0) (t : Token) (w u v : List Token) → t ∷ w ≡ u ++ v → P u → Q v →
    ((u : List Token) → P (t ∷ u) → bg ≡ true) → (P [] → eg ≡ true) → ((v : List Token) → Q (t ∷ v) → bh ≡ true) → ((v : List Token) → Q v → eh ≡ true) →
    ((bg && eh) || (eg && bh)) ≡ true
begin_seq bg eh eg bh P Q t w [] v e p q hb he hb' hx = or_right (bg && eh) _ (and_from _ _ (he p) (hb' w (subst Q (sym e) q)))
begin_seq bg eh eg bh P Q t w (x ∷ u) v e p q hb he hb' hx =
    let same : x ≡ t = cc in
    or_left _ _ (and_from _ _ (hb u (subst (λ (y : Token). P (y ∷ u)) same p)) (hx v q))

begin_many : {A : Type 0} → (P : A → List Token → Type 0) (b : Bool) (t : Token) → ((a : A) (u : List Token) → P a (t ∷ u) → b ≡ true) →
    (all : List A) (w : List Token) → Repeats P all (t ∷ w) → b ≡ true
begin_many P b t h [] w r = cc
begin_many P b t h (a ∷ rest) w r = go r.0 r.1 r.2 r.3 r.4 (λ v e q. begin_many P b t h rest w (subst (Repeats P rest) e q))
  where
    go : (u v : List Token) → t ∷ w ≡ u ++ v → P a u → Repeats P rest v → ((v : List Token) → v ≡ t ∷ w → Repeats P rest v → b ≡ true) → b ≡ true
    go [] v e p q ih = ih v (sym e) q
    go (x ∷ u) v e p q ih =
        let same : x ≡ t = cc in
        h a u (subst (λ (y : Token). P a (y ∷ u)) same p)

module _ {Call : Type 0} {Value : Call → Type 0} (cl : Classes Call) (cs : Calls Call Value) (M : (c : Call) → Value c → List Token → Type 0)
    (known : Known cl cs M) where
  pub some_word : {X : Type 0} → (g : Grammar Call Value X) → decides cl g ≡ true → exists cs g ≡ true → (a : X) × (w : List Token) × Spells M g a w
  some_word (token classes test value sample) d e = (value sample, sample ∷ [], (sample, refl, d, refl))
  some_word (nothing a) d e = (a, [], (refl, refl))
  some_word (call c) d e = known.some c e
  some_word (seq g h) d e =
      let ds = and_parts (decides cl g && decides cl h) _ d in
      let dd = and_parts (decides cl g) (decides cl h) ds.0 in
      let ee = and_parts (exists cs g) (exists cs h) e in
      let l = some_word g dd.0 ee.0 in
      let r = some_word h dd.1 ee.1 in
      ((l.0, r.0), l.1 ++ r.1, (l.1, r.1, refl, l.2, r.2))
  some_word (alt g h) d e =
      let ds = and_parts (decides cl g && decides cl h) _ d in
      let dd = and_parts (decides cl g) (decides cl h) ds.0 in
      elim (or_cases (exists cs g) (exists cs h) e) [
        | inl x ↦ (let l = some_word g dd.0 x in (l.0, l.1, inl l.2))
        | inr x ↦ (let l = some_word h dd.1 x in (l.0, l.1, inr l.2))
      ]
  some_word (many g) d e = ([], [], refl)
  some_word (part g) d e = some_word g d e
  some_word (as_value f g) d e = let l = some_word g d e in (f l.0, l.1, (l.0, l.2, refl))

  pub word_exists : {X : Type 0} → (g : Grammar Call Value X) (a : X) (w : List Token) → Spells M g a w → exists cs g ≡ true
  word_exists (token classes test value sample) a w s = refl
  word_exists (nothing b) a w s = refl
  word_exists (call c) a w s = known.exists c a w s
  word_exists (seq g h) a w s = and_from _ _ (word_exists g a.0 s.0 s.3) (word_exists h a.1 s.1 s.4)
  word_exists (alt g h) a w s = elim s [ inl x ↦ or_left _ _ (word_exists g a w x) | inr x ↦ or_right (exists cs g) _ (word_exists h a w x) ]
  word_exists (many g) a w s = refl
  word_exists (part g) a w s = word_exists g a w s
  word_exists (as_value f g) a w s = word_exists g s.0 w s.1

  pub empty_word : {X : Type 0} → (g : Grammar Call Value X) (a : X) → Spells M g a [] → empty g ≡ true
  empty_word (token classes test value sample) a s = cc
  empty_word (nothing b) a s = refl
  empty_word (call c) a s = absurd (known.full c a s)
  empty_word (seq g h) a s =
      let n = nil_cut s.0 s.1 s.2 in
      and_from _ _ (empty_word g a.0 (subst (Spells M g a.0) n.0 s.3)) (empty_word h a.1 (subst (Spells M h a.1) n.1 s.4))
  empty_word (alt g h) a s = elim s [ inl x ↦ or_left _ _ (empty_word g a x) | inr x ↦ or_right (empty g) _ (empty_word h a x) ]
  empty_word (many g) a s = refl
  empty_word (part g) a s = empty_word g a s
  empty_word (as_value f g) a s = empty_word g s.0 s.1

  pub empty_exists : {X : Type 0} → (g : Grammar Call Value X) → empty g ≡ true → exists cs g ≡ true
  empty_exists (token classes test value sample) e = refl
  empty_exists (nothing a) e = refl
  empty_exists (call c) e = cc
  empty_exists (seq g h) e = let ee = and_parts (empty g) (empty h) e in and_from _ _ (empty_exists g ee.0) (empty_exists h ee.1)
  empty_exists (alt g h) e =
      elim (or_cases (empty g) (empty h) e) [ inl x ↦ or_left _ _ (empty_exists g x) | inr x ↦ or_right (exists cs g) _ (empty_exists h x) ]
  empty_exists (many g) e = refl
  empty_exists (part g) e = empty_exists g e
  empty_exists (as_value f g) e = empty_exists g e

  pub begun_exists : {X : Type 0} → (g : Grammar Call Value X) (k : Kind) → begins cs g k ≡ true → exists cs g ≡ true
  begun_exists (token classes test value sample) k b = refl
  begun_exists (nothing a) k b = refl
  begun_exists (call c) k b = known.begun c k b
  begun_exists (seq g h) k b =
      elim (or_cases (begins cs g k && exists cs h) (empty g && begins cs h k) b) [
        | inl x ↦ (let s = and_parts (begins cs g k) (exists cs h) x in and_from _ _ (begun_exists g k s.0) s.1)
        | inr x ↦ (let s = and_parts (empty g) (begins cs h k) x in and_from _ _ (empty_exists g s.0) (begun_exists h k s.1))
      ]
  begun_exists (alt g h) k b =
      elim (or_cases (begins cs g k) (begins cs h k) b) [ inl x ↦ or_left _ _ (begun_exists g k x) | inr x ↦ or_right (exists cs g) _ (begun_exists h k x) ]
  begun_exists (many g) k b = refl
  begun_exists (part g) k b = begun_exists g k b
  begun_exists (as_value f g) k b = begun_exists g k b

  pub begun_starts : {X : Type 0} → (g : Grammar Call Value X) (k : Kind) → begins cs g k ≡ true → has (starts cl g) (class_of k) ≡ true
  begun_starts (token classes test value sample) k b = (and_parts (has classes (class_of k)) (test k) b).0
  begun_starts (nothing a) k b = cc
  begun_starts (call c) k b = known.starts c k b
  begun_starts (seq g h) k b =
      elim (or_cases (begins cs g k && exists cs h) (empty g && begins cs h k) b) [
        | inl x ↦ (let s = and_parts (begins cs g k) (exists cs h) x in has_left (starts cl g) (where_empty (empty g) (starts cl h)) (class_of k)
            (begun_starts g k s.0))
        | inr x ↦ (let s = and_parts (empty g) (begins cs h k) x in has_right (starts cl g) (where_empty (empty g) (starts cl h)) (class_of k)
            (has_where (empty g) (starts cl h) (class_of k) s.0 (begun_starts h k s.1)))
      ]
  begun_starts (alt g h) k b =
      elim (or_cases (begins cs g k) (begins cs h k) b) [
        | inl x ↦ has_left (starts cl g) (starts cl h) (class_of k) (begun_starts g k x)
        | inr x ↦ has_right
            (starts cl g) (starts cl h) (class_of k) (begun_starts h k x)
      ]
  begun_starts (many g) k b = begun_starts g k b
  begun_starts (part g) k b = begun_starts g k b
  begun_starts (as_value f g) k b = begun_starts g k b

  pub word_begins : {X : Type 0} → (g : Grammar Call Value X) (a : X) (t : Token) (w : List Token) → Spells M g a (t ∷ w) → begins cs g t.kind ≡ true
  word_begins (token classes test value sample) a t w s =
      let e : t ≡ s.0 = cc in
      subst (λ (u : Token). takes classes test u.kind ≡ true) (sym e) s.2
  word_begins (nothing b) a t w s = cc
  word_begins (call c) a t w s = known.begins c a t w s
  word_begins (seq g h) a t w s =
      begin_seq _ _ _ _ (λ u. Spells M g a.0 u) (λ v. Spells M h a.1 v) t w s.0 s.1 s.2 s.3 s.4
      (λ u p. word_begins g a.0 t u p) (λ p. empty_word g a.0 p) (λ v p. word_begins h a.1 t v p) (λ v p. word_exists h a.1 v p)
  word_begins (alt g h) a t w s = elim s [ inl x ↦ or_left _ _ (word_begins g a t w x) | inr x ↦ or_right (begins cs g t.kind) _ (word_begins h a t w x) ]
  word_begins (many g) a t w s = begin_many (Spells M g) (begins cs g t.kind) t (λ b u p. word_begins g b t u p) a w s
  word_begins (part g) a t w s = word_begins g a t w s
  word_begins (as_value f g) a t w s = word_begins g s.0 t w s.1

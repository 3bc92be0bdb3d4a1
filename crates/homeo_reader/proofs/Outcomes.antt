-- Each reading takes a phrase or stops where no phrase goes on.
use Rattle.std.proofs.Common.{◌≡◌, ℕ, zero, suc, ◌+◌, ◌≤◌, Bool, true, false, ◌&&◌, not, List, [], ◌∷◌, ◌++◌, length, refl, inl, inr, sym, subst, ap, ◌∙◌, append_assoc, length-append, arith}
use Rattle.std.proofs.lemmas.List.{append-nil}
use Rattle.std.specs.Prelude.{Ok, Err, if◌then◌else◌}
use Rattle.std.proofs.lemmas.Bool.{and_parts, or_cases}
use Rattle.homeo_lemmas.proofs.Bools.{never_both}
use Rattle.homeo_syntax.specs.declared.token.Kind.{Kind}
use Rattle.homeo_syntax.specs.declared.token.Token.{Token}
use Rattle.homeo_syntax.specs.Grammar.{Grammar, token, nothing, call, seq, alt, many, part, as_value, takes, Repeats, Spells, SameHead}
use Rattle.homeo_reader.specs.inner.Engine.{Reading, ◌>>=◌, Calls, empty, exists, begins, first_is, read_token, repeat, read, Classes, decides}
use Rattle.homeo_reader.proofs.Bools.{if_true, if_false}
use Rattle.homeo_reader.proofs.Words.{Takes, Outcome, Known, some_word, empty_word, begun_exists}

pub same_refl : (r : List Token) → SameHead r r
same_refl [] = refl
same_refl (t ∷ r) = (r, refl)

pub first_same : (test : Kind → Bool) (w r z : List Token) → SameHead r z → first_is test (w ++ z) ≡ first_is test (w ++ r)
first_same test [] [] z s = ap (first_is test) s
first_same test [] (t ∷ r) z s = ap (first_is test) s.1
first_same test (t ∷ w) r z s = refl

pub same_append : (w r z : List Token) → SameHead r z → SameHead (w ++ r) (w ++ z)
same_append [] r z s = s
same_append (t ∷ w) r z s = (w ++ z, refl)

pub head_subst : (r r' z : List Token) → r ≡ r' → SameHead r' z → SameHead r z
head_subst r r' z e s = subst (λ (x : List Token). SameHead x z) (sym e) s

pub first_begins : (test : Kind → Bool) (ts : List Token) → first_is test ts ≡ true →
    (t : Token) × (rest : List Token) × (ts ≡ t ∷ rest) × (test t.kind ≡ true)
first_begins test [] h = cc
first_begins test (t ∷ ts) h = (t, ts, refl, h)

-- A token.
pub token_outcome : {A : Type 0} → (classes : List ℕ) (test : Kind → Bool) (value : Token → A) (sample : Token) → takes classes test sample.kind ≡ true →
    (P : A → List Token → Type 0) → ((t : Token) → takes classes test t.kind ≡ true → P (value t) (t ∷ [])) →
    (ts : List Token) → Outcome P (read_token classes test value) ts (read_token classes test value ts)
token_outcome classes test value sample d P is [] =
    record {
      word = [];
      cut = refl;
      more = sample ∷ [];
      value = value sample;
      is = is sample d;
      steady = λ z s. ap (read_token classes test value) s ∙ ap Err (sym s);
    }
token_outcome classes test value sample d P is (t ∷ ts) = go (takes classes test t.kind) refl
  where
    go : (b : Bool) → takes classes test t.kind ≡ b → Outcome P (read_token classes test value) (t ∷ ts) (if b then Ok (value t, ts) else Err (t ∷ ts))
    go true e = record { word = t ∷ []; cut = refl; is = is t e; steady = λ z s. if_true _ (Ok (value t, z)) (Err (t ∷ z)) e }
    go false e = record {
      word = [];
      cut = refl;
      more = sample ∷ [];
      value = value sample;
      is = is sample d;
      steady = λ z s. ap (read_token classes test value) s.1 ∙ if_false _ (Ok (value t, s.0)) (Err (t ∷ s.0)) e ∙ ap Err (sym s.1);
    }

-- One after the other.
pub seq_second : {A B C : Type 0} → (P : A → List Token → Type 0) (Q : B → List Token → Type 0) (R : C → List Token → Type 0)
    (both : A → B → C) → ((a : A) (b : B) (u v : List Token) → P a u → Q b v → R (both a b) (u ++ v)) →
    (one : List Token → Reading A) (two : List Token → Reading B) (ts : List Token) (a : A) (r : List Token) → Takes P one ts a r →
    (y : Reading B) → Outcome Q two r y →
    Outcome R (λ ts. one ts >>= λ x. two x.1 >>= λ y. Ok (both x.0 y.0, y.1)) ts (y >>= λ y. Ok (both a y.0, y.1))
seq_second P Q R both join one two ts a r t (Ok y) o = record {
  word = t.word ++ o.word;
  cut = t.cut ∙ ap (λ (x : List Token). t.word ++ x) o.cut ∙ sym (append_assoc t.word o.word y.1);
  is = join a y.0 t.word o.word t.is o.is;
  steady = λ z s. ap (λ (x : List Token). one x >>= λ x. two x.1 >>= λ y. Ok (both x.0 y.0, y.1)) (append_assoc t.word o.word z)
      ∙ ap (λ x. x >>= λ x. two x.1 >>= λ y. Ok (both x.0 y.0, y.1)) (t.steady (o.word ++ z) (head_subst _ _ _ o.cut (same_append o.word y.1 z s)))
      ∙ ap (λ x. x >>= λ y. Ok (both a y.0, y.1)) (o.steady z s);
}
seq_second P Q R both join one two ts a r t (Err rest) o = record {
  word = t.word ++ o.word;
  cut = t.cut ∙ ap (λ (x : List Token). t.word ++ x) o.cut ∙ sym (append_assoc t.word o.word rest);
  more = o.more;
  value = both a o.value;
  is = subst (R (both a o.value)) (sym (append_assoc t.word o.word o.more)) (join a o.value t.word (o.word ++ o.more) t.is o.is);
  steady = λ z s. ap (λ (x : List Token). one x >>= λ x. two x.1 >>= λ y. Ok (both x.0 y.0, y.1)) (append_assoc t.word o.word z)
      ∙ ap (λ x. x >>= λ x. two x.1 >>= λ y. Ok (both x.0 y.0, y.1)) (t.steady (o.word ++ z) (head_subst _ _ _ o.cut (same_append o.word rest z s)))
      ∙ ap (λ x. x >>= λ y. Ok (both a y.0, y.1)) (o.steady z s);
}

pub seq_outcome : {A B C : Type 0} → (P : A → List Token → Type 0) (Q : B → List Token → Type 0) (R : C → List Token → Type 0)
    (both : A → B → C) → ((a : A) (b : B) (u v : List Token) → P a u → Q b v → R (both a b) (u ++ v)) →
    (one : List Token → Reading A) (two : List Token → Reading B) (ts : List Token) → ((b : B) × (w : List Token) × Q b w) →
    (x : Reading A) → Outcome P one ts x → ((r : List Token) → Outcome Q two r (two r)) →
    Outcome R (λ ts. one ts >>= λ x. two x.1 >>= λ y. Ok (both x.0 y.0, y.1)) ts (x >>= λ x. two x.1 >>= λ y. Ok (both x.0 y.0, y.1))
seq_outcome P Q R both join one two ts some (Ok x) o next = seq_second P Q R both join one two ts x.0 x.1 o (two x.1) (next x.1)
seq_outcome P Q R both join one two ts some (Err rest) o next = record {
  word = o.word;
  cut = o.cut;
  more = o.more ++ some.1;
  value = both o.value some.0;
  is = subst (R (both o.value some.0)) (append_assoc o.word o.more some.1) (join o.value some.0 (o.word ++ o.more) some.1 o.is some.2);
  steady = λ z s. ap (λ x. x >>= λ x. two x.1 >>= λ y. Ok (both x.0 y.0, y.1)) (o.steady z s);
}

-- The same phrase as another value.
pub map_outcome : {A B : Type 0} → (P : A → List Token → Type 0) (R : B → List Token → Type 0) (f : A → B) → ((a : A) (u : List Token) → P a u → R (f a) u) →
    (one : List Token → Reading A) (ts : List Token) (x : Reading A) → Outcome P one ts x →
    Outcome R (λ ts. one ts >>= λ x. Ok (f x.0, x.1)) ts (x >>= λ x. Ok (f x.0, x.1))
map_outcome P R f is one ts (Ok x) o = record {
  word = o.word;
  cut = o.cut;
  is = is x.0 o.word o.is;
  steady = λ z s. ap (λ x. x >>= λ x. Ok (f x.0, x.1)) (o.steady z s);
}
map_outcome P R f is one ts (Err rest) o = record {
  word = o.word;
  cut = o.cut;
  more = o.more;
  value = f o.value;
  is = is o.value (o.word ++ o.more) o.is;
  steady = λ z s. ap (λ x. x >>= λ x. Ok (f x.0, x.1)) (o.steady z s);
}

pub part_outcome : {A : Type 0} → (P R : A → List Token → Type 0) → ((a : A) (u : List Token) → P a u → R a u) →
    (one : List Token → Reading A) (ts : List Token) (x : Reading A) → Outcome P one ts x → Outcome R one ts x
part_outcome P R is one ts (Ok x) o = record { word = o.word; cut = o.cut; is = is x.0 o.word o.is; steady = o.steady }
part_outcome P R is one ts (Err rest) o =
    record { word = o.word; cut = o.cut; more = o.more; value = o.value; is = is o.value (o.word ++ o.more) o.is; steady = o.steady }

-- One or the other.
pub alt_outcome : {A : Type 0} → (P Q R : A → List Token → Type 0) → ((a : A) (u : List Token) → P a u → R a u) → ((a : A) (u : List Token) → Q a u → R a u) →
    (test : Kind → Bool) (there : Bool) (one two : List Token → Reading A) (ts : List Token) →
    (first_is test ts ≡ true → Outcome P one ts (one ts)) → (there ≡ true → Outcome Q two ts (two ts)) →
    (there ≡ false → (a : A) × (w : List Token) × P a w) →
    Outcome R (λ ts. if first_is test ts then one ts else (if there then two ts else Err ts)) ts
    (if first_is test ts then one ts else (if there then two ts else Err ts))
alt_outcome {A = A} P Q R left right test there one two ts l r some = go (first_is test ts) there refl refl
  where
    reads : List Token → Reading A
    reads ts = if first_is test ts then one ts else (if there then two ts else Err ts)

    first : (x : Reading A) → first_is test ts ≡ true → Outcome P one ts x →
        Outcome R (λ ts. if first_is test ts then one ts else (if there then two ts else Err ts)) ts x
    first (Ok x) e o = record {
      word = o.word;
      cut = o.cut;
      is = left x.0 o.word o.is;
      steady = λ z s. if_true _ (one (o.word ++ z)) _ (first_same test o.word x.1 z s ∙ ap (first_is test) (sym o.cut) ∙ e) ∙ o.steady z s;
    }
    first (Err rest) e o = record {
      word = o.word;
      cut = o.cut;
      more = o.more;
      value = o.value;
      is = left o.value (o.word ++ o.more) o.is;
      steady = λ z s. if_true _ (one (o.word ++ z)) _ (first_same test o.word rest z s ∙ ap (first_is test) (sym o.cut) ∙ e) ∙ o.steady z s;
    }

    second : (x : Reading A) → first_is test ts ≡ false → there ≡ true → Outcome Q two ts x →
        Outcome R (λ ts. if first_is test ts then one ts else (if there then two ts else Err ts)) ts x
    second (Ok x) e h o = record {
      word = o.word;
      cut = o.cut;
      is = right x.0 o.word o.is;
      steady =
          λ z s. if_false _ (one (o.word ++ z)) (if there then two (o.word ++ z) else Err (o.word ++ z))
          (first_same test o.word x.1 z s ∙ ap (first_is test) (sym o.cut) ∙ e) ∙ if_true there (two (o.word ++ z)) (Err (o.word ++ z)) h ∙ o.steady z s;
    }
    second (Err rest) e h o = record {
      word = o.word;
      cut = o.cut;
      more = o.more;
      value = o.value;
      is = right o.value (o.word ++ o.more) o.is;
      steady =
          λ z s. if_false _ (one (o.word ++ z)) (if there then two (o.word ++ z) else Err (o.word ++ z))
          (first_same test o.word rest z s ∙ ap (first_is test) (sym o.cut) ∙ e) ∙ if_true there (two (o.word ++ z)) (Err (o.word ++ z)) h ∙ o.steady z s;
    }

    go : (b c : Bool) → first_is test ts ≡ b → there ≡ c →
        Outcome R (λ ts. if first_is test ts then one ts else (if there then two ts else Err ts)) ts (if b then one ts else (if c then two ts else Err ts))
    go true c e h = first (one ts) e (l e)
    go false true e h = second (two ts) e h (r h)
    go false false e h =
        let w = some h in
        record {
          word = [];
          cut = refl;
          more = w.1;
          value = w.0;
          is = left w.0 w.1 w.2;
          steady = λ z s. if_false _ (one z) (if there then two z else Err z) (first_same test [] ts z s ∙ e) ∙ if_false there (two z) (Err z) h;
        }

-- What a repetition reads, whatever the number of turns that it has left, if that is enough.
pub record TakesAll {A : Type 0} (P : List A → List Token → Type 0) (test : Kind → Bool) (one : List Token → Reading A) (ts : List Token) (a : List A)
    (rest : List Token) : Type 0 where
  pub word : List Token
  pub cut : ts ≡ word ++ rest
  pub is : P a word
  pub steady : (m : ℕ) (z : List Token) → length (word ++ z) ≤ m → SameHead rest z → repeat test one m (word ++ z) ≡ Ok (a, z)

pub record StopsAll {A : Type 0} (P : List A → List Token → Type 0) (test : Kind → Bool) (one : List Token → Reading A) (ts : List Token)
    (rest : List Token) : Type 0 where
  pub word : List Token
  pub cut : ts ≡ word ++ rest
  pub more : List Token
  pub value : List A
  pub is : P value (word ++ more)
  pub steady : (m : ℕ) (z : List Token) → length (word ++ z) ≤ m → SameHead rest z → repeat test one m (word ++ z) ≡ Err z

abbrev pub OutcomeAll : {A : Type 0} → (List A → List Token → Type 0) → (Kind → Bool) → (List Token → Reading A) → List Token → Reading (List A) → Type 0
OutcomeAll P test one ts (Ok x) = TakesAll P test one ts x.0 x.1
OutcomeAll P test one ts (Err rest) = StopsAll P test one ts rest

-- no more of them
pub repeat_ends : {A : Type 0} → (test : Kind → Bool) (one : List Token → Reading A) (m : ℕ) (ts : List Token) → first_is test ts ≡ false →
    repeat test one m ts ≡ Ok ([], ts)
repeat_ends test one zero ts e = refl
repeat_ends test one (suc m) ts e = if_false _ (one ts >>= λ x. repeat test one m x.1 >>= λ y. Ok (x.0 ∷ y.0, y.1)) _ e

-- one more
pub repeat_more : {A : Type 0} → (test : Kind → Bool) (one : List Token → Reading A) (m : ℕ) (ts : List Token) → first_is test ts ≡ true → length ts ≤ m →
    (n : ℕ) × (m ≡ suc n) × (repeat test one m ts ≡ (one ts >>= λ x. repeat test one n x.1 >>= λ y. Ok (x.0 ∷ y.0, y.1)))
repeat_more test one m [] e l = cc
repeat_more test one zero (t ∷ ts) e l = absurd (omega arith)
repeat_more test one (suc m) (t ∷ ts) e l = (m, refl, if_true _ _ (Ok ([], t ∷ ts)) e)

pub longer : (w r ts : List Token) → (w ≡ [] → ⊥) → ts ≡ w ++ r → length r + 1 ≤ length ts
longer [] r ts ne e = absurd (ne refl)
longer (t ∷ w) r ts ne e = omega (arith, ap length e, length-append w r)

abbrev pub then_more : {A : Type 0} → (Kind → Bool) → (List Token → Reading A) → ℕ → Reading A → Reading (List A)
then_more test one n x = x >>= λ x. repeat test one n x.1 >>= λ y. Ok (x.0 ∷ y.0, y.1)

repeat_again : {A : Type 0} → (P : A → List Token → Type 0) → (test : Kind → Bool) (one : List Token → Reading A) (n : ℕ) (ts : List Token) →
    first_is test ts ≡ true → (a : A) (r : List Token) → (t : Takes P one ts a r) → (t.word ≡ [] → ⊥) →
    (y : Reading (List A)) → OutcomeAll (Repeats P) test one r y → OutcomeAll (Repeats P) test one ts (y >>= λ y. Ok (a ∷ y.0, y.1))
repeat_again {A = A} P test one n ts e a r t ne (Ok y) o = record {
  word = t.word ++ o.word;
  cut = t.cut ∙ ap (λ (x : List Token). t.word ++ x) o.cut ∙ sym (append_assoc t.word o.word y.1);
  is = (t.word, o.word, refl, t.is, o.is);
  steady = λ m z l s.
      let first : first_is test ((t.word ++ o.word) ++ z) ≡ true = first_same test (t.word ++ o.word) y.1 z s
      ∙ ap (first_is test) (append_assoc t.word o.word y.1 ∙ ap (λ (x : List Token). t.word ++ x) (sym o.cut) ∙ sym t.cut) ∙ e in
      let k = repeat_more test one m ((t.word ++ o.word) ++ z) first l in
      let room : length (o.word ++ z) ≤ k.0 =
      omega (arith, longer t.word (o.word ++ z) (t.word ++ (o.word ++ z)) ne refl, ap length (append_assoc t.word o.word z), k.1) in
      k.2 ∙ ap (λ (x : List Token). then_more test one k.0 (one x)) (append_assoc t.word o.word z)
      ∙ ap (then_more test one k.0) (t.steady (o.word ++ z) (head_subst _ _ _ o.cut (same_append o.word y.1 z s)))
      ∙ ap (λ x. x >>= λ y. Ok (a ∷ y.0, y.1)) (o.steady k.0 z room s);
}
repeat_again {A = A} P test one n ts e a r t ne (Err rest) o = record {
  word = t.word ++ o.word;
  cut = t.cut ∙ ap (λ (x : List Token). t.word ++ x) o.cut ∙ sym (append_assoc t.word o.word rest);
  more = o.more;
  value = a ∷ o.value;
  is = (t.word, o.word ++ o.more, append_assoc t.word o.word o.more, t.is, o.is);
  steady = λ m z l s.
      let first : first_is test ((t.word ++ o.word) ++ z) ≡ true = first_same test (t.word ++ o.word) rest z s
      ∙ ap (first_is test) (append_assoc t.word o.word rest ∙ ap (λ (x : List Token). t.word ++ x) (sym o.cut) ∙ sym t.cut) ∙ e in
      let k = repeat_more test one m ((t.word ++ o.word) ++ z) first l in
      let room : length (o.word ++ z) ≤ k.0 =
      omega (arith, longer t.word (o.word ++ z) (t.word ++ (o.word ++ z)) ne refl, ap length (append_assoc t.word o.word z), k.1) in
      k.2 ∙ ap (λ (x : List Token). then_more test one k.0 (one x)) (append_assoc t.word o.word z)
      ∙ ap (then_more test one k.0) (t.steady (o.word ++ z) (head_subst _ _ _ o.cut (same_append o.word rest z s)))
      ∙ ap (λ x. x >>= λ y. Ok (a ∷ y.0, y.1)) (o.steady k.0 z room s);
}

not_empty_word : {A : Type 0} → (P : A → List Token → Type 0) → ((a : A) → P a [] → ⊥) → (a : A) (w : List Token) → P a w → w ≡ [] → ⊥
not_empty_word P full a w p e = full a (subst (P a) e p)

pub repeat_outcome : {A : Type 0} → (P : A → List Token → Type 0) → ((a : A) → P a [] → ⊥) → (test : Kind → Bool) (one : List Token → Reading A) →
    ((ts : List Token) → first_is test ts ≡ true → Outcome P one ts (one ts)) → (n : ℕ) (ts : List Token) → length ts ≤ n →
    OutcomeAll (Repeats P) test one ts (repeat test one n ts)
repeat_outcome P full test one each zero [] l =
    record { word = []; cut = refl; is = refl; steady = λ m z l s. repeat_ends test one m z (ap (first_is test) s) }
repeat_outcome P full test one each zero (t ∷ ts) l = absurd (omega arith)
repeat_outcome {A = A} P full test one each (suc n) ts l = go (first_is test ts) refl (repeat_outcome P full test one each n)
  where
    turn : (x : Reading A) → first_is test ts ≡ true → Outcome P one ts x →
        ((r : List Token) → length r ≤ n → OutcomeAll (Repeats P) test one r (repeat test one n r)) →
        OutcomeAll (Repeats P) test one ts (then_more test one n x)
    turn (Ok x) e o ih =
        let ne = not_empty_word P full x.0 o.word o.is in
        repeat_again P test one n ts e x.0 x.1 o ne (repeat test one n x.1) (ih x.1 (omega (arith, longer o.word x.1 ts ne o.cut)))
    turn (Err rest) e o ih = record {
      word = o.word;
      cut = o.cut;
      more = o.more;
      value = o.value ∷ [];
      is = (o.word ++ o.more, [], sym (append-nil (o.word ++ o.more)), o.is, refl);
      steady = λ m z l s.
          let k = repeat_more test one m (o.word ++ z) (first_same test o.word rest z s ∙ ap (first_is test) (sym o.cut) ∙ e) l in
          k.2 ∙ ap (then_more test one k.0) (o.steady z s);
    }

    go : (b : Bool) → first_is test ts ≡ b → ((r : List Token) → length r ≤ n → OutcomeAll (Repeats P) test one r (repeat test one n r)) →
        OutcomeAll (Repeats P) test one ts (if b then then_more test one n (one ts) else Ok ([], ts))
    go true e ih = turn (one ts) e (each ts e) ih
    go false e ih = record { word = []; cut = refl; is = refl; steady = λ m z l s. repeat_ends test one m z (first_same test [] ts z s ∙ e) }

pub outcome_from_all : {A : Type 0} → (P : List A → List Token → Type 0) (test : Kind → Bool) (one : List Token → Reading A) (ts : List Token)
    (x : Reading (List A)) → OutcomeAll P test one ts x → Outcome P (λ ts. repeat test one (length ts) ts) ts x
outcome_from_all P test one ts (Ok x) o = record { word = o.word; cut = o.cut; is = o.is; steady = λ z s. o.steady (length (o.word ++ z)) z (omega arith) s }
outcome_from_all P test one ts (Err rest) o =
    record { word = o.word; cut = o.cut; more = o.more; value = o.value; is = o.is; steady = λ z s. o.steady (length (o.word ++ z)) z (omega arith) s }

module _ {Call : Type 0} {Value : Call → Type 0} (cl : Classes Call) (cs : Calls Call Value) (M : (c : Call) → Value c → List Token → Type 0)
    (known : Known cl cs M) where
  -- each reading takes a phrase, or stops where no phrase goes on
  pub read_outcome : {X : Type 0} → (g : Grammar Call Value X) → decides cl g ≡ true → exists cs g ≡ true → (ts : List Token) →
      Outcome (Spells M g) (read cs g) ts (read cs g ts)
  unfolding read
  read_outcome (token classes test value sample) d e ts =
      token_outcome classes test value sample d (Spells M (token classes test value sample)) (λ t h. (t, refl, h, refl)) ts
  read_outcome (nothing a) d e ts = record { word = []; cut = refl; is = (refl, refl); steady = λ z s. refl }
  read_outcome (call c) d e ts = known.outcome c ts e
  read_outcome (seq g h) d e ts =
      let ds = and_parts (decides cl g && decides cl h) _ d in
      let dd = and_parts (decides cl g) (decides cl h) ds.0 in
      let ee = and_parts (exists cs g) (exists cs h) e in
      seq_outcome (Spells M g) (Spells M h) (Spells M (seq g h)) (λ a b. (a, b)) (λ a b u v p q. (u, v, refl, p, q)) (read cs g) (read cs h) ts
      (some_word cl cs M known h dd.1 ee.1) (read cs g ts) (read_outcome g dd.0 ee.0 ts) (λ r. read_outcome h dd.1 ee.1 r)
  read_outcome (alt g h) d e ts =
      let ds = and_parts (decides cl g && decides cl h) _ d in
      let dd = and_parts (decides cl g) (decides cl h) ds.0 in
      alt_outcome (Spells M g) (Spells M h) (Spells M (alt g h)) (λ a u p. inl p) (λ a u p. inr p) (begins cs g) (exists cs h) (read cs g) (read cs h) ts
      (λ f. let b = first_begins (begins cs g) ts f in read_outcome g dd.0 (begun_exists cl cs M known g b.0.kind b.3) ts)
      (λ x. read_outcome h dd.1 x ts)
      (λ x. some_word cl cs M known g dd.0 (elim (or_cases (exists cs g) (exists cs h) e) [ inl y ↦ y | inr y ↦ cc ]))
  read_outcome (many g) d e ts =
      let ds = and_parts (decides cl g) _ d in
      let ne = and_parts (not (empty g)) _ ds.1 in
      outcome_from_all (Repeats (Spells M g)) (begins cs g) (read cs g) ts (repeat (begins cs g) (read cs g) (length ts) ts)
      (repeat_outcome (Spells M g) (λ a p. never_both (empty g) ne.0 (empty_word cl cs M known g a p)) (begins cs g) (read cs g)
      (λ ts f. let b = first_begins (begins cs g) ts f in read_outcome g ds.0 (begun_exists cl cs M known g b.0.kind b.3) ts) (length ts) ts (omega arith))
  read_outcome (part g) d e ts = part_outcome (Spells M g) (Spells M (part g)) (λ a u p. p) (read cs g) ts (read cs g ts) (read_outcome g d e ts)
  read_outcome (as_value f g) d e ts =
      map_outcome (Spells M g) (Spells M (as_value f g)) f (λ a u p. (a, p, refl)) (read cs g) ts (read cs g ts) (read_outcome g d e ts)

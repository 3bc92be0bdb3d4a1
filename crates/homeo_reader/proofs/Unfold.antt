-- A repetition is one phrase and then the repetition.
use Rattle.std.proofs.Common.{◌≡◌, ℕ, ◌≤◌, Bool, true, false, List, [], ◌∷◌, length, sym, subst, ap, ◌∙◌, arith, length-append, not}
use Rattle.std.specs.Prelude.{Ok, Err}
use Rattle.std.proofs.lemmas.Bool.{and_parts}
use Rattle.homeo_lemmas.proofs.Bools.{never_both}
use Rattle.homeo_syntax.specs.declared.token.Kind.{Kind}
use Rattle.homeo_syntax.specs.declared.token.Token.{Token}
use Rattle.homeo_syntax.specs.Grammar.{Grammar, many, Spells, Repeats}
use Rattle.homeo_reader.specs.inner.Engine.{Reading, ◌>>=◌, Calls, empty, begins, first_is, read, repeat, Classes, decides}
use Rattle.homeo_reader.proofs.Words.{Known, Outcome, Takes, begun_exists, empty_word}
use Rattle.homeo_reader.proofs.Outcomes.{same_refl, first_begins, repeat_outcome, repeat_more, repeat_ends, then_more, OutcomeAll, read_outcome, longer}

steady_all : {A : Type 0} → (P : List A → List Token → Type 0) (test : Kind → Bool) (one : List Token → Reading A) (ts : List Token) (x : Reading (List A)) →
    OutcomeAll P test one ts x → (m : ℕ) → length ts ≤ m → repeat test one m ts ≡ x
steady_all P test one ts (Ok x) o m l =
    ap (repeat test one m) o.cut ∙ o.steady m x.1 (subst (λ (t : List Token). length t ≤ m) o.cut l) (same_refl x.1)
steady_all P test one ts (Err rest) o m l =
    ap (repeat test one m) o.cut ∙ o.steady m rest (subst (λ (t : List Token). length t ≤ m) o.cut l) (same_refl rest)

-- what is left is no longer than what there was
pub no_longer : {A : Type 0} → (P : A → List Token → Type 0) (one : List Token → Reading A) (ts : List Token) (a : A) (r : List Token) →
    Outcome P one ts (one ts) → one ts ≡ Ok (a, r) → length r ≤ length ts
no_longer P one ts a r o e =
    let t : Takes P one ts a r = subst (Outcome P one ts) e o in
    omega (arith, ap length t.cut, length-append t.word r)

module _ {Call : Type 0} {Value : Call → Type 0} (cl : Classes Call) (cs : Calls Call Value) (M : (c : Call) → Value c → List Token → Type 0)
    (known : Known cl cs M) {X : Type 0} (g : Grammar Call Value X) (d : decides cl (many g) ≡ true) where
  each : (ts : List Token) → first_is (begins cs g) ts ≡ true → Outcome (Spells M g) (read cs g) ts (read cs g ts)
  each ts f =
      let ds = and_parts (decides cl g) _ d in
      let b = first_begins (begins cs g) ts f in
      read_outcome cl cs M known g ds.0 (begun_exists cl cs M known g b.0.kind b.3) ts

  full : (a : X) → Spells M g a [] → ⊥
  full a p =
      let ds = and_parts (decides cl g) _ d in
      never_both (empty g) (and_parts (not (empty g)) _ ds.1).0 (empty_word cl cs M known g a p)

  -- enough turns are enough
  enough : (m : ℕ) (ts : List Token) → length ts ≤ m → repeat (begins cs g) (read cs g) m ts ≡ read cs (many g) ts
  unfolding read
  enough m ts l =
      steady_all (Repeats (Spells M g)) (begins cs g) (read cs g) ts (repeat (begins cs g) (read cs g) (length ts) ts)
      (repeat_outcome (Spells M g) full (begins cs g) (read cs g) each (length ts) ts (omega arith)) m l

  pub many_ends : (ts : List Token) → first_is (begins cs g) ts ≡ false → read cs (many g) ts ≡ Ok ([], ts)
  unfolding read
  many_ends ts f = repeat_ends (begins cs g) (read cs g) (length ts) ts f

  pub many_goes_on : (ts : List Token) (a : X) (r : List Token) → first_is (begins cs g) ts ≡ true → read cs g ts ≡ Ok (a, r) →
      read cs (many g) ts ≡ (read cs (many g) r >>= λ y. Ok (a ∷ y.0, y.1))
  many_goes_on ts a r f e =
      let k = repeat_more (begins cs g) (read cs g) (length ts) ts f (omega arith) in
      let t : Takes (Spells M g) (read cs g) ts a r = subst (Outcome (Spells M g) (read cs g) ts) e (each ts f) in
      let ne : t.word ≡ [] → ⊥ = λ z. full a (subst (Spells M g a) z t.is) in
      let room : length r ≤ k.0 = omega (arith, longer t.word r ts ne t.cut, k.1) in
      sym (enough (length ts) ts (omega arith)) ∙ k.2 ∙ ap (then_more (begins cs g) (read cs g) k.0) e
      ∙ ap (λ x. x >>= λ y. Ok (a ∷ y.0, y.1)) (enough k.0 r room)

  pub many_stops : (ts rest : List Token) → first_is (begins cs g) ts ≡ true → read cs g ts ≡ Err rest → read cs (many g) ts ≡ Err rest
  many_stops ts rest f e =
      let k = repeat_more (begins cs g) (read cs g) (length ts) ts f (omega arith) in
      sym (enough (length ts) ts (omega arith)) ∙ k.2 ∙ ap (then_more (begins cs g) (read cs g) k.0) e

-- All of the tokens: exactly the phrases are read, and the fault is the first one.
use Rattle.std.proofs.Common.{◌≡◌, true, List, [], ◌∷◌, ◌++◌, sym, subst, ap, ◌∙◌}
use Rattle.std.proofs.lemmas.List.{append-nil}
use Rattle.std.specs.Prelude.{Result, Ok, Err}
use Rattle.homeo_syntax.specs.declared.token.Token.{Token}
use Rattle.homeo_syntax.specs.Grammar.{Grammar, Spells, IsFault}
use Rattle.homeo_reader.specs.inner.Engine.{Reading, Calls, exists, read, Classes, decides, all_of}
use Rattle.homeo_reader.proofs.Words.{Outcome, Known}
use Rattle.homeo_reader.proofs.Outcomes.{read_outcome}
use Rattle.homeo_reader.proofs.Complete.{read_complete}

-- what all of the tokens are
abbrev pub Exact : {A : Type 0} → (A → List Token → Type 0) → List Token → Result A (List Token) → Type 0
Exact P ts (Ok a) = P a ts
Exact P ts (Err fault) = IsFault P ts fault

abbrev pub rest_of : {A : Type 0} → Reading A → List Token
rest_of (Ok x) = x.1
rest_of (Err e) = e

nothing_left : {t : Token} {ts : List Token} → [] ≡ t ∷ ts → ⊥
nothing_left e = cc

same_ok : {A : Type 0} → (a b : A) (x : Result A (List Token)) → x ≡ Ok a → x ≡ Ok b → a ≡ b
same_ok a b x p q = cc

module _ {Call : Type 0} {Value : Call → Type 0} (cl : Classes Call) (cs : Calls Call Value) (M : (c : Call) → Value c → List Token → Type 0)
    (known : Known cl cs M) {X : Type 0} (g : Grammar Call Value X) (d : decides cl g ≡ true) where
  whole : (a : X) (w : List Token) → Spells M g a w → read cs g w ≡ Ok (a, [])
  whole a w s = ap (read cs g) (sym (append-nil w)) ∙ read_complete cl cs M known g d a w [] s tt

  -- a phrase is read, as the value that it has
  pub reads_all : (a : X) (ts : List Token) → Spells M g a ts → all_of (read cs g ts) ≡ Ok a
  reads_all a ts s = ap all_of (whole a ts s)

  -- no tokens are two phrases
  pub one_value : (a b : X) (ts : List Token) → Spells M g a ts → Spells M g b ts → a ≡ b
  one_value a b ts s t = same_ok a b (all_of (read cs g ts)) (reads_all a ts s) (reads_all b ts t)

  exact : (ts : List Token) (x : Reading X) → Outcome (Spells M g) (read cs g) ts x → Exact (Spells M g) ts (all_of x)
  exact ts (Ok (a, [])) o = subst (Spells M g a) (sym (o.cut ∙ append-nil o.word)) o.is
  exact ts (Ok (a, t ∷ rest)) o = record {
    front = o.word;
    cut = o.cut;
    value = a;
    more = [];
    goes_on = subst (Spells M g a) (sym (append-nil o.word)) o.is;
    stuck = λ b z s p. nothing_left (ap rest_of (sym (whole b (o.word ++ z) p) ∙ o.steady z s) ∙ s.1);
  }
  exact ts (Err fault) o = record {
    front = o.word;
    cut = o.cut;
    value = o.value;
    more = o.more;
    goes_on = o.is;
    stuck = λ b z s p. let e = sym (whole b (o.word ++ z) p) ∙ o.steady z s in cc;
  }

  -- what is read is a phrase, and a fault is the first one
  pub all_exact : exists cs g ≡ true → (ts : List Token) → Exact (Spells M g) ts (all_of (read cs g ts))
  all_exact e ts = exact ts (read cs g ts) (read_outcome cl cs M known g d e ts)

-- What may go a depth deep may also go deeper.
use Rattle.std.proofs.Common.{ℕ, zero, suc, List, [], ◌∷◌, inl, inr}
use Rattle.homeo_syntax.specs.declared.token.Kind.{Kind}
use Rattle.homeo_syntax.specs.declared.token.Token.{Token}
use Rattle.homeo_syntax.specs.Grammar.{token, nothing, call, seq, alt, many, part, as_value, Repeats, Spells, Means}
use Rattle.homeo_syntax.specs.Rules.{Deep, Tree, Rule, rule}
use Rattle.homeo_print_workload.proofs.Claims.{Meaning, Claim, Back}

repeats_more : {A : Type 0} → (P Q : A → List Token → Type 0) → ((a : A) (ts : List Token) → P a ts → Q a ts) → (all : List A) (ts : List Token) → Repeats P all ts → Repeats Q all ts
repeats_more P Q h [] ts s = s
repeats_more P Q h (a ∷ all) ts s = (s.0, s.1, s.2, h a s.0 s.3, repeats_more P Q h all s.1 s.4)

module _ (M N : Meaning) (more : (c : Deep) (a : Tree c) (ts : List Token) → M c a ts → N c a ts) where
  pub raised : {A : Type 0} → (g : Rule A) (a : A) (ts : List Token) → Spells M g a ts → Spells N g a ts
  raised (token classes test value sample) a ts s = s
  raised (nothing b) a ts s = s
  raised (call c) a ts s = more c a ts s
  raised (seq g h) a ts s = (s.0, s.1, s.2, raised g a.0 s.0 s.3, raised h a.1 s.1 s.4)
  raised (alt g h) a ts s = elim s [ inl x ↦ inl (raised g a ts x) | inr x ↦ inr (raised h a ts x) ]
  raised (many g) a ts s = repeats_more (Spells M g) (Spells N g) (raised g) a ts s
  raised (part g) a ts s = raised g a ts s
  raised (as_value f g) a ts s = (s.0, raised g s.0 ts s.1, s.2)

pub deeper : (n : ℕ) (c : Deep) (a : Tree c) (ts : List Token) → Means rule n c a ts → Means rule (suc n) c a ts
deeper zero c a ts h = absurd h
deeper (suc n) c a ts h = raised (Means rule n) (Means rule (suc n)) (deeper n) (rule c) a ts h

pub claim_deeper : (n : ℕ) {A : Type 0} {g : Rule A} {w : A → A} {a : A} {ks : List Kind} {ts : List Token} → Claim (Means rule n) g w a ks ts → Claim (Means rule (suc n)) g w a ks ts
claim_deeper n {g = g} c = record {
  same_atoms = c.same_atoms;
  again = λ us i.
      let x = c.again us i in
      record { value = x.value; spells = raised (Means rule n) (Means rule (suc n)) (deeper n) g x.value us x.spells; same = x.same };
}

-- what a call means one deeper
pub claim_called : (n : ℕ) (c : Deep) {w : Tree c → Tree c} {a : Tree c} {ks : List Kind} {ts : List Token} → Claim (Means rule n) (rule c) w a ks ts → Claim (Means rule (suc n)) (call c) w a ks ts
claim_called n c x = record {
  same_atoms = x.same_atoms;
  again = λ us i. let y = x.again us i in record { value = y.value; spells = y.spells; same = y.same };
}

pub back_called : (n : ℕ) (c : Deep) {w : Tree c → Tree c} {p : Tree c → List Kind} → Back (Means rule n) (rule c) w p → Back (Means rule (suc n)) (call c) w p
back_called n c x = record { of = λ a ts s f. claim_called n c (x.of a ts s f) }

pub never : (c : Deep) (w : Tree c → Tree c) (p : Tree c → List Kind) → Back (Means rule zero) (call c) w p
never c w p = record { of = λ a ts s f. absurd s }

-- What is true of each value that a grammar spells: predicates, rule by rule.
use Rattle.std.proofs.Common.{◌≡◌, ℕ, Bool, true, List, [], ◌∷◌, ◌++◌, sym, subst, inl, inr}
use Rattle.homeo_syntax.specs.declared.token.Mark.{Mark}
use Rattle.homeo_syntax.specs.declared.token.Mark.TheVariants as mark
use Rattle.homeo_syntax.specs.declared.token.Kind.{Kind}
use Rattle.homeo_syntax.specs.declared.token.Token.{Token}
use Rattle.homeo_syntax.specs.declared.token.Version.{Version}
use Rattle.homeo_syntax.specs.Source as s
use Rattle.homeo_syntax.specs.SourceView.{commands}
use Rattle.homeo_syntax.specs.Grammar.{call, token, nothing, seq, alt, many, part, as_value, takes, Repeats, Spells}
use Rattle.homeo_syntax.specs.Rules as rules
use Rattle.homeo_syntax.specs.Rules.{Deep, Command, Tree, Rule, fixed, lead, closed}

abbrev pub Meaning : Type 1
Meaning = (c : Deep) → Tree c → List Token → Type 0

-- the fact holds of each token
abbrev pub Fine : (Token → Type 0) → List Token → Type 0
Fine F [] = Unit {0}
Fine F (t ∷ ts) = F t × Fine F ts

pub fine_split : (F : Token → Type 0) (u v : List Token) → Fine F (u ++ v) → Fine F u × Fine F v
fine_split F [] v h = (tt, h)
fine_split F (t ∷ u) v h = let r = fine_split F u v h.1 in ((h.0, r.0), r.1)

-- Each value that the grammar spells with fine tokens has the property.
pub record Sound (M : Meaning) (F : Token → Type 0) {X : Type 0} (g : Rule X) (Q : X → Type 0) : Type 0 where
  pub of : (a : X) (ts : List Token) → Spells M g a ts → Fine F ts → Q a

-- a property of each of many
abbrev pub Every : {A : Type 0} → (A → Type 0) → List A → Type 0
Every P [] = Unit {0}
Every P (a ∷ all) = P a × Every P all

module _ (M : Meaning) (F : Token → Type 0) where
  pub sound_token : {A : Type 0} → (classes : List ℕ) (test : Kind → Bool) (value : Token → A) (sample : Token) (Q : A → Type 0) →
      ((t : Token) → takes classes test t.kind ≡ true → F t → Q (value t)) → Sound M F (token classes test value sample) Q
  sound_token classes test value sample Q h = record {
    of = λ a ts s f. subst Q (sym s.3) (h s.0 s.2 (let g : Fine F (s.0 ∷ []) = subst (Fine F) s.1 f in g.0));
  }

  pub sound_nothing : {A : Type 0} → (b : A) (Q : A → Type 0) → Q b → Sound M F (nothing b) Q
  sound_nothing b Q h = record { of = λ a ts s f. subst Q (sym s.1) h }

  pub sound_seq : {A B : Type 0} → (g : Rule A) (h : Rule B) (P : A → Type 0) (R : B → Type 0) → Sound M F g P → Sound M F h R →
      Sound M F (seq g h) (λ p. P p.0 × R p.1)
  sound_seq g h P R p r = record {
    of = λ a ts s f. let w = fine_split F s.0 s.1 (subst (Fine F) s.2 f) in (p.of a.0 s.0 s.3 w.0, r.of a.1 s.1 s.4 w.1);
  }

  pub sound_alt : {A : Type 0} → (g h : Rule A) (Q : A → Type 0) → Sound M F g Q → Sound M F h Q → Sound M F (alt g h) Q
  sound_alt g h Q p r = record { of = λ a ts s f. elim s [ inl x ↦ p.of a ts x f | inr x ↦ r.of a ts x f ] }

  pub sound_part : {A : Type 0} → (g : Rule A) (Q : A → Type 0) → Sound M F g Q → Sound M F (part g) Q
  sound_part g Q p = record { of = λ a ts s f. p.of a ts s f }

  pub sound_as : {A B : Type 0} → (f : A → B) (g : Rule A) (P : A → Type 0) (Q : B → Type 0) → Sound M F g P → ((a : A) → P a → Q (f a)) →
      Sound M F (as_value f g) Q
  sound_as f g P Q p h = record { of = λ b ts s w. subst Q (sym s.2) (h s.0 (p.of s.0 ts s.1 w)) }

  every : {A : Type 0} → (g : Rule A) (P : A → Type 0) → Sound M F g P → (all : List A) (ts : List Token) → Repeats (Spells M g) all ts → Fine F ts →
      Every P all
  every g P p [] ts s f = tt
  every g P p (a ∷ all) ts s f =
      let w = fine_split F s.0 s.1 (subst (Fine F) s.2 f) in
      (p.of a s.0 s.3 w.0, every g P p all s.1 s.4 w.1)

  pub sound_many : {A : Type 0} → (g : Rule A) (P : A → Type 0) → Sound M F g P → Sound M F (many g) (Every P)
  sound_many g P p = record { of = λ a ts s f. every g P p a ts s f }

  pub sound_fixed : (m : Mark) → Sound M F (fixed m) (λ u. Unit {0})
  sound_fixed m = record { of = λ a ts s f. tt }

  pub sound_lead : {A : Type 0} → (m : Mark) (g : Rule A) (Q : A → Type 0) → Sound M F g Q → Sound M F (lead m g) Q
  sound_lead m g Q p = sound_as (λ p. p.1) (seq (fixed m) g) _ Q (sound_seq (fixed m) g _ Q (sound_fixed m) p) (λ a h. h.1)

  pub sound_closed : {A : Type 0} → (m : Mark) (g : Rule A) (Q : A → Type 0) → Sound M F g Q → Sound M F (closed g m) Q
  sound_closed m g Q p = sound_as (λ p. p.0) (seq g (fixed m)) _ Q (sound_seq g (fixed m) Q _ p (sound_fixed m)) (λ a h. h.0)

  -- a block, by what is true of each of its commands
  pub sound_block : (v : Version) (P : s.Command → Type 0) (Q : s.Commands → Type 0) → Sound M F (call (Command v)) P →
      ((all : List s.Command) → Every P all → Q (commands all)) → Q s.NoCommand → Sound M F (rules.block v) Q
  sound_block v P Q p each none =
      sound_part _ Q (sound_lead mark.OpenBrace _ Q (sound_closed mark.CloseBrace _ Q
      (sound_alt _ _ Q
      (sound_as _ _ _ Q (sound_seq _ _ P (Every P) p (sound_many _ P (sound_lead mark.Semicolon _ P p))) (λ q h. each (q.0 ∷ q.1) h))
      (sound_nothing s.NoCommand Q none))))

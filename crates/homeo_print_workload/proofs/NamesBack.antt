-- Names, and what stands behind them, are spelled again by what is printed for them.
use Rattle.std.proofs.Common.{◌≡◌, ℕ, List, [], ◌∷◌, ◌++◌, append-nil, refl, sym, ap, subst, ◌∙◌, inl, inr}
use Rattle.homeo_syntax.specs.declared.token.Kind.{Kind}
use Rattle.homeo_syntax.specs.declared.token.Kind.TheVariants as kind
use Rattle.homeo_syntax.specs.declared.token.Token.{Token}
use Rattle.homeo_syntax.specs.declared.phrase.Ident.{Ident}
use Rattle.homeo_syntax.specs.Grammar.{nothing, seq, alt, part, as_value, Spells}
use Rattle.homeo_syntax.specs.Rules as rules
use Rattle.homeo_syntax.specs.Rules.{Rule, name_in, ident_at}
use Rattle.homeo_print_workload.specs.Key.{definitions}
use Rattle.homeo_print_workload.specs.TokensOf.{Kinds, name_of}
use Rattle.homeo_print_workload.specs.Offsets.{ident_without}
use Rattle.homeo_print_workload.proofs.Atoms.{kinds_of, atoms, name_taken, Fine}
use Rattle.homeo_print_workload.proofs.Claims.{Meaning, Claim, Back, claim_token, claim_as, claim_kinds}

abbrev bare : ℕ → Ident
bare n = record { name = n; offset = 0 }

pub back_ident : {M : Meaning} → Back M rules.ident ident_without name_of
unfolding definitions
back_ident {M} = record {
  of = λ a ts x f.
      let e = name_taken x.0.kind x.2 in
      subst (λ (y : Ident). Claim M rules.ident ident_without y (name_of y) ts) (sym x.3)
      (claim_token _ _ _ _ ident_without (ident_at x.0) (kind.Name (name_in x.0.kind)) ts refl (λ u h. ap (λ (k : Kind). bare (name_in k)) h)
      (ap (λ (k : Kind). atoms (k ∷ [])) (sym e) ∙ sym (ap (λ (z : List Token). atoms (kinds_of z)) x.1)));
}

-- a name, and behind it what makes a phrase of the name
abbrev pub named : {B : Type 0} → Rule (Ident → B) → Rule B
named h = as_value (λ p. p.1 p.0) (seq rules.ident h)

-- Each name with what the grammar spells behind it is spelled again by what is printed for both.
pub record Tail (M : Meaning) {B : Type 0} (h : Rule (Ident → B)) (w : B → B) (p : B → Kinds) : Type 0 where
  pub of : (x : Ident) (k : Ident → B) (u v ts : List Token) → ts ≡ u ++ v → Spells M rules.ident x u → Spells M h k v → Fine ts → Claim M (named h) w (k x) (p (k x)) ts

module _ {M : Meaning} {B : Type 0} {w : B → B} where
  named_left : {b : B} {ks : Kinds} {ts : List Token} → (g h : Rule (Ident → B)) → Claim M (named g) w b ks ts → Claim M (named (alt g h)) w b ks ts
  named_left g h c = record {
    same_atoms = c.same_atoms;
    again = λ us i.
        let y = c.again us i in
        let s = y.spells in
        record { value = y.value; spells = (s.0, (s.1.0, s.1.1, s.1.2, s.1.3, inl s.1.4), s.2); same = y.same };
  }

  named_right : {b : B} {ks : Kinds} {ts : List Token} → (g h : Rule (Ident → B)) → Claim M (named h) w b ks ts → Claim M (named (alt g h)) w b ks ts
  named_right g h c = record {
    same_atoms = c.same_atoms;
    again = λ us i.
        let y = c.again us i in
        let s = y.spells in
        record { value = y.value; spells = (s.0, (s.1.0, s.1.1, s.1.2, s.1.3, inr s.1.4), s.2); same = y.same };
  }

module _ {M : Meaning} {B : Type 0} {w : B → B} {p : B → Kinds} where
  pub tail_alt : {g h : Rule (Ident → B)} → Tail M g w p → Tail M h w p → Tail M (alt g h) w p
  tail_alt {g = g} {h = h} a b = record {
    of = λ x k u v ts e n s f. elim s [
      | inl l ↦ named_left g h (a.of x k u v ts e n l f)
      | inr r ↦ named_right g h (b.of x k u v ts e n r f)
    ];
  }

  pub tail_part : {h : Rule (Ident → B)} → Tail M h w p → Tail M (part h) w p
  tail_part a = record {
    of = λ x k u v ts e n s f.
        let c = a.of x k u v ts e n s f in
        record { same_atoms = c.same_atoms; again = λ us i. let y = c.again us i in record { value = y.value; spells = y.spells; same = y.same } };
  }

  -- nothing stands behind the name
  pub tail_nothing : (c : Ident → B) → ((x : Ident) → w (c x) ≡ c (ident_without x)) → ((x : Ident) → name_of x ≡ p (c x)) → Tail M (nothing c) w p
  tail_nothing c e k = record {
    of = λ x h u v ts cut n s f.
        let whole : ts ≡ u = cut ∙ ap (λ (z : List Token). u ++ z) s.0 ∙ append-nil u in
        let d : Claim M (as_value c rules.ident) w (c x) (name_of x) ts = claim_as c w e (back_ident.of x ts (subst (Spells M rules.ident x) (sym whole) n) f) in
        subst (λ (y : Ident → B). Claim M (named (nothing c)) w (y x) (p (y x)) ts) (sym s.1)
        (claim_kinds (k x) (record {
          same_atoms = d.same_atoms;
          again = λ us i.
              let y = d.again us i in
              record { value = y.value; spells = ((y.spells.0, c), (us, [], sym (append-nil us), y.spells.1, (refl, refl)), y.spells.2); same = y.same };
        }));
  }

  -- a phrase stands behind the name
  pub tail_as : {A : Type 0} {g : Rule A} {v : Ident × A → Ident × A} {q : Ident × A → Kinds} → (F : A → Ident → B) → ((a : Ident × A) → w (F a.1 a.0) ≡ F (v a).1 (v a).0) → ((a : Ident × A) → q a ≡ p (F a.1 a.0)) →
      Back M (seq rules.ident g) v q → Tail M (as_value F g) w p
  tail_as {A} {g} {v} {q} F e k b = record {
    of = λ x h front back ts cut n s f.
        let d = claim_as (λ (a : Ident × A). F a.1 a.0) w e (b.of (x, s.0) ts (front, back, cut, n, s.1) f) in
        subst (λ (y : Ident → B). Claim M (named (as_value F g)) w (y x) (p (y x)) ts) (sym s.2)
        (claim_kinds (k (x, s.0)) (record {
          same_atoms = d.same_atoms;
          again = λ us i.
              let y = d.again us i in
              let z = y.spells in
              record { value = y.value; spells = ((z.0.0, F z.0.1), (z.1.0, z.1.1, z.1.2, z.1.3, (z.0.1, z.1.4, refl)), z.2); same = y.same };
        }));
  }

  pub back_named : {h : Rule (Ident → B)} → Tail M h w p → Back M (named h) w p
  back_named {h} t = record {
    of = λ a ts s f. subst (λ (y : B). Claim M (named h) w y (p y) ts) (sym s.2) (t.of s.0.0 s.0.1 s.1.0 s.1.1 ts s.1.2 s.1.3 s.1.4 f);
  }

-- What is printed for a value that a grammar spells is spelled by that grammar again: claims, rule by rule.
use Rattle.std.proofs.Common.{◌≡◌, ℕ, Bool, true, List, [], ◌∷◌, ◌++◌, map, refl, sym, ap, subst, ◌∙◌, inl, inr}
use Rattle.std.specs.List.{flat_map}
use Rattle.homeo_syntax.specs.declared.token.Mark.{Mark}
use Rattle.homeo_syntax.specs.declared.token.Kind.{Kind}
use Rattle.homeo_syntax.specs.declared.token.Kind.TheVariants as kind
use Rattle.homeo_syntax.specs.declared.token.Token.{Token}
use Rattle.homeo_syntax.specs.Classes.{number_of}
use Rattle.homeo_syntax.specs.Grammar.{token, nothing, seq, alt, many, part, as_value, takes, Repeats, Spells}
use Rattle.homeo_syntax.specs.Rules.{Deep, Tree, Rule, fixed, offset_of, lead, closed}
use Rattle.homeo_syntax.specs.Rules as rules
use Rattle.homeo_print_workload.specs.Key.{definitions}
use Rattle.homeo_print_workload.specs.TokensOf.{led, separated}
use Rattle.homeo_print_workload.proofs.Atoms.{kinds_of, atoms, atoms_both, atoms_last, nothing_left, first_of_kinds, cut_kinds, mark_taken, mark_skipped, Fine, fine_split}

abbrev pub Meaning : Type 1
Meaning = (c : Deep) → Tree c → List Token → Type 0

-- The tokens are a phrase, with this value where the offsets are taken away.
pub record Again (M : Meaning) {A : Type 0} (g : Rule A) (w : A → A) (a : A) (us : List Token) : Type 0 where
  pub value : A
  pub spells : Spells M g value us
  pub same : w value ≡ w a

-- All tokens of these kinds are the value again, and have the names and numbers of those tokens.
pub record Claim (M : Meaning) {A : Type 0} (g : Rule A) (w : A → A) (a : A) (ks : List Kind) (ts : List Token) : Type 0 where
  pub same_atoms : atoms ks ≡ atoms (kinds_of ts)
  pub again : (us : List Token) → kinds_of us ≡ ks → Again M g w a us

-- Each value that the grammar spells is spelled again by what is printed for it.
pub record Back (M : Meaning) {A : Type 0} (g : Rule A) (w : A → A) (p : A → List Kind) : Type 0 where
  pub of : (a : A) (ts : List Token) → Spells M g a ts → Fine ts → Claim M g w a (p a) ts

pair_same : {A B : Type 0} {a a' : A} {b b' : B} → a ≡ a' → b ≡ b' → (let x : A × B = (a, b) in x) ≡ (a', b')
pair_same {A} {B} {a} {a'} {b} {b'} e f = ap (λ (x : A). let y : A × B = (x, b) in y) e ∙ ap (λ (x : B). let y : A × B = (a', x) in y) f

led_is : {A : Type 0} → (m : Mark) (p : A → List Kind) (all : List A) → flat_map (λ a. kind.Fixed m ∷ p a) all ≡ led m (map p all)
led_is m p [] = refl
led_is m p (a ∷ all) = ap (λ (x : List Kind). kind.Fixed m ∷ (p a ++ x)) (led_is m p all)

module _ {M : Meaning} where
  -- ---- claims
  pub claim_token : {A : Type 0} → (classes : List ℕ) (test : Kind → Bool) (value : Token → A) (sample : Token) (w : A → A) (a : A) (k : Kind) (ts : List Token) →
      takes classes test k ≡ true → ((u : Token) → u.kind ≡ k → w (value u) ≡ w a) → atoms (k ∷ []) ≡ atoms (kinds_of ts) →
      Claim M (token classes test value sample) w a (k ∷ []) ts
  claim_token classes test value sample w a k ts h same e = record {
    same_atoms = e;
    again = λ us i.
        let f = first_of_kinds k [] us i in
        record {
          value = value f.token;
          spells = (f.token, f.cut ∙ ap (λ (x : List Token). f.token ∷ x) (nothing_left f.rest f.others), ap (takes classes test) f.is ∙ h, refl);
          same = same f.token f.is;
        };
  }

  pub claim_lead : {A : Type 0} {g : Rule A} {w : A → A} {a : A} {ks : List Kind} {ts : List Token} → (m : Mark) → Claim M g w a ks ts → Claim M (lead m g) w a (kind.Fixed m ∷ ks) ts
  claim_lead {ks = ks} m c = record {
    same_atoms = c.same_atoms;
    again = λ us i.
        let f = first_of_kinds (kind.Fixed m) ks us i in
        let x = c.again f.rest f.others in
        record {
          value = x.value;
          spells = ((tt, x.value), (f.token ∷ [], f.rest, f.cut, (f.token, refl, mark_taken m f.token.kind f.is, refl), x.spells), refl);
          same = x.same;
        };
  }

  pub claim_closed : {A : Type 0} {g : Rule A} {w : A → A} {a : A} {ks : List Kind} {ts : List Token} → (m : Mark) → Claim M g w a ks ts → Claim M (closed g m) w a (ks ++ kind.Fixed m ∷ []) ts
  claim_closed {ks = ks} m c = record {
    same_atoms = atoms_last ks m ∙ c.same_atoms;
    again = λ us i.
        let cut = cut_kinds ks (kind.Fixed m ∷ []) us i in
        let f = first_of_kinds (kind.Fixed m) [] cut.back cut.second in
        let x = c.again cut.front cut.first in
        record {
          value = x.value;
          spells = ((x.value, tt), (cut.front, cut.back, cut.cut, x.spells, (f.token, f.cut ∙ ap (λ (y : List Token). f.token ∷ y) (nothing_left f.rest f.others), mark_taken m f.token.kind f.is, refl)), refl);
          same = x.same;
        };
  }

  pub claim_seq : {A B : Type 0} {g : Rule A} {h : Rule B} {wg : A → A} {wh : B → B} {a : A} {b : B} {ks ls : List Kind} {u v : List Token} →
      Claim M g wg a ks u → Claim M h wh b ls v → Claim M (seq g h) (λ p. (wg p.0, wh p.1)) (a, b) (ks ++ ls) (u ++ v)
  claim_seq {wg = wg} {wh = wh} {a = a} {b = b} {ks = ks} {ls = ls} {u = u} {v = v} c d = record {
    same_atoms = atoms_both ks ls u v c.same_atoms d.same_atoms;
    again = λ us i.
        let cut = cut_kinds ks ls us i in
        let x = c.again cut.front cut.first in
        let y = d.again cut.back cut.second in
        record {
          value = (x.value, y.value);
          spells = (cut.front, cut.back, cut.cut, x.spells, y.spells);
          same = pair_same x.same y.same;
        };
  }

  pub claim_as : {A B : Type 0} {g : Rule A} {wg : A → A} {a : A} {ks : List Kind} {ts : List Token} → (f : A → B) (w : B → B) → ((x : A) → w (f x) ≡ f (wg x)) →
      Claim M g wg a ks ts → Claim M (as_value f g) w (f a) ks ts
  claim_as {a = a} f w e c = record {
    same_atoms = c.same_atoms;
    again = λ us i.
        let x = c.again us i in
        record { value = f x.value; spells = (x.value, x.spells, refl); same = e x.value ∙ ap f x.same ∙ sym (e a) };
  }

  pub claim_left : {A : Type 0} {g : Rule A} {w : A → A} {a : A} {ks : List Kind} {ts : List Token} → (h : Rule A) → Claim M g w a ks ts → Claim M (alt g h) w a ks ts
  claim_left h c = record {
    same_atoms = c.same_atoms;
    again = λ us i. let x = c.again us i in record { value = x.value; spells = inl x.spells; same = x.same };
  }

  pub claim_right : {A : Type 0} {h : Rule A} {w : A → A} {a : A} {ks : List Kind} {ts : List Token} → (g : Rule A) → Claim M h w a ks ts → Claim M (alt g h) w a ks ts
  claim_right g c = record {
    same_atoms = c.same_atoms;
    again = λ us i. let x = c.again us i in record { value = x.value; spells = inr x.spells; same = x.same };
  }

  pub claim_part : {A : Type 0} {g : Rule A} {w : A → A} {a : A} {ks : List Kind} {ts : List Token} → Claim M g w a ks ts → Claim M (part g) w a ks ts
  claim_part c = record {
    same_atoms = c.same_atoms;
    again = λ us i. let x = c.again us i in record { value = x.value; spells = x.spells; same = x.same };
  }

  -- the same claim of tokens with the same names and numbers
  pub claim_at : {A : Type 0} {g : Rule A} {w : A → A} {a : A} {ks : List Kind} {ts us : List Token} → atoms (kinds_of ts) ≡ atoms (kinds_of us) → Claim M g w a ks ts → Claim M g w a ks us
  claim_at e c = record { same_atoms = c.same_atoms ∙ e; again = c.again }

  pub claim_kinds : {A : Type 0} {g : Rule A} {w : A → A} {a : A} {ks ls : List Kind} {ts : List Token} → ks ≡ ls → Claim M g w a ks ts → Claim M g w a ls ts
  claim_kinds {g = g} {w = w} {a = a} {ts = ts} e c = subst (λ x. Claim M g w a x ts) e c

  -- ---- rules
  pub back_fixed : (m : Mark) → Back M (fixed m) (λ u. u) (λ u. kind.Fixed m ∷ [])
  back_fixed m = record {
    of = λ a ts s n. claim_token (number_of m ∷ []) (λ k. true) _ _ (λ u. u) a (kind.Fixed m) ts (mark_taken m (kind.Fixed m) refl) (λ u e. refl)
        (sym (mark_skipped m s.0.kind [] s.2) ∙ sym (ap (λ (x : List Token). atoms (kinds_of x)) s.1));
  }

  pub back_offset : (m : Mark) → Back M (offset_of m) (λ o. 0) (λ o. kind.Fixed m ∷ [])
  back_offset m = record {
    of = λ a ts s n. claim_token (number_of m ∷ []) (λ k. true) _ _ (λ o. 0) a (kind.Fixed m) ts (mark_taken m (kind.Fixed m) refl) (λ u e. refl)
        (sym (mark_skipped m s.0.kind [] s.2) ∙ sym (ap (λ (x : List Token). atoms (kinds_of x)) s.1));
  }

  pub back_seq : {A B : Type 0} {g : Rule A} {h : Rule B} {wg : A → A} {wh : B → B} {pg : A → List Kind} {ph : B → List Kind} →
      Back M g wg pg → Back M h wh ph → Back M (seq g h) (λ p. (wg p.0, wh p.1)) (λ p. pg p.0 ++ ph p.1)
  back_seq {g = g} {h = h} {wg = wg} {wh = wh} {pg = pg} {ph = ph} x y = record {
    of = λ a ts s n.
        let f = fine_split s.0 s.1 (subst Fine s.2 n) in
        subst (λ (z : List Token). Claim M (seq g h) (λ p. (wg p.0, wh p.1)) a (pg a.0 ++ ph a.1) z) (sym s.2) (claim_seq (x.of a.0 s.0 s.3 f.0) (y.of a.1 s.1 s.4 f.1));
  }

  pub back_as : {A B : Type 0} {g : Rule A} {wg : A → A} {pg : A → List Kind} → (f : A → B) (w : B → B) (p : B → List Kind) → ((x : A) → w (f x) ≡ f (wg x)) → ((x : A) → pg x ≡ p (f x)) →
      Back M g wg pg → Back M (as_value f g) w p
  back_as {g = g} f w p e k x = record {
    of = λ b ts s n. subst (λ y. Claim M (as_value f g) w y (p y) ts) (sym s.2) (claim_kinds (k s.0) (claim_as f w e (x.of s.0 ts s.1 n)));
  }

  pub back_alt : {A : Type 0} {g h : Rule A} {w : A → A} {p : A → List Kind} → Back M g w p → Back M h w p → Back M (alt g h) w p
  back_alt {g = g} {h = h} x y = record {
    of = λ a ts s n. elim s [ inl l ↦ claim_left h (x.of a ts l n) | inr r ↦ claim_right g (y.of a ts r n) ];
  }

  pub back_part : {A : Type 0} {g : Rule A} {w : A → A} {p : A → List Kind} → Back M g w p → Back M (part g) w p
  back_part x = record { of = λ a ts s n. claim_part (x.of a ts s n) }

  pub back_nothing : {A : Type 0} → (b : A) (w : A → A) (p : A → List Kind) → p b ≡ [] → Back M (nothing b) w p
  back_nothing b w p e = record {
    of = λ a ts s n. record {
      same_atoms = ap (λ x. atoms (p x)) s.1 ∙ ap atoms e ∙ sym (ap (λ (x : List Token). atoms (kinds_of x)) s.0);
      again = λ us i. record { value = b; spells = (nothing_left us (i ∙ ap p s.1 ∙ e), refl); same = ap w (sym s.1) };
    };
  }

  pub back_lead : {A : Type 0} {g : Rule A} {w : A → A} {p : A → List Kind} → (m : Mark) → Back M g w p → Back M (lead m g) w (λ a. kind.Fixed m ∷ p a)
  back_lead {w = w} {p = p} m x = back_as (λ p. p.1) w (λ a. kind.Fixed m ∷ p a) (λ x. refl) (λ x. refl) (back_seq (back_fixed m) x)

  pub back_closed : {A : Type 0} {g : Rule A} {w : A → A} {p : A → List Kind} → (m : Mark) → Back M g w p → Back M (closed g m) w (λ a. p a ++ kind.Fixed m ∷ [])
  back_closed {w = w} {p = p} m x = back_as (λ p. p.0) w (λ a. p a ++ kind.Fixed m ∷ []) (λ x. refl) (λ x. refl) (back_seq x (back_fixed m))

  each_back : {A : Type 0} {g : Rule A} {w : A → A} {p : A → List Kind} → Back M g w p → (all : List A) (ts : List Token) → Repeats (Spells M g) all ts → Fine ts → Claim M (many g) (map w) all (flat_map p all) ts
  each_back {w = w} x [] ts s n = record {
    same_atoms = sym (ap (λ (x : List Token). atoms (kinds_of x)) s);
    again = λ us i. record { value = []; spells = nothing_left us i; same = refl };
  }
  each_back {g = g} {w = w} {p = p} x (a ∷ all) ts s n =
      let f = fine_split s.0 s.1 (subst Fine s.2 n) in
      let c = x.of a s.0 s.3 f.0 in
      let d = each_back x all s.1 s.4 f.1 in
      record {
        same_atoms = atoms_both (p a) (flat_map p all) s.0 s.1 c.same_atoms d.same_atoms ∙ sym (ap (λ (x : List Token). atoms (kinds_of x)) s.2);
        again = λ us i.
            let cut = cut_kinds (p a) (flat_map p all) us i in
            let y = c.again cut.front cut.first in
            let z = d.again cut.back cut.second in
            record {
              value = y.value ∷ z.value;
              spells = (cut.front, cut.back, cut.cut, y.spells, z.spells);
              same = ap (λ h. h ∷ map w z.value) y.same ∙ ap (λ t. w a ∷ t) z.same;
            };
      }

  pub back_many : {A : Type 0} {g : Rule A} {w : A → A} {p : A → List Kind} → Back M g w p → Back M (many g) (map w) (flat_map p)
  back_many x = record { of = λ a ts s n. each_back x a ts s n }

  pub back_listed : {A : Type 0} {g : Rule A} {w : A → A} {p : A → List Kind} → (m : Mark) → Back M g w p → Back M (rules.listed m g) (map w) (λ all. separated m (map p all))
  unfolding definitions
  back_listed {w = w} {p = p} m x =
      back_as (λ p. p.0 ∷ p.1) (map w) (λ all. separated m (map p all)) (λ a. refl) (λ a. ap (λ (x : List Kind). p a.0 ++ x) (led_is m p a.1)) (back_seq x (back_many (back_lead m x)))

  pub back_separated : {A : Type 0} {g : Rule A} {w : A → A} {p : A → List Kind} → (m : Mark) → Back M g w p → Back M (rules.separated m g) (map w) (λ all. separated m (map p all))
  unfolding definitions
  back_separated {w = w} {p = p} m x = back_alt (back_listed m x) (back_nothing [] (map w) (λ all. separated m (map p all)) refl)

-- What a run leaves as it was.
use Rattle.std.specs.Prelude.{◌≡◌, ◌==◌, ◌⊎◌, ℕ, ℤ, false, length, refl, FitsSigned}
use Rattle.std.proofs.Common.{inl, inr, ◌∙◌, sym, subst}
use Rattle.std.specs.Int.{w64}
use Rattle.std.specs.List.{list_any}
use Rattle.homeo_meaning.specs.Serial.{values_of}
use Rattle.homeo_local.specs.declared.own.Own.{Own}

abbrev pub Leads : Own → Own → Type 0
Leads o p = record {
  base : p.base ≡ o.base;
  count : length p.deltas.items ≡ length o.deltas.items;
  -- what isn't among the objects written afterwards wasn't before, and has the delta that it had
  keeps : (n : ℕ) → list_any (λ m. n == m) p.written.items ≡ false → (list_any (λ m. n == m) o.written.items ≡ false) × (values_of p.deltas.items n ≡ values_of o.deltas.items n);
  -- each delta is the one that it was, or fits i64
  fits : (n : ℕ) → (values_of p.deltas.items n ≡ values_of o.deltas.items n) ⊎ FitsSigned w64 (values_of p.deltas.items n);
}

pub stays : (o : Own) → Leads o o
stays o = record { base = refl; count = refl; keeps = λ n h. (h, refl); fits = λ n. inl refl }

either_then : {a b c : ℤ} → (b ≡ a) ⊎ FitsSigned w64 b → (c ≡ b) ⊎ FitsSigned w64 c → (c ≡ a) ⊎ FitsSigned w64 c
either_then h (inr f) = inr f
either_then (inl e) (inl g) = inl (g ∙ e)
either_then (inr f) (inl g) = inr (subst (FitsSigned w64) (sym g) f)

pub goes_on : (o p q : Own) → Leads o p → Leads p q → Leads o q
goes_on o p q first then = record {
  base = then.base ∙ first.base;
  count = then.count ∙ first.count;
  keeps = λ n h. let new = then.keeps n h in let old = first.keeps n new.0 in (old.0, new.1 ∙ old.1);
  fits = λ n. either_then (first.fits n) (then.fits n);
}

-- The bytes of the parts of a report: lines, words, numbers.
use Rattle.std.proofs.Common.{◌≡◌, ℕ, zero, suc, ◌+◌, ◌/◌, ◌%◌, ◌<◌, ◌==◌, ◌≢◌, Bool, true, false, cond, not, List, [], ◌∷◌, ◌++◌, ℤ, pos, negsuc, flat_map, append_assoc, decimal, refl, sym, ap, ◌∙◌, subst, arith, mod-lt, nat_lt}
use Rattle.std.specs.Fmt.{signed_decimal, digits, digits_onto, digit_glyph}
use Rattle.std.specs.List.{list_all}
use Rattle.std.proofs.lemmas.Bool.Decides.{nat_tests}
use Rattle.std.proofs.lemmas.Bool.{and_from}
use Rattle.homeo_lemmas.proofs.Bools.{and_first, and_second}
use Rattle.homeo_lemmas.proofs.Lists.{cons_tail}
use Rattle.homeo_report.proofs.Splits.{not_both, cut_same}

-- not this byte
abbrev pub is_not : ℕ → ℕ → Bool
is_not d b = not (b == d)

-- ---- lines
abbrev pub join : List (List ℕ) → List ℕ
join lines = flat_map (λ l. l ++ 10 ∷ []) lines

-- no line break in a line
abbrev pub IsLine : List ℕ → Type 0
IsLine l = list_all (is_not 10) l ≡ true

abbrev pub AreLines : List (List ℕ) → Type 0
AreLines ls = list_all (λ l. list_all (is_not 10) l) ls ≡ true

pub join_more : (l : List ℕ) (ls : List (List ℕ)) (t : List ℕ) → join (l ∷ ls) ++ t ≡ l ++ 10 ∷ (join ls ++ t)
join_more l ls t = append_assoc (l ++ 10 ∷ []) (join ls) t ∙ append_assoc l (10 ∷ []) (join ls ++ t)

pub line_same : (a b r s : List ℕ) → IsLine a → IsLine b → a ++ 10 ∷ r ≡ b ++ 10 ∷ s → (a ≡ b) × (10 ∷ r ≡ 10 ∷ s)
line_same a b r s la lb e = cut_same (is_not 10) a b (10 ∷ r) (10 ∷ s) la lb refl refl e

-- Lines that pass a test, and behind them one that does not: the text tells them.
module _ (p : List ℕ → Bool) (a b r s : List ℕ) (la : IsLine a) (lb : IsLine b) (pa : p a ≡ false) (pb : p b ≡ false) where
  pub lines_same : (ls ms : List (List ℕ)) → AreLines ls → AreLines ms → list_all p ls ≡ true → list_all p ms ≡ true → join ls ++ (a ++ 10 ∷ r) ≡ join ms ++ (b ++ 10 ∷ s) → ls ≡ ms
  lines_same [] [] fl fm pl pm e = refl
  lines_same [] (m ∷ ms) fl fm pl pm e =
      let same = line_same a m r (join ms ++ (b ++ 10 ∷ s)) la (and_first (list_all (is_not 10) m) _ fm) (e ∙ join_more m ms (b ++ 10 ∷ s)) in
      absurd (not_both (p m) (and_first (p m) (list_all p ms) pm) (subst (λ l. p l ≡ false) same.0 pa))
  lines_same (l ∷ ls) [] fl fm pl pm e =
      let same = line_same l b (join ls ++ (a ++ 10 ∷ r)) s (and_first (list_all (is_not 10) l) _ fl) lb (sym (join_more l ls (a ++ 10 ∷ r)) ∙ e) in
      absurd (not_both (p l) (and_first (p l) (list_all p ls) pl) (subst (λ l. p l ≡ false) (sym same.0) pb))
  lines_same (l ∷ ls) (m ∷ ms) fl fm pl pm e =
      let lt : List ℕ = join ls ++ (a ++ 10 ∷ r) in
      let mt : List ℕ = join ms ++ (b ++ 10 ∷ s) in
      let same = line_same l m lt mt (and_first (list_all (is_not 10) l) _ fl) (and_first (list_all (is_not 10) m) _ fm) (sym (join_more l ls (a ++ 10 ∷ r)) ∙ e ∙ join_more m ms (b ++ 10 ∷ s)) in
      let rest : ls ≡ ms = lines_same ls ms (and_second (list_all (is_not 10) l) _ fl) (and_second (list_all (is_not 10) m) _ fm) (and_second (p l) (list_all p ls) pl) (and_second (p m) (list_all p ms) pm) (cons_tail 10 10 lt mt same.1) in
      λ i. same.0 i ∷ rest i

-- ---- numbers
onto_all : (p : ℕ → Bool) → ((d : ℕ) → d < 10 → p (digit_glyph false d) ≡ true) → (k n : ℕ) (acc : List ℕ) → list_all p acc ≡ true → list_all p (digits_onto k 10 false n acc) ≡ true
onto_all p f zero n acc a = a
onto_all p f (suc k) n acc a =
    let here : list_all p (digit_glyph false (n % 10) ∷ acc) ≡ true = and_from (p (digit_glyph false (n % 10))) (list_all p acc) (f (n % 10) (omega (arith, mod-lt n {m = 10} (omega arith)))) a in
    by (n / 10 == 0) (digit_glyph false (n % 10) ∷ acc) (digits_onto k 10 false (n / 10) (digit_glyph false (n % 10) ∷ acc)) here (onto_all p f k (n / 10) (digit_glyph false (n % 10) ∷ acc) here)
  where
    by : (b : Bool) (xs ys : List ℕ) → list_all p xs ≡ true → list_all p ys ≡ true → list_all p (cond b xs ys) ≡ true
    by true xs ys x y = x
    by false xs ys x y = y

pub decimal_all : (p : ℕ → Bool) → ((d : ℕ) → d < 10 → p (digit_glyph false d) ≡ true) → (n : ℕ) → list_all p (decimal n) ≡ true
unfolding digits
decimal_all p f n = onto_all p f 64 n [] refl

pub signed_all : (p : ℕ → Bool) → ((d : ℕ) → d < 10 → p (digit_glyph false d) ≡ true) → p 45 ≡ true → (z : ℤ) → list_all p (signed_decimal z) ≡ true
signed_all p f m (pos n) = decimal_all p f n
signed_all p f m (negsuc n) = and_from (p 45) (list_all p (decimal (suc n))) m (decimal_all p f (suc n))

-- a digit is no byte but these ten
pub digit_is_not : (d b : ℕ) → d < 10 → 48 + d ≢ b → is_not b (digit_glyph false d) ≡ true
digit_is_not d b small apart =
    let within : nat_lt d 10 ≡ true = grind (arith, nat_tests) in
    let glyph : digit_glyph false d ≡ 48 + d = ap (λ (t : Bool). cond t (48 + d) (87 + d)) within in
    let other : (48 + d == b) ≡ false = grind (arith, nat_tests) in
    ap (λ g. not (g == b)) glyph ∙ ap not other

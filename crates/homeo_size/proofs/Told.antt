-- The pass over an L form tells its extents, its weights and its rows.
use Rattle.std.proofs.Common.{◌≡◌, ℕ, ◌+◌, ◌*◌, max, Bool, true, false, cond, List, [], ◌∷◌, refl, sym, ap, ap₂, ◌∙◌, length, subst, arith, add-zero, zero-add}
use Rattle.std.proofs.Math.Nat.{mul_assoc, one-mul, mul-one}
use Rattle.std.proofs.lemmas.Int.{clamps}
use Rattle.homeo_syntax.specs.Low.{Expr, Exprs, Literal, OfTemp, Read, Sum, Product, Neg, NoExpr, MoreExpr, Test, Cond, True, Not, Comparison, NoTest, MoreTest, Command, Commands, Skip, Assign, Write, Print, Seq, If, NoCommand, MoreCommand}
use Rattle.homeo_meaning.specs.Key.{definitions as meaning_definitions}
use Rattle.homeo_meaning.specs.LowMeaning.{Location, TempAt, location_of, put, same_location}
use Rattle.homeo_meaning.specs.LowSizes as low
use Rattle.homeo_meaning.specs.LowSizes.{extent, extent_all, test_extent, tests_extent, cond_extent, command_extent, commands_extent, rows, rows_all}
use Rattle.homeo_meaning.specs.LowWeights as heavy
use Rattle.homeo_meaning.specs.LowWeights.{weight, sum_weight, product_weight}
use Rattle.homeo_size.specs.inner.Key.{definitions}
use Rattle.homeo_size.specs.inner.Numbers.{cap, weight_cap}
use Rattle.homeo_size.specs.inner.Measuring.{after, after_all, measured, all_measured}
use Rattle.homeo_size.specs.inner.Parts.{beside, plus, times, around, summed, greater, written, empty, valued, writing, chosen, followed}
use Rattle.homeo_size.specs.inner.Sizing.{Sizes, sized, sum_sized, product_sized, test_sized, tests_sized, cond_sized}
use Rattle.homeo_size.specs.inner.Store.{Store, location_at, set_entry, back_to, raised, left_by}
use Rattle.homeo_size.specs.declared.extent.Extent.{Extent}
use Rattle.homeo_size.specs.declared.extents.Entry.{Entry}
use Rattle.homeo_size.specs.declared.extents.Entry.TheVariants.{Temp, Name}
use Rattle.homeo_size.specs.declared.measures.Measure.{Measure}
use Rattle.homeo_size.proofs.Branching.{Keeps, Rises, sets, sets_all, keeps_self, keeps_then, set_keeps, back_is, rises_self, rises_then, set_rises, both_sizes, both_keep, both_rise}
use Rattle.homeo_size.proofs.Caps.{cap_sum, cap_max, cap_more, cap_plus, cap_product, max_zero, zero_max, plus_assoc, max_assoc}
use Rattle.homeo_size.proofs.Heaviest.{heaviest_test, heaviest_tests, heaviest, heaviest_all}

abbrev pub told : low.Extent → ℕ → Extent
told e w = record { size = cap e.size; depth = cap e.depth; weight = weight_cap w }

abbrev pub told_measure : low.Extent → ℕ → ℕ → Measure
told_measure e w rows = record { size = cap e.size; depth = cap e.depth; weight = weight_cap w; rows = cap rows }

-- ---- extents
told_beside : (a b : low.Extent) (m n : ℕ) → beside (told a m) (told b n) ≡ told (low.beside a b) (max m n)
unfolding definitions
told_beside a b m n = λ i. record { size = cap_sum 8000001 a.size b.size i; depth = cap_max 8000001 a.depth b.depth i; weight = cap_max 1000000000000000001 m n i }

told_plus : (a b : low.Extent) (m n : ℕ) → plus (told a m) (told b n) ≡ told (low.beside a b) (m + n)
unfolding definitions
told_plus a b m n = λ i. record { size = cap_sum 8000001 a.size b.size i; depth = cap_max 8000001 a.depth b.depth i; weight = cap_sum 1000000000000000001 m n i }

told_times : (a b : low.Extent) (m n : ℕ) → times (told a m) (told b n) ≡ told (low.beside a b) (m * n)
unfolding definitions
told_times a b m n = λ i. record { size = cap_sum 8000001 a.size b.size i; depth = cap_max 8000001 a.depth b.depth i; weight = cap_product 1000000000000000001 m n i }

told_around : (a : low.Extent) (m : ℕ) → around (told a m) ≡ told (low.around a) m
unfolding definitions
told_around a m = λ i. record { size = cap_more 8000001 1 a.size i; depth = cap_more 8000001 1 a.depth i; weight = weight_cap m }

one_weight : (m : ℕ) → max 1 (weight_cap m) ≡ weight_cap (max 1 m)
one_weight m = omega (arith, clamps)

told_summed : (a : low.Extent) (m : ℕ) → summed (told a m) ≡ told (low.around a) (max 1 m)
unfolding definitions
told_summed a m = λ i. record { size = cap_more 8000001 1 a.size i; depth = cap_more 8000001 1 a.depth i; weight = one_weight m i }

told_greater : (a b : low.Extent) (m n : ℕ) → greater (told a m) (told b n) ≡ told (low.greater a b) (max m n)
unfolding definitions
told_greater a b m n = λ i. record { size = cap_max 8000001 a.size b.size i; depth = cap_max 8000001 a.depth b.depth i; weight = cap_max 1000000000000000001 m n i }

told_written : (sites : ℕ) (e : low.Extent) (m : ℕ) → written sites (told e m) ≡ told (low.written sites e) m
unfolding definitions
told_written sites e m = λ i. record { size = cap_plus 8000001 e.size (3 * sites + 2) i; depth = cap_plus 8000001 e.depth 3 i; weight = weight_cap m }

told_same : (a b : low.Extent) (m n : ℕ) → a ≡ b → m ≡ n → told a m ≡ told b n
told_same a b m n p q = λ i. told (p i) (q i)

beside_nothing : (a : low.Extent) → low.beside a (low.flat 0) ≡ a
beside_nothing a = λ i. record { size = add-zero a.size i; depth = max_zero a.depth i }

nothing_beside : (a : low.Extent) → low.beside (low.flat 0) a ≡ a
nothing_beside a = λ i. record { size = zero-add a.size i; depth = zero_max a.depth i }

beside_assoc : (a b c : low.Extent) → low.beside (low.beside a b) c ≡ low.beside a (low.beside b c)
beside_assoc a b c = λ i. record { size = plus_assoc a.size b.size c.size i; depth = max_assoc a.depth b.depth c.depth i }

-- ---- measures
told_valued : (e : low.Extent) (m : ℕ) → valued (told e m) ≡ told_measure (low.beside (low.flat 1) e) m 1
unfolding definitions
told_valued e m = λ i. record { size = cap_more 8000001 1 e.size i; depth = ap cap (sym (zero_max e.depth)) i; weight = weight_cap m; rows = 1 }

told_writing : (sites : ℕ) (e : low.Extent) (m : ℕ) → writing sites (told e m) ≡ told_measure (low.beside (low.flat (3 * sites + 3)) e) m 1
unfolding definitions
told_writing sites e m = λ i. record { size = cap_more 8000001 (3 * sites + 3) e.size i; depth = ap cap (sym (zero_max e.depth)) i; weight = weight_cap m; rows = 1 }

three_sum : (c a b d : ℕ) → c ≡ 8000001 → cap (2 + (cap a + (cap b + cap d))) ≡ cap (2 + (a + (b + d)))
three_sum c a b d e = omega (arith, clamps)

chosen_max : (c a b d : ℕ) → max (cap a) (max (cap b) (cap d)) ≡ cap (max 0 (max a (max b d)))
chosen_max c a b d = omega (arith, clamps)

chosen_weight : (a b d : ℕ) → max (weight_cap a) (max (weight_cap b) (weight_cap d)) ≡ weight_cap (max a (max b d))
chosen_weight a b d = omega (arith, clamps)

told_chosen : (t c d : low.Extent) (k m n p q : ℕ) → chosen (told t k) (told_measure c m p) (told_measure d n q) ≡ told_measure (low.beside (low.flat 2) (low.beside t (low.beside c d))) (max k (max m n)) (p + q)
unfolding definitions
told_chosen t c d k m n p q = λ i. record {
  size = three_sum 8000001 t.size c.size d.size refl i;
  depth = chosen_max 0 t.depth c.depth d.depth i;
  weight = chosen_weight k m n i;
  rows = cap_sum 8000001 p q i;
}

told_followed : (a c : low.Extent) (k l m n : ℕ) → followed (told_measure a k m) (told_measure c l n) ≡ told_measure (low.beside a c) (max k l) (m * n)
unfolding definitions
told_followed a c k l m n = λ i. record {
  size = cap_sum 8000001 a.size c.size i;
  depth = cap_max 8000001 a.depth c.depth i;
  weight = cap_max 1000000000000000001 k l i;
  rows = cap_product 8000001 m n i;
}

told_measure_same : (a b : low.Extent) (k l m n : ℕ) → a ≡ b → k ≡ l → m ≡ n → told_measure a k m ≡ told_measure b l n
told_measure_same a b k l m n p q r = λ i. told_measure (p i) (q i) (r i)

-- ---- the extents v are those of e and w
abbrev pub Tells : Sizes → (Location → low.Extent) → (Location → ℕ) → Type 0
Tells v e w = (p : Location) → v p ≡ told (e p) (w p)

put_told : (v : Sizes) (e : Location → low.Extent) (w : Location → ℕ) (p : Location) (x : Extent) (a : low.Extent) (m : ℕ) → Tells v e w → x ≡ told a m → Tells (put v p x) (put e p a) (put w p m)
unfolding meaning_definitions
put_told v e w p x a m h k q = go (same_location p q)
  where
    go : (b : Bool) → cond b x (v q) ≡ told (cond b a (e q)) (cond b m (w q))
    go true = k
    go false = h q

mutual
  unfolding definitions meaning_definitions

  pub expr_told : (x : Expr) (v : Sizes) (e : Location → low.Extent) (w : Location → ℕ) → Tells v e w → sized x v ≡ told (extent x e) (weight x w)
  expr_told (Literal n) v e w h = refl
  expr_told (OfTemp t) v e w h = h (TempAt t)
  expr_told (Read o) v e w h = h (location_of o)
  expr_told (Sum es) v e w h =
      ap summed (sum_told es v e w h (low.flat 0) 0 ∙ told_same (low.beside (low.flat 0) (extent_all es e)) (extent_all es e) (0 + sum_weight es w) (sum_weight es w) (nothing_beside (extent_all es e)) (zero-add (sum_weight es w)))
      ∙ told_summed (extent_all es e) (sum_weight es w)
  expr_told (Product es) v e w h =
      ap around (product_told es v e w h (low.flat 0) 1 ∙ told_same (low.beside (low.flat 0) (extent_all es e)) (extent_all es e) (1 * product_weight es w) (product_weight es w) (nothing_beside (extent_all es e)) (one-mul (product_weight es w)))
      ∙ told_around (extent_all es e) (product_weight es w)
  expr_told (Neg x) v e w h = ap around (expr_told x v e w h) ∙ told_around (extent x e) (weight x w)

  sum_told : (es : Exprs) (v : Sizes) (e : Location → low.Extent) (w : Location → ℕ) → Tells v e w → (a : low.Extent) (m : ℕ) → sum_sized es v (told a m) ≡ told (low.beside a (extent_all es e)) (m + sum_weight es w)
  sum_told NoExpr v e w h a m = told_same a (low.beside a (low.flat 0)) m (m + 0) (sym (beside_nothing a)) (sym (add-zero m))
  sum_told (MoreExpr x es) v e w h a m =
      ap (sum_sized es v) (ap (plus (told a m)) (expr_told x v e w h) ∙ told_plus a (extent x e) m (weight x w))
      ∙ sum_told es v e w h (low.beside a (extent x e)) (m + weight x w)
      ∙ told_same (low.beside (low.beside a (extent x e)) (extent_all es e)) (low.beside a (low.beside (extent x e) (extent_all es e))) ((m + weight x w) + sum_weight es w) (m + (weight x w + sum_weight es w)) (beside_assoc a (extent x e) (extent_all es e)) (plus_assoc m (weight x w) (sum_weight es w))

  product_told : (es : Exprs) (v : Sizes) (e : Location → low.Extent) (w : Location → ℕ) → Tells v e w → (a : low.Extent) (m : ℕ) → product_sized es v (told a m) ≡ told (low.beside a (extent_all es e)) (m * product_weight es w)
  product_told NoExpr v e w h a m = told_same a (low.beside a (low.flat 0)) m (m * 1) (sym (beside_nothing a)) (sym (mul-one m))
  product_told (MoreExpr x es) v e w h a m =
      ap (product_sized es v) (ap (times (told a m)) (expr_told x v e w h) ∙ told_times a (extent x e) m (weight x w))
      ∙ product_told es v e w h (low.beside a (extent x e)) (m * weight x w)
      ∙ told_same (low.beside (low.beside a (extent x e)) (extent_all es e)) (low.beside a (low.beside (extent x e) (extent_all es e))) ((m * weight x w) * product_weight es w) (m * (weight x w * product_weight es w)) (beside_assoc a (extent x e) (extent_all es e)) (mul_assoc m (weight x w) (product_weight es w))

mutual
  unfolding definitions meaning_definitions

  test_told : (t : Test) (v : Sizes) (e : Location → low.Extent) (w : Location → ℕ) → Tells v e w → test_sized t v ≡ told (test_extent t e) (heaviest_test t w)
  test_told True v e w h = refl
  test_told (Not c) v e w h =
      ap around (ap around (tests_told c v e w h (low.flat 0) 0 ∙ told_same (low.beside (low.flat 0) (tests_extent c e)) (tests_extent c e) (max 0 (heaviest_tests c w)) (heaviest_tests c w) (nothing_beside (tests_extent c e)) (zero_max (heaviest_tests c w))) ∙ told_around (tests_extent c e) (heaviest_tests c w))
      ∙ told_around (low.around (tests_extent c e)) (heaviest_tests c w)
  test_told (Comparison op a b) v e w h =
      ap around (ap₂ beside (expr_told a v e w h) (expr_told b v e w h) ∙ told_beside (extent a e) (extent b e) (weight a w) (weight b w))
      ∙ told_around (low.beside (extent a e) (extent b e)) (max (weight a w) (weight b w))

  tests_told : (c : Cond) (v : Sizes) (e : Location → low.Extent) (w : Location → ℕ) → Tells v e w → (a : low.Extent) (m : ℕ) → tests_sized c v (told a m) ≡ told (low.beside a (tests_extent c e)) (max m (heaviest_tests c w))
  tests_told NoTest v e w h a m = told_same a (low.beside a (low.flat 0)) m (max m 0) (sym (beside_nothing a)) (sym (max_zero m))
  tests_told (MoreTest t c) v e w h a m =
      ap (tests_sized c v) (ap (beside (told a m)) (test_told t v e w h) ∙ told_beside a (test_extent t e) m (heaviest_test t w))
      ∙ tests_told c v e w h (low.beside a (test_extent t e)) (max m (heaviest_test t w))
      ∙ told_same (low.beside (low.beside a (test_extent t e)) (tests_extent c e)) (low.beside a (low.beside (test_extent t e) (tests_extent c e))) (max (max m (heaviest_test t w)) (heaviest_tests c w)) (max m (max (heaviest_test t w) (heaviest_tests c w))) (beside_assoc a (test_extent t e) (tests_extent c e)) (max_assoc m (heaviest_test t w) (heaviest_tests c w))

cond_told : (c : Cond) (v : Sizes) (e : Location → low.Extent) (w : Location → ℕ) → Tells v e w → cond_sized c v ≡ told (cond_extent c e) (heaviest_tests c w)
unfolding definitions meaning_definitions
cond_told c v e w h =
    ap around (tests_told c v e w h (low.flat 0) 0 ∙ told_same (low.beside (low.flat 0) (tests_extent c e)) (tests_extent c e) (max 0 (heaviest_tests c w)) (heaviest_tests c w) (nothing_beside (tests_extent c e)) (zero_max (heaviest_tests c w)))
    ∙ told_around (tests_extent c e) (heaviest_tests c w)

-- ---- commands: what the store holds behind one is told, what was before can be taken back, and what isn't set rises
record After (y z : Store) (es : List Entry) (e : Location → low.Extent) (w : Location → ℕ) : Type 0 where
  tells : Tells z.sizes e w
  keeps : Keeps y z
  rises : Rises y z es

set_told : (z : Store) (e : Location → low.Extent) (w : Location → ℕ) (k : Entry) (x : Extent) (a : low.Extent) (m : ℕ) → Tells z.sizes e w → x ≡ told a m → After z (set_entry z k x) (k ∷ []) (put e (location_at k) a) (put w (location_at k) m)
unfolding definitions
set_told z e w k x a m h t = record { tells = put_told z.sizes e w (location_at k) x a m h t; keeps = set_keeps z k x; rises = set_rises z k x }

same_told : (z : Store) (e : Location → low.Extent) (w : Location → ℕ) → Tells z.sizes e w → After z z [] e w
same_told z e w h = record { tells = h; keeps = keeps_self z; rises = rises_self z [] }

module _ (sites : ℕ) where
  mutual
    unfolding definitions meaning_definitions

    after_told : (c : Command) (z : Store) (e : Location → low.Extent) (w : Location → ℕ) → Tells z.sizes e w → After z (after sites c z) (sets c) (low.after sites c e) (heavy.after c w)
    after_told Skip z e w h = same_told z e w h
    after_told (Assign t x) z e w h = set_told z e w (Temp t) (sized x z.sizes) (extent x e) (weight x w) h (expr_told x z.sizes e w h)
    after_told (Write o x) z e w h =
        set_told z e w (Name o) (written sites (sized x z.sizes)) (low.written sites (extent x e)) (weight x w) h (ap (written sites) (expr_told x z.sizes e w h) ∙ told_written sites (extent x e) (weight x w))
    after_told (Print x) z e w h = same_told z e w h
    after_told (Seq cs) z e w h = all_after_told cs z e w h
    after_told (If b c d) z e w h =
        let y : Store = after sites c z in
        let u : Store = after sites d z in
        let one : After z y (sets c) (low.after sites c e) (heavy.after c w) = after_told c z e w h in
        let two : After z u (sets d) (low.after sites d e) (heavy.after d w) = after_told d z e w h in
        let is : raised (left_by (length z.log) y d) u ≡ after sites (If b c d) z = ap (λ x. raised (left_by (length z.log) y d) (after sites d x)) (sym (back_is z y one.keeps)) in
        subst (λ x. After z x (sets c) (low.after sites (If b c d) e) (heavy.after (If b c d) w)) is (record {
          tells = λ p. both_sizes z y u d one.keeps two.keeps two.rises p ∙ ap₂ greater (one.tells p) (two.tells p) ∙ told_greater (low.after sites c e p) (low.after sites d e p) (heavy.after c w p) (heavy.after d w p);
          keeps = both_keep z y u d one.keeps two.keeps two.rises;
          rises = both_rise z y u d one.keeps two.keeps two.rises (sets c) one.rises;
        })

    all_after_told : (cs : Commands) (z : Store) (e : Location → low.Extent) (w : Location → ℕ) → Tells z.sizes e w → After z (after_all sites cs z) (sets_all cs) (low.after_all sites cs e) (heavy.after_all cs w)
    all_after_told NoCommand z e w h = same_told z e w h
    all_after_told (MoreCommand c cs) z e w h =
        let y : Store = after sites c z in
        let u : Store = after_all sites cs y in
        let one : After z y (sets c) (low.after sites c e) (heavy.after c w) = after_told c z e w h in
        let more : After y u (sets_all cs) (low.after_all sites cs (low.after sites c e)) (heavy.after_all cs (heavy.after c w)) = all_after_told cs y (low.after sites c e) (heavy.after c w) one.tells in
        record { tells = more.tells; keeps = keeps_then z y u one.keeps more.keeps; rises = rises_then z y u (sets c) (sets_all cs) one.rises more.rises }

  mutual
    unfolding definitions meaning_definitions

    pub measured_told : (c : Command) (z : Store) (e : Location → low.Extent) (w : Location → ℕ) → Tells z.sizes e w → measured sites c z ≡ told_measure (command_extent sites c e) (heaviest c w) (rows c)
    measured_told Skip z e w h = refl
    measured_told (Assign t x) z e w h = ap valued (expr_told x z.sizes e w h) ∙ told_valued (extent x e) (weight x w)
    measured_told (Write o x) z e w h = ap (writing sites) (expr_told x z.sizes e w h) ∙ told_writing sites (extent x e) (weight x w)
    measured_told (Print x) z e w h = ap valued (expr_told x z.sizes e w h) ∙ told_valued (extent x e) (weight x w)
    measured_told (Seq cs) z e w h =
        all_measured_told cs z e w h empty (low.flat 1) 0 1 refl
        ∙ told_measure_same (low.beside (low.flat 1) (commands_extent sites cs e)) (low.beside (low.flat 1) (commands_extent sites cs e)) (max 0 (heaviest_all cs w)) (heaviest_all cs w) (1 * rows_all cs) (rows_all cs) refl (zero_max (heaviest_all cs w)) (one-mul (rows_all cs))
    measured_told (If b c d) z e w h =
        let y : Store = after sites c z in
        let back : back_to (length z.log) y ≡ z = back_is z y (after_told c z e w h).keeps in
        (λ i. chosen (cond_told b z.sizes e w h i) (measured_told c z e w h i) ((ap (measured sites d) back ∙ measured_told d z e w h) i))
        ∙ told_chosen (cond_extent b e) (command_extent sites c e) (command_extent sites d e) (heaviest_tests b w) (heaviest c w) (heaviest d w) (rows c) (rows d)

    all_measured_told : (cs : Commands) (z : Store) (e : Location → low.Extent) (w : Location → ℕ) → Tells z.sizes e w → (b : Measure) (a : low.Extent) (m n : ℕ) → b ≡ told_measure a m n → all_measured sites cs z b ≡ told_measure (low.beside a (commands_extent sites cs e)) (max m (heaviest_all cs w)) (n * rows_all cs)
    all_measured_told NoCommand z e w h b a m n k =
        k ∙ told_measure_same a (low.beside a (low.flat 0)) m (max m 0) n (n * 1) (sym (beside_nothing a)) (sym (max_zero m)) (sym (mul-one n))
    all_measured_told (MoreCommand c cs) z e w h b a m n k =
        let x : low.Extent = command_extent sites c e in
        let rest : low.Extent = commands_extent sites cs (low.after sites c e) in
        let more : ℕ = heaviest_all cs (heavy.after c w) in
        all_measured_told cs (after sites c z) (low.after sites c e) (heavy.after c w) (after_told c z e w h).tells _ (low.beside a x) (max m (heaviest c w)) (n * rows c) (ap₂ followed k (measured_told c z e w h) ∙ told_followed a x m (heaviest c w) n (rows c))
        ∙ told_measure_same (low.beside (low.beside a x) rest) (low.beside a (low.beside x rest)) (max (max m (heaviest c w)) more) (max m (max (heaviest c w) more)) ((n * rows c) * rows_all cs) (n * (rows c * rows_all cs)) (beside_assoc a x rest) (max_assoc m (heaviest c w) more) (mul_assoc n (rows c) (rows_all cs))

-- Branches that part, and what stands in front of them.
use Rattle.std.proofs.Common.{◌≡◌, ℕ, ◌≤◌, Option, Some, None, List, [], ◌∷◌, ◌++◌, map, take, reverse, length, Bor, append-nil, refl, sym, ap, ap₂, subst, ◌∙◌, arith}
use Rattle.std.proofs.lemmas.List.{reverse-append, length-take, length-take-le, take-take}
use Rattle.std.proofs.lemmas.Simd.{map-map}
use Rattle.homeo_lemmas.proofs.Lists.{take_whole}
use Rattle.homeo_syntax.specs.Low.{Test, Command}
use Rattle.homeo_syntax.specs.declared.low.LCond.{LCond}
use Rattle.homeo_syntax.specs.LowView.{plain_lcond, plain_lcommand}
use Rattle.homeo_plan.specs.Key.{definitions as plan_definitions}
use Rattle.homeo_plan.specs.Table.{Row, test_before, otherwise, before, last_row, table}
use Rattle.homeo_substitution.specs.Bindings.{bound}
use Rattle.homeo_table.specs.declared.making.Making.{Making}
use Rattle.homeo_table.specs.declared.making.Mark.{Mark}
use Rattle.homeo_table.specs.declared.branches.Parting.{Parting}
use Rattle.homeo_table.specs.inner.Key.{definitions}
use Rattle.homeo_table.specs.inner.Partings.{tests_of, commands_of, row_with, row_from, left_before, failed_before, rows_from, rows_of_all}
use Rattle.homeo_table.specs.inner.Branches.{rows_behind, Nested, AreNested}
use Rattle.homeo_table.specs.inner.Makings.{Begins}
use Rattle.homeo_table.proofs.Makings.{row-new}
use Rattle.homeo_table.proofs.Following.{left-push}

-- ---- fronts of lists
-- a front is as long as it says where another one is
front-length : {X : Type 0} (n : ℕ) (xs ys : List X) → n ≤ length xs → take n ys ≡ take n xs → n ≤ length ys
front-length n xs ys le same = omega (arith, length-take n ys, length-take-le n xs le, ap length same)

begins-length : {X : Type 0} (xs ys : List X) → take (length xs) ys ≡ xs → length xs ≤ length ys
begins-length xs ys h = omega (arith, length-take (length xs) ys, ap length h)

-- what two lists have in front, they have in front of it
shorter-front : {X : Type 0} (n m : ℕ) (xs ys : List X) → n ≤ m → take m xs ≡ take m ys → take n xs ≡ take n ys
shorter-front n m xs ys le same = sym (take-take n m xs le) ∙ ap (take n) same ∙ take-take n m ys le

begins-front : {X : Type 0} (xs ys : List X) → take (length xs) ys ≡ xs → take (length xs) ys ≡ take (length xs) xs
begins-front xs ys h = h ∙ sym (take_whole xs)

-- a front that was gone back to, and then more
pub back-front : {X : Type 0} (n : ℕ) (xs front ys : List X) → n ≤ length xs → front ≡ take n xs → take (length front) ys ≡ front → take n ys ≡ take n xs
back-front n xs front ys le is begins =
    let len : length front ≡ n = ap length is ∙ length-take-le n xs le in
    ap (λ k. take k ys) (sym len) ∙ begins ∙ is

-- ---- marks
nested-grows : (t t' c c' : ℕ) (ps : List Parting) → Nested t c ps → t ≤ t' → c ≤ c' → Nested t' c' ps
nested-grows t t' c c' [] n h k = tt
nested-grows t t' c c' (p ∷ ps) n h k =
    let tests : p.mark.tests ≤ t = n.0 in
    let commands : p.mark.commands ≤ c = n.1.0 in
    (omega arith, (omega arith, n.1.1))

-- rows of branches read nothing above their marks
rows-kept :
    (t c : ℕ) (ts ts' : List Test) (cs cs' : List Command) (ps : List Parting) → Nested t c ps → take t ts' ≡ take t ts → take c cs' ≡ take c cs →
    rows_of_all ts' cs' ps ≡ rows_of_all ts cs ps
unfolding definitions rows_from
rows-kept t c ts ts' cs cs' [] n h k = refl
rows-kept t c ts ts' cs cs' (p ∷ ps) n h k =
    let tests = shorter-front p.mark.tests t ts' ts n.0 h in
    let commands = shorter-front p.mark.commands c cs' cs n.1.0 k in
    ap₂ ◌++◌
    (ap₂ (λ ts cs. map (row_with ts cs (bound p.mark.bindings)) (map (failed_before p.failed) (left_before (map (λ c. plain_lcommand c.now) p.left.items) (last_row ∷ [])))) tests commands)
    (rows-kept p.mark.tests p.mark.commands ts ts' cs cs' ps n.1.1 tests commands)

-- ---- where a branch goes on from a mark
pub back-nested :
    (ts ts' : List Test) (cs cs' : List Command) (p : Parting) (ps : List Parting) → Nested (length ts) (length cs) (p ∷ ps) →
    take p.mark.tests ts' ≡ take p.mark.tests ts → take p.mark.commands cs' ≡ take p.mark.commands cs → Nested (length ts') (length cs') ps
back-nested ts ts' cs cs' p ps n h k =
    nested-grows p.mark.tests (length ts') p.mark.commands (length cs') ps n.1.1
    (front-length p.mark.tests ts ts' n.0 h) (front-length p.mark.commands cs cs' n.1.0 k)

pub back-rows :
    (ts ts' : List Test) (cs cs' : List Command) (p : Parting) (ps : List Parting) → Nested (length ts) (length cs) (p ∷ ps) →
    take p.mark.tests ts' ≡ take p.mark.tests ts → take p.mark.commands cs' ≡ take p.mark.commands cs →
    rows_from ts cs p ++ rows_of_all ts' cs' ps ≡ rows_of_all ts cs (p ∷ ps)
unfolding definitions
back-rows ts ts' cs cs' p ps n h k = ap (λ rows. rows_from ts cs p ++ rows) (rows-kept p.mark.tests p.mark.commands ts ts' cs cs' ps n.1.1 h k)

-- ---- where more tests and commands are followed
pub more-nested : (m m' : Making) (ps : List Parting) → Begins m m' → AreNested m ps → AreNested m' ps
more-nested m m' ps b n =
    nested-grows (length (tests_of m)) (length (tests_of m')) (length (commands_of m)) (length (commands_of m')) (reverse ps) n
    (begins-length (tests_of m) (tests_of m') b.tests) (begins-length (commands_of m) (commands_of m') b.commands)

more-rows : (m m' : Making) (ps : List Parting) → Begins m m' → Nested (length (tests_of m)) (length (commands_of m)) ps →
    rows_of_all (tests_of m') (commands_of m') ps ≡ rows_of_all (tests_of m) (commands_of m) ps
more-rows m m' ps b n =
    rows-kept (length (tests_of m)) (length (commands_of m)) (tests_of m) (tests_of m') (commands_of m) (commands_of m') ps n
    (begins-front (tests_of m) (tests_of m') b.tests) (begins-front (commands_of m) (commands_of m') b.commands)

pub more-behind : (m m' : Making) (ps : List Parting) → Begins m m' → AreNested m ps → rows_behind m' ps ≡ rows_behind m ps
more-behind m m' ps b n = more-rows m m' (reverse ps) b n

-- ---- where a branch parts
pub pushed : (ps qs : List Parting) (p : Parting) → qs ≡ ps ++ p ∷ [] → reverse qs ≡ p ∷ reverse ps
pushed ps qs p h = ap reverse h ∙ reverse-append ps (p ∷ [])

module _ (m m' : Making) (ps qs : List Parting) (p : Parting) (begins : Begins m m') (nested : AreNested m ps)
    (tests : p.mark.tests ≡ length (tests_of m)) (commands : p.mark.commands ≡ length (commands_of m)) (is : qs ≡ ps ++ p ∷ []) where
  here : Nested (length (tests_of m)) (length (commands_of m)) (p ∷ reverse ps)
  here =
      let below = subst (λ t. Nested t p.mark.commands (reverse ps)) (sym tests) (subst (λ c. Nested (length (tests_of m)) c (reverse ps)) (sym commands) nested) in
      (omega (arith, tests), (omega (arith, commands), below))

  pub part-nested : AreNested m' qs
  part-nested =
      subst (Nested (length (tests_of m')) (length (commands_of m'))) (sym (pushed ps qs p is))
      (nested-grows (length (tests_of m)) (length (tests_of m')) (length (commands_of m)) (length (commands_of m')) (p ∷ reverse ps) here
      (begins-length (tests_of m) (tests_of m') begins.tests) (begins-length (commands_of m) (commands_of m') begins.commands))

  pub part-behind : rows_behind m' qs ≡ rows_from (tests_of m) (commands_of m) p ++ rows_behind m ps
  unfolding definitions
  part-behind = ap (rows_of_all (tests_of m') (commands_of m')) (pushed ps qs p is) ∙ more-rows m m' (p ∷ reverse ps) begins here

-- ---- rows of a parting
rows-none : (rows : List Row) → map (failed_before None) rows ≡ rows
rows-none [] = refl
rows-none (r ∷ rows) = ap (λ rows. r ∷ rows) (rows-none rows)

pub first-rows :
    (ts : List Test) (cs : List Command) (m : Mark) (left : List Command) (c : Command) → m.tests ≡ 0 → m.commands ≡ 0 → bound m.bindings ≡ (λ l. None) →
    left ≡ c ∷ [] → map (row_from ts cs m) (map (failed_before None) (left_before left (last_row ∷ []))) ≡ table c
unfolding definitions plan_definitions
first-rows ts cs m left c e f h is =
    ap₂ map (row-new (take m.tests ts) (take m.commands cs) (bound m.bindings) (ap (λ n. take n ts) e) (ap (λ n. take n cs) f) h)
    (rows-none (left_before left (last_row ∷ [])) ∙ ap (λ left. left_before left (last_row ∷ [])) is)

pub parted-rows :
    (m n f : Row → Row) (cs ds : List Command) (c : Command) (rows : List Row) → n ≡ m → ds ≡ cs ++ c ∷ [] →
    map n (map f (left_before ds rows)) ≡ map m (map f (before c (left_before cs rows)))
parted-rows m n f cs ds c rows e h = ap₂ (λ n rows. map n (map f rows)) e (ap (λ l. left_before l rows) h ∙ left-push cs c rows)

pub failed-rows :
    (m n k : Row → Row) (o : Option (Bor LCond)) (b : Bor LCond) (rows : List Row) → o ≡ Some b → n ≡ (λ r. k (test_before (otherwise (plain_lcond b.now)) r)) → k ≡ m →
    map n rows ≡ map m (map (failed_before o) rows)
failed-rows m n k o b rows is e h =
    let f = test_before (otherwise (plain_lcond b.now)) in
    ap (λ n. map n rows) e ∙ sym (map-map k f rows) ∙ ap₂ (λ k o. map k (map (failed_before o) rows)) h (sym is)

pub unasked-rows : (m n : Row → Row) (o : Option (Bor LCond)) (rows : List Row) → o ≡ None → n ≡ m → map n rows ≡ map m (map (failed_before o) rows)
unasked-rows m n o rows is e = ap₂ map e (sym (rows-none rows) ∙ ap (λ o. map (failed_before o) rows) (sym is))

-- ---- partings of a cursor
-- the first branch alone
pub first-nested : (t c : ℕ) (ps : List Parting) (p : Parting) → ps ≡ p ∷ [] → p.mark.tests ≡ 0 → p.mark.commands ≡ 0 → Nested t c (reverse ps)
first-nested t c ps p e tests commands = subst (λ ps. Nested t c (reverse ps)) (sym e) (omega (arith, tests), (omega (arith, commands), tt))

pub first-come :
    (ts : List Test) (cs : List Command) (ps : List Parting) (p : Parting) (rows : List Row) → ps ≡ p ∷ [] →
    ((ts : List Test) (cs : List Command) → rows_from ts cs p ≡ rows) → rows_of_all ts cs (reverse ps) ≡ rows
unfolding definitions
first-come ts cs ps p rows e h = ap (λ ps. rows_of_all ts cs (reverse ps)) e ∙ append-nil (rows_from ts cs p) ∙ h ts cs

-- the next branch
pub next-come :
    (ts : List Test) (cs : List Command) (ps qs : List Parting) (p : Parting) → ps ≡ qs ++ p ∷ [] →
    rows_of_all ts cs (reverse ps) ≡ rows_of_all ts cs (p ∷ reverse qs)
next-come ts cs ps qs p e = ap (rows_of_all ts cs) (pushed qs ps p e)

pub none-come : (ts : List Test) (cs : List Command) (ps : List Parting) → ps ≡ [] → rows_of_all ts cs (reverse ps) ≡ []
unfolding definitions
none-come ts cs ps e = ap (λ ps. rows_of_all ts cs (reverse ps)) e

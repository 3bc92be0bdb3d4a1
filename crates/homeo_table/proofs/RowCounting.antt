-- The rows of a command of each kind, and products of rows.
use Rattle.std.proofs.Common.{◌≡◌, ℕ, zero, suc, ◌+◌, ◌*◌, ◌<◌, ◌≤◌, ◌^◌, List, ◌∷◌, map, drop, length, refl, sym, ap, subst, ◌∙◌, arith}
use Rattle.std.specs.Prelude.{slice_index_or}
use Rattle.std.proofs.Math.Nat.{mul_assoc, mul_comm, one-le-mul, le-mul_of_pos_right}
use Rattle.std.proofs.lemmas.List.{drop_more, drop_all}
use Rattle.homeo_syntax.specs.Key.{definitions as syntax_definitions}
use Rattle.homeo_syntax.specs.declared.low.LCommand.{LCommand}
use Rattle.homeo_syntax.specs.declared.low.SplitName.{SplitName}
use Rattle.homeo_syntax.specs.declared.low.Temp.{Temp}
use Rattle.homeo_syntax.specs.Low.{Expr, Cond, Command, Commands, Skip, Assign, Write, Print, Seq, If, NoCommand, MoreCommand}
use Rattle.homeo_syntax.specs.LowView.{low_commands, plain_lcommand}
use Rattle.homeo_meaning.specs.Key.{definitions}
use Rattle.homeo_meaning.specs.LowSizes.{rows, rows_all}

-- ---- no table is empty
mutual
  unfolding definitions

  pub some_rows : (c : Command) → 1 ≤ rows c
  some_rows Skip = omega arith
  some_rows (Assign t e) = omega arith
  some_rows (Write x e) = omega arith
  some_rows (Print e) = omega arith
  some_rows (Seq cs) = some_rows_all cs
  some_rows (If b c d) = let here = some_rows c in omega (arith, here)

  pub some_rows_all : (cs : Commands) → 1 ≤ rows_all cs
  some_rows_all NoCommand = omega arith
  some_rows_all (MoreCommand c cs) = one-le-mul (some_rows c) (some_rows_all cs)

-- ---- one command, form by form
pub rows_Skip : rows Skip ≡ 1
unfolding definitions
rows_Skip = refl

pub rows_Assign : (t : Temp) (e : Expr) → rows (Assign t e) ≡ 1
unfolding definitions
rows_Assign t e = refl

pub rows_Write : (x : SplitName) (e : Expr) → rows (Write x e) ≡ 1
unfolding definitions
rows_Write x e = refl

pub rows_Print : (e : Expr) → rows (Print e) ≡ 1
unfolding definitions
rows_Print e = refl

pub rows_Seq : (cs : Commands) → rows (Seq cs) ≡ rows_all cs
unfolding definitions
rows_Seq cs = refl

pub rows_If : (b : Cond) (c d : Command) → rows (If b c d) ≡ rows c + rows d
unfolding definitions
rows_If b c d = refl

pub ruleset counts = (rows_Skip, rows_Assign, rows_Write, rows_Print, rows_Seq, rows_If)

pub few-Seq : (k : Command) (cs : Commands) → k ≡ Seq cs → rows k < 2 ^ 32 → rows_all cs < 2 ^ 32
unfolding definitions
few-Seq k cs is few = subst (λ k. rows k < 2 ^ 32) is few

pub few-If : (k : Command) (b : Cond) (c d : Command) → k ≡ If b c d → rows k < 2 ^ 32 → (rows c < 2 ^ 32) × (rows d < 2 ^ 32)
unfolding definitions
few-If k b c d is few = let sum = ap rows is in (omega (arith, sum, few), omega (arith, sum, few))

-- ---- products
abbrev pub rows_in : List LCommand → ℕ
rows_in cs = rows_all (low_commands (map plain_lcommand cs))

pub rows-next :
    (cs : List LCommand) (i : ℕ) (c : LCommand) → i < length cs → c ≡ slice_index_or cs i c → rows_in (drop i cs) ≡ rows (plain_lcommand c) * rows_in (drop (i + 1) cs)
unfolding definitions syntax_definitions
rows-next cs i c within is = ap rows_in (drop_more cs i c within ∙ ap (λ c. c ∷ drop (i + 1) cs) (sym is))

pub rows-end : (cs : List LCommand) (i n : ℕ) → length cs ≤ i → n * rows_in (drop i cs) ≡ rows_in cs → n ≡ rows_in cs
unfolding definitions syntax_definitions
rows-end cs i n end e = let none : n * rows_in (drop i cs) ≡ n * 1 = ap (λ cs. n * rows_in cs) (drop_all i cs end) in omega (arith, none, e)

some_first : (n x whole : ℕ) → n * x ≡ whole → 1 ≤ whole → 1 ≤ n
some_first zero x whole e h = absurd (omega arith)
some_first (suc n) x whole e h = omega arith

product-small : (n rest whole : ℕ) → n * rest ≡ whole → 1 ≤ rest → whole < 2 ^ 32 → n < 2 ^ 64
product-small n rest whole e some few = let le = le-mul_of_pos_right n some in omega (arith, le, e, few)

factor-small : (n r rest whole : ℕ) → n * (r * rest) ≡ whole → 1 ≤ whole → 1 ≤ rest → whole < 2 ^ 32 → r < 2 ^ 32
factor-small n r rest whole e more some few =
    let le = le-mul_of_pos_right r some in
    let all = le-mul_of_pos_right (r * rest) (some_first n (r * rest) whole e more) in
    let turned : (r * rest) * n ≡ n * (r * rest) = mul_comm (r * rest) n in
    omega (arith, le, all, turned, e, few)

-- each factor, and each product from the first, is at most the whole
module _ (cs : List LCommand) (i : ℕ) (c : LCommand) (within : i < length cs) (is : c ≡ slice_index_or cs i c) (n : ℕ) (so_far : n * rows_in (drop i cs) ≡ rows_in cs) where
  parts : n * (rows (plain_lcommand c) * rows_in (drop (i + 1) cs)) ≡ rows_in cs
  parts = ap (λ m. n * m) (sym (rows-next cs i c within is)) ∙ so_far

  some_rest : 1 ≤ rows_in (drop (i + 1) cs)
  some_rest = some_rows_all (low_commands (map plain_lcommand (drop (i + 1) cs)))

  pub factor-fits : rows_in cs < 2 ^ 32 → rows (plain_lcommand c) < 2 ^ 32
  factor-fits few = factor-small n (rows (plain_lcommand c)) (rows_in (drop (i + 1) cs)) (rows_in cs) parts (some_rows_all (low_commands (map plain_lcommand cs))) some_rest few

  module _ (r : ℕ) (one : r ≡ rows (plain_lcommand c)) where
    pub factor-next : (n * r) * rows_in (drop (i + 1) cs) ≡ rows_in cs
    factor-next = ap (λ r. (n * r) * rows_in (drop (i + 1) cs)) one ∙ mul_assoc n (rows (plain_lcommand c)) (rows_in (drop (i + 1) cs)) ∙ parts

    pub product-fits : rows_in cs < 2 ^ 32 → n * r < 2 ^ 64
    product-fits few = product-small (n * r) (rows_in (drop (i + 1) cs)) (rows_in cs) factor-next some_rest few

-- The definitions form by form, as equations, which code rewrites by.
use Rattle.std.proofs.Common.{◌≡◌, ℕ, ℤ, pos, true, false, Some, None, List, [], ◌∷◌, map, refl}
use Rattle.homeo_syntax.specs.Key.{definitions as syntax_definitions}
use Rattle.homeo_syntax.specs.Low as L
use Rattle.homeo_syntax.specs.LowView.{low_commands, low_tests, plain_lcommand}
use Rattle.homeo_syntax.specs.declared.phrase.Compare.TheVariants as compare
use Rattle.homeo_syntax.specs.declared.low.Temp.TheVariants as temp
use Rattle.homeo_syntax.specs.declared.low.SplitName.TheVariants as split
use Rattle.homeo_meaning.specs.Key.{definitions}
use Rattle.homeo_meaning.specs.Context.{Spot, arguments_of}
use Rattle.homeo_syntax.specs.declared.low.Temp.{Temp}
use Rattle.homeo_syntax.specs.declared.low.SplitName.{SplitName}
use Rattle.homeo_meaning.specs.LowWrites.{object_in, with_number, written, all_written}
use Rattle.homeo_meaning.specs.LForm.{name_of, one_test, equal, fresh, unless_ended, guard, set_flag, within, guarded}
use Rattle.homeo_desugar.specs.inner.Key.{definitions as desugar_definitions}
use Rattle.homeo_desugar.specs.inner.Made.{made}
use Rattle.homeo_context.specs.Contexts.{plain_context}
use Rattle.homeo_desugar.specs.declared.making.Making.{Making}
use Rattle.homeo_context.specs.declared.context.Context.{Context}

pub name_Some : (v : ℤ) (n : ℕ) → name_of (Some v) n ≡ L.Literal v
unfolding definitions
name_Some v n = refl

pub name_None : (n : ℕ) → name_of None n ≡ L.OfTemp (temp.Named n)
unfolding definitions
name_None n = refl

pub arguments_are : (x : Context) (n : ℕ) → (plain_context x).arguments n ≡ arguments_of (map (λ a. a.name) x.arguments.now) (map (λ a. a.value) x.arguments.now) n
unfolding definitions
arguments_are x n = refl

pub ruleset names = (name_Some, name_None, arguments_are)

-- ---- lists
pub low_none : low_commands [] ≡ L.NoCommand
unfolding syntax_definitions
low_none = refl

pub made_is : (m : Making) → made m ≡ low_commands (map plain_lcommand m.commands.items)
unfolding desugar_definitions
made_is m = refl

pub one_test_is : (t : L.Test) → one_test t ≡ L.MoreTest t L.NoTest
unfolding definitions
one_test_is t = refl

pub tests_first : (t : L.Test) → low_tests (t ∷ []) ≡ L.MoreTest t L.NoTest
unfolding syntax_definitions
tests_first t = refl

pub ruleset makings = (low_none, made_is)

pub ruleset lists = (one_test_is, tests_first)

-- ---- guards
pub unless_is : (c : L.Command) → unless_ended c ≡ L.If (one_test (equal (fresh 0) (pos 0))) c L.Skip
unfolding definitions
unless_is c = refl

pub guard_true : (c : L.Command) → guard true c ≡ unless_ended c
unfolding definitions
guard_true c = refl

pub guard_false : (c : L.Command) → guard false c ≡ c
unfolding definitions
guard_false c = refl

pub flag_is : (v : ℤ) → set_flag v ≡ L.Assign (temp.Fresh 0) (L.Literal v)
unfolding definitions
flag_is v = refl

pub ruleset guards = (unless_is, guard_true, guard_false, flag_is)

-- ---- what is written
pub written_Skip : (xs : List ℕ) → written L.Skip xs ≡ xs
unfolding definitions
written_Skip xs = refl

pub written_Assign : (t : Temp) (e : L.Expr) (xs : List ℕ) → written (L.Assign t e) xs ≡ xs
unfolding definitions
written_Assign t e xs = refl

pub written_Write : (x : SplitName) (e : L.Expr) (xs : List ℕ) → written (L.Write x e) xs ≡ with_number (object_in x) xs
unfolding definitions
written_Write x e xs = refl

pub written_Print : (e : L.Expr) (xs : List ℕ) → written (L.Print e) xs ≡ xs
unfolding definitions
written_Print e xs = refl

pub written_Seq : (cs : L.Commands) (xs : List ℕ) → written (L.Seq cs) xs ≡ all_written cs xs
unfolding definitions
written_Seq cs xs = refl

pub written_If : (b : L.Cond) (c d : L.Command) (xs : List ℕ) → written (L.If b c d) xs ≡ written d (written c xs)
unfolding definitions
written_If b c d xs = refl

pub written_none : (xs : List ℕ) → all_written (low_commands []) xs ≡ xs
unfolding definitions syntax_definitions
written_none xs = refl

pub written_more : (c : L.Command) (cs : List L.Command) (xs : List ℕ) → all_written (low_commands (c ∷ cs)) xs ≡ all_written (low_commands cs) (written c xs)
unfolding definitions syntax_definitions
written_more c cs xs = refl

pub ruleset writes = (written_Skip, written_Assign, written_Write, written_Print, written_Seq, written_If)

pub ruleset write_lists = (written_none, written_more)

-- ---- what a write is made of
pub within_is : (b : Spot) (e : L.Expr) → within b e L.NoTest ≡ L.MoreTest (L.Comparison compare.LessEqual (L.Literal b.lo) e) (L.MoreTest (L.Comparison compare.LessEqual e (L.Literal b.hi)) L.NoTest)
unfolding definitions
within_is b e = refl

pub guarded_is : (b : Spot) (x : ℕ) (e : L.Expr) → guarded b x e ≡ L.If (within b e L.NoTest) (L.Write (split.Whole x) e) L.Skip
unfolding definitions
guarded_is b x e = refl

pub ruleset making = (within_is, guarded_is)

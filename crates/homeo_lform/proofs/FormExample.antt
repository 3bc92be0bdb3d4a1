-- One L form written out by hand, as the rules give it.
use Rattle.std.proofs.Common.{◌≡◌, ℕ, List, [], ◌∷◌, pos, negsuc, refl}
use Rattle.homeo_syntax.specs.declared.low.Temp.TheVariants as temp
use Rattle.homeo_syntax.specs.declared.low.SplitName.TheVariants as split
use Rattle.homeo_syntax.specs.declared.phrase.Compare.TheVariants as compare
use Rattle.homeo_syntax.specs.Low as L
use Rattle.homeo_syntax.specs.Source as S
use Rattle.homeo_syntax.specs.declared.phrase.Ident.{Ident}
use Rattle.homeo_meaning.specs.Key.{definitions as meaning_definitions}
use Rattle.homeo_meaning.specs.Schema.{Schema}
use Rattle.homeo_meaning.specs.LForm.{l_form}

-- names: a 0, R 1, f 2, r 3, p 4, x 5, y 6; objects: a 0, R.0.used 1, R.0.f 2, R.1.used 3, R.1.f 4
declarations : Schema
declarations = record {
  objects = record { name = 0; lo = pos 5; hi = pos 7 } ∷ [];
  relations = record { name = 1; slots = 2; fields = record { name = 2; lo = pos 0; hi = pos 9 } ∷ [] } ∷ [];
}

-- ---- short words
abbrev all : List L.Command → L.Commands
all [] = L.NoCommand
all (c ∷ cs) = L.MoreCommand c (all cs)

abbrev tests : List L.Test → L.Cond
tests [] = L.NoTest
tests (t ∷ ts) = L.MoreTest t (tests ts)

abbrev seq : List L.Command → L.Command
seq cs = L.Seq (all cs)

abbrev rd : ℕ → L.Expr
rd x = L.Read (split.Whole x)

abbrev wr : ℕ → L.Expr → L.Command
wr x e = L.Write (split.Whole x) e

abbrev fr : ℕ → L.Expr
fr n = L.OfTemp (temp.Fresh n)

abbrev set : ℕ → L.Expr → L.Command
set n e = L.Assign (temp.Fresh n) e

abbrev lit : ℕ → L.Expr
lit n = L.Literal (pos n)

abbrev eq : L.Expr → L.Expr → L.Test
eq a b = L.Comparison compare.Equal a b

abbrev le : L.Expr → L.Expr → L.Test
le a b = L.Comparison compare.LessEqual a b

abbrev plus : L.Expr → L.Expr → L.Expr
plus a b = L.Sum (L.MoreExpr a (L.MoreExpr b L.NoExpr))

abbrev when : List L.Test → L.Command → L.Command
when ts c = L.If (tests ts) c L.Skip

-- $n := R[e].f
abbrev chain : ℕ → L.Expr → L.Command
chain n e = L.If (tests (eq e (lit 0) ∷ [])) (set n (rd 2)) (L.If (tests (eq e (lit 1) ∷ [])) (set n (rd 4)) (set n (lit 0)))

abbrev x : L.Expr
x = L.OfTemp (temp.Named 5)

abbrev ident : ℕ → Ident
ident n = record { name = n; offset = 0 }

abbrev cond1 : S.Test → S.Cond
cond1 t = S.MoreTest t S.NoTest

abbrev both : S.Expr → S.Expr → S.Expr
both a b = S.Sum (S.MoreExpr a (S.MoreExpr b S.NoExpr))

-- x := count(r of R when r.f < p); R[x].f := R[p].f + 1; insert R (f = sum(r.f of R when true)) into y;
-- foreach r of R when R[r.f].f = 0 { r.f := 3 }; delete r of R when true; R[7].f := count(r of R when true);
-- print(R[R[x].f + count(r of R when R[r.f].f = 0)].f); update r of R when true set f = R[r.f].f; write(a = R[1].f)
body : S.Commands
body =
    S.MoreCommand (S.Assign (ident 5) (S.Count (ident 3) (ident 1) (cond1 (S.Comparison compare.Less (S.Row (ident 3) (ident 2)) (S.Name (ident 4))))))
    (S.MoreCommand (S.SetField (ident 1) (S.Name (ident 5)) (ident 2) (both (S.Field (ident 1) (S.Name (ident 4)) (ident 2)) (S.Literal (pos 1))))
    (S.MoreCommand (S.Insert (ident 1) (record { field = ident 2; value = S.Total (ident 3) (ident 2) (ident 1) (cond1 S.True) } ∷ []) (ident 6))
    (S.MoreCommand (S.Foreach (ident 3) (ident 1) (cond1 (S.Comparison compare.Equal (S.Field (ident 1) (S.Row (ident 3) (ident 2)) (ident 2)) (S.Literal (pos 0)))) (S.MoreCommand (S.SetRow (ident 3) (ident 2) (S.Literal (pos 3))) S.NoCommand))
    (S.MoreCommand (S.Delete (ident 3) (ident 1) (cond1 S.True))
    (S.MoreCommand (S.SetField (ident 1) (S.Literal (pos 7)) (ident 2) (S.Count (ident 3) (ident 1) (cond1 S.True)))
    (S.MoreCommand (S.Print (S.Field (ident 1) (both (S.Field (ident 1) (S.Name (ident 5)) (ident 2)) (S.Count (ident 3) (ident 1) (cond1 (S.Comparison compare.Equal (S.Field (ident 1) (S.Row (ident 3) (ident 2)) (ident 2)) (S.Literal (pos 0)))))) (ident 2)))
    (S.MoreCommand (S.Update (ident 3) (ident 1) (cond1 S.True) (ident 2) (S.Field (ident 1) (S.Row (ident 3) (ident 2)) (ident 2)))
    (S.MoreCommand (S.Write (ident 0) (S.Field (ident 1) (S.Literal (pos 1)) (ident 2))) S.NoCommand))))))))

-- the call with p = -3
expected : L.Command
expected = seq (
    seq (set 0 (lit 0)
    ∷ when (eq (rd 1) (lit 1) ∷ L.Comparison compare.Less (rd 2) (L.Literal (negsuc 2)) ∷ []) (set 0 (plus (fr 0) (lit 1)))
    ∷ when (eq (rd 3) (lit 1) ∷ L.Comparison compare.Less (rd 4) (L.Literal (negsuc 2)) ∷ []) (set 0 (plus (fr 0) (lit 1)))
    ∷ L.Assign (temp.Named 5) (fr 0) ∷ [])
    ∷ when (le (lit 0) (plus (lit 0) (lit 1)) ∷ le (plus (lit 0) (lit 1)) (lit 9) ∷ [])
    (L.If (tests (eq x (lit 0) ∷ [])) (wr 2 (plus (lit 0) (lit 1))) (L.If (tests (eq x (lit 1) ∷ [])) (wr 4 (plus (lit 0) (lit 1))) L.Skip))
    ∷ seq (set 1 (lit 0)
    ∷ when (eq (rd 1) (lit 1) ∷ L.True ∷ []) (set 1 (plus (fr 1) (rd 2)))
    ∷ when (eq (rd 3) (lit 1) ∷ L.True ∷ []) (set 1 (plus (fr 1) (rd 4)))
    ∷ set 2 (fr 1)
    ∷ L.If (tests (le (lit 0) (fr 2) ∷ le (fr 2) (lit 9) ∷ []))
    (L.If (tests (eq (rd 1) (lit 0) ∷ [])) (seq (wr 2 (fr 2) ∷ wr 1 (lit 1) ∷ L.Assign (temp.Named 6) (lit 1) ∷ []))
    (L.If (tests (eq (rd 3) (lit 0) ∷ [])) (seq (wr 4 (fr 2) ∷ wr 3 (lit 1) ∷ L.Assign (temp.Named 6) (lit 2) ∷ []))
    (L.Assign (temp.Named 6) (lit 0))))
    (L.Assign (temp.Named 6) (lit 0)) ∷ [])
    ∷ seq (chain 3 (rd 2)
    ∷ when (eq (rd 1) (lit 1) ∷ eq (fr 3) (lit 0) ∷ []) (seq (when (le (lit 0) (lit 3) ∷ le (lit 3) (lit 9) ∷ []) (wr 2 (lit 3)) ∷ []))
    ∷ chain 4 (rd 4)
    ∷ when (eq (rd 3) (lit 1) ∷ eq (fr 4) (lit 0) ∷ []) (seq (when (le (lit 0) (lit 3) ∷ le (lit 3) (lit 9) ∷ []) (wr 4 (lit 3)) ∷ [])) ∷ [])
    ∷ seq (when (eq (rd 1) (lit 1) ∷ L.True ∷ []) (wr 1 (lit 0)) ∷ when (eq (rd 3) (lit 1) ∷ L.True ∷ []) (wr 3 (lit 0)) ∷ [])
    ∷ L.Skip
    ∷ seq (chain 5 x
    ∷ set 6 (lit 0)
    ∷ chain 7 (rd 2)
    ∷ when (eq (rd 1) (lit 1) ∷ eq (fr 7) (lit 0) ∷ []) (set 6 (plus (fr 6) (lit 1)))
    ∷ chain 8 (rd 4)
    ∷ when (eq (rd 3) (lit 1) ∷ eq (fr 8) (lit 0) ∷ []) (set 6 (plus (fr 6) (lit 1)))
    ∷ chain 9 (plus (fr 5) (fr 6))
    ∷ L.Print (fr 9) ∷ [])
    ∷ seq (when (eq (rd 1) (lit 1) ∷ L.True ∷ []) (seq (chain 10 (rd 2) ∷ when (le (lit 0) (fr 10) ∷ le (fr 10) (lit 9) ∷ []) (wr 2 (fr 10)) ∷ []))
    ∷ when (eq (rd 3) (lit 1) ∷ L.True ∷ []) (seq (chain 11 (rd 4) ∷ when (le (lit 0) (fr 11) ∷ le (fr 11) (lit 9) ∷ []) (wr 4 (fr 11)) ∷ [])) ∷ [])
    ∷ when (le (lit 5) (rd 4) ∷ le (rd 4) (lit 7) ∷ []) (wr 0 (rd 4)) ∷ [])

form_of_the_call : l_form declarations (4 ∷ []) (negsuc 2 ∷ []) body ≡ expected
unfolding meaning_definitions declarations body expected
form_of_the_call = refl

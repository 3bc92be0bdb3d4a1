-- Every lifted expression and condition has the source's value.
use Rattle.std.proofs.Common.{◌≡◌, ℕ, not, ◌&&◌, ℤ, pos, ◌+ℤ◌, ◌*ℤ◌, neg_ℤ, Option, Some, None, refl}
use Rattle.homeo_syntax.specs.Low as L
use Rattle.homeo_syntax.specs.Source.{Expr, Exprs, Literal, Name, Read, Sum, Product, Neg, Field, Row, Count, Total, NoExpr, MoreExpr, Test, Cond, True, Not, Comparison, NoTest, MoreTest}
use Rattle.homeo_meaning.specs.Key.{definitions}
use Rattle.homeo_meaning.specs.LowMeaning as M
use Rattle.homeo_meaning.specs.Context.{Context, spot, field_cell, slots, fields, bind}
use Rattle.homeo_meaning.specs.Meaning.{argument_or, compared, value, sum_value, product_value, passes, holds}
use Rattle.homeo_meaning.specs.LForm.{read, name_of, lift, lift_all, lift_test, lift_cond}
use Rattle.homeo_lform.proofs.Lifts.{seen, Lifts, plain_lifts, mapped_lifts, combined_lifts}
use Rattle.homeo_lform.proofs.Fields.{indexed_lifts}
use Rattle.homeo_lform.proofs.Loops.{counted_lifts}

name_value : (o : Option ℤ) (x : ℕ) (u : M.State) → M.value (name_of o x) u ≡ argument_or o ((seen u).temps x)
unfolding definitions
name_value (Some v) x u = refl
name_value None x u = refl

-- the sum and the product as functions of the number before them
abbrev pub sums : L.Exprs → M.State → ℤ → ℤ
sums es u k = M.sum_value k es u

abbrev pub products : L.Exprs → M.State → ℤ → ℤ
products es u k = M.product_value k es u

mutual
  unfolding definitions

  pub lifts : (w : Context) (e : Expr) (n : ℕ) (s : M.State) → Lifts n s (lift w e n) M.value (value w e)
  lifts w (Literal v) n s = plain_lifts _ n s M.value (value w (Literal v)) (λ u. refl)
  lifts w (Name x) n s = plain_lifts _ n s M.value (value w (Name x)) (name_value (w.arguments x.name) x.name)
  lifts w (Read x) n s = plain_lifts _ n s M.value (value w (Read x)) (λ u. refl)
  lifts w (Sum es) n s = mapped_lifts L.Sum (λ f. f (pos 0)) sums M.value (sum_value w es) (λ a u. refl) n s (lift_all w es n) (lifts_sum w es n s)
  lifts w (Product es) n s =
      mapped_lifts L.Product (λ f. f (pos 1)) products M.value (product_value w es) (λ a u. refl) n s (lift_all w es n) (lifts_product w es n s)
  lifts w (Neg e) n s = mapped_lifts L.Neg neg_ℤ M.value M.value (value w e) (λ a u. refl) n s (lift w e n) (lifts w e n s)
  lifts w (Field r e f) n s =
      indexed_lifts (slots w r.name) (spot (fields w r.name) f.name) (value w e) n s (lift w e n).before (lift w e n).phrase (lift w e n).next (lifts w e n s)
  lifts w (Row r f) n s = plain_lifts _ n s M.value (value w (Row r f)) (λ u. refl)
  lifts w (Count r q b) n s =
      counted_lifts (λ slot. lift_cond (bind w r.name slot) b) (λ slot. holds (bind w r.name slot) b) (λ slot m a. lifts_cond (bind w r.name slot) b m a)
      (λ slot. L.Literal (pos 1)) (λ slot t. pos 1) (λ slot u. refl) (slots w q.name) n s
  lifts w (Total r f q b) n s =
      counted_lifts (λ slot. lift_cond (bind w r.name slot) b) (λ slot. holds (bind w r.name slot) b) (λ slot m a. lifts_cond (bind w r.name slot) b m a)
      (λ slot. read (field_cell slot f.name)) (λ slot t. t.database (field_cell slot f.name)) (λ slot u. refl) (slots w q.name) n s

  pub lifts_sum : (w : Context) (es : Exprs) (n : ℕ) (s : M.State) → Lifts n s (lift_all w es n) sums (sum_value w es)
  lifts_sum w NoExpr n s = plain_lifts _ n s sums (sum_value w NoExpr) (λ u. refl)
  lifts_sum w (MoreExpr e es) n s =
      combined_lifts L.MoreExpr (λ z f k. f (k +ℤ z)) M.value sums sums (value w e) (sum_value w es) (λ a b u. refl) n s (lift w e n) (lift_all w es) (lifts w e n s) (lifts_sum w es)

  pub lifts_product : (w : Context) (es : Exprs) (n : ℕ) (s : M.State) → Lifts n s (lift_all w es n) products (product_value w es)
  lifts_product w NoExpr n s = plain_lifts _ n s products (product_value w NoExpr) (λ u. refl)
  lifts_product w (MoreExpr e es) n s =
      combined_lifts L.MoreExpr (λ z f k. f (k *ℤ z)) M.value products products (value w e) (product_value w es) (λ a b u. refl) n s (lift w e n) (lift_all w es) (lifts w e n s) (lifts_product w es)

  pub lifts_test : (w : Context) (t : Test) (n : ℕ) (s : M.State) → Lifts n s (lift_test w t n) M.passes (passes w t)
  lifts_test w True n s = plain_lifts _ n s M.passes (passes w True) (λ u. refl)
  lifts_test w (Not c) n s = mapped_lifts L.Not not M.holds M.passes (holds w c) (λ a u. refl) n s (lift_cond w c n) (lifts_cond w c n s)
  lifts_test w (Comparison op a b) n s =
      combined_lifts (L.Comparison op) (compared op) M.value M.value M.passes (value w a) (value w b) (λ a b u. refl) n s (lift w a n) (lift w b) (lifts w a n s) (lifts w b)

  pub lifts_cond : (w : Context) (c : Cond) (n : ℕ) (s : M.State) → Lifts n s (lift_cond w c n) M.holds (holds w c)
  lifts_cond w NoTest n s = plain_lifts _ n s M.holds (holds w NoTest) (λ u. refl)
  lifts_cond w (MoreTest t c) n s =
      combined_lifts L.MoreTest ◌&&◌ M.passes M.holds M.holds (passes w t) (holds w c) (λ a b u. refl) n s (lift_test w t n) (lift_cond w c) (lifts_test w t n s) (lifts_cond w c)

-- The L form names whole objects only, names of temporaries, and fresh temporaries below its size.
use Rattle.std.proofs.Common.{ℕ, suc, ◌<◌, List, map, ℤ, Option, Some, None, arith}
use Rattle.std.specs.Prelude.{slice_get}
use Rattle.homeo_syntax.specs.declared.low.Temp.{Temp}
use Rattle.homeo_syntax.specs.declared.low.Temp.TheVariants.{Named, Fresh}
use Rattle.homeo_syntax.specs.Source.{Commands, Transaction, Workload}
use Rattle.homeo_meaning.specs.Key.{definitions}
use Rattle.homeo_meaning.specs.Schema.{Schema, schema_of}
use Rattle.homeo_meaning.specs.Context.{context}
use Rattle.homeo_meaning.specs.Aborts.{hold_abort}
use Rattle.homeo_meaning.specs.LForm.{body_by, l_form}
use Rattle.homeo_meaning.specs.LowSizes.{call_extent, first_extents}
use Rattle.homeo_meaning.specs.Ground.{Ground}
use Rattle.homeo_meaning.specs.CallForm.{body_form, ground_form}
use Rattle.homeo_meaning.specs.Everywhere.{Everywhere}
use Rattle.homeo_meaning.specs.Whole.{IsWholeName, AnyTemp, IsWhole}
use Rattle.homeo_lform.proofs.AnyBody.{any_body_in, any_body_count}
use Rattle.homeo_lform.proofs.Assigned.{assigns_size}

-- What holds of each name of a temporary, and of the fresh ones below a number above the form's size, holds of each temporary in it.
module _ (Q : Temp → Type 0) (b : ℕ) (names : (t : ℕ) → Q (Named t)) (each_fresh : (m : ℕ) → m < b → Q (Fresh m)) (k : ℕ) where
  form_in : (x : Schema) (params : List ℕ) (args : List ℤ) (body : Commands) → (call_extent k (l_form x params args body)).size < b →
      Everywhere IsWholeName Q (l_form x params args body)
  unfolding definitions
  form_in x params args body small =
      let w = context x params args in
      let v = hold_abort body in
      let c = any_body_count v w body in
      let r = assigns_size k (body_by v w body) (first_extents k) in
      any_body_in IsWholeName Q (λ y. tt) names v w body b (omega (arith, small)) each_fresh (omega (arith, c, r, small))

  pub ground_in : (w : Workload) (g : Ground) → (call_extent k (ground_form w g)).size < b → Everywhere IsWholeName Q (ground_form w g)
  unfolding definitions
  ground_in w g = by_case (slice_get w.transactions g.transaction)
    where
      by_case : (o : Option Transaction) → (call_extent k (body_form w o g.args)).size < b → Everywhere IsWholeName Q (body_form w o g.args)
      by_case None small = tt
      by_case (Some t) small = form_in (schema_of w) (map (λ p. p.name.name) t.params) g.args t.body small

pub whole_law : (x : Schema) (params : List ℕ) (args : List ℤ) (body : Commands) → IsWhole (l_form x params args body)
whole_law x params args body = form_in AnyTemp (suc (call_extent 0 (l_form x params args body)).size) (λ t. tt) (λ m l. tt) 0 x params args body (omega arith)

pub ground_whole : (w : Workload) (g : Ground) → IsWhole (ground_form w g)
ground_whole w g = ground_in AnyTemp (suc (call_extent 0 (ground_form w g)).size) (λ t. tt) (λ m l. tt) 0 w g (omega arith)

-- What is told of an L form that is measured, and of one that isn't made.
use Rattle.std.proofs.Common.{◌≡◌, ◌<◌, ℕ, ℤ, true, List, map, inl, inr, Option, Some, None, IfOk, Ok, Err, Result, refl, sym, ap, subst, ◌∙◌, arith}
use Rattle.std.specs.Prelude.{slice_get, IsSome}
use Rattle.std.proofs.lemmas.Int.{clamps}
use Rattle.homeo_syntax.specs.Low.{Command}
use Rattle.homeo_syntax.specs.Source as s
use Rattle.homeo_syntax.specs.SourceView.{plain_transaction}
use Rattle.homeo_syntax.specs.declared.list.Memory.{Memory}
use Rattle.homeo_syntax.specs.declared.workload.Transaction.{Transaction}
use Rattle.homeo_meaning.specs.Key.{definitions as meaning_definitions}
use Rattle.homeo_meaning.specs.Bindings.{Scope}
use Rattle.homeo_meaning.specs.Declarations.{declarations, place_of}
use Rattle.homeo_meaning.specs.Forms.{CallBody, body_of, body_ground}
use Rattle.homeo_meaning.specs.Ground.{ground_of_sited}
use Rattle.homeo_meaning.specs.GlobalNames as g
use Rattle.homeo_meaning.specs.CallForm.{call_form}
use Rattle.homeo_meaning.specs.LForm.{l_form}
use Rattle.homeo_meaning.specs.LowSizes.{call_extent}
use Rattle.homeo_meaning.specs.Schema.{Schema, schema_of, nat_of}
use Rattle.homeo_desugar.proofs.Looking.{call_formed}
use Rattle.homeo_size.specs.Measured.{IsMeasure}
use Rattle.homeo_size.specs.declared.measures.Measure.{Measure}
use Rattle.homeo_rules.specs.inner.Bodies.{call_body, form_to}
use Rattle.homeo_ground.specs.Sited.{values, sited}
use Rattle.homeo_ground.specs.declared.sited.SitedCall.{SitedCall}
use Rattle.homeo_rules.specs.inner.Scopes.{scope_in}
use Rattle.homeo_rules.specs.inner.Sizes.{IsSetUp, IsNamed, workload_of, transaction_place, IsMeasuredAs, IsTold}
use Rattle.homeo_rules.specs.declared.rules.bodies.Body.{Body}
use Rattle.homeo_rules.specs.declared.rules.bodies.MeasuredBody.{MeasuredBody}
use Rattle.homeo_rules.specs.declared.rules.bodies.Measuring.{Measuring}

pub if_ok : {A E : Type 0} (P Q : A → Type 0) → ((a : A) → P a → Q a) → (r : Result A E) → IfOk r P → IfOk r Q
if_ok P Q f (Ok a) h = f a h
if_ok P Q f (Err e) h = h

-- ---- the L form of a transaction with arguments
module _ (m : Measuring) (t : Transaction) (body : Body) (up : IsSetUp m) (at : slice_get (workload_of m).transactions body.transaction ≡ Some (plain_transaction t)) where
  abbrev form_with : Schema → List ℤ → Command
  form_with x args = l_form x (map (λ p. p.name.name) t.params.items) args (plain_transaction t).body

  pub formed : (x : Schema) (args : List ℤ) → x ≡ m.layout.now → args ≡ body.args.items → form_with x args ≡ form_to (workload_of m) (call_body body)
  formed x args laid given = call_formed m.workload.now m.workload.now (body_ground (call_body body)) t x args (form_with x args) refl at (laid ∙ up.layout) given refl

  pub measured : (f : Command) (k : Measure) → f ≡ form_to (workload_of m) (call_body body) → IsMeasure m.layout.now m.sites f k → IsMeasure (schema_of (workload_of m)) (nat_of (workload_of m).sites.value) (form_to (workload_of m) (call_body body)) k
  measured f k is h =
      subst (λ c. IsMeasure (schema_of (workload_of m)) (nat_of (workload_of m).sites.value) c k) is
      (subst (λ n. IsMeasure (schema_of (workload_of m)) n f k) up.sites (subst (λ x. IsMeasure x m.sites f k) up.layout h))

  -- one that is not made is larger than a call may be
  pub past : (args : List ℤ) → args ≡ body.args.items → (m.in_order ≡ true) × (200000 < (call_extent m.sites (form_with m.layout.now args)).size) → IsMeasuredAs (workload_of m) (form_to (workload_of m) (call_body body)) None
  past args given h = (
    sym up.order ∙ h.0,
    subst (λ n. 200000 < (call_extent n (form_to (workload_of m) (call_body body))).size) up.sites
        (subst (λ c. 200000 < (call_extent m.sites c).size) (formed m.layout.now args refl given) h.1),
  )

-- ---- of calls
-- the transaction and the arguments of a call
module _ (m : Measuring) (c : SitedCall) (b : Body) (up : IsSetUp m) (named : IsNamed (workload_of m) (sited c)) (number : b.transaction ≡ transaction_place ((scope_in m.scope).item c.name.name)) (given : b.args.items ≡ values c.args.now) where
  pub body_is : call_body b ≡ body_of (ground_of_sited (workload_of m) (sited c))
  unfolding meaning_definitions
  body_is =
      let is : b.transaction ≡ place_of (declarations (workload_of m)).transactions c.name.name =
      number ∙ ap (λ (x : Scope). transaction_place (x.item c.name.name)) up.scope ∙ named.place in
      λ i. record { transaction = is i; args = given i }

  pub form_is : form_to (workload_of m) (call_body b) ≡ call_form (workload_of m) (sited c)
  unfolding meaning_definitions
  form_is = ap (form_to (workload_of m)) body_is ∙ sym named.form

  pub there : IsSome (slice_get (workload_of m).transactions b.transaction)
  unfolding meaning_definitions
  there = subst (λ (k : ℕ). IsSome (slice_get (workload_of m).transactions k)) (sym (ap (λ (x : CallBody). x.transaction) body_is)) named.there

told_of : (w : s.Workload) (total : ℕ) (c : g.SitedCall) (o : Option MeasuredBody) → IsMeasuredAs w (call_form w c) o → IsTold w total c o
told_of w total c (Some m) h = λ before agree. h
told_of w total c None h = λ before agree. inr h

pub measured-after : (w : s.Workload) (total : ℕ) (c : g.SitedCall) (r : Result (Option MeasuredBody) Memory) → IfOk r (IsMeasuredAs w (call_form w c)) → IfOk r (IsTold w total c)
measured-after w total c r h = if_ok _ _ (told_of w total c) r h

pub past-all : (w : s.Workload) (total : ℕ) (c : g.SitedCall) → 2000000 < total → IsTold w total c None
past-all w total c h = λ before agree. inl (omega (arith, clamps, h, agree))

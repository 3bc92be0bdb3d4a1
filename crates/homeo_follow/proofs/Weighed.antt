-- Where a command is light, the forms along it over whole objects are small.
use Rattle.homeo_meaning.specs.Key.{definitions as meaning_definitions}
use Rattle.homeo_plan.specs.Key.{definitions as plan_definitions}
use Rattle.homeo_follow.specs.Key.{definitions}
use Rattle.std.proofs.Common.{◌≡◌, ℕ, ◌+◌, ◌*◌, ◌≤◌, max, Bool, true, false, cond, List, [], ◌∷◌, ℤ, pos, ◌+ℤ◌, arith}
use Rattle.std.specs.Int.RustNames.{unsigned_abs}
use Rattle.std.proofs.lemmas.Bool.{and_parts}
use Rattle.homeo_lemmas.proofs.Naturals.{product_positive, factor_le}
use Rattle.homeo_syntax.specs.Low.{Expr, Exprs, Literal, OfTemp, Read, Sum, Product, Neg, NoExpr, MoreExpr, Test, Cond, True, Not, Comparison, NoTest, MoreTest, Command, Commands, Skip, Assign, Write, Print, Seq, If, NoCommand, MoreCommand}
use Rattle.homeo_syntax.specs.Source as s
use Rattle.homeo_meaning.specs.Acceptance.{weight_limit, IsAccepted}
use Rattle.homeo_meaning.specs.Bounds.{all_bounds, AllWithin, IsWithin}
use Rattle.homeo_meaning.specs.CallForm.{ground_form}
use Rattle.homeo_meaning.specs.Calls.{IsGroundCall}
use Rattle.homeo_meaning.specs.Ground.{Ground}
use Rattle.homeo_meaning.specs.LowMeaning.{Location, TempAt, BaseAt, DeltaAt, location_of, same_location, put}
use Rattle.homeo_meaning.specs.LowWeights.{weight, sum_weight, product_weight, after, after_all, is_light_expr, is_light_test, is_light_cond, is_light, are_light, first_weights, weight_at}
use Rattle.homeo_meaning.specs.Schema.{Schema, schema_of}
use Rattle.homeo_meaning.specs.Serial.{values_of}
use Rattle.homeo_meaning.specs.Small.{IsSmall}
use Rattle.homeo_meaning.proofs.LightCalls.{ground_call_light}
use Rattle.homeo_meaning.proofs.Sound.{sound}
use Rattle.homeo_meaning.proofs.Within.{all_within}
use Rattle.homeo_lform.proofs.Light.{weight_small, size_at, one_at}
use Rattle.homeo_plan.specs.Limit.{form_limit}
use Rattle.homeo_plan.proofs.GroundNumbers.{values_small}
use Rattle.homeo_plan.specs.Each.{Each}
use Rattle.homeo_plan.specs.declared.forms.Term.{Term}
use Rattle.homeo_plan.specs.Linear.{Linear, constant_form, add_forms, multiply_forms, same_delta, Forms, form, sum_form, product_form}
use Rattle.homeo_plan.specs.FormSizes.{Numbers, CanForm, CanSum, CanProduct, CanSubtract, CanTest, CanCond}
use Rattle.homeo_plan.proofs.Sizes.{Within, numbers, wider, within_constant, within_add, within_negated, within_multiply}
use Rattle.homeo_lform.proofs.Weights.{one_weight, one_product}
use Rattle.homeo_plan.proofs.Made.{Made}
use Rattle.homeo_plan.proofs.MadeTests.{subtract}
use Rattle.homeo_follow.specs.Follow.{holds_by, passed, failed, asked, follow, follow_all, object_delta, object_form, object_forms, followed}
use Rattle.homeo_follow.specs.FollowSizes.{AreNumbers, CanBeFollowed, CanAllBeFollowed}

module _ (b limit : ℕ) (fits : 2 * b + 1 ≤ limit) where
  abbrev P : ℤ → Type 0
  P = IsSmall limit

  small_wider : (z : ℤ) → IsSmall (2 * b + 1) z → P z
  unfolding meaning_definitions
  small_wider z h = omega (arith, fits, h)

  each_wider : (ts : List Term) → Each (λ t. IsSmall (2 * b + 1) t.factor) ts → Each (λ t. P t.factor) ts
  unfolding plan_definitions
  each_wider [] h = tt
  each_wider (t ∷ ts) h = (small_wider t.factor h.0, each_wider ts h.1)

  numbers_wider : (a : Linear) → Numbers (IsSmall (2 * b + 1)) a → Numbers P a
  numbers_wider a h = record { constant = small_wider a.constant h.constant; factors = each_wider a.terms h.factors }

  apart : (x y : Linear) → Within b x → Within b y → CanSubtract P x y
  apart x y v w =
      let s = subtract b x y v w in
      record {
        negated = numbers_wider _ s.negated;
        apart = numbers_wider _ s.apart;
        or_less = numbers_wider _ s.or_less;
        more = numbers_wider _ s.more;
      }

  -- the weights v bound the forms f, and none of these is larger than b
  pub record Weighs (v : Location → ℕ) (f : Forms) : Type 0 where
    pub within : (p : Location) → Within (v p) (f p)
    pub small : (p : Location) → Within b (f p)
    pub ones : (p : Location) → 1 ≤ v p

  module _ (v : Location → ℕ) (f : Forms) (h : Weighs v f) where
    mutual
      unfolding plan_definitions meaning_definitions

      pub make : (e : Expr) → weight e v ≤ b → Made (CanForm P f e) (weight e v) (form f e)
      make (Literal n) l =
          let w = within_constant (weight (Literal n) v) n (omega arith) in
          record { can = numbers limit (weight (Literal n) v) (constant_form n) (omega (arith, l, fits)) w; within = w }
      make (OfTemp t) l =
          let w = h.within (TempAt t) in
          record { can = numbers limit (v (TempAt t)) (f (TempAt t)) (omega (arith, l, fits)) w; within = w }
      make (Read x) l =
          let w = h.within (location_of x) in
          record { can = numbers limit (v (location_of x)) (f (location_of x)) (omega (arith, l, fits)) w; within = w }
      make (Sum es) l =
          let r = sum_make es (constant_form (pos 0)) 0 (within_constant 0 (pos 0) (omega arith)) (omega (arith, l)) in
          record { can = r.can; within = wider (weight (Sum es) v) (0 + sum_weight es v) _ (omega arith) r.within }
      make (Product es) l =
          let r = product_make es (constant_form (pos 1)) 1 (within_constant 1 (pos 1) (omega arith)) (omega arith) (omega (arith, l)) in
          record { can = r.can; within = wider (product_weight es v) (1 * product_weight es v) _ (omega arith) r.within }
      make (Neg e) l =
          let r = make e l in
          let w = within_negated (weight e v) (form f e) r.within in
          record { can = (r.can, numbers limit (weight e v) _ (omega (arith, l, fits)) w); within = w }

      sum_make :
          (es : Exprs) (a : Linear) (m : ℕ) → Within m a → m + sum_weight es v ≤ b →
          Made (CanSum P f a es) (m + sum_weight es v) (sum_form f a es)
      sum_make NoExpr a m w l =
          record { can = numbers limit m a (omega (arith, l, fits)) w; within = wider (m + 0) m a (omega arith) w }
      sum_make (MoreExpr e es) a m w l =
          let x = make e (omega (arith, l)) in
          let r = sum_make es (add_forms (form f e) a) (weight e v + m) (within_add (weight e v) m (form f e) a x.within w) (omega (arith, l)) in
          record {
            can = (numbers limit m a (omega (arith, l, fits)) w, x.can, r.can);
            within = wider (m + (weight e v + sum_weight es v)) (weight e v + m + sum_weight es v) _ (omega arith) r.within;
          }

      product_make :
          (es : Exprs) (a : Linear) (m : ℕ) → Within m a → 1 ≤ m → m * product_weight es v ≤ b →
          Made (CanProduct P f a es) (m * product_weight es v) (product_form f a es)
      product_make NoExpr a m w one l =
          record { can = numbers limit m a (omega (arith, l, fits)) w; within = wider (m * 1) m a (omega arith) w }
      product_make (MoreExpr e es) a m w one l =
          let we = weight e v in
          let rest = product_weight es v in
          let one_rest = one_product v h.ones es in
          let one_e = one_weight v h.ones e in
          let whole_le : we ≤ we * (m * rest) = factor_le we (m * rest) (product_positive m rest one one_rest) in
          let part : m ≤ m * (we * rest) = factor_le m (we * rest) (product_positive we rest one_e one_rest) in
          let x = make e (omega (arith, l, whole_le)) in
          let same : (m * we) * rest ≡ m * (we * rest) = omega arith in
          let r =
          product_make es (multiply_forms a (form f e)) (m * we) (within_multiply m we a (form f e) w x.within) (product_positive m we one one_e)
          (omega (arith, l, same)) in
          record {
            can = (numbers limit m a (omega (arith, l, part, fits)) w, x.can, r.can);
            within = wider (m * (we * rest)) ((m * we) * rest) _ (omega (arith, same)) r.within;
          }

    made : (e : Expr) → is_light_expr b e v ≡ true → Made (CanForm P f e) b (form f e)
    made e l =
        let r = make e (weight_small b v e l) in
        record { can = r.can; within = wider b (weight e v) _ (weight_small b v e l) r.within }

    mutual
      unfolding plan_definitions meaning_definitions

      made_test : (t : Test) → is_light_test b t v ≡ true → CanTest P f t
      made_test True l = tt
      made_test (Not c) l = made_cond c l
      made_test (Comparison op x y) l =
          let parts = and_parts (is_light_expr b x v) _ l in
          let p = made x parts.0 in
          let q = made y parts.1 in
          (p.can, q.can, apart _ _ p.within q.within, apart _ _ q.within p.within)

      pub made_cond : (c : Cond) → is_light_cond b c v ≡ true → CanCond P f c
      made_cond NoTest l = tt
      made_cond (MoreTest t c) l =
          let parts = and_parts (is_light_test b t v) _ l in
          (made_test t parts.0, made_cond c parts.1)

    weighs_put : (p : Location) (n : ℕ) (a : Linear) → 1 ≤ n → n ≤ b → Within n a → Weighs (put v p n) (put f p a)
    unfolding meaning_definitions
    weighs_put p n a one l w =
        record { within = λ q. go q (same_location p q); small = λ q. low q (same_location p q); ones = λ q. one_at_place q (same_location p q) }
      where
        go : (q : Location) (u : Bool) → Within (cond u n (v q)) (cond u a (f q))
        go q true = w
        go q false = h.within q

        low : (q : Location) (u : Bool) → Within b (cond u a (f q))
        low q true = wider b n a l w
        low q false = h.small q

        one_at_place : (q : Location) (u : Bool) → 1 ≤ cond u n (v q)
        one_at_place q true = one
        one_at_place q false = h.ones q

  weighs_wider : (v u : Location → ℕ) (f : Forms) → ((p : Location) → v p ≤ u p) → Weighs v f → Weighs u f
  weighs_wider v u f l h =
      record { within = λ p. wider (u p) (v p) (f p) (l p) (h.within p); small = h.small; ones = λ p. omega (arith, l p, h.ones p) }

  -- a command that can be followed, and the weights after it
  pub record Goes (v : Location → ℕ) (f : Forms) (Can : Type 0) : Type 0 where
    pub can : Can
    pub weighs : Weighs v f

  mutual
    unfolding definitions plan_definitions meaning_definitions

    pub goes : (c : Command) (v : Location → ℕ) (f : Forms) → Weighs v f → is_light b c v ≡ true → Goes (after c v) (follow c f).forms (CanBeFollowed P f c)
    goes Skip v f h l = record { can = tt; weighs = h }
    goes (Assign t e) v f h l =
        let small = weight_small b v e l in
        let r = make v f h e small in
        record { can = r.can; weighs = weighs_put v f h (TempAt t) (weight e v) (form f e) (one_weight v h.ones e) small r.within }
    goes (Write x e) v f h l =
        let small = weight_small b v e l in
        let r = make v f h e small in
        record { can = r.can; weighs = weighs_put v f h (location_of x) (weight e v) (form f e) (one_weight v h.ones e) small r.within }
    goes (Print e) v f h l = record { can = (make v f h e (weight_small b v e l)).can; weighs = h }
    goes (Seq cs) v f h l = goes_all cs v f h l
    goes (If t c d) v f h l =
        let parts = and_parts (is_light_cond b t v) _ l in
        let branches = and_parts (is_light b c v) _ parts.1 in
        let x = goes c v f h branches.0 in
        let y = goes d v f h branches.1 in
        record { can = (made_cond v f h t parts.0, (λ e. x.can), (λ e. y.can)); weighs = go (holds_by f t) x.weighs y.weighs }
      where
        go :
            (u : Bool) → Weighs (after c v) (follow c f).forms → Weighs (after d v) (follow d f).forms →
            Weighs (λ p. max (after c v p) (after d v p)) (cond u (asked (passed f t) (follow c f)) (asked (failed f t) (follow d f))).forms
        go true x y = weighs_wider (after c v) (λ p. max (after c v p) (after d v p)) (follow c f).forms (λ p. omega arith) x
        go false x y = weighs_wider (after d v) (λ p. max (after c v p) (after d v p)) (follow d f).forms (λ p. omega arith) y

    goes_all : (cs : Commands) (v : Location → ℕ) (f : Forms) → Weighs v f → are_light b cs v ≡ true → Goes (after_all cs v) (follow_all cs f).forms (CanAllBeFollowed P f cs)
    goes_all NoCommand v f h l = record { can = tt; weighs = h }
    goes_all (MoreCommand c cs) v f h l =
        let parts = and_parts (is_light b c v) _ l in
        let x = goes c v f h parts.0 in
        let y = goes_all cs (after c v) (follow c f).forms x.weighs parts.1 in
        record { can = (x.can, y.can); weighs = y.weighs }

  -- ---- at the base
  object_within : (n : ℕ) (z : ℤ) (x : ℕ) → 1 ≤ n → unsigned_abs z ≤ n → Within n (object_form z x)
  unfolding definitions plan_definitions
  object_within n z x one l = record { constant = l; factors = λ d. go (same_delta (object_delta x) d); sorted = (tt, tt) }
    where
      go : (u : Bool) → unsigned_abs (cond u (pos 1) (pos 0) +ℤ pos 0) ≤ n
      go true = one
      go false = omega arith

  begins : 1 ≤ b → (x : Schema) (base : ℕ → ℤ) → AllWithin x base → ((n : ℕ) → IsSmall b (base n)) → Weighs (first_weights x) (object_forms base)
  unfolding definitions plan_definitions meaning_definitions
  begins one x base h small = record { within = within; small = low; ones = ones }
    where
      within : (p : Location) → Within (first_weights x p) (object_forms base p)
      within (TempAt t) = within_constant 1 (pos 0) (omega arith)
      within (BaseAt n) = object_within (weight_at (all_bounds x) n) (base n) n (one_at (all_bounds x) n) (size_at (all_bounds x) n (base n) (h n))
      within (DeltaAt n j) = within_constant 1 (pos 0) (omega arith)

      low : (p : Location) → Within b (object_forms base p)
      low (TempAt t) = within_constant b (pos 0) (omega arith)
      low (BaseAt n) = object_within b (base n) n one (small n)
      low (DeltaAt n j) = within_constant b (pos 0) (omega arith)

      ones : (p : Location) → 1 ≤ first_weights x p
      ones (TempAt t) = omega arith
      ones (BaseAt n) = one_at (all_bounds x) n
      ones (DeltaAt n j) = omega arith

  are_numbers : (v : Location → ℕ) (f : Forms) → Weighs v f → AreNumbers P f
  unfolding definitions
  are_numbers v f h p = numbers limit b (f p) (omega (arith, fits)) (h.small p)

  pub followed_small :
      1 ≤ b → (x : Schema) (c : Command) (base : ℕ → ℤ) → AllWithin x base → ((n : ℕ) → IsSmall b (base n)) → is_light b c (first_weights x) ≡ true →
      CanBeFollowed P (object_forms base) c × AreNumbers P (follow c (object_forms base)).forms
  followed_small one x c base h small l =
      let r = goes c (first_weights x) (object_forms base) (begins one x base h small) l in
      (r.can, are_numbers (after c (first_weights x)) (follow c (object_forms base)).forms r.weighs)

-- the L form of a ground call of an accepted workload is light
pub accepted_small :
    (w : s.Workload) (g : Ground) (base : List ℤ) → IsAccepted w → IsGroundCall w g.transaction g.args → IsWithin (schema_of w) base →
    CanBeFollowed (IsSmall form_limit) (object_forms (values_of base)) (ground_form w g) ×
    AreNumbers (IsSmall form_limit) (followed (values_of base) (ground_form w g)).forms
unfolding definitions meaning_definitions
accepted_small w g base accepted called within =
    let all = all_within (schema_of w) base within in
    followed_small weight_limit form_limit (omega arith) (omega arith) (schema_of w) (ground_form w g) (values_of base) all
    (λ n. omega (arith, values_small w accepted (values_of base) all n))
    (ground_call_light w g.transaction g.args (sound w accepted) called)

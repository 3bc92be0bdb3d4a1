-- Along the row that is walked, the weights bound the forms.
use Rattle.homeo_plan.specs.Key.{definitions}
use Rattle.homeo_meaning.specs.Key.{definitions as meaning_definitions}
use Rattle.std.proofs.Common.{◌≡◌, ℕ, ◌==◌, ◌+◌, ◌*◌, ◌<◌, ◌≤◌, max, Bool, true, false, cond, ◌&&◌, ℤ, pos, refl, sym, subst, arith}
use Rattle.std.specs.Int.RustNames.{unsigned_abs}
use Rattle.std.proofs.lemmas.Bool.{and_parts}
use Rattle.std.proofs.lemmas.Bool.Decides.{nat_tests}
use Rattle.homeo_syntax.specs.declared.low.Temp.{Temp}
use Rattle.homeo_syntax.specs.declared.low.SplitName.TheVariants.{Whole, Base, Delta}
use Rattle.homeo_syntax.specs.Low.{Command, Commands, Skip, Assign, Write, Print, Seq, If, NoCommand, MoreCommand}
use Rattle.homeo_meaning.specs.LowMeaning.{Location, TempAt, BaseAt, DeltaAt, State, location_of, same_temp, same_location, put, holds, exec}
use Rattle.homeo_meaning.specs.LowWeights.{weight, after, after_all, is_light_cond, is_light, are_light}
use Rattle.homeo_meaning.specs.Small.{IsSmall}
use Rattle.homeo_meaning.specs.Whole.{IsWhole}
use Rattle.homeo_meaning.proofs.Parts.{AreWhole}
use Rattle.homeo_lform.proofs.Light.{weight_small}
use Rattle.homeo_plan.specs.Split.{shift_expr, shift_cond, shift, shift_all}
use Rattle.homeo_plan.specs.Table.{Row, test_before, otherwise, walk_before, walk_all_before}
use Rattle.homeo_plan.specs.Linear.{delta_of, Linear, Forms, form}
use Rattle.homeo_plan.specs.FormSizes.{CanCond, CanFollow}
use Rattle.homeo_plan.proofs.Factors.{at_delta}
use Rattle.homeo_plan.proofs.Sizes.{Within, wider}
use Rattle.homeo_plan.proofs.Others.{Shape}
use Rattle.homeo_plan.proofs.Replaced.{can_replace_cond}
use Rattle.homeo_plan.proofs.Cleared.{can_both}
use Rattle.homeo_plan.proofs.WholeReads.{Own, Holds}
use Rattle.homeo_lform.proofs.Weights.{one_weight}
use Rattle.homeo_plan.proofs.Made.{make}
use Rattle.homeo_plan.proofs.MadeTests.{made_cond}
use Rattle.homeo_plan.proofs.Written.{own_value, written}

-- the forms after the branches that are taken from a state
abbrev mutual
  unfolding definitions meaning_definitions

  pub forms_after : Command → State → Forms → Forms
  forms_after Skip s f = f
  forms_after (Assign t e) s f = put f (TempAt t) (form f e)
  forms_after (Write x e) s f = put f (location_of x) (form f e)
  forms_after (Print e) s f = f
  forms_after (Seq cs) s f = all_forms_after cs s f
  forms_after (If b c d) s f = cond (holds b s) (forms_after c s f) (forms_after d s f)

  pub all_forms_after : Commands → State → Forms → Forms
  all_forms_after NoCommand s f = f
  all_forms_after (MoreCommand c cs) s f = all_forms_after cs (exec c s).state (forms_after c s f)

own_wider : (k i : ℕ) (base : ℕ → ℤ) (x m n : ℕ) (a : Linear) → n ≤ m → Own k i base x n a → Own k i base x m a
own_wider k i base x m n a l o =
    record { constant = omega (arith, l, o.constant); factors = λ d. omega (arith, l, o.factors d); sorted = o.sorted }

holds_wider : (k i : ℕ) (base : ℕ → ℤ) (v v' : Location → ℕ) (f : Forms) → ((p : Location) → v p ≤ v' p) → Holds k i base v f → Holds k i base v' f
holds_wider k i base v v' f l h =
    record {
      temps = λ t. wider (v' (TempAt t)) (v (TempAt t)) (f (TempAt t)) (l (TempAt t)) (h.temps t);
      bases = h.bases;
      deltas = h.deltas;
      own = λ x. own_wider k i base x (v' (BaseAt x)) (v (BaseAt x)) (f (DeltaAt x i)) (l (BaseAt x)) (h.own x);
      ones = λ p. omega (arith, l p, h.ones p);
    }

pub put_ones : (v : Location → ℕ) (p : Location) (n : ℕ) → ((q : Location) → 1 ≤ v q) → 1 ≤ n → (q : Location) → 1 ≤ put v p n q
unfolding meaning_definitions
put_ones v p n h one q = go (same_location p q)
  where
    go : (b : Bool) → 1 ≤ cond b n (v q)
    go true = one
    go false = h q

holds_temp :
    (k i : ℕ) (base : ℕ → ℤ) (v : Location → ℕ) (f : Forms) (t : Temp) (n : ℕ) (a : Linear) → Holds k i base v f → 1 ≤ n →
    Within n a → Holds k i base (put v (TempAt t) n) (put f (TempAt t) a)
unfolding meaning_definitions
holds_temp k i base v f t n a h one w =
    record { temps = λ u. go u (same_temp t u); bases = h.bases; deltas = h.deltas; own = h.own; ones = put_ones v (TempAt t) n h.ones one }
  where
    go : (u : Temp) (b : Bool) → Within (cond b n (v (TempAt u))) (cond b a (f (TempAt u)))
    go u true = w
    go u false = h.temps u

holds_own :
    (k i : ℕ) (base : ℕ → ℤ) (v : Location → ℕ) (f : Forms) (x n : ℕ) (a : Linear) → Holds k i base v f → 1 ≤ n →
    Own k i base x n a → Holds k i base (put v (BaseAt x) n) (put f (DeltaAt x i) a)
unfolding meaning_definitions
holds_own k i base v f x n a h one o =
    record {
      temps = h.temps;
      bases = h.bases;
      deltas = λ y j q. other y j q (x == y) (i == j) q;
      own = λ y. own y (x == y) refl (i == i) same;
      ones = put_ones v (BaseAt x) n h.ones one;
    }
  where
    same : (i == i) ≡ true
    same = grind (arith, nat_tests)

    other : (y j : ℕ) → (i == j) ≡ false → (b c : Bool) → c ≡ false → Shape (pos 0) (at_delta (delta_of y j) (pos 1)) (cond (b && c) a (f (DeltaAt y j)))
    other y j q true c e = subst (λ u. Shape (pos 0) (at_delta (delta_of y j) (pos 1)) (cond u a (f (DeltaAt y j)))) (sym e) (h.deltas y j q)
    other y j q false c e = h.deltas y j q

    own : (y : ℕ) (b : Bool) → (x == y) ≡ b → (c : Bool) → c ≡ true → Own k i base y (cond b n (v (BaseAt y))) (cond (b && c) a (f (DeltaAt y i)))
    own y true p c e =
        let s : x ≡ y = grind (arith, nat_tests) in
        subst (λ u. Own k i base y n (cond u a (f (DeltaAt y i)))) (sym e) (subst (λ z. Own k i base z n a) s o)
    own y false p c e = h.own y

module _ (b k i : ℕ) (base : ℕ → ℤ) (inside : i < k) (small : (x : ℕ) → unsigned_abs (base x) ≤ b) where
  abbrev P : ℤ → Type 0
  P = IsSmall (2 * b + 1)

  -- from the forms f to the forms u, and from the row r to the row q in front of it
  pub record Walked (v : Location → ℕ) (f u : Forms) (step : Row → Row) : Type 0 where
    pub after : Holds k i base v u
    pub formula : (r : Row) → CanCond P u r.formula → CanCond P f (step r).formula
    pub residual : (r : Row) → CanFollow P u r.residual → CanFollow P f (step r).residual

  mutual
    unfolding definitions meaning_definitions

    pub follow :
        (c : Command) → IsWhole c → (v : Location → ℕ) (s : State) (f : Forms) → Holds k i base v f → is_light b c v ≡ true →
        Walked (after c v) f (forms_after (shift k i c) s f) (walk_before (shift k i c) s)
    follow Skip w v s f h l = record { after = h; formula = λ r c. c; residual = λ r c. c }
    follow (Assign t e) w v s f h l =
        let small_weight = weight_small b v e l in
        let r = make b k i base inside small v f h e w.1 small_weight in
        record {
          after = holds_temp k i base v f t (weight e v) (form f (shift_expr k e)) h (one_weight v h.ones e) r.within;
          formula = λ q c. can_replace_cond P (TempAt t) (shift_expr k e) f r.can q.formula c;
          residual = λ q c. (r.can, c);
        }
    follow (Write (Whole x) e) w v s f h l =
        let small_weight = weight_small b v e l in
        let r = make b k i base inside small v f h e w.1 small_weight in
        let o = written b k i base small v f h x (weight e v) (shift_expr k e) (one_weight v h.ones e) small_weight r in
        record {
          after = holds_own k i base v f x (weight e v) (form f (own_value k i x (shift_expr k e))) h (one_weight v h.ones e) o.own;
          formula = λ q c. can_replace_cond P (DeltaAt x i) (own_value k i x (shift_expr k e)) f o.can q.formula c;
          residual = λ q c. (o.can, c);
        }
    follow (Write (Base x) e) w v s f h l = absurd w.0
    follow (Write (Delta x j) e) w v s f h l = absurd w.0
    follow (Print e) w v s f h l =
        let r = make b k i base inside small v f h e w (weight_small b v e l) in
        record { after = h; formula = λ q c. c; residual = λ q c. (r.can, c) }
    follow (Seq cs) w v s f h l = let r = follow_all cs w v s f h l in record { after = r.after; formula = r.formula; residual = r.residual }
    follow (If t c d) w v s f h l =
        let parts = and_parts (is_light_cond b t v) _ l in
        let branches = and_parts (is_light b c v) _ parts.1 in
        let tests = made_cond b k i base inside small v f h t w.0 parts.0 in
        let x = follow c w.1 v s f h branches.0 in
        let y = follow d w.2 v s f h branches.1 in
        go (holds (shift_cond k t) s) tests x y
      where
        go :
            (u : Bool) → CanCond P f (shift_cond k t) →
            Walked (after c v) f (forms_after (shift k i c) s f) (walk_before (shift k i c) s) →
            Walked (after d v) f (forms_after (shift k i d) s f) (walk_before (shift k i d) s) →
            Walked (λ p. max (after c v p) (after d v p)) f
            (cond u (forms_after (shift k i c) s f) (forms_after (shift k i d) s f))
            (λ r.
            cond u (test_before (shift_cond k t) (walk_before (shift k i c) s r))
            (test_before (otherwise (shift_cond k t)) (walk_before (shift k i d) s r)))
        go true tests x y =
            record {
              after = holds_wider k i base (after c v) (λ p. max (after c v p) (after d v p)) _ (λ p. omega arith) x.after;
              formula = λ r q. can_both P f (shift_cond k t) _ tests (x.formula r q);
              residual = x.residual;
            }
        go false tests x y =
            record {
              after = holds_wider k i base (after d v) (λ p. max (after c v p) (after d v p)) _ (λ p. omega arith) y.after;
              formula = λ r q. can_both P f (otherwise (shift_cond k t)) _ (tests, tt) (y.formula r q);
              residual = y.residual;
            }

    pub follow_all :
        (cs : Commands) → AreWhole cs → (v : Location → ℕ) (s : State) (f : Forms) → Holds k i base v f → are_light b cs v ≡ true →
        Walked (after_all cs v) f (all_forms_after (shift_all k i cs) s f) (walk_all_before (shift_all k i cs) s)
    follow_all NoCommand w v s f h l = record { after = h; formula = λ r c. c; residual = λ r c. c }
    follow_all (MoreCommand c cs) w v s f h l =
        let parts = and_parts (is_light b c v) _ l in
        let x = follow c w.0 v s f h parts.0 in
        let y = follow_all cs w.1 (after c v) (exec (shift k i c) s).state (forms_after (shift k i c) s f) x.after parts.1 in
        record { after = y.after; formula = λ r q. x.formula _ (y.formula r q); residual = λ r q. x.residual _ (y.residual r q) }

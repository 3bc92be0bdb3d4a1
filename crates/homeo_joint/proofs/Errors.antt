-- The error of the size is that of the joint table.
use Rattle.std.proofs.Common.{◌≡◌, ℕ, ◌<◌, ◌≤◌, List, Result, Ok, Err, IsErrAnd, ◌↔◌, refl, ap, subst, arith}
use Rattle.std.specs.List.{All}
use Rattle.homeo_joint.specs.declared.size.JointError.{JointError}
use Rattle.homeo_joint.specs.declared.size.JointError.TheVariants.{TooMany, Memory}
use Rattle.homeo_joint.specs.Counts.{product_of, IsFirstOver}
use Rattle.homeo_joint.specs.TooMany.{IsTooMany}
use Rattle.homeo_joint.proofs.Products.{whole_over}

pub passed_on : {T : Type 0} (r : Result T JointError) (e : JointError) → IsErrAnd r (λ x. x ≡ e) → r ≡ Err e
passed_on (Ok x) e h = absurd h
passed_on (Err x) e h = ap Err h

pub one_error : {T : Type 0} (r : Result T JointError) (e f : JointError) → r ≡ Err e → r ≡ Err f → e ≡ f
one_error r e f h k = cc

-- the error of one more table is passed on
pub step_passed_on :
    {T : Type 0} (r : Result T JointError) (e : JointError) (i q t p : ℕ) → IsErrAnd r (λ x. x ≡ e) → e ≡ TooMany i q →
    r ≡ Err (TooMany t p) → (i ≡ t) × (q ≡ p)
step_passed_on (Ok x) e i q t p h is f = absurd h
step_passed_on (Err x) e i q t p h is f = (cc, cc)

-- the whole product exceeds the limit where the error says so
pub over_err :
    {T : Type 0} (limit : ℕ) (ns : List ℕ) → All (λ n. 1 ≤ n) ns → (r : Result T JointError) → IsErrAnd r IsTooMany →
    ((t p : ℕ) → r ≡ Err (TooMany t p) → IsFirstOver limit ns t p) → limit < product_of ns
over_err limit ns all (Ok x) h first = absurd h
over_err limit ns all (Err (TooMany t p)) h first = whole_over limit ns t p all (first t p refl)
over_err limit ns all (Err Memory) h first = absurd h

-- where there are as few as may be, nothing says that there are too many
pub none_over : {P : Type 0} (limit n : ℕ) → n ≤ limit → (P → ⊥) → P ↔ (limit < n)
none_over limit n within never = (λ h. absurd (never h), λ over. absurd (omega arith))

pub out_of_memory : {T : Type 0} (r : Result T JointError) → IsErrAnd r (λ e. e ≡ Memory) → IsErrAnd r IsTooMany → ⊥
out_of_memory (Ok x) h g = g
out_of_memory (Err e) h g = subst IsTooMany h g

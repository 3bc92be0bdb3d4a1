-- Sums and products of forms, each as a fold: the form so far, and what one part more makes of it.
use Rattle.std.proofs.Common.{◌≡◌, ℕ, ◌+◌, ◌<◌, ◌≤◌, List, map, drop, get_or, length, ℤ, pos, refl, sym, ap, ap₂, ◌∙◌, subst, arith}
use Rattle.homeo_lemmas.proofs.Lists.{map_drop_past}
use Rattle.homeo_syntax.specs.Key.{definitions as syntax_definitions}
use Rattle.homeo_syntax.specs.Low.{Expr, Exprs, Sum, Product, NoExpr, MoreExpr}
use Rattle.homeo_syntax.specs.LowView.{low_exprs, plain_lexpr}
use Rattle.homeo_syntax.specs.declared.low.LExpr.{LExpr}
use Rattle.homeo_meaning.specs.Key.{definitions as meaning_definitions}
use Rattle.homeo_meaning.specs.Small.{IsSmall}
use Rattle.homeo_meaning.proofs.Steps.{drop_next}
use Rattle.homeo_plan.specs.Key.{definitions as plan_definitions}
use Rattle.homeo_plan.specs.FormSizes.{Numbers, CanForm, CanSum, CanProduct}
use Rattle.homeo_plan.specs.Linear.{Linear, Forms, constant_form, add_forms, multiply_forms, form, sum_form, product_form}
use Rattle.homeo_plan.specs.Limit.{form_limit}
use Rattle.homeo_plan.proofs.FormNumbers.{small_form}

abbrev Small : Linear → Type 0
Small = Numbers (IsSmall form_limit)

abbrev CanMake : Forms → Expr → Type 0
CanMake = CanForm (IsSmall form_limit)

-- The form of whole es is made of the parts es from the form start on, where each part makes next of the form so far.
pub record IsFold
    (f : Forms) (whole : Exprs → Expr) (start : Linear) (Can : Linear → Exprs → Type 0) (made : Linear → Exprs → Linear) (next : Linear → Linear → Linear) :
    Type 0 where
  start_small : Small start
  pub whole_can : (es : Exprs) → CanMake f (whole es) → Can start es
  can_whole : (es : Exprs) → Can start es → CanMake f (whole es)
  pub whole_is : (es : Exprs) → form f (whole es) ≡ made start es
  so_far : (a : Linear) (es : Exprs) → Can a es → Small a
  part : (a : Linear) (e : Expr) (es : Exprs) → Can a (MoreExpr e es) → CanMake f e
  rest : (a : Linear) (e : Expr) (es : Exprs) → Can a (MoreExpr e es) → Can (next a (form f e)) es
  can_more : (a : Linear) (e : Expr) (es : Exprs) → Small a → CanMake f e → Can (next a (form f e)) es → Can a (MoreExpr e es)
  can_none : (a : Linear) → Small a → Can a NoExpr
  made_more : (a : Linear) (e : Expr) (es : Exprs) → made a (MoreExpr e es) ≡ made (next a (form f e)) es
  made_none : (a : Linear) → made a NoExpr ≡ a

-- a fold whose numbers are small where they are so far, the next part's form can be made, and so on with it
fold_of :
    {f : Forms} {whole : Exprs → Expr} {start : Linear} {Can : Linear → Exprs → Type 0} {made : Linear → Exprs → Linear} {next : Linear → Linear → Linear} →
    Small start → ((es : Exprs) → CanMake f (whole es) ≡ Can start es) → ((es : Exprs) → form f (whole es) ≡ made start es) →
    ((a : Linear) → Can a NoExpr ≡ Small a) →
    ((a : Linear) (e : Expr) (es : Exprs) → Can a (MoreExpr e es) ≡ (Small a × CanMake f e × Can (next a (form f e)) es)) →
    ((a : Linear) → made a NoExpr ≡ a) → ((a : Linear) (e : Expr) (es : Exprs) → made a (MoreExpr e es) ≡ made (next a (form f e)) es) →
    IsFold f whole start Can made next
fold_of {f} {whole} {start} {Can} {made} {next} small can whole_is none more made_none made_more = record {
  start_small = small;
  whole_can = λ es h. subst (λ X. X) (can es) h;
  can_whole = λ es h. subst (λ X. X) (sym (can es)) h;
  whole_is = whole_is;
  so_far = so_far;
  part = λ a e es h. (subst (λ X. X) (more a e es) h).1;
  rest = λ a e es h. (subst (λ X. X) (more a e es) h).2;
  can_more = λ a e es s c r. subst (λ X. X) (sym (more a e es)) (s, c, r);
  can_none = λ a s. subst (λ X. X) (sym (none a)) s;
  made_more = made_more;
  made_none = made_none;
}
  where
    so_far : (a : Linear) (es : Exprs) → Can a es → Small a
    so_far a NoExpr h = subst (λ X. X) (none a) h
    so_far a (MoreExpr e es) h = (subst (λ X. X) (more a e es) h).0

pub sums : (f : Forms) → IsFold f Sum (constant_form (pos 0)) (CanSum (IsSmall form_limit) f) (sum_form f) (λ a b. add_forms b a)
unfolding plan_definitions meaning_definitions
sums f = fold_of (record { constant = omega arith; factors = tt }) (λ es. refl) (λ es. refl) (λ a. refl) (λ a e es. refl) (λ a. refl) (λ a e es. refl)

pub products : (f : Forms) → IsFold f Product (constant_form (pos 1)) (CanProduct (IsSmall form_limit) f) (product_form f) multiply_forms
unfolding plan_definitions meaning_definitions
products f = fold_of (record { constant = omega arith; factors = tt }) (λ es. refl) (λ es. refl) (λ a. refl) (λ a e es. refl) (λ a. refl) (λ a e es. refl)

module _
    {f : Forms}
    {whole : Exprs → Expr}
    {start : Linear}
    {Can : Linear → Exprs → Type 0}
    {made : Linear → Exprs → Linear}
    {next : Linear → Linear → Linear}
    (fold : IsFold f whole start Can made next)
  where
    -- the parts from a place on
    abbrev From : List LExpr → ℕ → Exprs
    From es i = low_exprs (map plain_lexpr (drop i es))

    none_left : (es : List LExpr) (i : ℕ) → length es ≤ i → From es i ≡ NoExpr
    unfolding syntax_definitions
    none_left es i h = ap low_exprs (map_drop_past plain_lexpr es i h)

    one_left : (es : List LExpr) (i : ℕ) (e : LExpr) → i < length es → e ≡ get_or es i e → From es i ≡ MoreExpr (plain_lexpr e) (From es (i + 1))
    unfolding syntax_definitions
    one_left es i e h p = ap low_exprs (drop_next plain_lexpr es i e h p)

    -- ---- one part more
    pub record Step (a : Linear) (es : List LExpr) (i : ℕ) (e : LExpr) : Type 0 where
      pub so_far : Small a
      pub first : CanMake f (plain_lexpr e)
      pub small : Small (form f (plain_lexpr e))
      pub rest : Can (next a (form f (plain_lexpr e))) (From es (i + 1))
      pub same : made (next a (form f (plain_lexpr e))) (From es (i + 1)) ≡ made a (From es i)

    pub step : {a : Linear} (es : List LExpr) (i : ℕ) (e : LExpr) → i < length es → e ≡ get_or es i e → Can a (From es i) → Step a es i e
    step {a} es i e h p can =
        let here = one_left es i e h p in
        let k = subst (Can a) here can in
        let part = fold.part a (plain_lexpr e) (From es (i + 1)) k in
        record {
          so_far = fold.so_far a (From es i) can;
          first = part;
          small = small_form (IsSmall form_limit) f (plain_lexpr e) part;
          rest = fold.rest a (plain_lexpr e) (From es (i + 1)) k;
          same = sym (ap (made a) here ∙ fold.made_more a (plain_lexpr e) (From es (i + 1)));
        }

    -- the form so far with one part more
    pub step_next : {a b c : Linear} {es : List LExpr} {i : ℕ} {e : LExpr} → Step a es i e → b ≡ form f (plain_lexpr e) → c ≡ next a b →
        Can c (From es (i + 1)) × (made c (From es (i + 1)) ≡ made a (From es i))
    step_next {a} {b} {c} {es} {i} {e} k p q =
        let s : c ≡ next a (form f (plain_lexpr e)) = q ∙ ap (next a) p in
        (subst (λ x. Can x (From es (i + 1))) (sym s) k.rest, ap (λ x. made x (From es (i + 1))) s ∙ k.same)

    pub stop : (a : Linear) (es : List LExpr) (i : ℕ) → length es ≤ i → a ≡ made a (From es i)
    stop a es i h = sym (ap (made a) (none_left es i h) ∙ fold.made_none a)

    -- ---- made as far as its numbers are small
    pub record SoFar (es : List LExpr) (i : ℕ) (a : Linear) : Type 0 where
      pub small : Small a
      pub can : Can a (From es i) → Can start (From es 0)
      pub back : Can start (From es 0) → Can a (From es i)
      pub left : made a (From es i) ≡ made start (From es 0)

    pub fold_start : (es : List LExpr) (a : Linear) → a ≡ start → SoFar es 0 a
    fold_start es a e = subst (SoFar es 0) (sym e) (record { small = fold.start_small; can = λ h. h; back = λ h. h; left = refl })

    module _ (es : List LExpr) (i : ℕ) (a : Linear) (e : LExpr) (h : i < length es) (p : e ≡ get_or es i e) (s : SoFar es i a) where
      pub part_gone : (CanMake f (plain_lexpr e) → ⊥) → CanMake f (whole (low_exprs (map plain_lexpr es))) → ⊥
      part_gone k can = k (step es i e h p (s.back (fold.whole_can _ can))).first

      module _ (b c : Linear) (q : b ≡ form f (plain_lexpr e)) (r : c ≡ next a b) where
        is_next : c ≡ next a (form f (plain_lexpr e))
        is_next = r ∙ ap (next a) q

        pub part_over : (Small c → ⊥) → CanMake f (whole (low_exprs (map plain_lexpr es))) → ⊥
        part_over k can =
            k (subst Small (sym is_next) (fold.so_far (next a (form f (plain_lexpr e))) (From es (i + 1)) (step es i e h p (s.back (fold.whole_can _ can))).rest))

        pub part_more : CanMake f (plain_lexpr e) → Small c → SoFar es (i + 1) c
        part_more can n =
            let here = one_left es i e h p in
            let m : SoFar es (i + 1) (next a (form f (plain_lexpr e))) = record {
              small = subst Small is_next n;
              can = λ t. s.can (subst (Can a) (sym here) (fold.can_more a (plain_lexpr e) (From es (i + 1)) s.small can t));
              back = λ t. (step es i e h p (s.back t)).rest;
              left = sym (ap (made a) here ∙ fold.made_more a (plain_lexpr e) (From es (i + 1))) ∙ s.left;
            } in
            subst (SoFar es (i + 1)) (sym is_next) m

    pub fold_end : (es : List LExpr) (i : ℕ) (a : Linear) → length es ≤ i → SoFar es i a →
        CanMake f (whole (low_exprs (map plain_lexpr es))) × (a ≡ form f (whole (low_exprs (map plain_lexpr es))))
    fold_end es i a h s =
        (fold.can_whole _ (s.can (subst (Can a) (sym (none_left es i h)) (fold.can_none a s.small))), stop a es i h ∙ s.left ∙ sym (fold.whole_is _))

    -- ---- the constant alone
    pub record ConstantSoFar (es : List LExpr) (i : ℕ) (n : ℤ) : Type 0 where
      pub so_far : Linear
      pub constant : n ≡ so_far.constant
      pub small : Can so_far (From es i)
      pub same : made so_far (From es i) ≡ made start (From es 0)

    pub constant_start : (es : List LExpr) (n : ℤ) → n ≡ start.constant → Can start (From es 0) → ConstantSoFar es 0 n
    constant_start es n p h = record { so_far = start; constant = p; small = h; same = refl }

    pub constant_end : (es : List LExpr) (i : ℕ) (n : ℤ) → length es ≤ i → ConstantSoFar es i n → n ≡ (made start (From es 0)).constant
    constant_end es i n h s = s.constant ∙ ap (λ (a : Linear). a.constant) (stop s.so_far es i h ∙ s.same)

    -- where the constants of forms are put together by op
    module _ (op : ℤ → ℤ → ℤ) (constants : (a b : Linear) → (next a b).constant ≡ op a.constant b.constant) where
      pub constant_more : {es : List LExpr} {i : ℕ} {e : LExpr} (n m k : ℤ) → i < length es → e ≡ get_or es i e → ConstantSoFar es i n →
          k ≡ (form f (plain_lexpr e)).constant → m ≡ op n k → ConstantSoFar es (i + 1) m
      constant_more {es} {i} {e} n m k h p s q r =
          let t = step es i e h p s.small in
          record {
            so_far = next s.so_far (form f (plain_lexpr e));
            constant = r ∙ ap₂ op s.constant q ∙ sym (constants s.so_far (form f (plain_lexpr e)));
            small = t.rest;
            same = t.same ∙ s.same;
          }

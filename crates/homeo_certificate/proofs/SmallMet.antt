-- Where the numbers of forms are small, none that is met is too large.
use Rattle.homeo_meaning.specs.Key.{definitions as meaning_definitions}
use Rattle.homeo_plan.specs.Key.{definitions as plan_definitions}
use Rattle.homeo_certificate.specs.Key.{definitions}
use Rattle.std.proofs.Common.{◌≡◌, Bool, true, false, cond, List, [], ◌∷◌, ◌++◌, map, ℤ, pos, int_lt, refl, ap, le-leb}
use Rattle.std.specs.Int.RustNames.{unsigned_abs}
use Rattle.std.specs.List.{list_all}
use Rattle.std.proofs.lemmas.Bool.{and_parts, and_from}
use Rattle.homeo_syntax.specs.declared.phrase.Compare.{Compare}
use Rattle.homeo_syntax.specs.declared.phrase.Compare.TheVariants.{Less, LessEqual, Equal}
use Rattle.homeo_syntax.specs.Low.{Expr, Exprs, Literal, OfTemp, Read, Sum, Product, Neg, NoExpr, MoreExpr, Test, Cond, True, Not, Comparison, NoTest, MoreTest}
use Rattle.homeo_meaning.specs.LowMeaning.{TempAt, location_of, passes}
use Rattle.homeo_meaning.specs.Small.{IsSmall, is_small}
use Rattle.homeo_plan.specs.Each.{Each}
use Rattle.homeo_plan.specs.Limit.{form_limit}
use Rattle.homeo_plan.specs.declared.forms.Term.{Term}
use Rattle.homeo_plan.specs.Linear.{Linear, constant_form, add_forms, multiply_forms, Forms, form}
use Rattle.homeo_plan.specs.FormSizes.{Numbers, CanForm, CanSum, CanProduct, CanSubtract, CanTest, CanCond}
use Rattle.homeo_plan.proofs.Atoms.{append_each}
use Rattle.homeo_certificate.specs.Met.{numbers, at_zero, met, met_in_sum, met_in_product, met_in_test, met_in_cond}
use Rattle.homeo_certificate.specs.Kept.{Atom, atom, gap, form_of, kept_true, kept_false, true_test, true_cond, false_test, false_cond}
use Rattle.homeo_certificate.specs.declared.fault.Fault.TheVariants.{TooLarge}
use Rattle.homeo_certificate.specs.Followed.{too_large}

abbrev Small : ℤ → Type 0
Small = IsSmall form_limit

abbrev AllSmall : List ℤ → Type 0
AllSmall ns = list_all (is_small form_limit) ns ≡ true

small_is : (n : ℤ) → Small n → is_small form_limit n ≡ true
unfolding meaning_definitions
small_is n h = le-leb (unsigned_abs n) form_limit h

all_both : (xs ys : List ℤ) → AllSmall xs → AllSmall ys → AllSmall (xs ++ ys)
all_both [] ys h k = k
all_both (x ∷ xs) ys h k =
    let p = and_parts (is_small form_limit x) (list_all (is_small form_limit) xs) h in
    and_from (is_small form_limit x) (list_all (is_small form_limit) (xs ++ ys)) p.0 (all_both xs ys p.1 k)

factors_small : (ts : List Term) → Each (λ t. Small t.factor) ts → AllSmall (map (λ t. t.factor) ts)
unfolding plan_definitions
factors_small [] h = refl
factors_small (t ∷ ts) h = and_from _ _ (small_is t.factor h.0) (factors_small ts h.1)

pub numbers_small : (a : Linear) → Numbers Small a → AllSmall (numbers a)
numbers_small a h = and_from _ _ (small_is a.constant h.constant) (factors_small a.terms h.factors)

pub not_too_large : (ns : List ℤ) → AllSmall ns → too_large ns ≡ []
unfolding definitions
not_too_large ns h = ap (λ v. cond v [] (TooLarge ∷ [])) h

literal_small : (n : ℤ) → Numbers Small (constant_form n) → AllSmall (n ∷ [])
unfolding plan_definitions
literal_small n h = and_from _ _ (small_is n h.constant) refl

mutual
  unfolding definitions plan_definitions

  met_small : (f : Forms) (e : Expr) → CanForm Small f e → AllSmall (met f e)
  met_small f (Literal n) h = literal_small n h
  met_small f (OfTemp t) h = numbers_small (f (TempAt t)) h
  met_small f (Read x) h = numbers_small (f (location_of x)) h
  met_small f (Sum es) h = sum_small f es (constant_form (pos 0)) h
  met_small f (Product es) h = product_small f es (constant_form (pos 1)) h
  met_small f (Neg e) h = met_small f e h.0

  sum_small : (f : Forms) (es : Exprs) (a : Linear) → CanSum Small f a es → AllSmall (met_in_sum f a es)
  sum_small f NoExpr a h = numbers_small a h
  sum_small f (MoreExpr e es) a h =
      all_both (numbers a) (met f e ++ met_in_sum f (add_forms (form f e) a) es) (numbers_small a h.0)
      (all_both (met f e) (met_in_sum f (add_forms (form f e) a) es) (met_small f e h.1) (sum_small f es (add_forms (form f e) a) h.2))

  product_small : (f : Forms) (es : Exprs) (a : Linear) → CanProduct Small f a es → AllSmall (met_in_product f a es)
  product_small f NoExpr a h = numbers_small a h
  product_small f (MoreExpr e es) a h =
      all_both (numbers a) (met f e ++ met_in_product f (multiply_forms a (form f e)) es) (numbers_small a h.0)
      (all_both (met f e) (met_in_product f (multiply_forms a (form f e)) es) (met_small f e h.1) (product_small f es (multiply_forms a (form f e)) h.2))

mutual
  unfolding definitions plan_definitions

  test_small : (f : Forms) (t : Test) → CanTest Small f t → AllSmall (met_in_test f t)
  test_small f True h = refl
  test_small f (Not c) h = cond_small f c h
  test_small f (Comparison op a b) h = all_both (met f a) (met f b) (met_small f a h.0) (met_small f b h.1)

  cond_small : (f : Forms) (c : Cond) → CanCond Small f c → AllSmall (met_in_cond f c)
  cond_small f NoTest h = refl
  cond_small f (MoreTest t c) h =
      all_both (met_in_test f t) (cond (passes t (at_zero f)) (met_in_cond f c) []) (test_small f t h.0)
      (go (passes t (at_zero f)) (cond_small f c h.1))
    where
      go : (v : Bool) → AllSmall (met_in_cond f c) → AllSmall (cond v (met_in_cond f c) [])
      go true k = k
      go false k = refl

pub expr_not_large : (f : Forms) (e : Expr) → CanForm Small f e → too_large (met f e) ≡ []
expr_not_large f e h = not_too_large (met f e) (met_small f e h)

pub cond_not_large : (f : Forms) (c : Cond) → CanCond Small f c → too_large (met_in_cond f c) ≡ []
cond_not_large f c h = not_too_large (met_in_cond f c) (cond_small f c h)

-- ---- atoms
abbrev pub IsSmallAtom : Atom → Type 0
IsSmallAtom a = too_large (numbers (gap a) ++ numbers (form_of a)) ≡ []

atom_small : (a : Atom) → Numbers Small (gap a) → Numbers Small (form_of a) → IsSmallAtom a
atom_small a h k =
    not_too_large (numbers (gap a) ++ numbers (form_of a)) (all_both (numbers (gap a)) (numbers (form_of a)) (numbers_small (gap a) h) (numbers_small (form_of a) k))

true_small : (op : Compare) (a b : Linear) → CanSubtract Small a b → CanSubtract Small b a → Each IsSmallAtom (kept_true op a b)
unfolding definitions plan_definitions
true_small Less a b h k = (atom_small (atom a b (pos 1)) h.apart h.more, tt)
true_small LessEqual a b h k = (atom_small (atom a b (pos 0)) h.apart h.or_less, tt)
true_small Equal a b h k = (atom_small (atom a b (pos 0)) h.apart h.or_less, (atom_small (atom b a (pos 0)) k.apart k.or_less, tt))

false_small : (op : Compare) (a b : Linear) → CanSubtract Small a b → CanSubtract Small b a → Each IsSmallAtom (kept_false op a b)
unfolding definitions plan_definitions
false_small Less a b h k = (atom_small (atom b a (pos 0)) k.apart k.or_less, tt)
false_small LessEqual a b h k = (atom_small (atom b a (pos 1)) k.apart k.more, tt)
false_small Equal a b h k = go (int_lt a.constant b.constant)
  where
    go : (v : Bool) → Each IsSmallAtom (cond v (atom a b (pos 1)) (atom b a (pos 1)) ∷ [])
    go true = (atom_small (atom a b (pos 1)) h.apart h.more, tt)
    go false = (atom_small (atom b a (pos 1)) k.apart k.more, tt)

module _ (f : Forms) where
  mutual
    unfolding definitions plan_definitions

    true_test_small : (t : Test) → CanTest Small f t → Each IsSmallAtom (true_test f t)
    true_test_small True h = tt
    true_test_small (Not c) h = false_cond_small c h
    true_test_small (Comparison op a b) h = true_small op (form f a) (form f b) h.2 h.3

    false_test_small : (t : Test) → CanTest Small f t → Each IsSmallAtom (false_test f t)
    false_test_small True h = tt
    false_test_small (Not c) h = true_cond_small c h
    false_test_small (Comparison op a b) h = false_small op (form f a) (form f b) h.2 h.3

    pub true_cond_small : (c : Cond) → CanCond Small f c → Each IsSmallAtom (true_cond f c)
    true_cond_small NoTest h = tt
    true_cond_small (MoreTest t c) h =
        append_each IsSmallAtom (true_test f t) (true_cond f c) (true_test_small t h.0) (true_cond_small c h.1)

    pub false_cond_small : (c : Cond) → CanCond Small f c → Each IsSmallAtom (false_cond f c)
    false_cond_small NoTest h = tt
    false_cond_small (MoreTest t c) h = go (passes t (at_zero f)) (false_cond_small c h.1) (false_test_small t h.0)
      where
        go :
            (v : Bool) → Each IsSmallAtom (false_cond f c) → Each IsSmallAtom (false_test f t) →
            Each IsSmallAtom (cond v (false_cond f c) (false_test f t))
        go true h k = h
        go false h k = k

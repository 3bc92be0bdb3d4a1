-- Forms of the items of sums.
use Rattle.std.proofs.Common.{◌≡◌, Box, Global, List, [], ◌∷◌, map, length, get_or, Option, IfSome, ℤ, pos, negsuc, ◌*ℤ◌, refl, sym, ap, ap₂, ◌∙◌, subst, arith}
use Rattle.homeo_syntax.specs.Key.{definitions as syntax_definitions}
use Rattle.homeo_syntax.specs.Low as l
use Rattle.homeo_syntax.specs.LowView.{low_exprs, plain_lexpr}
use Rattle.homeo_syntax.specs.declared.low.Temp as temps
use Rattle.homeo_syntax.specs.declared.low.SplitName.{SplitName}
use Rattle.homeo_syntax.specs.declared.low.LExpr.{LExpr, Literal, Temp, Read, Neg}
use Rattle.homeo_syntax.proofs.LowViews.{low_Neg}
use Rattle.homeo_meaning.specs.LowMeaning.{TempAt, location_of}
use Rattle.homeo_meaning.specs.Small.{IsSmall}
use Rattle.homeo_plan.specs.Key.{definitions as plan_definitions}
use Rattle.homeo_plan.specs.FormSizes.{Numbers, CanForm}
use Rattle.homeo_plan.specs.Linear.{Forms, constant_form, add_forms, scale_form, form}
use Rattle.homeo_plan.specs.Limit.{form_limit}
use Rattle.homeo_form.specs.declared.items.Item.{Item}
use Rattle.homeo_form.specs.declared.items.Item.TheVariants as items
use Rattle.homeo_split.specs.declared.places.Place.{Place}
use Rattle.homeo_form.specs.inner.Items.{HasFormAt, IsItem, IsPlaceAndNumber}
use Rattle.homeo_split.specs.Places.{plain_place}
use Rattle.homeo_plan.proofs.FormNumbers.{small_form}
use Rattle.homeo_form.proofs.FormSteps.{literal_form, temp_form, read_form}

-- ---- what stands at a place
stands_made : (e : l.Expr) (p : Place) → ((f : Forms) → form f e ≡ f (plain_place p)) → HasFormAt (λ a. a) e p
stands_made e p h = record {
  made = h;
  small = λ f c. subst (Numbers (IsSmall form_limit)) (h f) (small_form (IsSmall form_limit) f e c);
}

pub temp_made : (e : LExpr) (t : temps.Temp) (p : Place) → e ≡ Temp t → plain_place p ≡ TempAt t → HasFormAt (λ a. a) (plain_lexpr e) p
temp_made e t p q r = stands_made (plain_lexpr e) p (λ f. sym (temp_form f e t (plain_place p) (f (plain_place p)) q r refl))

pub read_made : (e : LExpr) (x : SplitName) (p : Place) → e ≡ Read x → plain_place p ≡ location_of x → HasFormAt (λ a. a) (plain_lexpr e) p
read_made e x p q r = stands_made (plain_lexpr e) p (λ f. sym (read_form f e x (plain_place p) (f (plain_place p)) q r refl))

-- ---- a number
pub number_made : (e : LExpr) (n m : ℤ) → e ≡ Literal n → m ≡ n → (f : Forms) → form f (plain_lexpr e) ≡ constant_form m
number_made e n m p q f = sym (literal_form f e n (constant_form m) p (ap constant_form q))

pub negative_made : (e : LExpr) (n m : ℤ) → e ≡ Literal n → m ≡ negsuc 0 *ℤ n → (f : Forms) → form f (l.Neg (plain_lexpr e)) ≡ constant_form m
unfolding plan_definitions
negative_made e n m p q f = ap (scale_form (negsuc 0)) (number_made e n n p refl f) ∙ sym (ap constant_form q)

-- ---- that with its sign turned
pub negated_made : (e : l.Expr) (p : Place) → HasFormAt (λ a. a) e p → HasFormAt (scale_form (negsuc 0)) (l.Neg e) p
unfolding plan_definitions
negated_made e p m = record {
  made = λ f. ap (scale_form (negsuc 0)) (m.made f);
  small = λ f c. m.small f c.0;
}

pub neg_item : (i : Item) (e : LExpr) (b : Box LExpr Global) (x : LExpr) → e ≡ Neg b → x ≡ b.value → IsItem i (l.Neg (plain_lexpr x)) → IsItem i (plain_lexpr e)
neg_item i e b x p q h = subst (IsItem i) (ap (λ y. l.Neg (plain_lexpr y)) q ∙ sym (ap plain_lexpr p ∙ low_Neg b)) h

pub neg_number :
    (o : Option ℤ) (e : LExpr) (b : Box LExpr Global) (x : LExpr) → e ≡ Neg b → x ≡ b.value →
    IfSome o (λ n. (f : Forms) → form f (l.Neg (plain_lexpr x)) ≡ constant_form n) → IfSome o (λ n. (f : Forms) → form f (plain_lexpr e) ≡ constant_form n)
neg_number o e b x p q h =
    subst (λ z. IfSome o (λ n. (f : Forms) → form f z ≡ constant_form n)) (ap (λ y. l.Neg (plain_lexpr y)) q ∙ sym (ap plain_lexpr p ∙ low_Neg b)) h

-- ---- an item that is known
module _ (i : Item) (p : Place) (e : l.Expr) where
  pub item_read : i ≡ items.Read p → IsItem i e → HasFormAt (λ a. a) e p
  item_read q h = subst (λ j. IsItem j e) q h

  pub item_negated : i ≡ items.Negated p → IsItem i e → HasFormAt (scale_form (negsuc 0)) e p
  item_negated q h = subst (λ j. IsItem j e) q h

pub item_number : (i : Item) (n : ℤ) (e : l.Expr) → i ≡ items.Number n → IsItem i e → (f : Forms) → form f e ≡ constant_form n
item_number i n e q h = subst (λ j. IsItem j e) q h

pub number_small : (f : Forms) (e : l.Expr) (n : ℤ) → form f e ≡ constant_form n → CanForm (IsSmall form_limit) f e → IsSmall form_limit n
unfolding plan_definitions
number_small f e n m c = (subst (Numbers (IsSmall form_limit)) m (small_form (IsSmall form_limit) f e c)).constant

pub negated_small :
    (f : Forms) {e : l.Expr} {p : Place} → HasFormAt (scale_form (negsuc 0)) e p → CanForm (IsSmall form_limit) f e →
    Numbers (IsSmall form_limit) (scale_form (negsuc 0) (f (plain_place p)))
negated_small f {e} m c = subst (Numbers (IsSmall form_limit)) (m.made f) (small_form (IsSmall form_limit) f e c)

-- ---- a number with its sign turned
pub negated_number : (f : Forms) (e : l.Expr) (n : ℤ) → form f e ≡ constant_form n → constant_form (negsuc 0 *ℤ n) ≡ scale_form (negsuc 0) (form f e)
unfolding plan_definitions
negated_number f e n h = sym (ap (scale_form (negsuc 0)) h)

pub negated_number_small :
    (f : Forms) (e : l.Expr) (n : ℤ) → form f e ≡ constant_form n → Numbers (IsSmall form_limit) (scale_form (negsuc 0) (form f e)) → IsSmall form_limit (negsuc 0 *ℤ n)
unfolding plan_definitions
negated_number_small f e n h k = (subst (Numbers (IsSmall form_limit)) (sym (negated_number f e n h)) k).constant

-- ---- a place and a number
pub place_and_number :
    (es : List LExpr) (d e : LExpr) (p : Place) (n : ℤ) → length es ≡ 2 → d ≡ get_or es 0 d → e ≡ get_or es 1 e → HasFormAt (λ a. a) (plain_lexpr d) p →
    ((f : Forms) → form f (plain_lexpr e) ≡ constant_form n) → IsPlaceAndNumber p n (low_exprs (map plain_lexpr es))
unfolding plan_definitions syntax_definitions
place_and_number [] d e p n h q r m k = absurd (omega (arith, h))
place_and_number (x ∷ []) d e p n h q r m k = absurd (omega (arith, h))
place_and_number (x ∷ y ∷ z ∷ es) d e p n h q r m k = absurd (omega (arith, h))
place_and_number (x ∷ y ∷ []) d e p n h q r m k =
    let m' = subst (λ z. HasFormAt (λ a. a) (plain_lexpr z) p) q m in
    let k' : (f : Forms) → form f (plain_lexpr y) ≡ constant_form n = subst (λ z. (f : Forms) → form f (plain_lexpr z) ≡ constant_form n) r k in
    record {
      made = λ f. ap₂ (λ a b. add_forms a (add_forms b (constant_form (pos 0)))) (k' f) (m'.made f);
      small = λ f c. (m'.small f c.1, number_small f (plain_lexpr y) n (k' f) c.2.1);
    }

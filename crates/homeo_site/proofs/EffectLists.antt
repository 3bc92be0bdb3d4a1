-- Lists of effects, and lists of deltas that are set one after another.
use Rattle.std.proofs.Common.{◌≡◌, ℕ, zero, suc, ◌+◌, ◌<◌, ◌≤◌, ◌==◌, Bool, true, false, cond, ◌||◌, List, [], ◌∷◌, ◌++◌, map, length, get_or, set, take, ℤ, refl, sym, ap, ◌∙◌, arith}
use Rattle.std.proofs.Math.Seq.{take-length}
use Rattle.std.proofs.lemmas.Bool.Decides.{nat_tests}
use Rattle.std.proofs.lemmas.List.{map_more, get_or-map}
use Rattle.std.proofs.lemmas.List.Folds.{list_any-append}
use Rattle.homeo_lemmas.proofs.Bools.{or_false, or_true}
use Rattle.homeo_meaning.specs.LowMeaning.{BaseAt}
use Rattle.homeo_meaning.specs.Serial.{values_of}
use Rattle.homeo_plan.specs.Linear.{Linear, Forms}
use Rattle.homeo_linear.specs.Effect.{plain_own_form}
use Rattle.homeo_linear.specs.declared.effect.OwnForm.{OwnForm}
use Rattle.homeo_linear.specs.declared.effect.OwnWrite.{OwnWrite}
use Rattle.homeo_outline.specs.Numbers.{has}
use Rattle.homeo_site.specs.declared.effects.Kept.{Kept}
use Rattle.homeo_site.specs.declared.effects.Kept.TheVariants.{New}
use Rattle.homeo_site.specs.inner.Effects.{AreForms, value_at, printed, delta_left, delta_after, objects_of}

-- ---- what is kept, by its places
pub kept_set :
    (P : ℕ → Kept → Type 0) (xs : List Kept) (i : ℕ) (v : Kept) → ((n : ℕ) → P n (get_or xs n New)) → P i v → (n : ℕ) →
    P n (get_or (set xs i v) n New)
kept_set P [] i v h p n = h n
kept_set P (x ∷ xs) zero v h p zero = p
kept_set P (x ∷ xs) zero v h p (suc n) = h (suc n)
kept_set P (x ∷ xs) (suc i) v h p zero = h zero
kept_set P (x ∷ xs) (suc i) v h p (suc n) = kept_set (λ m. P (suc m)) xs i v (λ m. h (suc m)) p n

pub kept_push : (P : ℕ → Kept → Type 0) (xs : List Kept) → ((n : ℕ) → P n (get_or xs n New)) → (n : ℕ) → P n (get_or (xs ++ New ∷ []) n New)
kept_push P [] h zero = h zero
kept_push P [] h (suc n) = h (suc n)
kept_push P (x ∷ xs) h zero = h zero
kept_push P (x ∷ xs) h (suc n) = kept_push (λ m. P (suc m)) xs (λ m. h (suc m)) n

pub kept_there : (xs : List Kept) (n : ℕ) (d e : Kept) → n < length xs → get_or xs n d ≡ get_or xs n e
kept_there [] n d e lt = absurd (omega arith)
kept_there (x ∷ xs) zero d e lt = refl
kept_there (x ∷ xs) (suc n) d e lt = kept_there xs n d e (omega arith)

-- ---- prints
pub printed_more :
    (deltas : List ℤ) (fs : List OwnForm) (k : ℕ) (f : OwnForm) (ns next : List ℤ) (x : ℤ) → k < length fs → f ≡ get_or fs k f →
    ns ≡ printed deltas (take k fs) → next ≡ ns ++ x ∷ [] → x ≡ value_at deltas (plain_own_form f) → next ≡ printed deltas (take (k + 1) fs)
printed_more deltas fs k f ns next x lt is so_far pushed value =
    let at : OwnForm → ℤ = λ (g : OwnForm). value_at deltas (plain_own_form g) in
    pushed ∙ ap (λ l. l ++ x ∷ []) so_far ∙ ap (λ z. map at (take k fs) ++ z ∷ []) (value ∙ ap at is)
    ∙ sym (map_more at fs k f lt)

-- ---- deltas
module _ (base before : List ℤ) (f : Forms) (ws : List OwnWrite) (are : AreForms f ws) where
  form_here : (k : ℕ) (w : OwnWrite) → k < length ws → w ≡ get_or ws k w → plain_own_form w.form ≡ f (BaseAt w.object)
  form_here k w lt is =
      let own : OwnWrite → Linear = λ (v : OwnWrite). plain_own_form v.form in
      let left : OwnWrite → Linear = λ (v : OwnWrite). f (BaseAt v.object) in
      ap own is ∙ sym (get_or-map own ws k w (own w) lt) ∙ ap (λ l. get_or l k (own w)) are ∙ get_or-map left ws k w (own w) lt ∙ ap left (sym is)

  -- one more of the objects
  more_objects : (k : ℕ) (w : OwnWrite) (n : ℕ) → k < length ws → w ≡ get_or ws k w →
      has n (objects_of (take (k + 1) ws)) ≡ (has n (objects_of (take k ws)) || has n (w.object ∷ []))
  more_objects k w n lt is =
      ap (has n) (map_more (λ (v : OwnWrite). v.object) ws k w lt)
      ∙ ap (λ (v : OwnWrite). has n (objects_of (take k ws) ++ v.object ∷ [])) (sym is)
      ∙ list_any-append (λ m. n == m) (objects_of (take k ws)) (w.object ∷ [])

  pub set_more :
      (ds es : List ℤ) (k : ℕ) (w : OwnWrite) → k < length ws → w ≡ get_or ws k w → length ds ≡ length before →
      (w.object < length ds → values_of es w.object ≡ delta_left base before w.object (plain_own_form w.form)) →
      ((n : ℕ) → has n (objects_of (w ∷ [])) ≡ false → values_of es n ≡ values_of ds n) →
      ((n : ℕ) → n < length before → values_of ds n ≡ delta_after base before f (objects_of (take k ws)) n) → (n : ℕ) → n < length before →
      values_of es n ≡ delta_after base before f (objects_of (take (k + 1) ws)) n
  set_more ds es k w lt is count here others so_far n less = go (has n (w.object ∷ [])) refl
    where
      go : (v : Bool) → has n (w.object ∷ []) ≡ v → values_of es n ≡ delta_after base before f (objects_of (take (k + 1) ws)) n
      go true q =
          let same : n ≡ w.object = grind (arith, nat_tests, q) in
          let there : w.object < length ds = omega (arith, less, same, count) in
          let all : has n (objects_of (take (k + 1) ws)) ≡ true =
          more_objects k w n lt is ∙ ap (λ b. has n (objects_of (take k ws)) || b) q ∙ or_true (has n (objects_of (take k ws))) in
          ap (values_of es) same ∙ here there ∙ ap (delta_left base before w.object) (form_here k w lt is)
          ∙ ap (λ m. delta_left base before m (f (BaseAt m))) (sym same)
          ∙ sym (ap (λ b. cond b (delta_left base before n (f (BaseAt n))) (values_of before n)) all)
      go false q =
          let all : has n (objects_of (take (k + 1) ws)) ≡ has n (objects_of (take k ws)) =
          more_objects k w n lt is ∙ ap (λ b. has n (objects_of (take k ws)) || b) q ∙ or_false (has n (objects_of (take k ws))) in
          others n q ∙ so_far n less ∙ sym (ap (λ b. cond b (delta_left base before n (f (BaseAt n))) (values_of before n)) all)

pub set_all :
    (base before : List ℤ) (f : Forms) (ws : List OwnWrite) (k n : ℕ) → length ws ≤ k → k ≤ length ws →
    delta_after base before f (objects_of (take k ws)) n ≡ delta_after base before f (objects_of ws) n
set_all base before f ws k n past within =
    let end : k ≡ length ws = omega (arith, past, within) in
    ap (λ vs. delta_after base before f (objects_of vs) n) (ap (λ m. take m ws) end ∙ take-length ws)

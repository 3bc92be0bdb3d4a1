-- Lists of deltas in order, each once: deltas put into them, and that which deltas are there says all of one.
use Rattle.homeo_plan.specs.Key.{definitions}
use Rattle.std.proofs.Common.{◌≡◌, Bool, true, false, cond, ◌||◌, List, [], ◌∷◌, refl, sym, ap, ap₂, ◌∙◌, true≢false}
use Rattle.std.specs.List.{list_any}
use Rattle.homeo_lemmas.proofs.Bools.{or_again}
use Rattle.homeo_plan.specs.declared.forms.Delta.{Delta}
use Rattle.homeo_plan.specs.declared.forms.Term.{Term}
use Rattle.homeo_plan.specs.Each.{Each}
use Rattle.homeo_plan.specs.Linear.{AreInOrder, same_delta, delta_before, add_delta, add_deltas, deltas_of}
use Rattle.homeo_plan.specs.Template.{put_all}
use Rattle.homeo_plan.proofs.Factors.{same_delta_is, same_delta_refl, before_is_other, before_trans, before_total}
use Rattle.homeo_plan.proofs.Order.{Above, Sorted}

-- ---- whether a delta is there
abbrev pub has : Delta → List Delta → Bool
has d ds = list_any (same_delta d) ds

or_swap : (a b c : Bool) → (a || (b || c)) ≡ (b || (a || c))
or_swap true true c = refl
or_swap true false c = refl
or_swap false true c = refl
or_swap false false c = refl

pub or_move : (a b c : Bool) → (a || (b || c)) ≡ ((b || a) || c)
or_move true true c = refl
or_move true false c = refl
or_move false true c = refl
or_move false false c = refl

-- a test of the deltas passes for one of them where it did, or for the one that was put to them
pub any_add : (q : Delta → Bool) (e : Delta) (ds : List Delta) → list_any q (add_delta e ds) ≡ (q e || list_any q ds)
unfolding definitions
any_add q e [] = refl
any_add q e (x ∷ xs) = go (same_delta e x) refl (delta_before e x) (any_add q e xs)
  where
    go :
        (v : Bool) → same_delta e x ≡ v → (w : Bool) → list_any q (add_delta e xs) ≡ (q e || list_any q xs) →
        list_any q (cond v (x ∷ xs) (cond w (e ∷ x ∷ xs) (x ∷ add_delta e xs))) ≡ (q e || (q x || list_any q xs))
    go true p w ih =
        or_again (q x) (list_any q xs) ∙ ap (λ y. q y || (q x || list_any q xs)) (sym (same_delta_is e x p))
    go false p true ih = refl
    go false p false ih = ap (λ b. q x || b) ih ∙ or_swap (q x) (q e) (list_any q xs)

pub any_adds : (q : Delta → Bool) (ds es : List Delta) → list_any q (add_deltas ds es) ≡ (list_any q ds || list_any q es)
unfolding definitions
any_adds q [] es = refl
any_adds q (d ∷ ds) es =
    any_adds q ds (add_delta d es) ∙ ap (λ v. list_any q ds || v) (any_add q d es) ∙ or_move (list_any q ds) (q d) (list_any q es)

pub has_adds : (d : Delta) (ds es : List Delta) → has d (add_deltas ds es) ≡ (has d ds || has d es)
has_adds d ds es = any_adds (same_delta d) ds es

-- ---- order
-- each stands after the delta
abbrev pub After : Delta → List Delta → Type 0
After d es = Each (λ e. delta_before d e ≡ true) es

pub after_before : (c d : Delta) (es : List Delta) → delta_before c d ≡ true → After d es → After c es
unfolding definitions
after_before c d [] h a = tt
after_before c d (e ∷ es) h a = (before_trans c d e h a.0, after_before c d es h a.1)

after_add : (c d : Delta) (es : List Delta) → delta_before c d ≡ true → After c es → After c (add_delta d es)
unfolding definitions
after_add c d [] h a = (h, tt)
after_add c d (e ∷ es) h a = go (same_delta d e) (delta_before d e) (after_add c d es h a.1)
  where
    go : (v w : Bool) → After c (add_delta d es) → After c (cond v (e ∷ es) (cond w (d ∷ e ∷ es) (e ∷ add_delta d es)))
    go true w ih = a
    go false true ih = (h, a)
    go false false ih = (a.0, ih)

pub none_in_order : AreInOrder []
unfolding definitions
none_in_order = tt

pub in_order_add : (d : Delta) (es : List Delta) → AreInOrder es → AreInOrder (add_delta d es)
unfolding definitions
in_order_add d [] o = (tt, tt)
in_order_add d (e ∷ es) o = go (same_delta d e) refl (delta_before d e) refl (in_order_add d es o.1)
  where
    go :
        (v : Bool) → same_delta d e ≡ v → (w : Bool) → delta_before d e ≡ w → AreInOrder (add_delta d es) →
        AreInOrder (cond v (e ∷ es) (cond w (d ∷ e ∷ es) (e ∷ add_delta d es)))
    go true p w q ih = o
    go false p true q ih = ((q, after_before d e es q o.0), o)
    go false p false q ih = (after_add e d es (before_total d e p q) o.0, ih)

pub in_order_adds : (ds es : List Delta) → AreInOrder es → AreInOrder (add_deltas ds es)
unfolding definitions
in_order_adds [] es o = o
in_order_adds (d ∷ ds) es o = in_order_adds ds (add_delta d es) (in_order_add d es o)

pub in_order_puts : (dss : List (List Delta)) (es : List Delta) → AreInOrder es → AreInOrder (put_all dss es)
unfolding definitions
in_order_puts [] es o = o
in_order_puts (ds ∷ dss) es o = in_order_puts dss (add_deltas ds es) (in_order_adds ds es o)

-- ---- what holds of each
module _ (P : Delta → Type 0) where
  each_put : (d : Delta) (es : List Delta) → P d → Each P es → Each P (add_delta d es)
  unfolding definitions
  each_put d [] p h = (p, tt)
  each_put d (e ∷ es) p h = go (same_delta d e) (delta_before d e) (each_put d es p h.1)
    where
      go : (v w : Bool) → Each P (add_delta d es) → Each P (cond v (e ∷ es) (cond w (d ∷ e ∷ es) (e ∷ add_delta d es)))
      go true w ih = h
      go false true ih = (p, h)
      go false false ih = (h.0, ih)

  pub each_puts : (ds es : List Delta) → Each P ds → Each P es → Each P (add_deltas ds es)
  unfolding definitions
  each_puts [] es g h = h
  each_puts (d ∷ ds) es g h = each_puts ds (add_delta d es) g.1 (each_put d es g.0 h)

  pub each_put_all : (dss : List (List Delta)) (es : List Delta) → Each (Each P) dss → Each P es → Each P (put_all dss es)
  unfolding definitions
  each_put_all [] es g h = h
  each_put_all (ds ∷ dss) es g h = each_put_all dss (add_deltas ds es) g.1 (each_puts ds es g.0 h)

-- ---- the deltas of terms
after_terms : (d : Delta) (ts : List Term) → Above d ts → After d (deltas_of ts)
unfolding definitions
after_terms d [] a = tt
after_terms d (t ∷ ts) a = (a.0, after_terms d ts a.1)

pub terms_in_order : (ts : List Term) → Sorted ts → AreInOrder (deltas_of ts)
unfolding definitions
terms_in_order [] s = tt
terms_in_order (t ∷ ts) s = (after_terms t.delta ts s.0, terms_in_order ts s.1)

-- ---- lists in order that have the same deltas
pub none_after : (d : Delta) (ds : List Delta) → After d ds → has d ds ≡ false
unfolding definitions
none_after d [] a = refl
none_after d (e ∷ es) a = ap₂ ◌||◌ (before_is_other d e a.0) (none_after d es a.1)

same_rest :
    (d e x : Delta) (ds es : List Delta) → d ≡ e → After d ds → After e es → (same_delta x d || has x ds) ≡ (same_delta x e || has x es) → has x ds ≡ has x es
same_rest d e x ds es p a b h = go (same_delta x d) refl
  where
    go : (v : Bool) → same_delta x d ≡ v → has x ds ≡ has x es
    go true q =
        let k : x ≡ d = same_delta_is x d q in
        ap (λ y. has y ds) k ∙ none_after d ds a ∙ sym (ap (λ y. has y es) (k ∙ p) ∙ none_after e es b)
    go false q =
        sym (ap (λ b. b || has x ds) q) ∙ h ∙ ap (λ b. b || has x es) (ap (same_delta x) (sym p) ∙ q)

pub same_deltas : (ds es : List Delta) → AreInOrder ds → AreInOrder es → ((d : Delta) → has d ds ≡ has d es) → ds ≡ es
unfolding definitions
same_deltas [] [] o p h = refl
same_deltas [] (e ∷ es) o p h = absurd (true≢false (sym (h e ∙ ap (λ b. b || has e es) (same_delta_refl e))))
same_deltas (d ∷ ds) [] o p h = absurd (true≢false (sym (ap (λ b. b || has d ds) (same_delta_refl d)) ∙ h d))
same_deltas (d ∷ ds) (e ∷ es) o p h = go (same_delta d e) refl (delta_before d e) refl (same_deltas ds es o.1 p.1)
  where
    go :
        (v : Bool) → same_delta d e ≡ v → (w : Bool) → delta_before d e ≡ w → (((x : Delta) → has x ds ≡ has x es) → ds ≡ es) → d ∷ ds ≡ e ∷ es
    go true q w r ih =
        let k : d ≡ e = same_delta_is d e q in
        ap₂ ◌∷◌ k (ih (λ x. same_rest d e x ds es k o.0 p.0 (h x)))
    go false q true r ih =
        absurd (true≢false (sym (ap (λ b. b || has d ds) (same_delta_refl d)) ∙ h d ∙ ap₂ ◌||◌ q (none_after d es (after_before d e es r p.0))))
    go false q false r ih =
        let s : delta_before e d ≡ true = before_total d e q r in
        absurd (true≢false (sym (ap (λ b. b || has e es) (same_delta_refl e)) ∙ sym (h e) ∙ ap₂ ◌||◌ (before_is_other e d s) (none_after e ds (after_before e d ds s o.0))))

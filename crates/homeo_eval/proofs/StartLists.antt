-- What each slot of relations has, put one behind the other: its use, and something of each field.
use Rattle.std.proofs.Common.{◌≡◌, ℕ, zero, suc, ◌+◌, List, [], ◌∷◌, ◌++◌, map, sym, ap, ◌∙◌, append_assoc, append-nil, add-one}
use Rattle.homeo_meaning.specs.Schema.{Declared, Relation}

module _ {A : Type 0} (used : A) (of : Declared → A) (slots : ℕ → List Declared → List A) (none : (ds : List Declared) → slots 0 ds ≡ [])
    (more : (n : ℕ) (ds : List Declared) → slots (suc n) ds ≡ used ∷ (map of ds ++ slots n ds)) where
  slots_behind : (n : ℕ) (ds : List Declared) → slots n ds ++ used ∷ map of ds ≡ slots (suc n) ds
  slots_behind zero ds =
      ap (λ l. l ++ used ∷ map of ds) (none ds) ∙ ap (λ l. used ∷ l) (sym (append-nil (map of ds)))
      ∙ ap (λ l. used ∷ (map of ds ++ l)) (sym (none ds)) ∙ sym (more zero ds)
  slots_behind (suc n) ds =
      ap (λ l. l ++ used ∷ map of ds) (more n ds)
      ∙ ap (λ l. used ∷ l) (append_assoc (map of ds) (slots n ds) (used ∷ map of ds) ∙ ap (λ l. map of ds ++ l) (slots_behind n ds))
      ∙ sym (more (suc n) ds)

  -- one more slot behind those that there are
  pub slot_next : (before now next : List A) (n : ℕ) (ds : List Declared) → now ≡ before ++ slots n ds → next ≡ now ++ used ∷ map of ds → next ≡ before ++ slots (n + 1) ds
  slot_next before now next n ds e p =
      p ∙ ap (λ l. l ++ used ∷ map of ds) e ∙ append_assoc before (slots n ds) (used ∷ map of ds)
      ∙ rw add-one (ap (λ l. before ++ l) (slots_behind n ds))

module _ {A : Type 0} (slots : ℕ → List Declared → List A) (all : List Relation → List A) (none : all [] ≡ [])
    (more : (r : Relation) (rs : List Relation) → all (r ∷ rs) ≡ slots r.slots r.fields ++ all rs) where
  relations_behind : (rs : List Relation) (r : Relation) → all rs ++ slots r.slots r.fields ≡ all (rs ++ r ∷ [])
  relations_behind [] r =
      ap (λ l. l ++ slots r.slots r.fields) none ∙ sym (append-nil (slots r.slots r.fields)) ∙ ap (λ l. slots r.slots r.fields ++ l) (sym none) ∙ sym (more r [])
  relations_behind (q ∷ rs) r =
      ap (λ l. l ++ slots r.slots r.fields) (more q rs) ∙ append_assoc (slots q.slots q.fields) (all rs) (slots r.slots r.fields)
      ∙ ap (λ l. slots q.slots q.fields ++ l) (relations_behind rs r) ∙ sym (more q (rs ++ r ∷ []))

  -- one more relation behind those that there are
  pub relation_next : (before now next : List A) (rs : List Relation) (r : Relation) → now ≡ before ++ all rs → next ≡ now ++ slots r.slots r.fields → next ≡ before ++ all (rs ++ r ∷ [])
  relation_next before now next rs r e p =
      p ∙ ap (λ l. l ++ slots r.slots r.fields) e ∙ append_assoc before (all rs) (slots r.slots r.fields) ∙ ap (λ l. before ++ l) (relations_behind rs r)

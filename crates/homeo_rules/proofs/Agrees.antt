-- What is kept along the text is what the text before a place says.
use Rattle.std.proofs.Common.{◌≡◌, ◌≢◌, ℕ, ◌<◌, Bool, true, false, cond, ◌||◌, ◌==◌, List, [], ◌∷◌, ◌++◌, Option, Some, None, length, refl, sym, ap, subst, ◌∙◌, arith, append-nil, slice_set, get_or-set_same, get_or-set_other}
use Rattle.std.specs.List.{list_any}
use Rattle.std.proofs.lemmas.List.{length-set}
use Rattle.std.proofs.lemmas.List.Concat.{flat_map-append}
use Rattle.std.proofs.lemmas.Bool.Decides.{nat_tests}
use Rattle.std.proofs.lemmas.List.Folds.{list_any-append}
use Rattle.homeo_lemmas.proofs.Bools.{or_nothing, or_true}
use Rattle.homeo_meaning.specs.Key.{definitions as meaning_definitions}
use Rattle.homeo_meaning.specs.Bindings.{Row, Scope, binding, item_or, row_or, local_binding, row_relation}
use Rattle.homeo_meaning.specs.Occurrences.{Mark, Occurrence, DeclaresRow, TakesObject, TakesRelation, TakesValue, TakesField, NamesField, FillsFields, Assigns}
use Rattle.homeo_meaning.specs.NameRules.{judge}
use Rattle.homeo_meaning.specs.TransactionRules.{is_in, each_from, local_of, becomes, makes, temporaries}
use Rattle.homeo_rules.specs.inner.Deciding.{keep_all}
use Rattle.homeo_meaning.specs.declared.rules.Fault.{Fault}
use Rattle.homeo_meaning.specs.declared.rules.Item.{Item}
use Rattle.homeo_meaning.specs.declared.rules.Local.{Local}
use Rattle.homeo_meaning.specs.declared.rules.Local.TheVariants as L
use Rattle.homeo_meaning.specs.declared.rules.Binding.{Binding}
use Rattle.homeo_meaning.specs.declared.rules.Binding.TheVariants as B
use Rattle.homeo_rules.specs.inner.Key.{definitions}
use Rattle.homeo_rules.specs.inner.Follow.{Standing, local_at, assigned, locals_after, step, follow}
use Rattle.homeo_rules.proofs.Steps.{keep_all-append}

-- a target is one of the n names
abbrev pub TargetWithin : ℕ → Mark → Type 0
TargetWithin n (Assigns t) = t.name < n
TargetWithin n _ = Unit {0}

abbrev pub TargetsWithin : ℕ → List Occurrence → Type 0
TargetsWithin n [] = Unit {0}
TargetsWithin n (p ∷ ps) = TargetWithin n p.mark × TargetsWithin n ps

or-false : (b c : Bool) → (b || (c || false)) ≡ (b || c)
or-false true c = refl
or-false false true = refl
or-false false false = refl

pub in_more : (ts : List ℕ) (n m : ℕ) → is_in m (ts ++ n ∷ []) ≡ (is_in m ts || (n == m))
unfolding definitions meaning_definitions
in_more ts n m = list_any-append (λ k. k == m) ts (n ∷ []) ∙ or-false (list_any (λ k. k == m) ts) (n == m)

abbrev kind_of : Bool → Bool → Local
kind_of p t = cond p L.Parameter (cond t L.Temporary L.Absent)

local-is : (ps ts : List ℕ) (m : ℕ) → local_of ps ts m ≡ kind_of (is_in m ps) (is_in m ts)
unfolding definitions meaning_definitions
local-is ps ts m = refl

in_again : (ts : List ℕ) (n m : ℕ) → is_in n ts ≡ true → (b : Bool) → (n == m) ≡ b → is_in m ts ≡ (is_in m ts || b)
in_again ts n m h true e =
    let same : n ≡ m = grind (arith, nat_tests) in
    let there : is_in m ts ≡ true = subst (λ k. is_in k ts ≡ true) same h in
    there ∙ sym (ap (λ c. c || true) there)
in_again ts n m h false e = or_nothing (is_in m ts)

-- one more of a name that is there
again : (ps ts : List ℕ) (n m : ℕ) → is_in n ts ≡ true → local_of ps ts m ≡ local_of ps (ts ++ n ∷ []) m
again ps ts n m h =
    local-is ps ts m
    ∙ ap (kind_of (is_in m ps)) (in_again ts n m h (n == m) refl ∙ sym (in_more ts n m))
    ∙ sym (local-is ps (ts ++ n ∷ []) m)

-- a name that comes into being
new_case : (l : List Local) (ps ts : List ℕ) (n : ℕ) → n < length l → is_in n ps ≡ false → ((m : ℕ) → local_at l m ≡ local_of ps ts m) → (m : ℕ) (b : Bool) → (n == m) ≡ b → local_at (slice_set l n L.Temporary) m ≡ kind_of (is_in m ps) (is_in m ts || b)
new_case l ps ts n lt h agree m true e =
    let same : n ≡ m = grind (arith, nat_tests) in
    let out : is_in m ps ≡ false = subst (λ k. is_in k ps ≡ false) same h in
    let now : local_at (slice_set l n L.Temporary) n ≡ L.Temporary = get_or-set_same l n L.Temporary L.Absent lt in
    subst (λ k. local_at (slice_set l n L.Temporary) k ≡ L.Temporary) same now
    ∙ sym (ap (λ c. kind_of (is_in m ps) c) (or_true (is_in m ts)) ∙ ap (λ c. kind_of c true) out)
new_case l ps ts n lt h agree m false e =
    let other : m ≢ n = grind (arith, nat_tests) in
    get_or-set_other l n m L.Temporary L.Absent other ∙ agree m ∙ local-is ps ts m ∙ ap (kind_of (is_in m ps)) (or_nothing (is_in m ts))

new_one : (l : List Local) (ps ts : List ℕ) (n : ℕ) → n < length l → is_in n ps ≡ false → ((m : ℕ) → local_at l m ≡ local_of ps ts m) → (m : ℕ) → local_at (slice_set l n L.Temporary) m ≡ local_of ps (ts ++ n ∷ []) m
new_one l ps ts n lt h agree m =
    new_case l ps ts n lt h agree m (n == m) refl ∙ sym (local-is ps (ts ++ n ∷ []) m ∙ ap (kind_of (is_in m ps)) (in_more ts n m))

module _ (l : List Local) (ps ts : List ℕ) (n : ℕ) (lt : n < length l) (agree : (m : ℕ) → local_at l m ≡ local_of ps ts m) where
  stays : (m : ℕ) → local_at l m ≡ local_of ps (ts ++ []) m
  stays m = agree m ∙ ap (λ ys. local_of ps ys m) (sym (append-nil ts))

  by_lists : (p t : Bool) → is_in n ps ≡ p → is_in n ts ≡ t → (m : ℕ) → local_at (assigned (local_binding (kind_of p t)) l n) m ≡ local_of ps (ts ++ becomes (local_binding (kind_of p false)) n) m
  by_lists true t hp ht m = stays m
  by_lists false true hp ht m = agree m ∙ again ps ts n m ht
  by_lists false false hp ht m = new_one l ps ts n lt hp agree m

  by_scope : (g : Option Item) (r : Option ℕ) (m : ℕ) → local_at (assigned (item_or g (row_or r (kind_of (is_in n ps) (is_in n ts)))) l n) m ≡ local_of ps (ts ++ becomes (item_or g (row_or r (kind_of (is_in n ps) false))) n) m
  by_scope (Some g) r m = stays m
  by_scope None (Some x) m = stays m
  by_scope None None m = by_lists (is_in n ps) (is_in n ts) refl refl m

-- the function that looks names up agrees after a place, if it did before it
module _ (s : Scope) (ps : List ℕ) where
  abbrev Agree : List Local → List ℕ → Type 0
  Agree l ts = local_at l ≡ local_of ps ts

  as_path : (l : List Local) (ts : List ℕ) → ((m : ℕ) → local_at l m ≡ local_of ps ts m) → Agree l ts
  as_path l ts h = λ i m. h m i

  made : Occurrence → List ℕ
  made p = makes (binding s (local_of ps []) p.rows) p.mark

  after_assigns : (l : List Local) (ts : List ℕ) (rows : List Row) (n : ℕ) → n < length l → Agree l ts → (m : ℕ) → local_at (assigned (binding s (local_at l) rows n) l n) m ≡ local_of ps (ts ++ becomes (binding s (local_of ps []) rows n) n) m
  unfolding definitions meaning_definitions
  after_assigns l ts rows n lt e m =
      let agree : (k : ℕ) → local_at l k ≡ local_of ps ts k = λ k. ap (λ f. f k) e in
      ap (λ v. local_at (assigned (item_or (s.item n) (row_or (row_relation rows n) v)) l n) m) (agree n)
      ∙ by_scope l ps ts n lt agree (s.item n) (row_relation rows n) m

  after_place : (l : List Local) (ts : List ℕ) (rows : List Row) (k : Mark) → TargetWithin (length l) k → Agree l ts → Agree (locals_after (binding s (local_at l) rows) l k) (ts ++ makes (binding s (local_of ps []) rows) k)
  unfolding definitions meaning_definitions
  after_place l ts rows (Assigns t) lt e = as_path _ _ (after_assigns l ts rows t.name lt e)
  after_place l ts rows (TakesObject x) lt e = e ∙ ap (local_of ps) (sym (append-nil ts))
  after_place l ts rows (TakesValue x) lt e = e ∙ ap (local_of ps) (sym (append-nil ts))
  after_place l ts rows (DeclaresRow x) lt e = e ∙ ap (local_of ps) (sym (append-nil ts))
  after_place l ts rows (TakesRelation x) lt e = e ∙ ap (local_of ps) (sym (append-nil ts))
  after_place l ts rows (TakesField r f) lt e = e ∙ ap (local_of ps) (sym (append-nil ts))
  after_place l ts rows (NamesField q f) lt e = e ∙ ap (local_of ps) (sym (append-nil ts))
  after_place l ts rows (FillsFields q fs) lt e = e ∙ ap (local_of ps) (sym (append-nil ts))

  same_length : (l : List Local) (m : ℕ → Binding) (k : Mark) → length (locals_after m l k) ≡ length l
  unfolding definitions meaning_definitions
  same_length l m (Assigns t) = of_meaning (m t.name)
    where
      of_meaning : (v : Binding) → length (assigned v l t.name) ≡ length l
      of_meaning B.Unbound = length-set l t.name L.Temporary
      of_meaning (B.Item g) = refl
      of_meaning B.Parameter = refl
      of_meaning (B.Row x) = refl
      of_meaning B.Temporary = refl
  same_length l m (TakesObject x) = refl
  same_length l m (TakesValue x) = refl
  same_length l m (DeclaresRow x) = refl
  same_length l m (TakesRelation x) = refl
  same_length l m (TakesField r f) = refl
  same_length l m (NamesField q f) = refl
  same_length l m (FillsFields q fs) = refl

  made_more : (before : List Occurrence) (p : Occurrence) → temporaries s ps (before ++ p ∷ []) ≡ temporaries s ps before ++ makes (binding s (local_of ps []) p.rows) p.mark
  unfolding definitions meaning_definitions
  made_more before p =
      flat_map-append (λ (q : Occurrence). makes (binding s (local_of ps []) q.rows) q.mark) before (p ∷ [])
      ∙ ap (λ xs. temporaries s ps before ++ xs) (append-nil (makes (binding s (local_of ps []) p.rows) p.mark))

  abbrev rule : List Occurrence → Occurrence → List Fault
  rule before p = judge s (local_of ps (temporaries s ps before)) p

  -- following the places keeps the fault that decides among theirs
  pub follows : (n : ℕ) (k : Standing) (before places : List Occurrence) → length k.locals ≡ n → Agree k.locals (temporaries s ps before) → TargetsWithin n places → (follow s k places).best ≡ keep_all k.best (each_from rule before places)
  unfolding definitions meaning_definitions
  follows n k before [] len agree within = refl
  follows n k before (p ∷ places) len agree within =
      let here : TargetWithin (length k.locals) p.mark = subst (λ m. TargetWithin m p.mark) (sym len) within.0 in
      let next : Agree (step s k p).locals (temporaries s ps (before ++ p ∷ [])) = after_place k.locals (temporaries s ps before) p.rows p.mark here agree ∙ ap (local_of ps) (sym (made_more before p)) in
      follows n (step s k p) (before ++ p ∷ []) places (same_length k.locals (binding s (local_at k.locals) p.rows) p.mark ∙ len) next within.1
      ∙ ap (λ local. keep_all (keep_all k.best (judge s local p)) (each_from rule (before ++ p ∷ []) places)) agree
      ∙ sym (keep_all-append k.best (rule before p) (each_from rule (before ++ p ∷ []) places))

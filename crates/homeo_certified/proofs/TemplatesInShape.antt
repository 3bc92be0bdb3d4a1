-- The template of calls whose commands are in shape is in shape.
use Rattle.homeo_meaning.specs.Key.{definitions as meaning_definitions}
use Rattle.homeo_plan.specs.Key.{definitions as plan_definitions}
use Rattle.homeo_certificate.specs.Key.{definitions}
use Rattle.std.proofs.Common.{◌≡◌, ℕ, suc, ◌≤◌, Bool, true, false, cond, List, [], ◌∷◌, ◌++◌, map, length, ℤ, pos, neg_ℤ, ◌+ℤ◌, ◌≤ℤ◌, refl, sym, ap, subst, arith}
use Rattle.std.proofs.lemmas.Int.{ints}
use Rattle.std.specs.Int.RustNames.{unsigned_abs}
use Rattle.std.specs.List.{list_any}
use Rattle.homeo_meaning.specs.LowMeaning.{whole}
use Rattle.homeo_meaning.specs.Small.{IsSmall}
use Rattle.homeo_plan.specs.Config.{Config, total, Fits}
use Rattle.homeo_plan.specs.Each.{Each}
use Rattle.homeo_plan.specs.FormSizes.{Numbers}
use Rattle.homeo_plan.specs.Limit.{form_limit}
use Rattle.homeo_plan.specs.SmallForms.{HasSmallForms}
use Rattle.homeo_plan.specs.declared.forms.Term.{Term}
use Rattle.homeo_plan.specs.Linear.{AreInOrder, Linear, is_empty}
use Rattle.homeo_plan.specs.Atoms.{true_cond}
use Rattle.homeo_plan.specs.Needs as plan
use Rattle.homeo_plan.specs.Table.{Row, walk}
use Rattle.homeo_plan.specs.Template.{PlannedCall, shifted, base_row, atoms_of, needs_of, Clause, clause_of, same_clause, with_clause, clauses_from, atoms_of_sets, put_all, template}
use Rattle.homeo_plan.proofs.DeltaLists.{in_order_puts, each_put_all, terms_in_order}
use Rattle.homeo_plan.proofs.Tables.{row_at_walk}
use Rattle.homeo_plan.proofs.Atoms.{append_each}
use Rattle.homeo_plan.proofs.AtomClauses.{each_of_sets}
use Rattle.homeo_plan.proofs.Covering.{each_map}
use Rattle.homeo_certificate.specs.Shape.{IsWord, DeltaInShape, TermInShape, ClauseInShape, BoundsInShape, CommandInShape}
use Rattle.homeo_certified.proofs.FormedForms.{TermCounts, base_formed}
use Rattle.homeo_certified.proofs.RowsInShape.{IsFormed, walk_in_shape, true_cond_formed, needs_in}

-- ---- numbers
small_is_word : (n : ℤ) → IsSmall form_limit n → IsWord n
unfolding meaning_definitions
small_is_word n h = let q : unsigned_abs n ≤ 4000000000000000000 = h in record { low = grind (arith, ints, q); high = grind (arith, ints, q) }

negated_is_word : (n : ℤ) → IsSmall form_limit n → IsWord (neg_ℤ n)
unfolding meaning_definitions
negated_is_word n h = let q : unsigned_abs n ≤ 4000000000000000000 = h in record { low = grind (arith, ints, q); high = grind (arith, ints, q) }

-- ---- lists of lists
each_to : {X Y : Type 0} (P : X → Type 0) (Q : Y → Type 0) (f : X → Y) → ((x : X) → P x → Q (f x)) → (xs : List X) → Each P xs → Each Q (map f xs)
unfolding plan_definitions
each_to P Q f g [] h = tt
each_to P Q f g (x ∷ xs) h = (g x h.0, each_to P Q f g xs h.1)

in_clauses : (Q : Clause → Type 0) (cs : List Clause) (atoms : List Linear) → Each Q cs → Each (λ a. Q (clause_of a)) atoms → Each Q (clauses_from cs atoms)
unfolding plan_definitions
in_clauses Q cs [] h k = h
in_clauses Q cs (a ∷ more) h k = in_clauses Q (with_clause cs a) more (go (is_empty a.terms) (list_any (same_clause (clause_of a)) cs)) k.1
  where
    go : (v w : Bool) → Each Q (cond v cs (cond w cs (cs ++ clause_of a ∷ [])))
    go true w = h
    go false true = h
    go false false = append_each Q cs (clause_of a ∷ []) h (k.0, tt)

each_pair : {X : Type 0} (P Q : X → Type 0) (xs : List X) → Each P xs → Each Q xs → Each (λ x. P x × Q x) xs
unfolding plan_definitions
each_pair P Q [] h k = tt
each_pair P Q (x ∷ xs) h k = ((h.0, k.0), each_pair P Q xs h.1 k.1)

-- ---- templates
module _ (n k : ℕ) (b : ℕ → ℤ) where
  -- what is known of a call
  pub record IsReady (g : PlannedCall) : Type 0 where
    pub shape : CommandInShape n k (shifted k g)
    pub small : HasSmallForms form_limit b (walk (shifted k g) (whole b))

  -- an atom that is formed, with small numbers
  record GoodAtom (a : Linear) : Type 0 where
    pub formed : IsFormed n k a
    pub numbers : Numbers (IsSmall form_limit) a

  row_is : (g : PlannedCall) → base_row k b g ≡ walk (shifted k g) (whole b)
  unfolding plan_definitions meaning_definitions
  row_is g = row_at_walk (shifted k g) (whole b) (λ t. refl)

  good_of : (atoms : List Linear) → Each (IsFormed n k) atoms → Each (Numbers (IsSmall form_limit)) atoms → Each GoodAtom atoms
  unfolding plan_definitions
  good_of [] h g = tt
  good_of (a ∷ atoms) h g = (record { formed = h.0; numbers = g.0 }, good_of atoms h.1 g.1)

  good_atoms : (g : PlannedCall) → IsReady g → Each GoodAtom (atoms_of k b g)
  unfolding plan_definitions
  good_atoms g h =
      subst (λ (r : Row). Each GoodAtom (true_cond b r.formula)) (sym (row_is g))
      (good_of (true_cond b (walk (shifted k g) (whole b)).formula)
      (true_cond_formed n k b (walk (shifted k g) (whole b)).formula (walk_in_shape n k (shifted k g) (whole b) h.shape).formula) h.small.atoms)

  good_needs : (g : PlannedCall) → IsReady g → Each (DeltaInShape n k) (needs_of k b g)
  unfolding plan_definitions
  good_needs g h =
      subst (λ (r : Row). Each (DeltaInShape n k) (plan.needs g.site b r.residual)) (sym (row_is g))
      (needs_in n k g.site (walk (shifted k g) (whole b)).residual _ [] (walk_in_shape n k (shifted k g) (whole b) h.shape).residual
      (base_formed (DeltaInShape n k) n k (λ d q. q) b) tt)

  good_terms : (ts : List Term) → Each (TermCounts (DeltaInShape n k)) ts → Each (λ t. IsSmall form_limit t.factor) ts → Each (TermInShape n k) ts
  unfolding plan_definitions
  good_terms [] h g = tt
  good_terms (t ∷ ts) h g = (record { delta = h.0.delta; factor = small_is_word t.factor g.0; counts = h.0.counts }, good_terms ts h.1 g.1)

  good_clause : (a : Linear) → GoodAtom a → ClauseInShape n k (clause_of a)
  unfolding plan_definitions
  good_clause a h =
      record {
        slack = negated_is_word a.constant h.numbers.constant;
        terms = good_terms a.terms h.formed.terms h.numbers.factors;
        order = terms_in_order a.terms h.formed.sorted;
      }

  module _ (gs : List PlannedCall) (ready : Each IsReady gs) where
    all_good : Each GoodAtom (atoms_of_sets (map (atoms_of k b) gs))
    all_good = each_of_sets GoodAtom (map (atoms_of k b) gs) (each_to IsReady (Each GoodAtom) (atoms_of k b) good_atoms gs ready)

    pub clauses_in_shape : Each (ClauseInShape n k) (template k b gs).clauses
    unfolding plan_definitions
    clauses_in_shape =
        in_clauses (ClauseInShape n k) [] (atoms_of_sets (map (atoms_of k b) gs)) tt
        (each_map GoodAtom (λ a. ClauseInShape n k (clause_of a)) good_clause (atoms_of_sets (map (atoms_of k b) gs)) all_good)

    pub freezes_in_shape : Each (DeltaInShape n k) (template k b gs).freezes
    unfolding plan_definitions
    freezes_in_shape =
        each_put_all (DeltaInShape n k) (map (needs_of k b) gs) (put_all (map (λ a. a.mixed) (atoms_of_sets (map (atoms_of k b) gs))) [])
        (each_to IsReady (Each (DeltaInShape n k)) (needs_of k b) good_needs gs ready)
        (each_put_all (DeltaInShape n k) (map (λ a. a.mixed) (atoms_of_sets (map (atoms_of k b) gs))) []
        (each_to GoodAtom (Each (DeltaInShape n k)) (λ a. a.mixed) (λ a h. h.formed.mixed) (atoms_of_sets (map (atoms_of k b) gs)) all_good) tt)

    pub freezes_in_order : AreInOrder (template k b gs).freezes
    unfolding plan_definitions
    freezes_in_order = in_order_puts (map (needs_of k b) gs) _ (in_order_puts (map (λ a. a.mixed) (atoms_of_sets (map (atoms_of k b) gs))) [] tt)

-- ---- bounds that fit
at_most_total : (bounds : List ℤ) → Each (λ n. pos 0 ≤ℤ n) bounds → Each (λ n. n ≤ℤ total bounds) bounds × (pos 0 ≤ℤ total bounds)
unfolding plan_definitions
at_most_total [] h = (tt, omega (arith, ints))
at_most_total (n ∷ ns) h =
    let r = at_most_total ns h.1 in
    ((omega (arith, ints, r.1), each_map _ (λ m. m ≤ℤ (n +ℤ total ns)) (λ m q. omega (arith, ints, h.0)) ns r.0), omega (arith, ints, h.0, r.1))

between : (n m : ℤ) → pos 0 ≤ℤ n → n ≤ℤ m → IsWord m → IsWord n
between n m h l w = record { low = grind (arith, ints, h); high = grind (arith, ints, l, w.high) }

bounds_words : (bounds : List ℤ) (m : ℤ) → IsWord m → Each (λ n. pos 0 ≤ℤ n) bounds → Each (λ n. n ≤ℤ m) bounds → Each IsWord bounds
unfolding plan_definitions
bounds_words [] m w h l = tt
bounds_words (n ∷ ns) m w h l = (between n m h.0 l.0 w, bounds_words ns m w h.1 l.1)

pub bounds_in_shape : (n k : ℕ) (cs : List Clause) (bs : Config) → Fits k cs bs → Each (ClauseInShape n k) cs → Each (BoundsInShape k) bs × (length bs ≡ length cs)
unfolding definitions plan_definitions
bounds_in_shape n k [] [] h s = (tt, refl)
bounds_in_shape n k [] (b ∷ bs) h s = absurd h
bounds_in_shape n k (c ∷ cs) [] h s = absurd h
bounds_in_shape n k (c ∷ cs) (b ∷ bs) h s =
    let r = bounds_in_shape n k cs bs h.1 s.1 in
    let t = at_most_total b h.0.not_negative in
    ((record { count = h.0.count; words = bounds_words b (total b) (subst IsWord (sym h.0.sums) s.0.slack) h.0.not_negative t.0 }, r.0), ap suc r.1)

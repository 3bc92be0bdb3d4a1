-- Following a call that a template covers meets no fault.
use Rattle.homeo_meaning.specs.Key.{definitions as meaning_definitions}
use Rattle.homeo_plan.specs.Key.{definitions as plan_definitions}
use Rattle.homeo_certificate.specs.Key.{definitions}
use Rattle.std.proofs.Common.{◌≡◌, ℕ, ◌==◌, Bool, true, false, cond, ◌||◌, List, [], ◌∷◌, ◌++◌, map, ℤ, neg_ℤ, int_le, refl, sym, ap, ap₂, ◌∙◌, subst, ⊎_elim, arith}
use Rattle.std.proofs.lemmas.Int.{ints}
use Rattle.std.proofs.lemmas.Bool.Decides.{nat_tests}
use Rattle.std.specs.List.{list_any, flat_map}
use Rattle.std.specs.Ordering.{int_eq}
use Rattle.std.proofs.lemmas.Bool.{and_from}
use Rattle.homeo_lemmas.proofs.Bools.{or_true}
use Rattle.homeo_lemmas.proofs.Integers.{int_itself}
use Rattle.homeo_syntax.specs.declared.low.SplitName.TheVariants as split
use Rattle.homeo_syntax.specs.Low.{Expr, Cond, NoTest, MoreTest, Command, Commands, Skip, Assign, Write, Print, Seq, If, NoCommand, MoreCommand}
use Rattle.homeo_meaning.specs.LowMeaning.{TempAt, DeltaAt, put, holds, exec, whole}
use Rattle.homeo_meaning.specs.Small.{IsSmall}
use Rattle.homeo_meaning.specs.Whole.{IsWhole}
use Rattle.homeo_meaning.proofs.Parts.{AreWhole}
use Rattle.homeo_plan.specs.Each.{Each, Member}
use Rattle.homeo_plan.specs.FormSizes.{CanForm, CanCond, CanFollow}
use Rattle.homeo_plan.specs.Limit.{form_limit}
use Rattle.homeo_plan.specs.declared.forms.Delta.{Delta}
use Rattle.homeo_plan.specs.declared.forms.Term.{Term}
use Rattle.homeo_plan.specs.Linear.{same_delta, Linear, is_empty, support, Forms, base_forms, form}
use Rattle.homeo_plan.specs.Atoms as plan
use Rattle.homeo_plan.specs.Needs.{remote, written_needs, needs_from}
use Rattle.homeo_plan.specs.Split.{shift, shift_all}
use Rattle.homeo_plan.specs.SmallForms.{HasSmallForms}
use Rattle.homeo_plan.specs.Table.{Row, replace_cond, both, otherwise, test_before, last_row, walk_before, walk_all_before, walk, clear_cond}
use Rattle.homeo_plan.specs.Template.{PlannedCall, shifted, base_row, atoms_of, needs_of, clause_of, same_term, same_terms, Template, Covers}
use Rattle.homeo_plan.proofs.Atoms.{each_append}
use Rattle.homeo_plan.proofs.Covering.{each_map}
use Rattle.homeo_plan.proofs.Tables.{row_at_walk}
use Rattle.homeo_plan.proofs.Tracked.{each_add_deltas}
use Rattle.homeo_plan.proofs.Factors.{same_delta_refl}
use Rattle.homeo_certificate.specs.Met.{at_zero, met, met_in_cond, numbers}
use Rattle.homeo_certificate.specs.Kept.{Atom, gap, form_of, true_test, true_cond, false_cond}
use Rattle.homeo_certificate.specs.declared.fault.Fault.{Fault}
use Rattle.homeo_certificate.specs.declared.fault.Fault.TheVariants.{NotFrozen, NoClause, ForeignWrite}
use Rattle.homeo_certificate.specs.Followed.{Rules, too_large, not_frozen, keeps, no_clause, atom_faults, remote_deltas, foreign, forms_after, forms_after_all, written, all_written, faults, all_faults}
use Rattle.homeo_certified.proofs.RowsBack.{zero_at_base, back_cond, uncleared_cond, true_cond_put, true_cond_clear, true_cond_is}
use Rattle.homeo_certificate.proofs.RunsAlike.{zero_after}
use Rattle.homeo_certificate.proofs.SmallMet.{IsSmallAtom, expr_not_large, cond_not_large, true_cond_small, false_cond_small}

abbrev Small : ℤ → Type 0
Small = IsSmall form_limit

-- ---- each write is of a delta of the site
abbrev mutual
  unfolding definitions

  pub WritesOwn : ℕ → Command → Type 0
  WritesOwn i Skip = Unit {0}
  WritesOwn i (Assign t e) = Unit {0}
  WritesOwn i (Write (split.Whole x) e) = ⊥
  WritesOwn i (Write (split.Base x) e) = ⊥
  WritesOwn i (Write (split.Delta x j) e) = j ≡ i
  WritesOwn i (Print e) = Unit {0}
  WritesOwn i (Seq cs) = AllWriteOwn i cs
  WritesOwn i (If b c d) = WritesOwn i c × WritesOwn i d

  pub AllWriteOwn : ℕ → Commands → Type 0
  AllWriteOwn i NoCommand = Unit {0}
  AllWriteOwn i (MoreCommand c cs) = WritesOwn i c × AllWriteOwn i cs

mutual
  unfolding definitions plan_definitions meaning_definitions

  shift_writes_own : (k i : ℕ) (c : Command) → IsWhole c → WritesOwn i (shift k i c)
  shift_writes_own k i Skip w = tt
  shift_writes_own k i (Assign t e) w = tt
  shift_writes_own k i (Write (split.Whole x) e) w = refl
  shift_writes_own k i (Write (split.Base x) e) w = absurd w.0
  shift_writes_own k i (Write (split.Delta x j) e) w = absurd w.0
  shift_writes_own k i (Print e) w = tt
  shift_writes_own k i (Seq cs) w = shift_all_write_own k i cs w
  shift_writes_own k i (If b c d) w = (shift_writes_own k i c w.1, shift_writes_own k i d w.2)

  shift_all_write_own : (k i : ℕ) (cs : Commands) → AreWhole cs → AllWriteOwn i (shift_all k i cs)
  shift_all_write_own k i NoCommand w = tt
  shift_all_write_own k i (MoreCommand c cs) w = (shift_writes_own k i c w.0, shift_all_write_own k i cs w.1)

-- ---- no faults of lists
pub none_and : {X : Type 0} (xs ys : List X) → xs ≡ [] → ys ≡ [] → xs ++ ys ≡ []
none_and xs ys h k = ap₂ ◌++◌ h k

none_each : {X Y : Type 0} (f : X → List Y) (xs : List X) → Each (λ x. f x ≡ []) xs → flat_map f xs ≡ []
unfolding plan_definitions
none_each f [] h = refl
none_each f (x ∷ xs) h = none_and (f x) (flat_map f xs) h.0 (none_each f xs h.1)

module _ (r : Rules) where
  abbrev pub IsFrozen : Delta → Type 0
  IsFrozen d = list_any (same_delta d) r.freezes ≡ true

  frozen_none : (ds : List Delta) → Each IsFrozen ds → not_frozen r ds ≡ []
  unfolding definitions plan_definitions
  frozen_none ds h =
      none_each (λ d. cond (list_any (same_delta d) r.freezes) [] (NotFrozen d ∷ [])) ds
      (each_map IsFrozen _ (λ d q. ap (λ v. cond v [] (NotFrozen d ∷ [])) q) ds h)

  -- an atom whose mixed deltas are frozen, and which has a clause
  pub record Kept (a : Atom) : Type 0 where
    pub mixed : Each IsFrozen (form_of a).mixed
    pub clause : is_empty (form_of a).terms ≡ false → list_any (keeps (form_of a)) r.clauses ≡ true

  clause_none : (a : Linear) → (is_empty a.terms ≡ false → list_any (keeps a) r.clauses ≡ true) → no_clause r a ≡ []
  unfolding definitions plan_definitions
  clause_none a h = go (is_empty a.terms) h
    where
      go : (v : Bool) → (v ≡ false → list_any (keeps a) r.clauses ≡ true) → cond v [] (cond (list_any (keeps a) r.clauses) [] (NoClause ∷ [])) ≡ []
      go true h = refl
      go false h = ap (λ v. cond v [] (NoClause ∷ [])) (h refl)

  atom_none : (a : Atom) → IsSmallAtom a → Kept a → atom_faults r a ≡ []
  unfolding definitions plan_definitions
  atom_none a h k =
      none_and (too_large (numbers (gap a) ++ numbers (form_of a))) (not_frozen r (form_of a).mixed ++ no_clause r (form_of a)) h
      (none_and (not_frozen r (form_of a).mixed) (no_clause r (form_of a)) (frozen_none (form_of a).mixed k.mixed) (clause_none (form_of a) k.clause))

  each_both : (atoms : List Atom) → Each IsSmallAtom atoms → Each Kept atoms → Each (λ a. atom_faults r a ≡ []) atoms
  unfolding plan_definitions
  each_both [] h k = tt
  each_both (a ∷ atoms) h k = (atom_none a h.0 k.0, each_both atoms h.1 k.1)

  -- what is known of a row where forms f stand, and ds were written
  pub record Known (f : Forms) (ds : List Delta) (row : Row) : Type 0 where
    pub formula : CanCond Small f row.formula
    pub residual : CanFollow Small f row.residual
    pub atoms : Each Kept (true_cond f row.formula)
    pub needs : Each IsFrozen (needs_from r.site f ds row.residual)

  -- a step that sets a place
  set_known :
      (f : Forms) (ds es : List Delta) (p : _) (e : Expr) (row : Row) → CanForm Small f e →
      CanCond Small f (replace_cond p e row.formula) → CanFollow Small (put f p (form f e)) row.residual →
      Each Kept (true_cond f (replace_cond p e row.formula)) → Each IsFrozen (needs_from r.site (put f p (form f e)) es row.residual) →
      Known (put f p (form f e)) es row
  unfolding definitions plan_definitions
  set_known f ds es p e row c formula residual atoms needs =
      record {
        formula = back_cond Small p e f c row.formula formula;
        residual = residual;
        atoms = subst (Each Kept) (true_cond_put p e f row.formula) atoms;
        needs = needs;
      }

  true_both : (f : Forms) (b c : Cond) → true_cond f (both b c) ≡ true_cond f b ++ true_cond f c
  unfolding definitions plan_definitions
  true_both f NoTest c = refl
  true_both f (MoreTest t b) c = ap (λ l. true_test f t ++ l) (true_both f b c) ∙ sym (assoc (true_test f t) (true_cond f b) (true_cond f c))
    where
      assoc : (xs ys zs : List Atom) → (xs ++ ys) ++ zs ≡ xs ++ (ys ++ zs)
      assoc [] ys zs = refl
      assoc (x ∷ xs) ys zs = ap (λ l. x ∷ l) (assoc xs ys zs)

  cond_parts : (f : Forms) (b c : Cond) → CanCond Small f (both b c) → CanCond Small f b × CanCond Small f c
  unfolding plan_definitions
  cond_parts f NoTest c h = (tt, h)
  cond_parts f (MoreTest t b) c h = let k = cond_parts f b c h.1 in ((h.0, k.0), k.1)

  pub record Went (c : Command) (f : Forms) (ds : List Delta) (row : Row) : Type 0 where
    pub none : faults r c f ≡ []
    pub after : Known (forms_after c f) (written c f ds) row

  record AllWent (cs : Commands) (f : Forms) (ds : List Delta) (row : Row) : Type 0 where
    pub none : all_faults r cs f ≡ []
    pub after : Known (forms_after_all cs f) (all_written cs f ds) row

  -- what the two branches of a choice have in common
  record Chosen (b : Cond) (f : Forms) (atoms : List Atom) (ds : List Delta) (row : Row) : Type 0 where
    pub cond : CanCond Small f b
    pub none : flat_map (atom_faults r) atoms ≡ []
    pub after : Known f ds row

  chosen_true : (b : Cond) (f : Forms) (ds : List Delta) (row : Row) → Known f ds (test_before b row) → Chosen b f (true_cond f b) ds row
  unfolding definitions plan_definitions
  chosen_true b f ds row k =
      let p = cond_parts f b row.formula k.formula in
      let q = each_append Kept (true_cond f b) (true_cond f row.formula) (subst (Each Kept) (true_both f b row.formula) k.atoms) in
      record {
        cond = p.0;
        none = none_each (atom_faults r) (true_cond f b) (each_both (true_cond f b) (true_cond_small f b p.0) q.0);
        after = record { formula = p.1; residual = k.residual; atoms = q.1; needs = k.needs };
      }

  chosen_false : (b : Cond) (f : Forms) (ds : List Delta) (row : Row) → Known f ds (test_before (otherwise b) row) → Chosen b f (false_cond f b) ds row
  unfolding definitions plan_definitions
  chosen_false b f ds row k =
      let q = each_append Kept (false_cond f b) (true_cond f row.formula) k.atoms in
      record {
        cond = k.formula.0;
        none = none_each (atom_faults r) (false_cond f b) (each_both (false_cond f b) (false_cond_small f b k.formula.0) q.0);
        after = record { formula = k.formula.1; residual = k.residual; atoms = q.1; needs = k.needs };
      }

  own_write : (x j : ℕ) → j ≡ r.site → foreign r (split.Delta x j) ≡ []
  unfolding definitions
  own_write x j e =
      let q : (j == r.site) ≡ true = grind (arith, nat_tests) in
      ap (λ v. cond v [] (ForeignWrite ∷ [])) q

  mutual
    unfolding definitions plan_definitions meaning_definitions

    pub went : (c : Command) → WritesOwn r.site c → (f : Forms) (ds : List Delta) (row : Row) → Known f ds (walk_before c (at_zero f) row) → Went c f ds row
    went Skip o f ds row k = record { none = refl; after = k }
    went (Assign t e) o f ds row k =
        record {
          none = expr_not_large f e k.residual.0;
          after = set_known f ds ds (TempAt t) e row k.residual.0 k.formula k.residual.1 k.atoms k.needs;
        }
    went (Write (split.Whole x) e) o f ds row k = absurd o
    went (Write (split.Base x) e) o f ds row k = absurd o
    went (Write (split.Delta x j) e) o f ds row k =
        record {
          none = none_and (foreign r (split.Delta x j)) (too_large (met f e)) (own_write x j o) (expr_not_large f e k.residual.0);
          after = set_known f ds _ (DeltaAt x j) e row k.residual.0 k.formula k.residual.1 k.atoms k.needs;
        }
    went (Print e) o f ds row k =
        let m = each_add_deltas IsFrozen (remote r.site (support (form f e))) (needs_from r.site f ds row.residual) k.needs in
        record {
          none =
              none_and (too_large (met f e)) (not_frozen r (remote_deltas r (form f e))) (expr_not_large f e k.residual.0)
              (frozen_none (remote_deltas r (form f e)) m.0);
          after = record { formula = k.formula; residual = k.residual.1; atoms = k.atoms; needs = m.1 };
        }
    went (Seq cs) o f ds row k = let h = all_went cs o f ds row k in record { none = h.none; after = h.after }
    went (If b c d) o f ds row k =
        let x = part (holds b (at_zero f)) k (λ h. went c o.0 f ds row h) (λ h. went d o.1 f ds row h) in
        record { none = x.0; after = x.1 }
      where
        made : (atoms : List Atom) (fs : List Fault) → CanCond Small f b → flat_map (atom_faults r) atoms ≡ [] → fs ≡ [] → too_large (met_in_cond f b) ++ (flat_map (atom_faults r) atoms ++ fs) ≡ []
        made atoms fs h p q =
            none_and (too_large (met_in_cond f b)) (flat_map (atom_faults r) atoms ++ fs) (cond_not_large f b h)
            (none_and (flat_map (atom_faults r) atoms) fs p q)

        Goes : Bool → Type 0
        Goes v =
            (too_large (met_in_cond f b) ++ (flat_map (atom_faults r) (cond v (true_cond f b) (false_cond f b)) ++ cond v (faults r c f) (faults r d f)) ≡ [])
            × Known (cond v (forms_after c f) (forms_after d f)) (cond v (written c f ds) (written d f ds)) row

        part :
            (v : Bool) →
            Known f ds (cond v (test_before b (walk_before c (at_zero f) row)) (test_before (otherwise b) (walk_before d (at_zero f) row))) →
            (Known f ds (walk_before c (at_zero f) row) → Went c f ds row) → (Known f ds (walk_before d (at_zero f) row) → Went d f ds row) → Goes v
        part true k hc hd =
            let x = chosen_true b f ds (walk_before c (at_zero f) row) k in
            let y = hc x.after in
            (made (true_cond f b) (faults r c f) x.cond x.none y.none, y.after)
        part false k hc hd =
            let x = chosen_false b f ds (walk_before d (at_zero f) row) k in
            let y = hd x.after in
            (made (false_cond f b) (faults r d f) x.cond x.none y.none, y.after)

    all_went : (cs : Commands) → AllWriteOwn r.site cs → (f : Forms) (ds : List Delta) (row : Row) → Known f ds (walk_all_before cs (at_zero f) row) → AllWent cs f ds row
    all_went NoCommand o f ds row k = record { none = refl; after = k }
    all_went (MoreCommand c cs) o f ds row k =
        let h = went c o.0 f ds (walk_all_before cs (exec c (at_zero f)).state row) k in
        let g =
        all_went cs o.1 (forms_after c f) (written c f ds) row
        (subst (λ s. Known (forms_after c f) (written c f ds) (walk_all_before cs s row)) (sym (zero_after c f)) h.after) in
        record { none = none_and (faults r c f) (all_faults r cs (forms_after c f)) h.none g.none; after = g.after }

-- ---- what is among the freezes and clauses is found there
same_terms_itself : (ts : List Term) → same_terms ts ts ≡ true
unfolding plan_definitions
same_terms_itself [] = refl
same_terms_itself (t ∷ ts) =
    and_from (same_term t t) (same_terms ts ts)
    (and_from (same_delta t.delta t.delta) (int_eq t.factor t.factor) (same_delta_refl t.delta) (int_itself t.factor)) (same_terms_itself ts)

keeps_own : (a : Linear) → keeps a (clause_of a) ≡ true
unfolding definitions plan_definitions
keeps_own a =
    and_from (same_terms a.terms a.terms) (int_le (neg_ℤ a.constant) (neg_ℤ a.constant)) (same_terms_itself a.terms) (grind (arith, ints))

any_if : {X : Type 0} (p : X → Bool) (x : X) (xs : List X) → p x ≡ true → Member x xs → list_any p xs ≡ true
unfolding plan_definitions
any_if p x [] e m = absurd m
any_if p x (y ∷ ys) e m = ⊎_elim (λ q. ap (λ v. v || list_any p ys) (ap p q ∙ e)) (λ n. ap (λ v. p y || v) (any_if p x ys e n) ∙ or_true (p y)) m

each_of_map : {X Y : Type 0} (P : Y → Type 0) (f : X → Y) (xs : List X) → Each P (map f xs) → Each (λ x. P (f x)) xs
unfolding plan_definitions
each_of_map P f [] h = tt
each_of_map P f (x ∷ xs) h = (h.0, each_of_map P f xs h.1)

each_pair : {X : Type 0} (P Q : X → Type 0) (xs : List X) → Each P xs → Each Q xs → Each (λ x. P x × Q x) xs
unfolding plan_definitions
each_pair P Q [] h k = tt
each_pair P Q (x ∷ xs) h k = ((h.0, k.0), each_pair P Q xs h.1 k.1)

-- ---- a call that a template covers
module _
    (k : ℕ) (b : ℕ → ℤ) (t : Template) (g : PlannedCall) (covers : Covers t k b g) (w : IsWhole g.command)
    (small : HasSmallForms form_limit b (walk (shifted k g) (whole b)))
  where
    abbrev pub r : Rules
    r = record { site = g.site; clauses = t.clauses; freezes = t.freezes }

    frozen : (ds : List Delta) → Each (λ d. Member d t.freezes) ds → Each (IsFrozen r) ds
    frozen ds h = each_map (λ d. Member d t.freezes) (IsFrozen r) (λ d m. any_if (same_delta d) d t.freezes (same_delta_refl d) m) ds h

    before : Row
    before = walk_before (shifted k g) (whole b) last_row

    row_is : base_row k b g ≡ walk (shifted k g) (whole b)
    unfolding plan_definitions meaning_definitions
    row_is = row_at_walk (shifted k g) (whole b) (λ t. refl)

    abbrev Found : Linear → Type 0
    Found a = (is_empty a.terms ≡ false → Member (clause_of a) t.clauses) × Each (λ d. Member d t.freezes) a.mixed

    found : Each Found (map form_of (true_cond (base_forms b) before.formula))
    unfolding definitions plan_definitions before
    found =
        subst (Each Found)
        (ap (λ (x : Row). plan.true_cond b x.formula) row_is
        ∙ sym (true_cond_is b (zero_at_base b) (clear_cond before.formula))
        ∙ ap (map form_of) (true_cond_clear b before.formula))
        (each_pair (λ a. is_empty a.terms ≡ false → Member (clause_of a) t.clauses) (λ a. Each (λ d. Member d t.freezes) a.mixed) (atoms_of k b g) covers.clauses covers.mixed)

    kept_atoms : Each (Kept r) (true_cond (base_forms b) before.formula)
    kept_atoms =
        each_map (λ a. Found (form_of a)) (Kept r)
        (λ a h. record {
          mixed = frozen (form_of a).mixed h.1;
          clause = λ e. any_if (keeps (form_of a)) (clause_of (form_of a)) t.clauses (keeps_own (form_of a)) (h.0 e);
        })
        (true_cond (base_forms b) before.formula) (each_of_map Found form_of (true_cond (base_forms b) before.formula) found)

    known : Known r (base_forms b) [] before
    unfolding plan_definitions before
    known =
        record {
          formula = uncleared_cond Small b before.formula small.formula;
          residual = small.residual;
          atoms = kept_atoms;
          needs = subst (λ (x : Row). Each (IsFrozen r) (needs_from g.site (base_forms b) [] x.residual)) row_is (frozen (needs_of k b g) covers.needs);
        }

    all_went_well : Went r (shifted k g) (base_forms b) [] last_row
    unfolding before plan_definitions
    all_went_well =
        went r (shifted k g) (shift_writes_own k g.site g.command w) (base_forms b) [] last_row
        (subst (λ s. Known r (base_forms b) [] (walk_before (shifted k g) s last_row)) (sym (zero_at_base b)) known)

    ended : (f : Forms) (ds : List Delta) → Each (IsFrozen r) (written_needs g.site f ds) → flat_map (λ (d : Delta). not_frozen r (remote_deltas r (f (DeltaAt d.object d.site)))) ds ≡ []
    unfolding definitions plan_definitions
    ended f [] h = refl
    ended f (d ∷ ds) h =
        let p = each_add_deltas (IsFrozen r) (remote g.site (support (f (DeltaAt d.object d.site)))) (written_needs g.site f ds) h in
        none_and (not_frozen r (remote_deltas r (f (DeltaAt d.object d.site)))) _ (frozen_none r (remote_deltas r (f (DeltaAt d.object d.site))) p.0) (ended f ds p.1)

    pub no_faults :
        faults r (shifted k g) (base_forms b)
        ++ flat_map (λ (d : Delta). not_frozen r (remote_deltas r (forms_after (shifted k g) (base_forms b) (DeltaAt d.object d.site))))
        (written (shifted k g) (base_forms b) []) ≡ []
    unfolding plan_definitions
    no_faults =
        let h = all_went_well in
        none_and (faults r (shifted k g) (base_forms b)) _ h.none
        (ended (forms_after (shifted k g) (base_forms b)) (written (shifted k g) (base_forms b) []) h.after.needs)

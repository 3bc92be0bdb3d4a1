-- A certificate without faults is sound.
use Rattle.homeo_meaning.specs.Key.{definitions as meaning_definitions}
use Rattle.homeo_plan.specs.Key.{definitions as plan_definitions}
use Rattle.homeo_certificate.specs.Key.{definitions}
use Rattle.std.proofs.Common.{◌≡◌, ℕ, suc, ◌==◌, ◌<◌, nat_lt, Bool, true, false, cond, List, [], ◌∷◌, length, map, ℤ, pos, int_le, ◌≤ℤ◌, refl, sym, ap, ◌∙◌, subst, ⊎_elim, inl, arith}
use Rattle.std.proofs.lemmas.Int.{ints}
use Rattle.std.proofs.lemmas.Bool.Decides.{nat_tests}
use Rattle.std.specs.List.{list_all, flat_map}
use Rattle.std.specs.Ordering.{int_eq}
use Rattle.std.proofs.lemmas.Bool.{and_parts}
use mathlib.Core.Path.{fun_ext}
use Rattle.homeo_lemmas.proofs.Integers.{int_is}
use Rattle.homeo_lemmas.proofs.Lists.{not_nil}
use Rattle.homeo_syntax.specs.declared.low.SplitName.TheVariants as split
use Rattle.homeo_syntax.specs.Low.{Read}
use Rattle.homeo_meaning.specs.LowMeaning.{Location, TempAt, BaseAt, DeltaAt, exec, whole}
use Rattle.homeo_plan.specs.Each.{Each}
use Rattle.homeo_plan.specs.Holding.{IsOn}
use Rattle.homeo_plan.specs.Config.{Config, total, FitsOne, Fits}
use Rattle.homeo_plan.specs.declared.forms.Delta.{Delta}
use Rattle.homeo_plan.specs.Joined.{Deltas, join, alone, with_site}
use Rattle.homeo_plan.specs.Local.{no_deltas}
use Rattle.homeo_plan.specs.Linear.{base_forms, delta_of}
use Rattle.homeo_plan.specs.Template.{Clause}
use Rattle.homeo_plan.specs.Treaty.{Treaty}
use Rattle.homeo_plan.proofs.Atoms.{start_tracks, append_each}
use Rattle.homeo_plan.proofs.Covering.{each_member}
use Rattle.homeo_plan.proofs.Local.{join_is_on}
use Rattle.homeo_plan.proofs.SiteSums.{clauses_hold, freezes_hold}
use Rattle.homeo_plan.proofs.Tracked.{tracks}
use Rattle.homeo_plan.proofs.OwnWithin.{zero_keeps_clauses, zero_keeps_freezes}
use Rattle.homeo_certificate.specs.declared.verdict.Verdict.{Verdict}
use Rattle.homeo_certificate.specs.declared.verdict.Verdict.TheVariants as verdict
use Rattle.homeo_certificate.specs.Certificate.{Call, Certificate, template_of, base_of}
use Rattle.homeo_certificate.specs.Branches.{branches}
use Rattle.homeo_certificate.specs.declared.fault.Fault.{Fault}
use Rattle.homeo_certificate.specs.declared.fault.Fault.TheVariants.{TooLarge, NotFrozen, NoClause, ForeignWrite}
use Rattle.homeo_certificate.specs.Followed.{not_frozen, remote_deltas, forms_after, written, faults, rules_of, call_faults}
use Rattle.homeo_certificate.specs.Met.{at_zero}
use Rattle.homeo_certificate.specs.Shape.{BoundsInShape, CallInShape, InShape}
use Rattle.homeo_certificate.specs.Sound.{RunsAlone, IsSound}
use Rattle.homeo_certificate.specs.Verdict.{fits_slack, misfits, at_call, faults_from, first_of_all, verdict_of, IsVerdictOn}
use Rattle.homeo_certificate.specs.Laws.{IsSoundText}
use Rattle.homeo_certificate.proofs.FaultLists.{none_of_both, none_of_each}
use Rattle.homeo_certificate.proofs.KeptTests.{Meets}
use Rattle.homeo_certificate.proofs.RunsAlike.{same_if_frozen, alike}

-- ---- bounds without misfits fit
bounds_not_negative : (bounds : List ℤ) → list_all (int_le (pos 0)) bounds ≡ true → Each (λ n. pos 0 ≤ℤ n) bounds
unfolding plan_definitions
bounds_not_negative [] e = tt
bounds_not_negative (n ∷ ns) e =
    let p = and_parts (int_le (pos 0) n) (list_all (int_le (pos 0)) ns) e in
    let h : pos 0 ≤ℤ n = grind (arith, ints, p.0) in
    (h, bounds_not_negative ns p.1)

fits_if :
    (k n : ℕ) (cs : List Clause) (bs : Config) → length bs ≡ length cs → Each (BoundsInShape k) bs → misfits n cs bs ≡ [] →
    Fits k cs bs
unfolding definitions plan_definitions
fits_if k n [] [] l h e = tt
fits_if k n [] (b ∷ bs) l h e = absurd (let q : suc (length bs) ≡ 0 = l in omega arith)
fits_if k n (c ∷ cs) [] l h e = absurd (let q : 0 ≡ suc (length cs) = l in omega arith)
fits_if k n (c ∷ cs) (b ∷ bs) l h e = go (fits_slack c b) refl e (λ q. fits_if k (suc n) cs bs (omega (arith, l)) h.1 q)
  where
    go :
        (v : Bool) → fits_slack c b ≡ v → cond v (misfits (suc n) cs bs) (verdict.Bounds n ∷ []) ≡ [] →
        (misfits (suc n) cs bs ≡ [] → Fits k cs bs) → FitsOne k c b × Fits k cs bs
    go true q e more =
        let p = and_parts (list_all (int_le (pos 0)) b) (int_eq (total b) c.slack) q in (
          record { count = h.0.count; not_negative = bounds_not_negative b p.0; sums = int_is (total b) c.slack p.1 },
          more e,
        )
    go false q e more = absurd (not_nil (verdict.Bounds n) [] e)

-- ---- a verdict of validity means that there is no fault
abbrev IsFault : Verdict → Type 0
IsFault v = v ≡ verdict.Valid → ⊥

none_if_valid : (vs : List Verdict) → Each IsFault vs → first_of_all vs ≡ verdict.Valid → vs ≡ []
unfolding definitions plan_definitions
none_if_valid [] h e = refl
none_if_valid (v ∷ vs) h e = absurd (h.0 e)

misfits_are_faults : (n : ℕ) (cs : List Clause) (bs : Config) → Each IsFault (misfits n cs bs)
unfolding definitions plan_definitions
misfits_are_faults n [] bs = tt
misfits_are_faults n (c ∷ cs) [] = tt
misfits_are_faults n (c ∷ cs) (b ∷ bs) = go (fits_slack c b) (misfits_are_faults (suc n) cs bs)
  where
    go : (v : Bool) → Each IsFault (misfits (suc n) cs bs) → Each IsFault (cond v (misfits (suc n) cs bs) (verdict.Bounds n ∷ []))
    go true h = h
    go false h = (λ e. cc, tt)

at_call_is_fault : (n : ℕ) (x : Fault) → IsFault (at_call n x)
unfolding definitions
at_call_is_fault n TooLarge e = cc
at_call_is_fault n (NotFrozen d) e = cc
at_call_is_fault n NoClause e = cc
at_call_is_fault n ForeignWrite e = cc

call_verdicts : (n : ℕ) (fs : List Fault) → Each IsFault (map (at_call n) fs)
unfolding plan_definitions
call_verdicts n [] = tt
call_verdicts n (x ∷ fs) = (at_call_is_fault n x, call_verdicts n fs)

calls_are_faults : (n : ℕ) (c : Certificate) (gs : List Call) → Each IsFault (faults_from n c gs)
unfolding definitions plan_definitions
calls_are_faults n c [] = tt
calls_are_faults n c (g ∷ gs) =
    append_each IsFault (map (at_call n) (call_faults c g)) (faults_from (suc n) c gs) (call_verdicts n (call_faults c g))
    (calls_are_faults (suc n) c gs)

none_of_map : {X Y : Type 0} (f : X → Y) (xs : List X) → map f xs ≡ [] → xs ≡ []
none_of_map f [] e = refl
none_of_map f (x ∷ xs) e = absurd (not_nil (f x) (map f xs) e)

no_call_faults : (n : ℕ) (c : Certificate) (gs : List Call) → faults_from n c gs ≡ [] → Each (λ g. call_faults c g ≡ []) gs
unfolding definitions plan_definitions
no_call_faults n c [] e = tt
no_call_faults n c (g ∷ gs) e =
    let p = none_of_both (map (at_call n) (call_faults c g)) (faults_from (suc n) c gs) e in
    (none_of_map (at_call n) (call_faults c g) p.0, no_call_faults (suc n) c gs p.1)

pub record HasNoFault (c : Certificate) : Type 0 where
  pub bounds : misfits 0 c.clauses c.bounds ≡ []
  pub calls : Each (λ g. call_faults c g ≡ []) c.calls

pub valid_has_none : (c : Certificate) → verdict_of c ≡ verdict.Valid → HasNoFault c
unfolding definitions plan_definitions
valid_has_none c e =
    let all =
    append_each IsFault (misfits 0 c.clauses c.bounds) (faults_from 0 c c.calls) (misfits_are_faults 0 c.clauses c.bounds)
    (calls_are_faults 0 c c.calls) in
    let p = none_of_both (misfits 0 c.clauses c.bounds) (faults_from 0 c c.calls) (none_if_valid _ all e) in
    record { bounds = p.0; calls = no_call_faults 0 c c.calls p.1 }

-- ---- a site's deltas alone
module _ (c : Certificate) (fits : Fits c.sites c.clauses c.bounds) (d : ℕ → Deltas) (keeps : (i : ℕ) → i < c.sites → Treaty (template_of c) c.bounds i (d i)) where
  meets_all : (g : Call) → Meets (rules_of c g) (join c.sites (base_of c) d)
  unfolding definitions plan_definitions
  meets_all g =
      record {
        clauses = clauses_hold c.sites (base_of c) d c.clauses c.bounds fits (λ i l. (keeps i l).clauses);
        freezes = freezes_hold c.sites (base_of c) d c.freezes (λ i l. (keeps i l).freezes);
      }

module _ (c : Certificate) (fits : Fits c.sites c.clauses c.bounds) (d : ℕ → Deltas) (keeps : (i : ℕ) → i < c.sites → Treaty (template_of c) c.bounds i (d i)) (g : Call) (site : g.site < c.sites) where
  own_alone : ℕ → Deltas
  own_alone = with_site (λ j. no_deltas) g.site (d g.site)

  alone_is_join : alone (base_of c) g.site (d g.site) ≡ join c.sites (base_of c) own_alone
  unfolding definitions plan_definitions own_alone
  alone_is_join = fun_ext at
    where
      at : (p : Location) → alone (base_of c) g.site (d g.site) p ≡ join c.sites (base_of c) own_alone p
      at (TempAt t) = refl
      at (BaseAt x) = refl
      at (DeltaAt x j) = go (j == g.site) refl (g.site == j) refl (nat_lt j c.sites) refl
        where
          go :
              (v : Bool) → (j == g.site) ≡ v → (w : Bool) → (g.site == j) ≡ w → (l : Bool) → nat_lt j c.sites ≡ l →
              cond v (d g.site x) (pos 0) ≡ cond l (cond w (d g.site) no_deltas x) (pos 0)
          go true q true q' true ql = refl
          go false q false q' true ql = refl
          go false q false q' false ql = refl
          go true q true q' false ql = absurd (grind (arith, nat_tests, site, q, ql))
          go true q false q' l ql = absurd (grind (arith, nat_tests, q, q'))
          go false q true q' l ql = absurd (grind (arith, nat_tests, q, q'))

  keeps_alone : (i : ℕ) → i < c.sites → Treaty (template_of c) c.bounds i (own_alone i)
  unfolding definitions plan_definitions own_alone
  keeps_alone i l = go (g.site == i) refl
    where
      go : (v : Bool) → (g.site == i) ≡ v → Treaty (template_of c) c.bounds i (cond v (d g.site) no_deltas)
      go true q =
          let e : g.site ≡ i = grind (arith, nat_tests) in
          subst (λ j. Treaty (template_of c) c.bounds i (d j)) (sym e) (keeps i l)
      go false q = record { clauses = zero_keeps_clauses c.sites i c.clauses c.bounds fits; freezes = zero_keeps_freezes i c.freezes }

  meets_alone : Meets (rules_of c g) (alone (base_of c) g.site (d g.site))
  unfolding definitions plan_definitions
  meets_alone = subst (Meets (rules_of c g)) (sym alone_is_join) (meets_all c fits own_alone keeps_alone g)

  same_own : (x : ℕ) → join c.sites (base_of c) d (DeltaAt x g.site) ≡ alone (base_of c) g.site (d g.site) (DeltaAt x g.site)
  unfolding plan_definitions
  same_own x =
      let p : nat_lt g.site c.sites ≡ true = grind (arith, nat_tests) in
      let q : (g.site == g.site) ≡ true = grind (arith, nat_tests) in
      ap (λ v. cond v (d g.site x) (pos 0)) (p ∙ sym q)

  pub zero_is_whole : at_zero (base_forms (base_of c)) ≡ whole (base_of c)
  unfolding definitions plan_definitions meaning_definitions
  zero_is_whole = fun_ext at
    where
      at : (p : Location) → at_zero (base_forms (base_of c)) p ≡ whole (base_of c) p
      at (TempAt t) = refl
      at (BaseAt x) = refl
      at (DeltaAt x j) = refl

  alone_is_on : IsOn (base_of c) (alone (base_of c) g.site (d g.site))
  unfolding plan_definitions
  alone_is_on = record { bases = λ y. refl; temps = λ t. refl }

  pub runs_alone : call_faults c g ≡ [] → RunsAlone c.sites (base_of c) d g
  unfolding definitions plan_definitions meaning_definitions
  runs_alone e =
      let r = rules_of c g in
      let f = base_forms (base_of c) in
      let s = join c.sites (base_of c) d in
      let s' = alone (base_of c) g.site (d g.site) in
      let ended = λ (x : Delta). not_frozen r (remote_deltas r (forms_after g.command f (DeltaAt x.object x.site))) in
      let p = none_of_both (faults r g.command f) (flat_map ended (written g.command f [])) e in
      let k =
      alike r s s' (meets_all c fits d keeps g) meets_alone same_own g.command f [] s s' p.0
      (start_tracks (base_of c) s s' (join_is_on c.sites (base_of c) d) alone_is_on) (λ x. inl (same_own x)) in
      record {
        branches = k.branches ∙ ap (branches g.command) zero_is_whole;
        prints = k.prints;
        own = λ x.
            ⊎_elim (λ q. q)
            (λ m.
            same_if_frozen r s s' (meets_all c fits d keeps g) meets_alone same_own (forms_after g.command f (DeltaAt x g.site)) _ _
            (tracks (forms_after g.command f) s s' (exec g.command s).state (exec g.command s').state k.tracks (Read (split.Delta x g.site)))
            (each_member (λ (y : Delta). ended y ≡ []) (delta_of x g.site) (written g.command f [])
            (none_of_each ended (written g.command f []) p.1) m))
            (k.own x);
        kept = k.kept;
      }

all_run_alone :
    (c : Certificate) → Fits c.sites c.clauses c.bounds → (d : ℕ → Deltas) →
    ((i : ℕ) → i < c.sites → Treaty (template_of c) c.bounds i (d i)) → (gs : List Call) →
    Each (CallInShape (length c.base) c.sites) gs → Each (λ g. call_faults c g ≡ []) gs → Each (RunsAlone c.sites (base_of c) d) gs
unfolding definitions plan_definitions
all_run_alone c fits d keeps [] h e = tt
all_run_alone c fits d keeps (g ∷ gs) h e =
    (runs_alone c fits d keeps g h.0.site e.0, all_run_alone c fits d keeps gs h.1 e.1)

pub valid_is_sound : (c : Certificate) → InShape c → verdict_of c ≡ verdict.Valid → IsSound c
unfolding definitions plan_definitions
valid_is_sound c h e d keeps =
    let k = valid_has_none c e in
    all_run_alone c (fits_if c.sites 0 c.clauses c.bounds h.bounds_count h.bounds k.bounds) d keeps c.calls h.calls k.calls

pub valid_text_is_sound : (bytes : List ℕ) → IsVerdictOn bytes verdict.Valid → IsSoundText bytes
unfolding definitions
valid_text_is_sound bytes h =
    record {
      certificate = h.certificate;
      shape = h.shape;
      json = h.json;
      sound = valid_is_sound h.certificate h.shape (sym h.verdict);
    }

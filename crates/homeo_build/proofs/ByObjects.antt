-- The template of a workload's ground calls is made by objects, of what is followed along their forms.
use Rattle.std.proofs.Common.{◌≡◌, ℕ, zero, suc, ◌+◌, ◌<◌, ◌≤◌, ◌==◌, nat_lt, Bool, true, false, not, ◌||◌, ◌&&◌, List, [], ◌∷◌, ◌++◌, map, Some, length, take, get_or, All, ℤ, refl, sym, ap, ap₂, ◌∙◌, subst, arith}
use Rattle.std.specs.Prelude.{slice_get}
use Rattle.std.specs.List.{list_any}
use Rattle.std.proofs.lemmas.List.{map_push, take_all, take_more}
use Rattle.std.proofs.lemmas.List.Elements.{All-head, All-tail}
use Rattle.std.proofs.lemmas.Option.{slice_get_within}
use Rattle.std.proofs.lemmas.List.Folds.{list_any-append}
use Rattle.std.proofs.lemmas.Simd.{map-map}
use Rattle.homeo_syntax.specs.Low.{Command}
use Rattle.homeo_syntax.specs.Source as s
use Rattle.homeo_meaning.specs.Key.{definitions as meaning_definitions}
use Rattle.homeo_meaning.specs.Acceptance.{IsAccepted}
use Rattle.homeo_meaning.specs.Bounds.{IsWithin}
use Rattle.homeo_meaning.specs.CallForm.{ground_form}
use Rattle.homeo_meaning.specs.Forms.{HaveForms, AreForms}
use Rattle.homeo_meaning.specs.Ground.{Ground, plain_ground, grounds}
use Rattle.homeo_meaning.specs.Schema.{schema_of}
use Rattle.homeo_meaning.specs.Serial.{values_of}
use Rattle.homeo_meaning.specs.Small.{IsSmall}
use Rattle.homeo_meaning.specs.Whole.{IsWhole}
use Rattle.homeo_meaning.specs.declared.call.GroundCall.{GroundCall}
use Rattle.homeo_lform.proofs.Wholes.{ground_whole}
use Rattle.homeo_plan.specs.Key.{definitions as plan_definitions}
use Rattle.homeo_plan.specs.Each.{Each}
use Rattle.homeo_plan.specs.FormSizes.{Numbers}
use Rattle.homeo_plan.specs.Limit.{form_limit}
use Rattle.homeo_plan.specs.Linear.{Linear, AreInOrder, base_forms}
use Rattle.homeo_plan.specs.Planned.{sites_of, planned_call, planned, template_at}
use Rattle.homeo_plan.specs.Template.{PlannedCall, Clause, Template, atoms_of, needs_of, clauses_from, atoms_of_sets, put_all}
use Rattle.homeo_plan.specs.declared.forms.Delta.{Delta}
use Rattle.homeo_plan.proofs.AtomClauses.{each_from, each_of_sets}
use Rattle.homeo_plan.proofs.Covering.{each_map}
use Rattle.homeo_follow.specs.Key.{definitions as follow_definitions}
use Rattle.homeo_follow.specs.Expanded.{expanded}
use Rattle.homeo_follow.specs.Follow.{object_forms, followed, needed}
use Rattle.homeo_follow.specs.ObjectTemplate.{expanded_clause, followed_atoms, has_object, is_frozen, IsByObjects}
use Rattle.homeo_follow.proofs.Expansions.{IsObject, IsTidy}
use Rattle.homeo_follow.proofs.Needed.{objects_needed}
use Rattle.homeo_follow.proofs.Simulated.{follows}
use Rattle.homeo_follow.proofs.Standing.{stands_at_base}
use Rattle.homeo_follow.proofs.Templated.{by_objects}
use Rattle.homeo_template.specs.Places.{set_at}
use Rattle.homeo_template.proofs.Appending.{atoms_push}
use Rattle.homeo_template.proofs.Slacks.{small-slack}
use Rattle.homeo_plan.proofs.DeltaLists.{same_deltas, none_in_order, in_order_puts}
use Rattle.homeo_build.specs.inner.CallForms.{IsCallForm}
use Rattle.homeo_build.specs.declared.frozen.FrozenObjects.{FrozenObjects}
use Rattle.homeo_build.specs.inner.Frozen.{is_frozen_in, names_object, frozen_from}
use Rattle.homeo_build.specs.inner.Planning.{CanCompile, CanPlan}
use Rattle.homeo_build.proofs.FewSites.{sites_few}
use Rattle.homeo_build.proofs.Following.{atoms_are}
use Rattle.homeo_build.proofs.FrozenSites.{has_frozen, frozen_in_order}
use Rattle.homeo_build.proofs.GroundCalls.{can_compile}
use Rattle.homeo_build.proofs.Grown.{same_length}
use Rattle.homeo_build.proofs.Planning.{can_plan}

-- ---- the sets at the places of forms
set_there : (h : Command → List Linear) (fs : List Command) (n : ℕ) (f : Command) → slice_get fs n ≡ Some f → set_at (map h fs) n ≡ h f
set_there h [] n f e = cc
set_there h (g ∷ fs) zero f e = let same : g ≡ f = cc in ap h same
set_there h (g ∷ fs) (suc n) f e = set_there h fs n f e

module _ (w : s.Workload) (fs : List Command) where
  sets_there :
      (h : Command → List Linear) (gs : List Ground) (ns : List ℕ) → HaveForms w fs gs ns →
      map (set_at (map h fs)) ns ≡ map (λ g. h (ground_form w g)) gs
  unfolding meaning_definitions
  sets_there h [] [] e = refl
  sets_there h [] (n ∷ ns) e = absurd e
  sets_there h (g ∷ gs) [] e = absurd e
  sets_there h (g ∷ gs) (n ∷ ns) e = ap₂ ◌∷◌ (set_there h fs n (ground_form w g) e.0) (sets_there h gs ns e.1)

  places_below : (m : ℕ) (gs : List Ground) (ns : List ℕ) → length fs ≡ m → HaveForms w fs gs ns → Each (λ n. n < m) ns
  unfolding meaning_definitions plan_definitions
  places_below m [] [] l e = tt
  places_below m [] (n ∷ ns) l e = absurd e
  places_below m (g ∷ gs) [] l e = absurd e
  places_below m (g ∷ gs) (n ∷ ns) l e = (omega (arith, l, slice_get_within fs n (ground_form w g) e.0), places_below m gs ns l e.1)

abbrev asks : (ℕ → ℤ) → Command → List Linear
asks b f = (followed b f).atoms

-- what the parts of forms ask, where the list of places is lent
module _
    {X : Type 0} (atoms : X → List Linear) (w : s.Workload) (b : ℕ → ℤ) (fs : List Command) (parts : List X) (places ps : List ℕ)
    (forms : AreForms w fs places) (are : map atoms parts ≡ map (asks b) fs) (placed : ps ≡ places)
  where
    pub sets_asked : atoms_of_sets (map (set_at (map atoms parts)) ps) ≡ followed_atoms b (planned w)
    unfolding plan_definitions follow_definitions
    sets_asked =
        ap atoms_of_sets
        (ap (map (set_at (map atoms parts))) placed ∙ ap (λ l. map (set_at l) places) are
        ∙ sets_there w fs (asks b) (grounds w) places forms.placed
        ∙ sym (map-map (λ (g : PlannedCall). (followed b g.command).atoms) (planned_call w) (grounds w)))

    pub places_within : Each (λ n. n < length parts) ps
    places_within =
        let count : length parts ≡ length fs = same_length atoms (asks b) parts fs are in
        subst (λ (ns : List ℕ). Each (λ n. n < length parts) ns) (sym placed)
        (places_below w fs (length parts) (grounds w) places (sym count) forms.placed)

-- ---- small constants
abbrev HasSmallConstant : Linear → Type 0
HasSmallConstant a = IsSmall form_limit a.constant

abbrev HaveSmallConstants : List Linear → Type 0
HaveSmallConstants atoms = Each HasSmallConstant atoms

small_back : (k : ℕ) (atoms : List Linear) → HaveSmallConstants (map (expanded k) atoms) → HaveSmallConstants atoms
unfolding plan_definitions follow_definitions
small_back k [] h = tt
small_back k (a ∷ atoms) h = (h.0, small_back k atoms h.1)

each_made :
    {X Y : Type 0} (P : X → Type 0) (Q : Y → Type 0) (f : X → Y) → ((x : X) → P x → Q (f x)) → (xs : List X) → All P xs → Each Q (map f xs)
unfolding plan_definitions
each_made P Q f give [] all = tt
each_made P Q f give (x ∷ xs) all = (give x (All-head P x xs all), each_made P Q f give xs (All-tail P x xs all))

-- the ground calls are at sites, over whole objects
pub are_planned : (w : s.Workload) → IsAccepted w → Each (λ (g : PlannedCall). (g.site < sites_of w) × IsWhole g.command) (planned w)
unfolding plan_definitions
are_planned w accepted =
    each_made (CanCompile w) (λ (g : PlannedCall). (g.site < sites_of w) × IsWhole g.command) (planned_call w)
    (λ g can. (can.site, ground_whole w g)) (grounds w) (can_compile w accepted)

module _ (w : s.Workload) (base : List ℤ) (accepted : IsAccepted w) (within : IsWithin (schema_of w) base) where
  some : 1 ≤ sites_of w
  unfolding plan_definitions
  some = (sites_few w accepted).some

  numbers_small : (atoms : List Linear) → Each (Numbers (IsSmall form_limit)) atoms → HaveSmallConstants atoms
  numbers_small atoms h = each_map (Numbers (IsSmall form_limit)) HasSmallConstant (λ a n. n.constant) atoms h

  -- of a ground call
  small_call : (g : Ground) → CanCompile w g → HaveSmallConstants (atoms_of (sites_of w) (values_of base) (planned_call w g))
  unfolding plan_definitions
  small_call g can =
      let plan : CanPlan _ base = can_plan w g base accepted can.called.made within can.site in numbers_small _ plan.small.atoms

  -- of the form of a call that some client makes, at whichever site
  at_first : (f : Command) → IsCallForm w f → Ground
  at_first f h = record { transaction = h.call.transaction; args = h.call.args; site = 0 }

  first_below : (f : Command) (h : IsCallForm w f) → (at_first f h).site < sites_of w
  unfolding at_first
  first_below f h = omega (arith, some)

  form_is : (f : Command) (h : IsCallForm w f) → f ≡ ground_form w (at_first f h)
  unfolding meaning_definitions at_first
  form_is f h = h.is

  small_first : (f : Command) (h : IsCallForm w f) → HaveSmallConstants (atoms_of (sites_of w) (values_of base) (planned_call w (at_first f h)))
  unfolding plan_definitions at_first
  small_first f h =
      let plan : CanPlan _ base = can_plan w (at_first f h) base accepted h.made within (first_below f h) in numbers_small _ plan.small.atoms

  small_form : (f : Command) → IsCallForm w f → HaveSmallConstants (asks (values_of base) f)
  unfolding at_first
  small_form f h =
      let g : Ground = at_first f h in
      subst (λ c. HaveSmallConstants (asks (values_of base) c)) (sym (form_is f h))
      (small_back (sites_of w) (asks (values_of base) (ground_form w g))
      (subst HaveSmallConstants (sym (atoms_are w g (values_of base) (first_below f h))) (small_first f h)))

  small_forms : (fs : List Command) → Each (IsCallForm w) fs → Each HaveSmallConstants (map (asks (values_of base)) fs)
  unfolding plan_definitions
  small_forms [] h = tt
  small_forms (f ∷ fs) h = (small_form f h.0, small_forms fs h.1)

  pub small_asked :
      {X : Type 0} (atoms : X → List Linear) (fs : List Command) (parts : List X) → Each (IsCallForm w) fs →
      map atoms parts ≡ map (asks (values_of base)) fs → Each HaveSmallConstants (map atoms parts)
  small_asked atoms fs parts forms are = subst (Each HaveSmallConstants) (sym are) (small_forms fs forms)

  -- ---- the template
  made_by_objects : IsByObjects (sites_of w) (values_of base) (planned w)
  made_by_objects = by_objects (sites_of w) (values_of base) some (planned w) (are_planned w accepted)

  in_order : AreInOrder (template_at w base).freezes
  unfolding plan_definitions
  in_order =
      let mixed : List (List Delta) = map (λ (a : Linear). a.mixed) (atoms_of_sets (map (atoms_of (sites_of w) (values_of base)) (planned w))) in
      in_order_puts (map (needs_of (sites_of w) (values_of base)) (planned w)) (put_all mixed []) (in_order_puts mixed [] none_in_order)

  pub freezes_in_order : (t : Template) → t ≡ template_at w base → AreInOrder t.freezes
  freezes_in_order t is = subst (λ (u : Template). AreInOrder u.freezes) (sym is) in_order

  pub template_is :
      (clauses : List Clause) (freezes : List Delta) (f : FrozenObjects) →
      clauses ≡ map (expanded_clause (sites_of w)) (clauses_from [] (followed_atoms (values_of base) (planned w))) →
      freezes ≡ frozen_from (sites_of w) 0 f.objects.items →
      ((x j : ℕ) → is_frozen_in f x j ≡ is_frozen (values_of base) (planned w) x j) →
      let t : Template = record { clauses = clauses; freezes = freezes } in t ≡ template_at w base
  unfolding plan_definitions
  template_is clauses freezes f are made frozen =
      let one : clauses ≡ (template_at w base).clauses = are ∙ sym made_by_objects.clauses in
      let two : freezes ≡ (template_at w base).freezes =
      made
      ∙ same_deltas (frozen_from (sites_of w) 0 f.objects.items) (template_at w base).freezes (frozen_in_order (sites_of w) 0 f.objects.items)
      in_order
      (λ d.
      has_frozen (sites_of w) d f.objects.items ∙ ap (λ b. nat_lt d.site (sites_of w) && b) (frozen d.object d.site)
      ∙ sym (made_by_objects.freezes d)) in
      λ i. let t : Template = record { clauses = one i; freezes = two i } in t

  pub small_slacks : (t : Template) → t ≡ template_at w base → Each (λ c. IsSmall form_limit c.slack) t.clauses
  unfolding plan_definitions
  small_slacks t is =
      subst (λ (u : Template). Each (λ c. IsSmall form_limit c.slack) u.clauses) (sym is)
      (each_from HasSmallConstant (λ c. IsSmall form_limit c.slack) small-slack []
      (atoms_of_sets (map (atoms_of (sites_of w) (values_of base)) (planned w)))
      (each_of_sets HasSmallConstant (map (atoms_of (sites_of w) (values_of base)) (planned w))
      (subst (Each HaveSmallConstants) (sym (map-map (atoms_of (sites_of w) (values_of base)) (planned_call w) (grounds w)))
      (each_made (CanCompile w) HaveSmallConstants (λ g. atoms_of (sites_of w) (values_of base) (planned_call w g)) small_call (grounds w)
      (can_compile w accepted))))
      tt)

-- ---- what one call more freezes
module _ (b : ℕ → ℤ) (x j : ℕ) where
  abbrev mixes : Linear → Bool
  mixes a = has_object x a.mixed

  abbrev needs : PlannedCall → Bool
  needs g = not (j == g.site) && has_object x (needed b (followed b g.command))

  atoms_push_one : (gs : List PlannedCall) (g : PlannedCall) → followed_atoms b (gs ++ g ∷ []) ≡ followed_atoms b gs ++ (followed b g.command).atoms
  unfolding follow_definitions
  atoms_push_one gs g =
      ap atoms_of_sets (map_push (λ (h : PlannedCall). (followed b h.command).atoms) gs g)
      ∙ atoms_push (map (λ (h : PlannedCall). (followed b h.command).atoms) gs) (followed b g.command).atoms

  frozen_push :
      (gs : List PlannedCall) (g : PlannedCall) → is_frozen b (gs ++ g ∷ []) x j ≡
      ((is_frozen b gs x j || list_any (λ a. has_object x a.mixed) (followed b g.command).atoms) || (not (j == g.site) && has_object x (needed b (followed b g.command))))
  unfolding follow_definitions
  frozen_push gs g =
      ap₂ ◌||◌ (ap (list_any mixes) (atoms_push_one gs g) ∙ list_any-append mixes (followed_atoms b gs) (followed b g.command).atoms)
      (list_any-append needs gs (g ∷ []))
      ∙ regroup (list_any mixes (followed_atoms b gs)) (list_any mixes (followed b g.command).atoms) (list_any needs gs) (needs g)
    where
      regroup : (m n p q : Bool) → ((m || n) || (p || (q || false))) ≡ (((m || p) || n) || q)
      regroup true n p q = refl
      regroup false true true q = refl
      regroup false true false q = refl
      regroup false false true q = refl
      regroup false false false true = refl
      regroup false false false false = refl

names_is : (x : ℕ) (ds : List Delta) → Each IsObject ds → names_object x ds ≡ has_object x ds
unfolding plan_definitions follow_definitions
names_is x [] h = refl
names_is x (d ∷ ds) h = ap₂ ◌||◌ (sym (ap (λ n. (x == d.object) && (0 == n)) h.0 ∙ and_true (x == d.object))) (names_is x ds h.1)
  where
    and_true : (b : Bool) → (b && true) ≡ b
    and_true true = refl
    and_true false = refl

any_names : (x : ℕ) (atoms : List Linear) → Each IsTidy atoms → list_any (λ a. names_object x a.mixed) atoms ≡ list_any (λ a. has_object x a.mixed) atoms
unfolding plan_definitions
any_names x [] h = refl
any_names x (a ∷ atoms) h = ap₂ ◌||◌ (names_is x a.mixed h.0.mixed) (any_names x atoms h.1)

-- as it is planned
abbrev pub call_planned : s.Workload → GroundCall → PlannedCall
call_planned w call = planned_call w (plain_ground call)

module _ (w : s.Workload) (b : ℕ → ℤ) where
  pub none_frozen : (f : FrozenObjects) → ((x j : ℕ) → is_frozen_in f x j ≡ false) → (x j : ℕ) → is_frozen_in f x j ≡ is_frozen b [] x j
  unfolding plan_definitions follow_definitions
  none_frozen f h = λ x j. h x j

  pub frozen_next :
      (calls : List GroundCall) (i : ℕ) (call : GroundCall) → i < length calls → call ≡ get_or calls i call → call.site < sites_of w →
      (before mixed after : FrozenObjects) (asked : List Linear) (needing : List Delta) →
      asked ≡ (followed b (ground_form w (plain_ground call))).atoms → needing ≡ needed b (followed b (ground_form w (plain_ground call))) →
      ((x j : ℕ) → is_frozen_in before x j ≡ is_frozen b (map (call_planned w) (take i calls)) x j) →
      ((x j : ℕ) → is_frozen_in mixed x j ≡ (is_frozen_in before x j || list_any (λ a. names_object x a.mixed) asked)) →
      ((x j : ℕ) → is_frozen_in after x j ≡ (is_frozen_in mixed x j || (not (j == call.site) && names_object x needing))) →
      (x j : ℕ) → is_frozen_in after x j ≡ is_frozen b (map (call_planned w) (take (i + 1) calls)) x j
  unfolding plan_definitions follow_definitions
  frozen_next calls i call within is site before mixed after asked needing asked_is needing_is so_far mix need x j =
      let k : ℕ = sites_of w in
      let g : PlannedCall = call_planned w call in
      let gs : List PlannedCall = map (call_planned w) (take i calls) in
      let tidy : Each IsTidy (followed b g.command).atoms =
      (follows k g.site site b g.command (ground_whole w (plain_ground call)) (base_forms b) (object_forms b) (stands_at_base k g.site site b)).atoms.tidy in
      let objects : Each IsObject (needed b (followed b g.command)) = (objects_needed k b g site (ground_whole w (plain_ground call))).objects in
      need x j
      ∙ ap₂ ◌||◌
      (mix x j ∙ ap₂ ◌||◌ (so_far x j) (ap (list_any (λ (a : Linear). names_object x a.mixed)) asked_is ∙ any_names x (followed b g.command).atoms tidy))
      (ap (λ c. not (j == call.site) && c) (ap (names_object x) needing_is ∙ names_is x (needed b (followed b g.command)) objects))
      ∙ sym (frozen_push b x j gs g)
      ∙ ap (λ l. is_frozen b l x j)
      (sym (map_push (call_planned w) (take i calls) call)
      ∙ ap (map (call_planned w)) (ap (λ y. take i calls ++ y ∷ []) is ∙ sym (take_more calls i call within)))

  pub all_frozen :
      (calls : List GroundCall) (i : ℕ) (f : FrozenObjects) → length calls ≤ i → map plain_ground calls ≡ grounds w →
      ((x j : ℕ) → is_frozen_in f x j ≡ is_frozen b (map (call_planned w) (take i calls)) x j) →
      (x j : ℕ) → is_frozen_in f x j ≡ is_frozen b (planned w) x j
  unfolding plan_definitions
  all_frozen calls i f past are so_far x j =
      so_far x j
      ∙ ap (λ l. is_frozen b l x j)
      (ap (map (call_planned w)) (take_all i calls past) ∙ sym (map-map (planned_call w) plain_ground calls) ∙ ap (map (planned_call w)) are)

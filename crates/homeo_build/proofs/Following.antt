-- What the L forms of ground calls bring to a plan.
use Rattle.std.proofs.Common.{◌≡◌, ℕ, zero, suc, ◌<◌, List, [], ◌∷◌, map, Some, take, length, get_or, ◌≤◌, Bool, true, Vec, ℤ, sym, ap, ◌∙◌, subst, arith}
use Rattle.std.specs.Prelude.{slice_get, slice_index_or}
use Rattle.std.specs.List.{list_all}
use Rattle.std.specs.Ordering.{int_eq}
use Rattle.std.proofs.lemmas.Bool.{and_parts}
use Rattle.std.proofs.lemmas.Int.{ints}
use Rattle.std.proofs.lemmas.List.{take_all, length-map}
use Rattle.std.specs.declared.sync.Arc.{Arc}
use Rattle.std.proofs.lemmas.Simd.{map-map}
use Rattle.homeo_lemmas.proofs.Places.{get_map, one_placed}
use Rattle.homeo_syntax.specs.Low.{Command}
use Rattle.homeo_syntax.specs.LowView.{plain_lcommand}
use Rattle.homeo_syntax.specs.declared.low.LCommand.{LCommand}
use Rattle.homeo_syntax.specs.Source as s
use Rattle.homeo_meaning.specs.Key.{definitions as meaning_definitions}
use Rattle.homeo_meaning.specs.Acceptance.{IsAccepted}
use Rattle.homeo_meaning.specs.Bounds.{IsWithin}
use Rattle.homeo_meaning.specs.CallForm.{ground_form}
use Rattle.homeo_meaning.specs.Forms.{AreForms}
use Rattle.homeo_meaning.specs.Ground.{Ground}
use Rattle.homeo_meaning.specs.Schema.{schema_of}
use Rattle.homeo_meaning.specs.Serial.{values_of}
use Rattle.homeo_meaning.specs.Small.{IsSmall}
use Rattle.homeo_meaning.proofs.Within.{all_within}
use Rattle.homeo_lform.proofs.Wholes.{ground_whole}
use Rattle.homeo_plan.specs.Key.{definitions as plan_definitions}
use Rattle.homeo_plan.specs.Each.{Each}
use Rattle.homeo_plan.specs.Holding.{AtomHolds}
use Rattle.homeo_plan.specs.Limit.{form_limit}
use Rattle.homeo_plan.specs.Linear.{Linear}
use Rattle.homeo_plan.specs.PlanView.{plain_atoms}
use Rattle.homeo_plan.specs.Planned.{sites_of, planned_call}
use Rattle.homeo_plan.specs.Template.{atoms_of}
use Rattle.homeo_plan.proofs.GroundNumbers.{values_small}
use Rattle.homeo_follow.specs.Key.{definitions as follow_definitions}
use Rattle.homeo_follow.specs.Brought.{Brought, brought, plain_part}
use Rattle.homeo_follow.specs.Expanded.{expanded}
use Rattle.homeo_follow.specs.Follow.{own_state, followed}
use Rattle.homeo_follow.specs.Named.{named}
use Rattle.homeo_follow.specs.Rebased.{rebased, gains}
use Rattle.homeo_follow.specs.Steady.{IsSteady}
use Rattle.homeo_follow.specs.declared.part.PlanPart.{PlanPart}
use Rattle.homeo_follow.proofs.PlannedAtoms.{atoms_are_followed}
use Rattle.homeo_follow.proofs.Staying.{parts_stay}
use Rattle.homeo_follow.proofs.Steadying.{part_moves}
use Rattle.homeo_follow.proofs.Unmoved.{parts_rebased}
use Rattle.homeo_follow.proofs.Weighed.{accepted_small}
use Rattle.homeo_build.specs.Key.{definitions}
use Rattle.homeo_build.specs.inner.CallForms.{IsCallForm}
use Rattle.homeo_build.specs.Plan.{AreParts}
use Rattle.homeo_build.specs.inner.Followed.{IsSmallAlong}
use Rattle.homeo_build.specs.inner.Rebased.{IsRebased, AreRebased}
use Rattle.homeo_build.proofs.FormsMade.{placed_map}
use Rattle.homeo_build.proofs.Grown.{same_length, same_place}

-- ---- numbers along forms
each_here : {X Y : Type 0} (P : Y → Type 0) (f : X → Y) (xs : List X) (i : ℕ) (x : X) → Each P (map f xs) → i < length xs → x ≡ get_or xs i x → P (f x)
unfolding plan_definitions
each_here P f [] i x h l p = absurd (omega (arith, l))
each_here P f (z ∷ xs) zero x h l p = subst (λ y. P (f y)) (sym p) h.0
each_here P f (z ∷ xs) (suc i) x h l p = each_here P f xs i x h.1 (omega (arith, l)) p

module _ (w : s.Workload) (base : List ℤ) (accepted : IsAccepted w) (within : IsWithin (schema_of w) base) where
  small_form : (f : Command) → IsCallForm w f → IsSmallAlong (values_of base) f
  small_form f h =
      let r = accepted_small w h.call base accepted h.made within in
      subst (IsSmallAlong (values_of base)) (sym h.is) (record { can = r.0; left = r.1 })

  small_forms : (fs : List Command) → Each (IsCallForm w) fs → Each (IsSmallAlong (values_of base)) fs
  unfolding plan_definitions
  small_forms [] h = tt
  small_forms (f ∷ fs) h = (small_form f h.0, small_forms fs h.1)

  pub small_at :
      (fs : List LCommand) (i : ℕ) (f : LCommand) → Each (IsCallForm w) (map plain_lcommand fs) → i < length fs → f ≡ get_or fs i f →
      IsSmallAlong (values_of base) (plain_lcommand f)
  small_at fs i f made = each_here (IsSmallAlong (values_of base)) plain_lcommand fs i f (small_forms (map plain_lcommand fs) made)

  pub small_base : (x : ℕ) → IsSmall form_limit (values_of base x)
  unfolding meaning_definitions
  small_base x = omega (arith, values_small w accepted (values_of base) (all_within (schema_of w) base within) x)

-- ---- what the form at a place brings
same_placed :
    {X Y Z : Type 0} (f : X → Z) (g : Y → Z) (xs : List X) (ys : List Y) (n : ℕ) (x : X) (y : Y) → map f xs ≡ map g ys → n < length xs →
    x ≡ get_or xs n x → slice_get ys n ≡ Some y → f x ≡ g y
same_placed f g xs ys n x y same l p h =
    one_placed (map f xs) n (f x) (g y) (placed_map f xs n x l p) (ap (λ zs. slice_get zs n) same ∙ get_map g ys n y h)

-- so where the place stands at a number, in a list that is lent
module _
    {X Z : Type 0} (f : X → Z) (h : Command → Z) (fs : List Command) (made : List X) (places ps : List ℕ) (i : ℕ) (are : map f made ≡ map h fs)
    (placed : ps ≡ places) (below : slice_index_or places i 0 < length fs)
  where
    within : slice_index_or places i 0 < length made
    within = omega (arith, below, same_length f h made fs are)

    pub place_within : slice_index_or ps i 0 < length made
    place_within = subst (λ (ns : List ℕ). slice_index_or ns i 0 < length made) (sym placed) within

    pub made_there : (m : X) (c : Command) → m ≡ get_or made (slice_index_or ps i 0) m → slice_get fs (slice_index_or places i 0) ≡ Some c → f m ≡ h c
    made_there m c is at =
        same_placed f h made fs (slice_index_or places i 0) m c are within
        (is ∙ ap (λ (ns : List ℕ). get_or made (slice_index_or ns i 0) m) placed) at

-- ---- parts
-- of a part that is shared
abbrev pub shared_part : {Z : Type 0} → Arc PlanPart Z → Brought
shared_part p = plain_part p.value

abbrev pub shared_atoms : {Z : Type 0} → Arc PlanPart Z → List Linear
shared_atoms p = plain_atoms p.value.atoms

module _ {Z : Type 0} (w : s.Workload) (base : List ℤ) (fs : List Command) (places : List ℕ) (forms : AreForms w fs places) where
  pub brought_each : (parts : List (Arc PlanPart Z)) → AreParts w base parts → map shared_part parts ≡ map (brought (values_of base)) fs
  unfolding definitions
  brought_each parts are = are ∙ ap (map (brought (values_of base))) (sym forms.are)

  pub are_parts : (parts : List (Arc PlanPart Z)) → map shared_part parts ≡ map (brought (values_of base)) fs → AreParts w base parts
  unfolding definitions
  are_parts parts are = are ∙ ap (map (brought (values_of base))) forms.are

pub atoms_each :
    {Z : Type 0} (b : ℕ → ℤ) (fs : List Command) (parts : List (Arc PlanPart Z)) → map shared_part parts ≡ map (brought b) fs →
    map shared_atoms parts ≡ map (λ f. (followed b f).atoms) fs
unfolding follow_definitions
atoms_each b fs parts are =
    sym (map-map (λ (r : Brought). r.atoms) shared_part parts) ∙ ap (map (λ (r : Brought). r.atoms)) are ∙ map-map (λ r. r.atoms) (brought b) fs

-- what an L form brings, made for each one after another
abbrev pub lent_brought : (ℕ → ℤ) → LCommand → Brought
lent_brought b f = brought b (plain_lcommand f)

pub forms_lent :
    (w : s.Workload) (forms lent : List LCommand) (places : List ℕ) → lent ≡ forms → AreForms w (map plain_lcommand forms) places →
    AreForms w (map plain_lcommand lent) places
forms_lent w forms lent places same = subst (λ (l : List LCommand). AreForms w (map plain_lcommand l) places) (sym same)

pub parts_lent :
    {Z : Type 0} (w : s.Workload) (base : List ℤ) (fs : List LCommand) (places : List ℕ) (parts lent : List (Arc PlanPart Z)) →
    AreForms w (map plain_lcommand fs) places → lent ≡ parts → AreParts w base parts →
    map shared_part lent ≡ map (brought (values_of base)) (map plain_lcommand fs)
parts_lent w base fs places parts lent forms same are =
    ap (map shared_part) same ∙ brought_each w base (map plain_lcommand fs) places forms parts are

-- the objects that the forms name, where both lists are lent
pub names_lent :
    {N : Type 0} (forms fs : List LCommand) (names lent : List (Vec ℕ N)) → fs ≡ forms → lent ≡ names →
    map (λ (ns : Vec ℕ N). ns.items) names ≡ map named (map plain_lcommand forms) →
    map (λ (ns : Vec ℕ N). ns.items) lent ≡ map named (map plain_lcommand fs)
names_lent {N = N} forms fs names lent same lent_is are =
    ap (map (λ (ns : Vec ℕ N). ns.items)) lent_is ∙ are ∙ ap (λ (l : List LCommand). map named (map plain_lcommand l)) (sym same)

pub parts_all :
    {Z : Type 0} (w : s.Workload) (base : List ℤ) (fs : List LCommand) (places : List ℕ) (parts : List (Arc PlanPart Z)) (i : ℕ) →
    AreForms w (map plain_lcommand fs) places → length fs ≤ i → map shared_part parts ≡ map (lent_brought (values_of base)) (take i fs) →
    AreParts w base parts
parts_all w base fs places parts i forms past so_far =
    are_parts w base (map plain_lcommand fs) places forms parts
    (so_far ∙ ap (map (lent_brought (values_of base))) (take_all i fs past) ∙ sym (map-map (brought (values_of base)) plain_lcommand fs))

-- what is kept of a part, rebased from one base to another
abbrev pub shared_moved : {Z : Type 0} → List ℤ → List ℤ → Arc PlanPart Z → Brought
shared_moved last base p = rebased (gains (values_of last) (values_of base)) (shared_part p)

-- there are as many as forms, and they are lent
pub all_moved :
    {Z : Type 0} (last base : List ℤ) (fs : List LCommand) (old lent parts : List (Arc PlanPart Z)) (i : ℕ) → lent ≡ old →
    map shared_part lent ≡ map (brought (values_of last)) (map plain_lcommand fs) → length fs ≤ i →
    map shared_part parts ≡ map (shared_moved last base) (take i lent) → AreRebased last base old parts
all_moved last base fs old lent parts i same are past so_far =
    let count = same_length shared_part (brought (values_of last)) lent (map plain_lcommand fs) are in
    let end : length lent ≤ i = omega (arith, count, length-map fs plain_lcommand, past) in
    so_far ∙ ap (map (shared_moved last base)) (take_all i lent end ∙ same)
    ∙ sym (map-map (rebased (gains (values_of last) (values_of base))) shared_part old)

-- the part of the form at a number, and the objects that the form names
module _
    {Z N : Type 0} (b : ℕ → ℤ) (fs : List LCommand) (parts : List (Arc PlanPart Z)) (names : List (Vec ℕ N)) (i : ℕ)
    (are : map shared_part parts ≡ map (brought b) (map plain_lcommand fs))
    (name : map (λ (ns : Vec ℕ N). ns.items) names ≡ map named (map plain_lcommand fs)) (within : i < length fs)
  where
    abbrev lent_names : LCommand → List ℕ
    lent_names f = named (plain_lcommand f)

    parts_here : map shared_part parts ≡ map (lent_brought b) fs
    parts_here = are ∙ map-map (brought b) plain_lcommand fs

    names_here : map (λ (ns : Vec ℕ N). ns.items) names ≡ map lent_names fs
    names_here = name ∙ map-map named plain_lcommand fs

    pub part_within : i < length parts
    part_within = omega (arith, within, same_length shared_part (lent_brought b) parts fs parts_here)

    pub names_within : i < length names
    names_within = omega (arith, within, same_length (λ (ns : Vec ℕ N). ns.items) lent_names names fs names_here)

    pub part_of : (f : LCommand) (p : Arc PlanPart Z) → f ≡ get_or fs i f → p ≡ get_or parts i p → shared_part p ≡ lent_brought b f
    part_of f p f_is p_is = same_place shared_part (lent_brought b) parts fs i p f parts_here within p_is f_is

    pub names_of : (f : LCommand) (ns : Vec ℕ N) → f ≡ get_or fs i f → ns ≡ get_or names i ns → ns.items ≡ named (plain_lcommand f)
    names_of f ns f_is ns_is = same_place (λ (v : Vec ℕ N). v.items) lent_names names fs i ns f names_here within ns_is f_is

-- bases that have one value for each of these objects
abbrev pub same_value : List ℤ → List ℤ → ℕ → Bool
same_value last base x = int_eq (values_of last x) (values_of base x)

pub values_same :
    (last base : List ℤ) (xs : List ℕ) → list_all (same_value last base) xs ≡ true → Each (λ x. values_of last x ≡ values_of base x) xs
unfolding plan_definitions
values_same last base [] h = tt
values_same last base (x ∷ xs) h =
    let both = and_parts (same_value last base x) (list_all (same_value last base) xs) h in
    let here : values_of last x ≡ values_of base x = grind (arith, ints, both.0) in
    (here, values_same last base xs both.1)

-- what is kept of a base, and the objects that the form names; all are lent
module _
    (last from to : List ℤ) (from_is : from ≡ last) (f : Command) (xs : List ℕ) (kept : Brought) (names : xs ≡ named f)
    (is : kept ≡ brought (values_of last) f)
  where
    pub kept_here : kept ≡ brought (values_of from) f
    kept_here = is ∙ ap (λ l. brought (values_of l) f) (sym from_is)

    pub names_agree : list_all (same_value from to) xs ≡ true → Each (λ x. values_of from x ≡ values_of to x) (named f)
    names_agree stays = subst (Each (λ x. values_of from x ≡ values_of to x)) names (values_same from to xs stays)

-- what a form brings at another base is what it brought, and that rebased, where no object that it names has another value
pub kept_same :
    (from to : List ℤ) (f : Command) (kept : Brought) → kept ≡ brought (values_of from) f →
    Each (λ x. values_of from x ≡ values_of to x) (named f) → kept ≡ brought (values_of to) f
kept_same from to f kept is agree = is ∙ parts_stay (values_of from) (values_of to) f agree

pub kept_stays :
    (from to : List ℤ) (f : Command) (kept : Brought) → kept ≡ brought (values_of from) f →
    Each (λ x. values_of from x ≡ values_of to x) (named f) → IsRebased from to kept (brought (values_of to) f)
kept_stays from to f kept is agree =
    parts_rebased (values_of from) (values_of to) f agree ∙ ap (rebased (gains (values_of from) (values_of to))) (sym is)

-- it is what it brought, rebased, where its tests come out as they did
pub kept_moves :
    (from to : List ℤ) (f : Command) (kept : Brought) → kept ≡ brought (values_of from) f → IsSteady f →
    Each (AtomHolds (own_state (gains (values_of from) (values_of to)))) kept.atoms → IsRebased from to kept (brought (values_of to) f)
unfolding follow_definitions
kept_moves from to f kept is steady holds =
    let g = gains (values_of from) (values_of to) in
    part_moves (values_of from) (values_of to) f steady (subst (λ (r : Brought). Each (AtomHolds (own_state g)) r.atoms) is holds)
    ∙ ap (rebased g) (sym is)

-- ---- a ground call
module _ (w : s.Workload) (g : Ground) (b : ℕ → ℤ) (site : g.site < sites_of w) where
  pub atoms_are : map (expanded (sites_of w)) (followed b (ground_form w g)).atoms ≡ atoms_of (sites_of w) b (planned_call w g)
  unfolding plan_definitions
  atoms_are = sym (atoms_are_followed (sites_of w) b (planned_call w g) site (ground_whole w g))

-- Deltas that are put one after another, as the code goes on.
use Rattle.homeo_plan.specs.Key.{definitions}
use Rattle.std.proofs.Common.{◌≡◌, ℕ, ◌+◌, ◌<◌, ◌≤◌, List, [], ◌∷◌, ◌++◌, map, length, take, get_or, refl, sym, ap, ap₂, ◌∙◌}
use Rattle.std.proofs.lemmas.List.{take_all, map_push, map-append}
use Rattle.homeo_plan.specs.declared.forms.Atom.{Atom}
use Rattle.homeo_plan.specs.declared.forms.AtomSet.{AtomSet}
use Rattle.homeo_plan.specs.declared.forms.Delta.{Delta}
use Rattle.homeo_plan.specs.PlanView.{plain_atom, plain_atoms}
use Rattle.homeo_plan.specs.Linear.{Linear, add_delta, add_deltas}
use Rattle.homeo_plan.specs.Template.{Clause, Template, clauses_from, atoms_of_sets, put_all, join_sets}
use Rattle.homeo_template.proofs.Appending.{more, atoms_one_more}

-- ---- one more
pub deltas_push : (ds es : List Delta) (d : Delta) → add_deltas (ds ++ d ∷ []) es ≡ add_delta d (add_deltas ds es)
unfolding definitions
deltas_push [] es d = refl
deltas_push (x ∷ ds) es d = deltas_push ds (add_delta x es) d

put_push : (dss : List (List Delta)) (ds out : List Delta) → put_all (dss ++ ds ∷ []) out ≡ add_deltas ds (put_all dss out)
unfolding definitions
put_push [] ds out = refl
put_push (x ∷ dss) ds out = put_push dss ds (add_deltas x out)

pub put_append : (dss ess : List (List Delta)) (out : List Delta) → put_all (dss ++ ess) out ≡ put_all ess (put_all dss out)
unfolding definitions
put_append [] ess out = refl
put_append (x ∷ dss) ess out = put_append dss ess (add_deltas x out)

-- ---- nothing yet
pub no-deltas : (es : List Delta) → es ≡ add_deltas [] es
unfolding definitions
no-deltas es = refl

pub nothing-put : (out : List Delta) → out ≡ put_all [] out
unfolding definitions
nothing-put out = refl

pub no-mixed : (out : List Delta) → out ≡ put_all (map (λ (a : Linear). a.mixed) (atoms_of_sets [])) out
unfolding definitions
no-mixed out = refl

-- ---- as the code goes on
abbrev mixed : List Linear → List (List Delta)
mixed atoms = map (λ a. a.mixed) atoms

pub mixed_more :
    (atoms : List Atom) (i : ℕ) (a : Atom) → i < length atoms → a ≡ get_or atoms i a → (lent : List Delta) → lent ≡ a.form.mixed.items →
    (start before after : List Delta) → before ≡ put_all (mixed (map plain_atom (take i atoms))) start →
    after ≡ add_deltas lent before → after ≡ put_all (mixed (map plain_atom (take (i + 1) atoms))) start
mixed_more atoms i a h is lent l start before after e put =
    put ∙ ap₂ add_deltas l e
    ∙ sym (put_push (mixed (map plain_atom (take i atoms))) a.form.mixed.items start)
    ∙ ap (λ dss. put_all dss start) (sym (map_push (λ (a : Linear). a.mixed) (map plain_atom (take i atoms)) (plain_atom a)) ∙ ap mixed (more plain_atom atoms i a h is))

pub all_mixed_more :
    (sets : List AtomSet) (i : ℕ) (s : AtomSet) → i < length sets → s ≡ get_or sets i s → (lent : List Atom) → lent ≡ s.atoms.items →
    (start before after : List Delta) → before ≡ put_all (mixed (atoms_of_sets (map plain_atoms (take i sets)))) start →
    after ≡ put_all (mixed (map plain_atom lent)) before →
    after ≡ put_all (mixed (atoms_of_sets (map plain_atoms (take (i + 1) sets)))) start
all_mixed_more sets i s h is lent l start before after e put =
    put ∙ ap₂ (λ atoms ds. put_all (mixed (map plain_atom atoms)) ds) l e
    ∙ sym (put_append (mixed (atoms_of_sets (map plain_atoms (take i sets)))) (mixed (plain_atoms s)) start)
    ∙ ap (λ dss. put_all dss start) (sym (map-append (λ (a : Linear). a.mixed) (atoms_of_sets (map plain_atoms (take i sets))) (plain_atoms s)) ∙ ap mixed (atoms_one_more sets i s h is))

pub needs_more :
    {X : Type 0} (f : X → List Delta) (xs : List X) (i : ℕ) (x : X) → i < length xs → x ≡ get_or xs i x → (lent : List Delta) →
    lent ≡ f x → (start before after : List Delta) → before ≡ put_all (map f (take i xs)) start →
    after ≡ add_deltas lent before → after ≡ put_all (map f (take (i + 1) xs)) start
needs_more f xs i x h is lent l start before after e put =
    put ∙ ap₂ add_deltas l e ∙ sym (put_push (map f (take i xs)) (f x) start) ∙ ap (λ dss. put_all dss start) (more f xs i x h is)

-- at the end of a list
pub all-taken : {X Y : Type 0} (f : List X → Y) (xs : List X) (i : ℕ) (y : Y) → length xs ≤ i → y ≡ f (take i xs) → y ≡ f xs
all-taken f xs i y h e = e ∙ ap f (take_all i xs h)

pub template_of :
    (sets : List (List Linear)) (needed : List (List Delta)) (clauses : List Clause) (freezes : List Delta) →
    clauses ≡ clauses_from [] (atoms_of_sets sets) → freezes ≡ put_all needed (put_all (mixed (atoms_of_sets sets)) []) →
    let t : Template = record { clauses = clauses; freezes = freezes } in t ≡ join_sets sets needed
unfolding definitions
template_of sets needed clauses freezes e f = λ i. let t : Template = record { clauses = e i; freezes = f i } in t

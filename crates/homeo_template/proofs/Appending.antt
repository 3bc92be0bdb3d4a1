-- Atoms and their clauses, one after another.
use Rattle.homeo_plan.specs.Key.{definitions}
use Rattle.std.proofs.Common.{◌≡◌, ℕ, zero, suc, ◌+◌, ◌<◌, List, [], ◌∷◌, ◌++◌, map, length, take, get_or, refl, sym, ap, ap₂, ◌∙◌, subst, arith}
use Rattle.std.proofs.lemmas.List.{append_assoc, append-nil, take_more, map_push}
use Rattle.homeo_plan.specs.declared.forms.Atom.{Atom}
use Rattle.homeo_plan.specs.declared.forms.AtomSet.{AtomSet}
use Rattle.homeo_plan.specs.PlanView.{plain_atom, plain_atoms}
use Rattle.homeo_plan.specs.Each.{Each}
use Rattle.homeo_plan.specs.Linear.{Linear}
use Rattle.homeo_plan.specs.Template.{Clause, with_clause, clauses_from, atoms_of_sets}

-- ---- one more
clauses_push : (cs : List Clause) (atoms : List Linear) (a : Linear) → clauses_from cs (atoms ++ a ∷ []) ≡ with_clause (clauses_from cs atoms) a
unfolding definitions
clauses_push cs [] a = refl
clauses_push cs (x ∷ atoms) a = clauses_push (with_clause cs x) atoms a

pub clauses_append : (cs : List Clause) (atoms bs : List Linear) → clauses_from cs (atoms ++ bs) ≡ clauses_from (clauses_from cs atoms) bs
unfolding definitions
clauses_append cs [] bs = refl
clauses_append cs (x ∷ atoms) bs = clauses_append (with_clause cs x) atoms bs

pub atoms_push : (sets : List (List Linear)) (s : List Linear) → atoms_of_sets (sets ++ s ∷ []) ≡ atoms_of_sets sets ++ s
unfolding definitions
atoms_push [] s = append-nil s
atoms_push (x ∷ sets) s = ap (λ l. x ++ l) (atoms_push sets s) ∙ sym (append_assoc x (atoms_of_sets sets) s)

-- ---- nothing yet
pub no-clauses : (cs : List Clause) → cs ≡ clauses_from cs []
unfolding definitions
no-clauses cs = refl

pub no-sets : [] ≡ clauses_from [] (atoms_of_sets [])
unfolding definitions
no-sets = refl

-- ---- as the code goes on
pub each_at :
    {X Y : Type 0} (f : X → Y) (P : Y → Type 0) (xs : List X) (i : ℕ) (x : X) →
    Each P (map f xs) → i < length xs → x ≡ get_or xs i x → P (f x)
unfolding definitions
each_at f P [] i x all h is = absurd (omega (arith, h))
each_at f P (y ∷ xs) zero x all h is = subst (λ z. P (f z)) (sym is) all.0
each_at f P (y ∷ xs) (suc i) x all h is = each_at f P xs i x all.1 (omega (arith, h)) is

-- one more item, in a list that is mapped
pub more : {X Y : Type 0} (f : X → Y) (xs : List X) (i : ℕ) (x : X) → i < length xs → x ≡ get_or xs i x → map f (take i xs) ++ f x ∷ [] ≡ map f (take (i + 1) xs)
more f xs i x h is =
    sym (map_push f (take i xs) x) ∙ ap (map f) (ap (λ x. take i xs ++ x ∷ []) is ∙ sym (take_more xs i x h))

pub atoms_more :
    (atoms : List Atom) (i : ℕ) (a : Atom) → i < length atoms → a ≡ get_or atoms i a → (start before after : List Clause) →
    before ≡ clauses_from start (map plain_atom (take i atoms)) → after ≡ with_clause before (plain_atom a) →
    after ≡ clauses_from start (map plain_atom (take (i + 1) atoms))
atoms_more atoms i a h is start before after e put =
    put ∙ ap (λ cs. with_clause cs (plain_atom a)) e ∙ sym (clauses_push start (map plain_atom (take i atoms)) (plain_atom a))
    ∙ ap (clauses_from start) (more plain_atom atoms i a h is)

pub atoms_one_more : (sets : List AtomSet) (i : ℕ) (s : AtomSet) → i < length sets → s ≡ get_or sets i s → atoms_of_sets (map plain_atoms (take i sets)) ++ plain_atoms s ≡ atoms_of_sets (map plain_atoms (take (i + 1) sets))
atoms_one_more sets i s h is = sym (atoms_push (map plain_atoms (take i sets)) (plain_atoms s)) ∙ ap atoms_of_sets (more plain_atoms sets i s h is)

pub sets_more :
    (sets : List AtomSet) (i : ℕ) (s : AtomSet) → i < length sets → s ≡ get_or sets i s → (lent : List Atom) → lent ≡ s.atoms.items →
    (before after : List Clause) → before ≡ clauses_from [] (atoms_of_sets (map plain_atoms (take i sets))) →
    after ≡ clauses_from before (map plain_atom lent) → after ≡ clauses_from [] (atoms_of_sets (map plain_atoms (take (i + 1) sets)))
sets_more sets i s h is lent l before after e put =
    put ∙ ap₂ (λ cs atoms. clauses_from cs (map plain_atom atoms)) e l
    ∙ sym (clauses_append [] (atoms_of_sets (map plain_atoms (take i sets))) (plain_atoms s))
    ∙ ap (clauses_from []) (atoms_one_more sets i s h is)

-- The atoms of a formula that holds at a base.
use Rattle.std.proofs.Common.{◌≡◌, List, [], ◌++◌, map, ℤ, cond, true, sym, ap, ◌∙◌, subst}
use Rattle.homeo_syntax.specs.Low as l
use Rattle.homeo_meaning.specs.LowMeaning.{State, holds, whole}
use Rattle.homeo_meaning.specs.Serial.{values_of}
use Rattle.homeo_plan.specs.Atoms.{true_cond}
use Rattle.homeo_plan.specs.Linear.{Linear, Forms, base_forms}
use Rattle.homeo_plan.specs.Each.{Each}
use Rattle.homeo_plan.specs.Holding.{IsOn, AtomHolds}
use Rattle.homeo_plan.specs.PlanView.{plain_atom}
use Rattle.homeo_plan.specs.declared.forms.Atom.{Atom}
use Rattle.homeo_plan.proofs.Atoms.{true_cond_holds}
use Rattle.homeo_follow.specs.Follow.{holds_by, passed, failed}
use Rattle.homeo_follow.proofs.Walked.{holds_at_base, passed_is}
use Rattle.homeo_linear.specs.Kept.{kept_cond}

pub atoms_at_base : (db xs : List ℤ) (fs : Forms) (c : l.Cond) → xs ≡ db → fs ≡ base_forms (values_of xs) → holds c (whole (values_of db)) ≡ true → kept_cond fs c ≡ true_cond (values_of db) c
atoms_at_base db xs fs c p e h =
    let b = values_of db in
    let at : fs ≡ base_forms b = e ∙ ap (λ l. base_forms (values_of l)) p in
    let held : holds_by (base_forms b) c ≡ true = sym (holds_at_base b c) ∙ h in
    ap (λ f. kept_cond f c) at ∙ ap (λ v. cond v (passed (base_forms b) c) (failed (base_forms b) c)) held ∙ sym (passed_is b c)

-- atoms that stand behind none
pub alone : (old new : List Atom) (fs : List Linear) → old ≡ [] → map plain_atom new ≡ map plain_atom old ++ fs → map plain_atom new ≡ fs
alone old new fs p h = h ∙ ap (λ l. map plain_atom l ++ fs) p

-- what the atoms of a whole formula mean
pub atoms_mean :
    (db xs : List ℤ) (fs : Forms) (c : l.Cond) (ys zs : List Atom) → xs ≡ db → fs ≡ base_forms (values_of xs) → holds c (whole (values_of db)) ≡ true →
    map plain_atom ys ≡ kept_cond fs c → zs ≡ ys → (s : State) → IsOn (values_of db) s → Each (AtomHolds s) (map plain_atom zs) → holds c s ≡ true
atoms_mean db xs fs c ys zs p e held h q s on a =
    let b = values_of db in
    let k : map plain_atom zs ≡ true_cond b c = ap (map plain_atom) q ∙ h ∙ atoms_at_base db xs fs c p e held in
    true_cond_holds b s on c held (subst (Each (AtomHolds s)) k a)

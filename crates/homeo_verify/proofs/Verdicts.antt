-- The first fault of a certificate, and what is said of its bytes.
use Rattle.std.proofs.Common.{◌≡◌, ℕ, suc, ◌+◌, ◌<◌, ◌≤◌, Bool, true, false, cond, List, [], ◌∷◌, ◌++◌, map, drop, get_or, length, ℤ, pos, ◌+ℤ◌, refl, sym, ap, ap₂, ◌∙◌, subst, add-one, drop_of_length-le, arith, eqb, ◌&&◌, int_le, int_lt, SFits, to_z, of_z}
use Rattle.std.specs.Int.{w128}
use Rattle.std.specs.Ordering.{int_eq}
use Rattle.std.specs.List.{list_all}
use Rattle.std.proofs.lemmas.Int.{ints, to_z-of_z}
use Rattle.std.proofs.lemmas.Bool.Decides.{same_from_decides, Decides-eqb, Decides-int_eq}
use Rattle.std.proofs.Math.Seq.{drop-cons}
use Rattle.homeo_lemmas.proofs.Lists.{map_drop_past}
use Rattle.homeo_meaning.proofs.Steps.{drop_next}
use Rattle.homeo_plan.specs.Key.{definitions as plan_definitions}
use Rattle.homeo_plan.specs.Config.{Config, total}
use Rattle.homeo_plan.specs.Each.{Each}
use Rattle.homeo_plan.specs.Template.{Clause}
use Rattle.homeo_plan.proofs.Atoms.{append_each}
use Rattle.homeo_certificate.specs.Key.{definitions}
use Rattle.homeo_cert_reader.specs.declared.calls.Call as code
use Rattle.homeo_certificate.specs.declared.fault.Fault.{Fault}
use Rattle.homeo_certificate.specs.declared.fault.Fault.TheVariants.{TooLarge, NotFrozen, NoClause, ForeignWrite}
use Rattle.homeo_verify.specs.declared.stop.Stop.TheVariants as stop
use Rattle.homeo_certificate.specs.declared.verdict.Verdict.{Verdict}
use Rattle.homeo_certificate.specs.declared.verdict.Verdict.TheVariants as verdict
use Rattle.homeo_certificate.specs.Certificate.{Call, Certificate}
use Rattle.homeo_certificate.specs.Followed.{call_faults}
use Rattle.homeo_certificate.specs.Shape.{InShape}
use Rattle.homeo_certificate.specs.Text.{certificate_data, IsJsonOf}
use Rattle.homeo_certificate.specs.Verdict.{fits_slack, misfits, at_call, faults_from, first_of_all, verdict_of, IsOfCertificate, IsVerdictOn}
use Rattle.homeo_cert_reader.specs.CertificateView.{plain_call}
use Rattle.homeo_verify.specs.inner.Stops.{StopsAt}

pub first_of_some : (ms fs : List Verdict) (n : ℕ) → first_of_all ms ≡ verdict.Bounds n → first_of_all (ms ++ fs) ≡ verdict.Bounds n
unfolding definitions
first_of_some [] fs n e = absurd cc
first_of_some (v ∷ ms) fs n e = e

pub first_of_none : (ms fs : List Verdict) → ms ≡ [] → first_of_all (ms ++ fs) ≡ first_of_all fs
first_of_none ms fs e = ap (λ l. first_of_all (l ++ fs)) e

-- ---- a certificate's verdict isn't one on bytes that are none
abbrev OfCertificate : Verdict → Type 0
OfCertificate verdict.Json = ⊥
OfCertificate verdict.Shape = ⊥
OfCertificate v = Unit {0}

misfits_are : (n : ℕ) (cs : List Clause) (bs : Config) → Each OfCertificate (misfits n cs bs)
unfolding definitions plan_definitions
misfits_are n [] bs = tt
misfits_are n (c ∷ cs) [] = tt
misfits_are n (c ∷ cs) (b ∷ bs) = go (fits_slack c b) (misfits_are (suc n) cs bs)
  where
    go : (v : Bool) → Each OfCertificate (misfits (suc n) cs bs) → Each OfCertificate (cond v (misfits (suc n) cs bs) (verdict.Bounds n ∷ []))
    go true h = h
    go false h = (tt, tt)

faults_are : (n : ℕ) (fs : List Fault) → Each OfCertificate (map (at_call n) fs)
unfolding definitions plan_definitions
faults_are n [] = tt
faults_are n (TooLarge ∷ fs) = (tt, faults_are n fs)
faults_are n (NotFrozen d ∷ fs) = (tt, faults_are n fs)
faults_are n (NoClause ∷ fs) = (tt, faults_are n fs)
faults_are n (ForeignWrite ∷ fs) = (tt, faults_are n fs)

all_are : (n : ℕ) (c : Certificate) (gs : List Call) → Each OfCertificate (faults_from n c gs)
unfolding definitions plan_definitions
all_are n c [] = tt
all_are n c (g ∷ gs) = append_each OfCertificate (map (at_call n) (call_faults c g)) (faults_from (suc n) c gs) (faults_are n (call_faults c g)) (all_are (suc n) c gs)

first_is : (vs : List Verdict) → Each OfCertificate vs → OfCertificate (first_of_all vs)
unfolding definitions plan_definitions
first_is [] h = tt
first_is (v ∷ vs) h = h.0

on_bytes : (bytes : List ℕ) (v : Verdict) → OfCertificate v → IsOfCertificate bytes v → IsVerdictOn bytes v
unfolding definitions
on_bytes bytes verdict.Valid o h = h
on_bytes bytes verdict.Json o h = absurd o
on_bytes bytes verdict.Shape o h = absurd o
on_bytes bytes (verdict.Bounds n) o h = h
on_bytes bytes (verdict.Size n) o h = h
on_bytes bytes (verdict.Freeze n d) o h = h
on_bytes bytes (verdict.Clause n) o h = h
on_bytes bytes (verdict.Foreign n) o h = h

pub verdict_on : (bytes : List ℕ) (c : Certificate) (v : Verdict) → InShape c → IsJsonOf bytes (certificate_data c) → v ≡ verdict_of c → IsVerdictOn bytes v
unfolding definitions
verdict_on bytes c v shape json e =
    let ms = misfits 0 c.clauses c.bounds in
    let fs = faults_from 0 c c.calls in
    let o = first_is (ms ++ fs) (append_each OfCertificate ms fs (misfits_are 0 c.clauses c.bounds) (all_are 0 c c.calls)) in
    on_bytes bytes v (subst OfCertificate (sym e) o) (record { certificate = c; shape = shape; json = json; verdict = e })

-- ---- calls that are judged one after another
module _ (c : Certificate) (gs : List code.Call) (i n : ℕ) where
  abbrev pub CallsSoFar : Type 0
  CallsSoFar = faults_from n c (map plain_call (drop i gs)) ≡ faults_from 0 c (map plain_call gs)

  module _ (g : code.Call) (l : i < length gs) (e : g ≡ get_or gs i g) (so : CallsSoFar) where
    split : map (at_call n) (call_faults c (plain_call g)) ++ faults_from (suc n) c (map plain_call (drop (i + 1) gs)) ≡ faults_from 0 c (map plain_call gs)
    unfolding definitions
    split = sym (ap (faults_from n c) (drop_next plain_call gs i g l e)) ∙ so

    pub call_stops : (f : Fault) (v : Verdict) → StopsAt (call_faults c (plain_call g)) (stop.Fault f) → v ≡ at_call n f → v ≡ first_of_all (faults_from 0 c (map plain_call gs))
    unfolding definitions
    call_stops f v h e =
        e ∙ ap (λ fs. first_of_all (map (at_call n) fs ++ faults_from (suc n) c (map plain_call (drop (i + 1) gs)))) (sym h.1) ∙ ap first_of_all split

    pub call_goes_on : (m : ℕ) → m ≡ n + 1 → call_faults c (plain_call g) ≡ [] → faults_from m c (map plain_call (drop (i + 1) gs)) ≡ faults_from 0 c (map plain_call gs)
    call_goes_on m e h =
        let k : m ≡ suc n = e ∙ add-one n in
        ap (λ j. faults_from j c (map plain_call (drop (i + 1) gs))) k
        ∙ ap (λ fs. map (at_call n) fs ++ faults_from (suc n) c (map plain_call (drop (i + 1) gs))) (sym h) ∙ split

  pub calls_end : length gs ≤ i → CallsSoFar → verdict.Valid ≡ first_of_all (faults_from 0 c (map plain_call gs))
  unfolding definitions
  calls_end l so = ap first_of_all (sym (ap (faults_from n c) (map_drop_past plain_call gs i l)) ∙ so)

-- ---- clauses whose bounds are looked at one after another
pub no_misfit_left : (n : ℕ) (cs : List Clause) (bs : Config) → cs ≡ [] → misfits n cs bs ≡ []
unfolding definitions
no_misfit_left n cs bs e = ap (λ l. misfits n l bs) e

pub no_row_left : (n : ℕ) (cs : List Clause) (bs : Config) → bs ≡ [] → misfits n cs bs ≡ []
unfolding definitions
no_row_left n cs bs e = ap (misfits n cs) e ∙ go cs
  where
    go : (cs : List Clause) → misfits n cs [] ≡ []
    go [] = refl
    go (c ∷ cs) = refl

module _ (n : ℕ) (c : Clause) (cs all : List Clause) (b : List ℤ) (bs rows : Config) (clauses : all ≡ c ∷ cs) (bounds : rows ≡ b ∷ bs) where
  here : misfits n all rows ≡ cond (fits_slack c b) (misfits (suc n) cs bs) (verdict.Bounds n ∷ [])
  unfolding definitions
  here = ap₂ (misfits n) clauses bounds

  pub misfit_here : (v : Bool) → v ≡ fits_slack c b → v ≡ false → first_of_all (misfits n all rows) ≡ verdict.Bounds n
  unfolding definitions
  misfit_here v is h = ap first_of_all here ∙ ap (λ w. first_of_all (cond w (misfits (suc n) cs bs) (verdict.Bounds n ∷ []))) (sym is ∙ h)

  pub misfit_further : (v : Bool) → v ≡ fits_slack c b → v ≡ true → (m : ℕ) → m ≡ n + 1 → misfits m cs bs ≡ misfits n all rows
  misfit_further v is h m e =
      let k : m ≡ suc n = e ∙ add-one n in
      ap (λ j. misfits j cs bs) k ∙ sym (here ∙ ap (λ w. cond w (misfits (suc n) cs bs) (verdict.Bounds n ∷ [])) (sym is ∙ h))

-- the sum of the bounds from a place on
pub total_next : (bs : List ℤ) (i : ℕ) (b d : ℤ) → i < length bs → b ≡ get_or bs i d → total (drop i bs) ≡ b +ℤ total (drop (i + 1) bs)
unfolding plan_definitions
total_next bs i b d l e = rw add-one (ap total (drop-cons bs i d l ∙ ap (λ y. y ∷ drop (suc i) bs) (sym e)))

pub total_none : (bs : List ℤ) (i : ℕ) → length bs ≤ i → total (drop i bs) ≡ pos 0
unfolding plan_definitions
total_none bs i l = ap total (drop_of_length-le bs l)

pub none_mapped : {X Y : Type 0} (f : X → Y) (xs : List X) → length xs ≡ 0 → map f xs ≡ []
none_mapped f [] h = refl
none_mapped f (x ∷ xs) h = absurd (omega (arith, h))

-- numbers of 128 bits are the same where their bits are
pub bits_same : (x y : ℤ) → SFits w128 x → SFits w128 y → eqb (of_z w128 x) (of_z w128 y) ≡ int_eq x y
bits_same x y f g =
    same_from_decides (eqb (of_z w128 x) (of_z w128 y)) (int_eq x y) (
      λ h. sym (to_z-of_z w128 x f) ∙ ap (to_z w128) ((Decides-eqb (of_z w128 x) (of_z w128 y)).0 h) ∙ to_z-of_z w128 y g,
      λ e. (Decides-eqb (of_z w128 x) (of_z w128 y)).1 (ap (of_z w128) e),
    ) (Decides-int_eq x y)

natural_if : (z : ℤ) → int_lt z (pos 0) ≡ false → int_le (pos 0) z ≡ true
natural_if z h = grind (arith, ints)

negative_if : (z : ℤ) → int_lt z (pos 0) ≡ true → int_le (pos 0) z ≡ false
negative_if z h = grind (arith, ints)

module _ (bs : List ℤ) (i : ℕ) (l : i < length bs) where
  all_from : list_all (int_le (pos 0)) (drop i bs) ≡ (int_le (pos 0) (get_or bs i (pos 0)) && list_all (int_le (pos 0)) (drop (i + 1) bs))
  all_from = rw add-one (ap (list_all (int_le (pos 0))) (drop-cons bs i (pos 0) l))

  pub natural_next : int_lt (get_or bs i (pos 0)) (pos 0) ≡ false → list_all (int_le (pos 0)) (drop i bs) ≡ list_all (int_le (pos 0)) (drop (i + 1) bs)
  natural_next h = all_from ∙ ap (λ v. v && list_all (int_le (pos 0)) (drop (i + 1) bs)) (natural_if (get_or bs i (pos 0)) h)

  pub natural_stops : int_lt (get_or bs i (pos 0)) (pos 0) ≡ true → list_all (int_le (pos 0)) (drop i bs) ≡ false
  natural_stops h = all_from ∙ ap (λ v. v && list_all (int_le (pos 0)) (drop (i + 1) bs)) (negative_if (get_or bs i (pos 0)) h)

pub natural_none : (bs : List ℤ) (i : ℕ) → length bs ≤ i → list_all (int_le (pos 0)) (drop i bs) ≡ true
natural_none bs i l = ap (list_all (int_le (pos 0))) (drop_of_length-le bs l)

-- Where names are found.
use Rattle.std.proofs.Common.{◌≡◌, ℕ, suc, ◌+◌, ◌<◌, ◌≤◌, ◌==◌, ◌⊎◌, inl, inr, ⊎_elim, Bool, true, false, cond, ℤ, pos, Some, None, List, [], ◌∷◌, map, length, get_or, refl, sym, ap, ◌∙◌, arith}
use Rattle.std.specs.Prelude.{slice_get, option_map}
use Rattle.std.proofs.lemmas.Option.{slice_get_past, slice_get-map, slice_get_read, same_Some}
use Rattle.homeo_syntax.specs.declared.workload.ObjectDecl.{ObjectDecl}
use Rattle.homeo_meaning.specs.Key.{definitions}
use Rattle.homeo_meaning.specs.Schema.{Declared, declared_object}
use Rattle.homeo_meaning.specs.Context.{Spot, spot_from, spot}
use Rattle.homeo_meaning.specs.Declarations.{place_from}
use Rattle.homeo_meaning.proofs.SomeValues.{none_some}

place_cond : (b : Bool) (p q : Spot) → (cond b p q).place ≡ cond b p.place q.place
place_cond true p q = refl
place_cond false p q = refl

abbrev pub spot_with : ℕ → ℤ → ℤ → Spot
spot_with p lo hi = record { place = p; lo = lo; hi = hi }

-- the place of an object by its name
pub object_place : (k n : ℕ) (ds : List ObjectDecl) → place_from k (map (λ d. d.name.name) ds) n ≡ (spot_from k (map declared_object ds) n).place
unfolding definitions
object_place k n [] = refl
object_place k n (d ∷ ds) =
    ap (cond (d.name.name == n) k) (object_place (suc k) n ds) ∙ sym (place_cond (d.name.name == n) (spot_with k d.lo.value d.hi.value) (spot_from (suc k) (map declared_object ds) n))

-- a name that is declared
pub record Found (k n : ℕ) (ds : List Declared) : Type 0 where
  pub step : ℕ
  pub declared : Declared
  pub there : slice_get ds step ≡ Some declared
  pub spot : spot_from k ds n ≡ spot_with (k + step) declared.lo declared.hi

-- a name that is not
pub record Absent (k n : ℕ) (ds : List Declared) : Type 0 where
  pub spot : spot_from k ds n ≡ spot_with (k + length ds) (pos 0) (pos 0)

spot_place : (p q : ℕ) (lo hi : ℤ) → p ≡ q → spot_with p lo hi ≡ spot_with q lo hi
spot_place p q lo hi e = ap (λ k. spot_with k lo hi) e

found_at : (b : Bool) (k n : ℕ) (d : Declared) (ds : List Declared) → (d.name == n) ≡ b → Found (suc k) n ds ⊎ Absent (suc k) n ds → Found k n (d ∷ ds) ⊎ Absent k n (d ∷ ds)
unfolding definitions
found_at true k n d ds e h = inl (record {
  step = 0;
  declared = d;
  there = refl;
  spot = ap (λ b. cond b (spot_with k d.lo d.hi) (spot_from (suc k) ds n)) e ∙ spot_place k (k + 0) d.lo d.hi (omega arith);
})
found_at false k n d ds e h =
    let rest : spot_from k (d ∷ ds) n ≡ spot_from (suc k) ds n = ap (λ b. cond b (spot_with k d.lo d.hi) (spot_from (suc k) ds n)) e in
    ⊎_elim
    (λ f. inl (record { step = suc f.step; declared = f.declared; there = f.there; spot = rest ∙ f.spot ∙ spot_place (suc k + f.step) (k + suc f.step) f.declared.lo f.declared.hi (omega arith) }))
    (λ f. inr (record { spot = rest ∙ f.spot ∙ spot_place (suc k + length ds) (k + suc (length ds)) (pos 0) (pos 0) (omega arith) }))
    h

pub look : (k n : ℕ) (ds : List Declared) → Found k n ds ⊎ Absent k n ds
unfolding definitions
look k n [] = inr (record { spot = spot_place k (k + 0) (pos 0) (pos 0) (omega arith) })
look k n (d ∷ ds) = found_at (d.name == n) k n d ds refl (look (suc k) n ds)

-- what is kept at a place is the declaration's
pub record Kept (ds : List Declared) (n : ℕ) (d : Declared) : Type 0 where
  pub lo : (spot ds n).lo ≡ d.lo
  pub hi : (spot ds n).hi ≡ d.hi

pub kept_some : (ds : List Declared) (n : ℕ) (d : Declared) → slice_get ds (spot ds n).place ≡ Some d → Kept ds n d
unfolding definitions
kept_some ds n d h =
    ⊎_elim
    (λ f.
    let at : slice_get ds (spot ds n).place ≡ Some f.declared = ap (λ s. slice_get ds s.place) f.spot ∙ ap (slice_get ds) (omega arith) ∙ f.there in
    let same : f.declared ≡ d = same_Some _ _ (sym at ∙ h) in
    record { lo = ap (λ s. s.lo) f.spot ∙ ap (λ e. e.lo) same; hi = ap (λ s. s.hi) f.spot ∙ ap (λ e. e.hi) same })
    (λ f. let at : slice_get ds (spot ds n).place ≡ None = ap (λ s. slice_get ds s.place) f.spot ∙ slice_get_past ds (0 + length ds) (omega arith) in absurd (none_some (sym at ∙ h)))
    (look 0 n ds)

pub record Missing (ds : List Declared) (n : ℕ) : Type 0 where
  pub lo : (spot ds n).lo ≡ pos 0
  pub hi : (spot ds n).hi ≡ pos 0

pub kept_none : (ds : List Declared) (n : ℕ) → slice_get ds (spot ds n).place ≡ None → Missing ds n
unfolding definitions
kept_none ds n h =
    ⊎_elim
    (λ f.
    let at : slice_get ds (spot ds n).place ≡ Some f.declared = ap (λ s. slice_get ds s.place) f.spot ∙ ap (slice_get ds) (omega arith) ∙ f.there in
    absurd (none_some (sym h ∙ at)))
    (λ f. record { lo = ap (λ s. s.lo) f.spot; hi = ap (λ s. s.hi) f.spot })
    (look 0 n ds)

-- an object of the code's list
pub object_some : (os : List ObjectDecl) (ds : List Declared) (n i : ℕ) (o : ObjectDecl) → map declared_object os ≡ ds → i ≡ (spot ds n).place → i < length os → o ≡ get_or os i o → Kept ds n (declared_object o)
object_some os ds n i o e f h p =
    kept_some ds n (declared_object o)
    (ap (slice_get ds) (sym f) ∙ ap (λ l. slice_get l i) (sym e) ∙ slice_get-map declared_object os i ∙ ap (option_map declared_object) (slice_get_read os (length os) i o refl h p))

pub object_none : (os : List ObjectDecl) (ds : List Declared) (n i : ℕ) → map declared_object os ≡ ds → i ≡ (spot ds n).place → length os ≤ i → Missing ds n
object_none os ds n i e f h =
    kept_none ds n
    (ap (slice_get ds) (sym f) ∙ ap (λ l. slice_get l i) (sym e) ∙ slice_get-map declared_object os i ∙ ap (option_map declared_object) (slice_get_past os i h))

-- Each call is told, and where there is no fault of sizes, measured, with its L form at its place.
use Rattle.std.proofs.Common.{◌≡◌, All, ℕ, zero, suc, ◌+◌, ◌<◌, min, inl, inr, Bool, true, false, ◌||◌, List, [], ◌∷◌, ◌++◌, map, take, Option, Some, None, length, get_or, refl, sym, ap, subst, ◌∙◌, arith, zero-add, add-zero}
use Rattle.std.specs.Prelude.{nat_lt, IsSome, slice_get, option_map, if◌then◌else◌}
use Rattle.std.specs.List.{sum_by, list_any}
use Rattle.std.proofs.lemmas.List.{map-append, map_push, get_or-map, length-map}
use Rattle.std.proofs.lemmas.List.Sums.{sum_by-append, sum_by-cons}
use Rattle.std.proofs.lemmas.Bool.Decides.{nat_tests}
use Rattle.std.proofs.lemmas.Option.{slice_get-map}
use Rattle.homeo_lemmas.proofs.Bools.{or_true}
use Rattle.homeo_lemmas.proofs.Naturals.{plus_assoc}
use Rattle.homeo_lemmas.proofs.Places.{get_left}
use Rattle.homeo_syntax.specs.Low.{Command}
use Rattle.homeo_syntax.specs.Source as s
use Rattle.homeo_meaning.specs.Key.{definitions as meaning_definitions}
use Rattle.homeo_meaning.specs.Forms.{CallBody, body_of, same_body, with_body, bodies_after, HaveForms, AreForms}
use Rattle.homeo_meaning.specs.Ground.{Ground, ground_of_sited, grounds}
use Rattle.homeo_meaning.specs.NameRules.{when, fault}
use Rattle.homeo_meaning.specs.NumberRules.{ground_calls}
use Rattle.homeo_meaning.specs.TransactionRules.{each, each_from}
use Rattle.homeo_meaning.specs.GlobalNames as g
use Rattle.homeo_meaning.specs.Schema.{nat_of, schema_of}
use Rattle.homeo_meaning.specs.CallForm.{call_form}
use Rattle.homeo_meaning.specs.SizeRules.{extent_of, too_large}
use Rattle.homeo_meaning.proofs.FaultParts.{none_first, none_second}
use Rattle.homeo_meaning.specs.declared.rules.Fault.{Fault}
use Rattle.homeo_meaning.specs.declared.rules.Phase.TheVariants.{Size}
use Rattle.homeo_size.specs.Measured.{IsMeasure}
use Rattle.homeo_ground.specs.Sited.{sited}
use Rattle.homeo_rules.specs.inner.Bodies.{form_to, form_place, IsPut, ArePlaced, ArePut}
use Rattle.homeo_rules.specs.inner.Sizes.{IsNamed, call_of, ground_of_call, told_size, IsToldAfter, IsTold, AreTold, AreKnown, AreMeasured, known}
use Rattle.homeo_ground.specs.declared.sited.SitedCall.{SitedCall}
use Rattle.homeo_rules.specs.declared.rules.bodies.MeasuredBody.{MeasuredBody}
use Rattle.homeo_rules.specs.declared.rules.sizes.MeasuredCall.{MeasuredCall}
use Rattle.homeo_rules.proofs.AlongCalls.{AgreeUpTo, total_known}

pub told_last : (w : s.Workload) (a : ℕ) (ms : List MeasuredCall) (m : MeasuredCall) → AreTold w a ms → (AreKnown ms → IsToldAfter w (a + sum_by (λ (k : MeasuredCall). told_size w (call_of k)) ms) (call_of m) m.body) → AreTold w a (ms ++ m ∷ [])
told_last w a [] m h k = (subst (λ n. IsToldAfter w n (call_of m) m.body) (add-zero a) (k tt), λ z. tt)
told_last w a (n ∷ ms) m h k =
    let size : MeasuredCall → ℕ = λ k. told_size w (call_of k) in
    let sums : a + sum_by size (n ∷ ms) ≡ (a + size n) + sum_by size ms = ap (λ b. a + b) (sum_by-cons size n ms) ∙ plus_assoc a (size n) (sum_by size ms) in
    (h.0, λ z. told_last w (a + size n) ms m (h.1 z) (λ y. subst (λ b. IsToldAfter w b (call_of m) m.body) sums (k (z, y))))

some_fault : (b : Bool) (fs : List Fault) (f : Fault) → fs ≡ f ∷ [] → b ≡ true → when b fs ≡ [] → ⊥
unfolding meaning_definitions
some_fault true fs f e h k = cc
some_fault false fs f e h k = cc

pub record IsKnown (w : s.Workload) (c : g.SitedCall) (o : Option MeasuredBody) : Type 0 where
  pub measured : IsMeasure (schema_of w) (nat_of w.sites.value) (call_form w c) (known o)
  pub some : IsSome o

known_measured : (w : s.Workload) (before : List g.SitedCall) (c : g.SitedCall) (o : Option MeasuredBody) → IsToldAfter w (sum_by (told_size w) before) c o → too_large (extent_of w) before c ≡ [] → IsKnown w c o
unfolding meaning_definitions
known_measured w before c (Some m) h e = record { measured = h; some = refl }
known_measured w before c None (inl h) e =
    let yes : nat_lt 2000000 (sum_by (told_size w) before + told_size w c) ≡ true = grind (arith, nat_tests) in
    absurd (some_fault (nat_lt 200000 (extent_of w c).size || nat_lt 1000 (extent_of w c).depth || nat_lt 2000000 (sum_by (told_size w) before + told_size w c)) (fault Size c.name) _ refl (ap (λ b. nat_lt 200000 (extent_of w c).size || nat_lt 1000 (extent_of w c).depth || b) yes ∙ or_true (nat_lt 200000 (extent_of w c).size || nat_lt 1000 (extent_of w c).depth)) e)
known_measured w before c None (inr h) e =
    let far : 200000 < (extent_of w c).size = h.1 in
    let yes : nat_lt 200000 (extent_of w c).size ≡ true = grind (arith, nat_tests) in
    absurd (some_fault (nat_lt 200000 (extent_of w c).size || nat_lt 1000 (extent_of w c).depth || nat_lt 2000000 (sum_by (told_size w) before + told_size w c)) (fault Size c.name) _ refl (ap (λ b. b || nat_lt 1000 (extent_of w c).depth || nat_lt 2000000 (sum_by (told_size w) before + told_size w c)) yes) e)

pub record AllKnown (w : s.Workload) (ms : List MeasuredCall) : Type 0 where
  pub measured : AreMeasured w ms
  pub some : AreKnown ms

all_known : (w : s.Workload) (before : List g.SitedCall) (ms : List MeasuredCall) → AreTold w (sum_by (told_size w) before) ms → each_from (too_large (extent_of w)) before (map call_of ms) ≡ [] → AllKnown w ms
unfolding meaning_definitions
all_known w before [] h e = record { measured = tt; some = tt }
all_known w before (m ∷ ms) h e =
    let sums : sum_by (told_size w) before + told_size w (call_of m) ≡ sum_by (told_size w) (before ++ call_of m ∷ []) =
    sym (sum_by-append (told_size w) before (call_of m ∷ []) ∙ ap (λ n. sum_by (told_size w) before + n) (zero-add (told_size w (call_of m)))) in
    let here : IsKnown w (call_of m) m.body = known_measured w before (call_of m) m.body h.0 (none_first (too_large (extent_of w) before (call_of m)) (each_from (too_large (extent_of w)) (before ++ call_of m ∷ []) (map call_of ms)) e) in
    let rest : AllKnown w ms = all_known w (before ++ call_of m ∷ []) ms (subst (λ n. AreTold w n ms) sums (h.1 here.some)) (none_second (too_large (extent_of w) before (call_of m)) (each_from (too_large (extent_of w)) (before ++ call_of m ∷ []) (map call_of ms)) e) in
    record { measured = (here.measured, rest.measured); some = (here.some, rest.some) }

pub are_known : (w : s.Workload) (ms : List MeasuredCall) → AreTold w 0 ms → each (too_large (extent_of w)) (map call_of ms) ≡ [] → AllKnown w ms
unfolding meaning_definitions
are_known w ms h e = all_known w [] ms h e

-- ---- the L forms of the calls
bodies_push : (bs : List CallBody) (gs : List Ground) (g : Ground) → bodies_after bs (gs ++ g ∷ []) ≡ with_body (bodies_after bs gs) (body_of g)
unfolding meaning_definitions
bodies_push bs [] g = refl
bodies_push bs (x ∷ gs) g = bodies_push (with_body bs (body_of x)) gs g

stays : (bs : List CallBody) (b x : CallBody) (n : ℕ) → slice_get bs n ≡ Some x → slice_get (with_body bs b) n ≡ Some x
stays bs b x n e = either (list_any (same_body b) bs)
  where
    either : (t : Bool) → slice_get (if t then bs else bs ++ b ∷ []) n ≡ Some x
    either true = e
    either false = get_left bs (b ∷ []) n x e

module _ (w : s.Workload) where
  placed_last : (bs : List CallBody) (ms : List MeasuredCall) (m : MeasuredCall) → ArePlaced w bs ms → slice_get bs (form_place m.body) ≡ Some (body_of (ground_of_call w m)) → ArePlaced w bs (ms ++ m ∷ [])
  placed_last bs [] m h e = (e, tt)
  placed_last bs (n ∷ ms) m h e = (h.0, placed_last bs ms m h.1 e)

  placed_on : (bs : List CallBody) (b : CallBody) (ms : List MeasuredCall) → ArePlaced w bs ms → ArePlaced w (with_body bs b) ms
  placed_on bs b [] h = tt
  placed_on bs b (m ∷ ms) h = (stays bs b (body_of (ground_of_call w m)) (form_place m.body) h.0, placed_on bs b ms h.1)

  put_last : (bs after : List CallBody) (ms : List MeasuredCall) (c : SitedCall) (o : Option MeasuredBody) → ArePut w bs ms → IsSome o → IsPut bs after (body_of (ground_of_sited w (sited c))) o → ArePut w after (ms ++ record { call = c; body = o } ∷ [])
  put_last bs after ms c (Some k) h z put =
      let m : MeasuredCall = record { call = c; body = Some k } in
      let b : CallBody = body_of (ground_of_call w m) in
      record {
        are =
            put.0 ∙ ap (λ l. with_body l b) h.are ∙ sym (bodies_push [] (map (ground_of_call w) ms) (ground_of_call w m))
            ∙ ap (bodies_after []) (sym (map_push (ground_of_call w) ms m));
        placed =
            placed_last after ms m (subst (λ l. ArePlaced w l ms) (sym put.0) (placed_on bs b ms h.placed)) put.1;
      }
  put_last bs after ms c None h z put = cc

  grounds_of : (ms : List MeasuredCall) → map (ground_of_call w) ms ≡ map (ground_of_sited w) (map call_of ms)
  grounds_of [] = refl
  grounds_of (m ∷ ms) = ap (λ l. ground_of_call w m ∷ l) (grounds_of ms)

  module _ (fs : List Command) (bs : List CallBody) (forms : fs ≡ map (form_to w) bs) where
    form_at : (n : ℕ) (b : CallBody) → slice_get bs n ≡ Some b → slice_get fs n ≡ Some (form_to w b)
    form_at n b e = ap (λ l. slice_get l n) forms ∙ slice_get-map (form_to w) bs n ∙ ap (option_map (form_to w)) e

    have_forms : (ms : List MeasuredCall) → ArePlaced w bs ms → HaveForms w fs (map (ground_of_call w) ms) (map (λ c. form_place c.body) ms)
    unfolding meaning_definitions
    have_forms [] h = tt
    have_forms (m ∷ ms) h = (form_at (form_place m.body) (body_of (ground_of_call w m)) h.0, have_forms ms h.1)

    pub forms_made : (ms : List MeasuredCall) → map call_of ms ≡ ground_calls w → ArePut w bs ms → AreForms w fs (map (λ c. form_place c.body) ms)
    unfolding meaning_definitions
    forms_made ms calls put =
        let same : map (ground_of_call w) ms ≡ grounds w = grounds_of ms ∙ ap (map (ground_of_sited w)) calls in
        record {
          are = forms ∙ ap (map (form_to w)) (put.are ∙ ap (bodies_after []) same);
          placed = subst (λ gs. HaveForms w fs gs (map (λ c. form_place c.body) ms)) same (have_forms ms put.placed);
        }

-- ---- measuring one call after another
-- the calls measured so far, how large they are together, and which transactions with arguments they have
pub record MeasuringSo (w : s.Workload) (total : ℕ) (bs : List CallBody) (all : List MeasuredCall) (calls : List SitedCall) (i : ℕ) : Type 0 where
  pub same : map call_of all ≡ map sited (take i calls)
  pub told : AreTold w 0 all
  pub sum : AreKnown all → AgreeUpTo 2000001 total (sum_by (λ (k : MeasuredCall). told_size w (call_of k)) all)
  pub put : AreKnown all → ArePut w bs all

pub measuring_none : (w : s.Workload) (bs : List CallBody) (all : List MeasuredCall) (calls : List SitedCall) → bs ≡ [] → all ≡ [] → MeasuringSo w 0 bs all calls 0
unfolding meaning_definitions
measuring_none w bs all calls b a =
    subst (λ l. MeasuringSo w 0 l all calls 0) (sym b)
    (subst (λ l. MeasuringSo w 0 [] l calls 0) (sym a)
    (record { same = refl; told = tt; sum = λ z. refl; put = λ z. record { are = refl; placed = tt } }))

known_last : (ms : List MeasuredCall) (m : MeasuredCall) → AreKnown (ms ++ m ∷ []) → AreKnown ms × IsSome m.body
known_last [] m h = (tt, h.0)
known_last (n ∷ ms) m h =
    let k = known_last ms m h.1 in
    ((h.0, k.0), k.1)

next_total : (w : s.Workload) (total next before : ℕ) (c : g.SitedCall) (o : Option MeasuredBody) → IsSome o → AgreeUpTo 2000001 total before → IsToldAfter w before c o → next ≡ min 8000001 (total + (known o).size) → AgreeUpTo 2000001 next (before + told_size w c)
unfolding meaning_definitions
next_total w total next before c (Some m) z agree told added = total_known total next before (told_size w c) m.measure.size agree added told.size
next_total w total next before c None z agree told added = cc

one_more_call : (calls : List SitedCall) (i : ℕ) (d : SitedCall) → i < length calls → map sited (take (i + 1) calls) ≡ map sited (take i calls) ++ sited (get_or calls i d) ∷ []
one_more_call [] i d h = absurd (omega arith)
one_more_call (c ∷ calls) zero d h = refl
one_more_call (c ∷ calls) (suc i) d h =
    let next : suc i + 1 ≡ suc (i + 1) = omega arith in
    ap (λ k. map sited (take k (c ∷ calls))) next ∙ ap (λ l. sited c ∷ l) (one_more_call calls i d (omega arith))

pub named_at : (w : s.Workload) (calls : List SitedCall) (i : ℕ) (d : SitedCall) → i < length calls → All (IsNamed w) (map sited calls) → IsNamed w (sited (get_or calls i d))
named_at w calls i d lt h = subst (IsNamed w) (get_or-map sited calls i d (sited d) lt) (h i (sited d) (omega (arith, length-map calls sited, lt)))

pub measuring_step : (w : s.Workload) (total next : ℕ) (bs after : List CallBody) (all more : List MeasuredCall) (calls : List SitedCall) (i : ℕ) (d : SitedCall) (o : Option MeasuredBody) → i < length calls → MeasuringSo w total bs all calls i → IsTold w total (sited (get_or calls i d)) o → IsPut bs after (body_of (ground_of_sited w (sited (get_or calls i d)))) o → next ≡ min 8000001 (total + (known o).size) → more ≡ all ++ record { call = get_or calls i d; body = o } ∷ [] → MeasuringSo w next after more calls (i + 1)
measuring_step w total next bs after all more calls i d o lt so told put added is =
    let c : SitedCall = get_or calls i d in
    let size : MeasuredCall → ℕ = λ k. told_size w (call_of k) in
    let here : AreKnown all → IsToldAfter w (sum_by size all) (sited c) o = λ z. told (sum_by size all) (so.sum z) in
    let new : MeasuredCall = record { call = c; body = o } in
    let grown : sum_by size more ≡ sum_by size all + told_size w (sited c) =
    ap (sum_by size) is ∙ sum_by-append size all (new ∷ []) ∙ ap (λ n. sum_by size all + n) (zero-add (told_size w (sited c))) in
    let all_and_one : AreKnown more → AreKnown all × IsSome o = λ z. known_last all new (subst AreKnown is z) in
    record {
      same = ap (map call_of) is ∙ map-append call_of all (new ∷ []) ∙ ap (λ l. l ++ sited c ∷ []) so.same ∙ sym (one_more_call calls i d lt);
      told = subst (AreTold w 0) (sym is) (told_last w 0 all new so.told (λ z. subst (λ n. IsToldAfter w n (sited c) o) (sym (zero-add (sum_by size all))) (here z)));
      sum = λ z. let k = all_and_one z in next_total w total next (sum_by size all) (sited c) o k.1 (so.sum k.0) (here k.0) added ∙ ap (min 2000001) (sym grown);
      put = λ z. let k = all_and_one z in subst (ArePut w after) (sym is) (put_last w bs after all c o (so.put k.0) k.1 put);
    }

-- The L forms of ground calls, made once for each transaction with arguments.
use Rattle.std.proofs.Common.{◌≡◌, All, ℕ, zero, suc, ◌+◌, ◌<◌, ◌≤◌, Bool, true, false, ◌&&◌, ◌==◌, List, [], ◌∷◌, ◌++◌, map, take, Some, length, get_or, refl, sym, ap, ap₂, subst, ◌∙◌, arith}
use Rattle.std.specs.Prelude.{slice_get, slice_index_or, not, ◌||◌, if◌then◌else◌}
use Rattle.std.specs.Ordering.{int_eq}
use Rattle.std.specs.List.{list_any}
use Rattle.std.specs.Cmp.Lexicographic.{pointwise}
use Rattle.std.proofs.lemmas.List.{map_push, take_more, take_all, length-map}
use Rattle.std.proofs.lemmas.List.Elements.{All-head, All-tail}
use Rattle.std.proofs.lemmas.Option.{slice_get_within}
use Rattle.homeo_lemmas.proofs.Bools.{and_first, and_second}
use Rattle.homeo_lemmas.proofs.Lists.{numbers_same}
use Rattle.homeo_lemmas.proofs.Naturals.{nat_is}
use Rattle.homeo_lemmas.proofs.Places.{get_left}
use Rattle.homeo_syntax.specs.Low.{Command}
use Rattle.homeo_syntax.specs.LowView.{plain_lcommand}
use Rattle.homeo_syntax.specs.Source as s
use Rattle.homeo_syntax.specs.declared.low.LCommand.{LCommand}
use Rattle.homeo_meaning.specs.Key.{definitions as meaning_definitions}
use Rattle.homeo_meaning.specs.Acceptance.{IsAccepted}
use Rattle.homeo_meaning.specs.CallForm.{body_form, ground_form}
use Rattle.homeo_meaning.specs.Forms.{CallBody, body_of, body_ground, with_body, bodies_after, call_forms, HaveForms, AreForms}
use Rattle.homeo_meaning.specs.Forms.{same_body as same_call_body}
use Rattle.homeo_meaning.specs.Calls.{IsGroundCall}
use Rattle.homeo_meaning.specs.Ground.{Ground, plain_ground, grounds}
use Rattle.homeo_meaning.specs.declared.call.GroundCall.{GroundCall}
use Rattle.homeo_ground.specs.Grounding.{IsCalled}
use Rattle.homeo_ground.proofs.Called.{are_called}
use Rattle.homeo_plan.specs.Key.{definitions as plan_definitions}
use Rattle.homeo_plan.specs.Each.{Each}
use Rattle.homeo_build.specs.inner.CallForms.{IsCallForm}
use Rattle.homeo_build.specs.inner.Bodies.{call_body, ground_to, HaveBodies, StayPlaced}
use Rattle.homeo_build.specs.declared.forms.Body.{Body}

-- ---- what stands at a place
pub placed_map : {X Y : Type 0} (f : X → Y) (xs : List X) (n : ℕ) (x : X) → n < length xs → x ≡ get_or xs n x → slice_get (map f xs) n ≡ Some (f x)
placed_map f [] n x l p = absurd (omega (arith, l))
placed_map f (z ∷ xs) zero x l p = ap (λ y. Some (f y)) (sym p)
placed_map f (z ∷ xs) (suc n) x l p = placed_map f xs n x (omega (arith, l)) p

-- the form whose place stands at a number, where both lists are lent
module _
    (forms fs : List LCommand) (places ps : List ℕ) (n : ℕ) (lent : fs ≡ forms) (placed : ps ≡ places)
    (below : slice_index_or places n 0 < length forms)
  where
    pub form_below : slice_index_or ps n 0 < length fs
    form_below =
        subst (λ (l : List LCommand). slice_index_or ps n 0 < length l) (sym lent)
        (subst (λ (ns : List ℕ). slice_index_or ns n 0 < length forms) (sym placed) below)

    pub form_found : (x : LCommand) → x ≡ get_or fs (slice_index_or ps n 0) x → slice_get (map plain_lcommand forms) (slice_index_or places n 0) ≡ Some (plain_lcommand x)
    form_found x is =
        placed_map plain_lcommand forms (slice_index_or places n 0) x below
        (is ∙ ap₂ (λ (l : List LCommand) (ns : List ℕ). get_or l (slice_index_or ns n 0) x) lent placed)

pub stay_pushed : (old new : List LCommand) (f : LCommand) → new ≡ old ++ f ∷ [] → StayPlaced (map plain_lcommand old) (map plain_lcommand new)
stay_pushed old new f p =
    λ n g h. subst (λ l. slice_get l n ≡ Some g) (sym (ap (map plain_lcommand) p ∙ map_push plain_lcommand old f))
    (get_left (map plain_lcommand old) (plain_lcommand f ∷ []) n g h)

-- ---- bodies that the code finds equal
-- the test of two bodies in the code
abbrev pub same_body : Body → Body → Bool
same_body a b = (a.transaction == b.transaction) && pointwise int_eq a.args.items b.args.items

-- ---- bodies with their forms
bodies_end : (w : s.Workload) (bs : List Body) (fs : List Command) (b : Body) (f : Command) → HaveBodies w bs fs → f ≡ ground_form w (ground_to b) → HaveBodies w (bs ++ b ∷ []) (fs ++ f ∷ [])
bodies_end w [] [] b f h m = (m, tt)
bodies_end w [] (g ∷ fs) b f h m = absurd h
bodies_end w (a ∷ bs) [] b f h m = absurd h
bodies_end w (a ∷ bs) (g ∷ fs) b f h m = (h.0, bodies_end w bs fs b f h.1 m)

form_at : (w : s.Workload) (bs : List Body) (fs : List Command) (j : ℕ) (b : Body) → HaveBodies w bs fs → slice_get bs j ≡ Some b → slice_get fs j ≡ Some (ground_form w (ground_to b))
form_at w [] [] j b h e = cc
form_at w [] (f ∷ fs) j b h e = absurd h
form_at w (a ∷ bs) [] j b h e = absurd h
form_at w (a ∷ bs) (f ∷ fs) zero b h e =
    let same : a ≡ b = cc in
    ap Some (h.0 ∙ ap (λ x. ground_form w (ground_to x)) same)
form_at w (a ∷ bs) (f ∷ fs) (suc j) b h e = form_at w bs fs j b h.1 e

body_alike : (w : s.Workload) (b k : Body) → b.transaction ≡ k.transaction → b.args.items ≡ k.args.items → ground_form w (ground_to b) ≡ ground_form w (ground_to k)
unfolding meaning_definitions
body_alike w b k p q = ap₂ (λ n xs. body_form w (slice_get w.transactions n) xs) p q

-- ---- a body that is put to those before it
module _ (w : s.Workload) (g : Ground) (b : Body) (transaction : b.transaction ≡ g.transaction) (args : b.args.items ≡ g.args) where
  alike : ground_form w (ground_to b) ≡ ground_form w g
  unfolding meaning_definitions
  alike = ap₂ (λ n xs. body_form w (slice_get w.transactions n) xs) transaction args

  pub put_new :
      (bs found : List Body) (old new : List LCommand) (f : LCommand) (there : Bool) → found ≡ (if there then bs else bs ++ b ∷ []) →
      not there ≡ true → new ≡ old ++ f ∷ [] → HaveBodies w bs (map plain_lcommand old) →
      plain_lcommand f ≡ ground_form w g → HaveBodies w found (map plain_lcommand new)
  put_new bs found old new f true e n m h is = cc
  put_new bs found old new f false e n m h is =
      let here : plain_lcommand f ≡ ground_form w (ground_to b) = is ∙ sym alike in
      let forms : map plain_lcommand new ≡ map plain_lcommand old ++ plain_lcommand f ∷ [] = ap (map plain_lcommand) m ∙ map_push plain_lcommand old f in
      subst (λ l. HaveBodies w l (map plain_lcommand new)) (sym e)
      (subst (HaveBodies w (bs ++ b ∷ [])) (sym forms) (bodies_end w bs (map plain_lcommand old) b (plain_lcommand f) h here))

  pub put_old : (bs found : List Body) (fs : List Command) (there : Bool) → found ≡ (if there then bs else bs ++ b ∷ []) → not there ≡ false → HaveBodies w bs fs → HaveBodies w found fs
  put_old bs found fs true e n h = subst (λ l. HaveBodies w l fs) (sym e) h
  put_old bs found fs false e n h = cc

  pub found_form : (found : List Body) (fs : List Command) (j : ℕ) (k : Body) → HaveBodies w found fs → slice_get found j ≡ Some k → same_body b k ≡ true → slice_get fs j ≡ Some (ground_form w g)
  found_form found fs j k h at same =
      let names : b.transaction ≡ k.transaction = nat_is b.transaction k.transaction (and_first (b.transaction == k.transaction) (pointwise int_eq b.args.items k.args.items) same) in
      let values : b.args.items ≡ k.args.items = numbers_same b.args.items k.args.items (and_second (b.transaction == k.transaction) (pointwise int_eq b.args.items k.args.items) same) in
      form_at w found fs j k h at ∙ ap Some (sym (body_alike w b k names values) ∙ alike)

-- ---- which bodies these are
calls_more :
    (calls : List GroundCall) (i : ℕ) (call : GroundCall) → i < length calls → call ≡ get_or calls i call →
    map plain_ground (take (i + 1) calls) ≡ map plain_ground (take i calls) ++ plain_ground call ∷ []
calls_more calls i call within is =
    ap (map plain_ground) (take_more calls i call within ∙ ap (λ c. take i calls ++ c ∷ []) (sym is)) ∙ map_push plain_ground (take i calls) call

-- each form is that of its body
forms_are : (w : s.Workload) (bs : List Body) (fs : List Command) → HaveBodies w bs fs → fs ≡ map (λ b. ground_form w (body_ground b)) (map call_body bs)
forms_are w [] [] h = refl
forms_are w [] (f ∷ fs) h = absurd h
forms_are w (b ∷ bs) [] h = absurd h
forms_are w (b ∷ bs) (f ∷ fs) h = ap₂ (λ x l. x ∷ l) h.0 (forms_are w bs fs h.1)

any_body : (b : Body) (bs : List Body) → list_any (same_body b) bs ≡ list_any (same_call_body (call_body b)) (map call_body bs)
any_body b [] = refl
any_body b (k ∷ bs) = ap (λ t. same_body b k || t) (any_body b bs)

-- a body that is put stands behind the others, unless it is there
pub keys_put :
    (g : Ground) (b : Body) (bs found : List Body) → b.transaction ≡ g.transaction → b.args.items ≡ g.args →
    found ≡ (if list_any (same_body b) bs then bs else bs ++ b ∷ []) → map call_body found ≡ with_body (map call_body bs) (body_of g)
keys_put g b bs found transaction args put =
    let here : call_body b ≡ body_of g = λ i. record { transaction = transaction i; args = args i } in
    ap (map call_body) put ∙ either (list_any (same_body b) bs)
    ∙ ap (λ t. if t then map call_body bs else map call_body bs ++ call_body b ∷ []) (any_body b bs) ∙ ap (with_body (map call_body bs)) here
  where
    either : (t : Bool) → map call_body (if t then bs else bs ++ b ∷ []) ≡ (if t then map call_body bs else map call_body bs ++ call_body b ∷ [])
    either true = refl
    either false = map_push call_body bs b

bodies_push : (bs : List CallBody) (gs : List Ground) (g : Ground) → bodies_after bs (gs ++ g ∷ []) ≡ with_body (bodies_after bs gs) (body_of g)
unfolding meaning_definitions
bodies_push bs [] g = refl
bodies_push bs (x ∷ gs) g = bodies_push (with_body bs (body_of x)) gs g

pub keys_none : (keys : List Body) → keys ≡ [] → map call_body keys ≡ bodies_after [] []
unfolding meaning_definitions
keys_none keys p = ap (map call_body) p

-- one call more
pub keys_next :
    (calls : List GroundCall) (i : ℕ) (call : GroundCall) (old new : List Body) → i < length calls → call ≡ get_or calls i call →
    map call_body new ≡ with_body (map call_body old) (body_of (plain_ground call)) →
    map call_body old ≡ bodies_after [] (map plain_ground (take i calls)) → map call_body new ≡ bodies_after [] (map plain_ground (take (i + 1) calls))
keys_next calls i call old new within is put h =
    put ∙ ap (λ bs. with_body bs (body_of (plain_ground call))) h ∙ sym (bodies_push [] (map plain_ground (take i calls)) (plain_ground call))
    ∙ ap (bodies_after []) (sym (calls_more calls i call within is))

-- all calls
pub forms_all :
    (w : s.Workload) (bs : List Body) (fs : List Command) (calls : List GroundCall) (i : ℕ) → length calls ≤ i → map plain_ground calls ≡ grounds w →
    HaveBodies w bs fs → map call_body bs ≡ bodies_after [] (map plain_ground (take i calls)) → fs ≡ call_forms w
unfolding meaning_definitions
forms_all w bs fs calls i past are h keys =
    forms_are w bs fs h
    ∙ ap (map (λ b. ground_form w (body_ground b))) (keys ∙ ap (bodies_after []) (ap (map plain_ground) (take_all i calls past) ∙ are))

-- ---- ground calls with the places of their forms
have_more : (w : s.Workload) (fs more : List Command) (gs : List Ground) (ns : List ℕ) → StayPlaced fs more → HaveForms w fs gs ns → HaveForms w more gs ns
unfolding meaning_definitions
have_more w fs more [] [] t h = tt
have_more w fs more [] (n ∷ ns) t h = absurd h
have_more w fs more (g ∷ gs) [] t h = absurd h
have_more w fs more (g ∷ gs) (n ∷ ns) t h = (t n (ground_form w g) h.0, have_more w fs more gs ns t h.1)

have_end : (w : s.Workload) (fs : List Command) (gs : List Ground) (ns : List ℕ) (g : Ground) (n : ℕ) → HaveForms w fs gs ns → slice_get fs n ≡ Some (ground_form w g) → HaveForms w fs (gs ++ g ∷ []) (ns ++ n ∷ [])
unfolding meaning_definitions
have_end w fs [] [] g n h e = (e, tt)
have_end w fs [] (m ∷ ns) g n h e = absurd h
have_end w fs (f ∷ gs) [] g n h e = absurd h
have_end w fs (f ∷ gs) (m ∷ ns) g n h e = (h.0, have_end w fs gs ns g n h.1 e)

pub have_none : (w : s.Workload) (fs : List Command) (ns : List ℕ) → ns ≡ [] → HaveForms w fs [] ns
unfolding meaning_definitions
have_none w fs ns p = subst (HaveForms w fs []) (sym p) tt

-- one call more
pub have_next :
    (w : s.Workload) (fs more : List Command) (calls : List GroundCall) (i : ℕ) (call : GroundCall) (ns all : List ℕ) (n : ℕ) → i < length calls →
    call ≡ get_or calls i call → all ≡ ns ++ n ∷ [] → StayPlaced fs more → HaveForms w fs (map plain_ground (take i calls)) ns →
    slice_get more n ≡ Some (ground_form w (plain_ground call)) → HaveForms w more (map plain_ground (take (i + 1) calls)) all
have_next w fs more calls i call ns all n within is pushed stay h e =
    subst (λ l. HaveForms w more l all) (sym (calls_more calls i call within is))
    (subst (HaveForms w more (map plain_ground (take i calls) ++ plain_ground call ∷ [])) (sym pushed)
    (have_end w more (map plain_ground (take i calls)) ns (plain_ground call) n (have_more w fs more (map plain_ground (take i calls)) ns stay h) e))

-- all calls
pub have_all :
    (w : s.Workload) (fs : List Command) (calls : List GroundCall) (i : ℕ) (ns : List ℕ) → length calls ≤ i → map plain_ground calls ≡ grounds w →
    HaveForms w fs (map plain_ground (take i calls)) ns → HaveForms w fs (grounds w) ns
have_all w fs calls i ns past are h =
    subst (λ l. HaveForms w fs l ns) (ap (map plain_ground) (take_all i calls past) ∙ are) h

have_count : (w : s.Workload) (fs : List Command) (gs : List Ground) (ns : List ℕ) → HaveForms w fs gs ns → length gs ≡ length ns
unfolding meaning_definitions
have_count w fs [] [] h = refl
have_count w fs [] (n ∷ ns) h = absurd h
have_count w fs (g ∷ gs) [] h = absurd h
have_count w fs (g ∷ gs) (n ∷ ns) h = ap suc (have_count w fs gs ns h.1)

have_at : (w : s.Workload) (fs : List Command) (gs : List Ground) (ns : List ℕ) (i : ℕ) (g : Ground) → HaveForms w fs gs ns → i < length gs → slice_get fs (slice_index_or ns i 0) ≡ Some (ground_form w (get_or gs i g))
unfolding meaning_definitions
have_at w fs [] ns i g h l = absurd (omega (arith, l))
have_at w fs (f ∷ gs) [] i g h l = absurd h
have_at w fs (f ∷ gs) (n ∷ ns) zero g h l = h.0
have_at w fs (f ∷ gs) (n ∷ ns) (suc i) g h l = have_at w fs gs ns i g h.1 (omega (arith, l))

-- the place of a ground call's form, and the form there
pub record FormHere (w : s.Workload) (fs : List Command) (ns : List ℕ) (i : ℕ) (g : Ground) : Type 0 where
  pub within : i < length ns
  pub below : slice_index_or ns i 0 < length fs
  pub at : slice_get fs (slice_index_or ns i 0) ≡ Some (ground_form w g)

-- the form of a ground call by its number
pub form_of_ground :
    (w : s.Workload) (fs : List Command) (ns : List ℕ) (i : ℕ) (g : Ground) → AreForms w fs ns → i < length (grounds w) →
    FormHere w fs ns i (get_or (grounds w) i g)
form_of_ground w fs ns i g forms within =
    let at = have_at w fs (grounds w) ns i g forms.placed within in
    record {
      within = omega (arith, have_count w fs (grounds w) ns forms.placed, within);
      below = slice_get_within fs (slice_index_or ns i 0) (ground_form w (get_or (grounds w) i g)) at;
      at = at;
    }

pub form_here :
    (w : s.Workload) (fs : List Command) (ns : List ℕ) (calls : List GroundCall) (i : ℕ) (call : GroundCall) → AreForms w fs ns →
    map plain_ground calls ≡ grounds w → i < length calls → call ≡ get_or calls i call → FormHere w fs ns i (plain_ground call)
form_here w fs ns calls i call forms are within is =
    let h : HaveForms w fs (map plain_ground calls) ns = subst (λ l. HaveForms w fs l ns) (sym are) forms.placed in
    let here : i < length (map plain_ground calls) = omega (arith, length-map calls plain_ground, within) in
    let ground : get_or (map plain_ground calls) i (plain_ground call) ≡ plain_ground call = mapped calls i call within is in
    let at : slice_get fs (slice_index_or ns i 0) ≡ Some (ground_form w (plain_ground call)) =
    have_at w fs (map plain_ground calls) ns i (plain_ground call) h here ∙ ap (λ x. Some (ground_form w x)) ground in
    record {
      within = omega (arith, have_count w fs (map plain_ground calls) ns h, here);
      below = slice_get_within fs (slice_index_or ns i 0) (ground_form w (plain_ground call)) at;
      at = at;
    }
  where
    mapped : (xs : List GroundCall) (j : ℕ) (x : GroundCall) → j < length xs → x ≡ get_or xs j x → get_or (map plain_ground xs) j (plain_ground x) ≡ plain_ground x
    mapped [] j x l p = refl
    mapped (z ∷ xs) zero x l p = ap plain_ground (sym p)
    mapped (z ∷ xs) (suc j) x l p = mapped xs j x (omega (arith, l)) p

-- ---- each is of a ground call that some client makes
module _ (w : s.Workload) where
  abbrev IsMade : CallBody → Type 0
  IsMade b = IsGroundCall w b.transaction b.args

  with_made : (bs : List CallBody) (b : CallBody) → Each IsMade bs → IsMade b → Each IsMade (with_body bs b)
  unfolding plan_definitions
  with_made bs b h m = either (list_any (same_call_body b) bs)
    where
      pushed : (l : List CallBody) → Each IsMade l → Each IsMade (l ++ b ∷ [])
      pushed [] k = (m, tt)
      pushed (x ∷ l) k = (k.0, pushed l k.1)

      either : (t : Bool) → Each IsMade (if t then bs else bs ++ b ∷ [])
      either true = h
      either false = pushed bs h

  all_made : (bs : List CallBody) (gs : List Ground) → All (IsCalled w) gs → Each IsMade bs → Each IsMade (bodies_after bs gs)
  unfolding meaning_definitions
  all_made bs [] called h = h
  all_made bs (g ∷ gs) called h =
      all_made (with_body bs (body_of g)) gs (All-tail (IsCalled w) g gs called) (with_made bs (body_of g) h (All-head (IsCalled w) g gs called).made)

  form_each : (bs : List CallBody) → Each IsMade bs → Each (IsCallForm w) (map (λ b. ground_form w (body_ground b)) bs)
  unfolding plan_definitions
  form_each [] h = tt
  form_each (b ∷ bs) h = (record { call = body_ground b; made = h.0; is = refl }, form_each bs h.1)

  none_made : Each IsMade []
  unfolding plan_definitions
  none_made = tt

  pub made_each : (fs : List Command) (places : List ℕ) → IsAccepted w → AreForms w fs places → Each (IsCallForm w) fs
  unfolding meaning_definitions
  made_each fs places accepted forms =
      subst (Each (IsCallForm w)) (sym forms.are) (form_each (bodies_after [] (grounds w)) (all_made [] (grounds w) (are_called w accepted) none_made))

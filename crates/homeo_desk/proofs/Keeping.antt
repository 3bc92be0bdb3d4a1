-- What a desk keeps goes on with its node.
use Rattle.std.proofs.Common.{◌≡◌, ℕ, zero, suc, ◌+◌, List, [], ◌∷◌, ◌++◌, map, length, take, drop, replicate, Option, Some, None, refl, sym, ap, subst, ◌∙◌, append_assoc, ⊎_elim, arith, slice_set, length-append, Result, Ok, Err}
use Rattle.std.specs.Prelude.{slice_get, All, OnOk, ◌≤◌}
use Rattle.std.specs.Result.{result_and}
use Rattle.std.proofs.lemmas.Result.{on_ok_weaker}
use Rattle.std.specs.List.{filter_map}
use Rattle.std.proofs.Math.Seq.{take-append_seam, drop-append_seam}
use Rattle.std.proofs.lemmas.List.{drop-map, length-map, map-append}
use Rattle.std.proofs.lemmas.List.Elements.{All-cons, All-nil}
use Rattle.std.proofs.lemmas.Simd.{map-map}
use Rattle.homeo_lemmas.proofs.Places.{get_left, get_map, All-get, get_replicate}
use Rattle.homeo_syntax.specs.Listed.{Listed}
use Rattle.homeo_syntax.specs.declared.list.Memory.{Memory}
use Rattle.homeo_syntax.specs.Source as s
use Rattle.homeo_syntax.specs.SourceView.{plain_workload}
use Rattle.homeo_syntax.specs.declared.workload.Workload.{Workload}
use Rattle.homeo_meaning.specs.declared.call.CallId.{CallId}
use Rattle.homeo_history.specs.Answers as h
use Rattle.homeo_history.specs.HistoryView.{plain_answer}
use Rattle.homeo_history.specs.declared.answer.Answer as memory
use Rattle.homeo_history.specs.Legal.{IsCallAt}
use Rattle.homeo_history.proofs.Lists.{set_cases, length_set, all_from_get}
use Rattle.homeo_nodes.proofs.Places.{length_replicate}
use Rattle.homeo_desk.specs.declared.output.Request.{Request}
use Rattle.homeo_nodes.specs.Small.{Small}
use Rattle.homeo_desk.specs.declared.places.Places.{Places}
use Rattle.homeo_live.specs.Key.{definitions as live_definitions}
use Rattle.homeo_live.specs.declared.packet.Step.{Step}
use Rattle.homeo_live.specs.declared.packet.Step.TheVariants as live
use Rattle.homeo_live.specs.LiveView.{LiveValue, plain_node, plain_step}
use Rattle.homeo_desk.specs.declared.state.DeskState.{DeskState}
use Rattle.homeo_desk.specs.DeskView.{Reply, KeepsFirst, plain_reply, calls_of, desk_of, last_answers, no_answers}
use Rattle.homeo_desk.specs.Places.{made_in}
use Rattle.homeo_desk.specs.inner.Keeping.{AreLast, IsKept, closed_by, value_of}
use Rattle.homeo_desk.proofs.Lists.{get_after, next_of}

-- ---- requests
module _ (queue : List Request) (answers : List h.Answer) (rest : List CallId) (paired : calls_of queue ≡ map h.called answers ++ rest) where
  pub first_paired : take (length answers) (calls_of queue) ≡ map h.called answers
  first_paired =
      ap (take (length answers)) paired
      ∙ ap (λ k. take k (map h.called answers ++ rest)) (sym (length-map answers h.called))
      ∙ take-append_seam (map h.called answers) rest

  pub rest_paired : calls_of (drop (length answers) queue) ≡ rest
  rest_paired =
      sym (drop-map (λ (r : Request). r.call) (length answers) queue)
      ∙ ap (drop (length answers)) paired
      ∙ ap (λ k. drop k (map h.called answers ++ rest)) (sym (length-map answers h.called))
      ∙ drop-append_seam (map h.called answers) rest

pub all_called : (P : CallId → Type 0) (answers : List h.Answer) (rest : List CallId) → All P (map h.called answers ++ rest) → All (λ b. P (h.called b)) answers
all_called P answers rest all =
    all_from_get (λ b. P (h.called b)) answers (λ i b e. All-get P (map h.called answers ++ rest) i (h.called b) all (get_left (map h.called answers) rest i (h.called b) (get_map h.called answers i b e)))

-- ---- last answers
module _ (w : s.Workload) (site : ℕ) where
  pub last_set : (last : List (Option Reply)) (r : Reply) → AreLast w site last → IsCallAt w site r.call → AreLast w site (slice_set last r.call.client (Some r))
  last_set last r are at = record {
    count = length_set last r.call.client (Some r) ∙ are.count;
    each = λ client q e. ⊎_elim (λ h. let same : r ≡ q = cc in subst (λ x. (x.call.client ≡ client) × IsCallAt w site x.call) same (sym h.0, at)) (λ h. are.each client q h) (set_cases last r.call.client client (Some r) (Some q) e);
  }

  pub no_last : AreLast w site (no_answers w)
  no_last = record {
    count = length_replicate (length w.clients) None;
    each = λ client r e. absurd (let no : None ≡ Some r = get_replicate (length w.clients) client None (Some r) e in cc);
  }

-- ---- they are kept as plain data
set_here : (first rest : List (Option Reply)) (x y : Option Reply) (k : ℕ) → k ≡ length first → slice_set (first ++ x ∷ rest) k y ≡ first ++ y ∷ rest
set_here [] rest x y zero e = refl
set_here [] rest x y (suc k) e = absurd (omega (arith, e))
set_here (z ∷ first) rest x y zero e = absurd (omega (arith, e))
set_here (z ∷ first) rest x y (suc k) e = ap (λ l. z ∷ l) (set_here first rest x y k (omega (arith, e)))

restored_after : (first last : List (Option Reply)) → ((i : ℕ) (r : Reply) → slice_get last i ≡ Some (Some r) → r.call.client ≡ length first + i) →
    last_answers (filter_map (λ o. o) last) (first ++ replicate (length last) None) ≡ first ++ last
restored_after first [] each = refl
restored_after first (None ∷ last) each =
    ap (last_answers (filter_map (λ o. o) last)) (sym (append_assoc first (None ∷ []) (replicate (length last) None)))
    ∙ restored_after (first ++ None ∷ []) last (λ i r e. let longer = length-append first (None ∷ []) in let at : r.call.client ≡ length first + suc i = each (suc i) r e in omega (arith, longer, at))
    ∙ append_assoc first (None ∷ []) last
restored_after first (Some r ∷ last) each =
    let at : r.call.client ≡ length first + 0 = each 0 r refl in
    ap (last_answers (filter_map (λ o. o) last)) (set_here first (replicate (length last) None) None (Some r) r.call.client (omega (arith, at)) ∙ sym (append_assoc first (Some r ∷ []) (replicate (length last) None)))
    ∙ restored_after (first ++ Some r ∷ []) last (λ i q e. let longer = length-append first (Some r ∷ []) in let there : q.call.client ≡ length first + suc i = each (suc i) q e in omega (arith, longer, there))
    ∙ append_assoc first (Some r ∷ []) last

pub restored : (w : s.Workload) (site : ℕ) (last : List (Option Reply)) → AreLast w site last → last_answers (filter_map (λ o. o) last) (no_answers w) ≡ last
restored w site last are =
    ap (λ k. last_answers (filter_map (λ o. o) last) (replicate k None)) (sym are.count)
    ∙ restored_after [] last (λ i r e. let at = are.each i r e in at.0 ∙ (let same : i ≡ 0 + i = omega arith in same))

pub all_somes : (P : Reply → Type 0) (last : List (Option Reply)) → ((i : ℕ) (r : Reply) → slice_get last i ≡ Some (Some r) → P r) → All P (filter_map (λ o. o) last)
all_somes P [] each = All-nil P
all_somes P (None ∷ last) each = all_somes P last (λ i r e. each (suc i) r e)
all_somes P (Some r ∷ last) each = All-cons P r (filter_map (λ o. o) last) (each 0 r refl) (all_somes P last (λ i q e. each (suc i) q e))

pub all_unmapped : {X Y : Type 0} (P : Y → Type 0) (f : X → Y) (xs : List X) → All P (map f xs) → All (λ x. P (f x)) xs
all_unmapped P f xs all = all_from_get (λ x. P (f x)) xs (λ i x e. All-get P (map f xs) i (f x) all (get_map f xs i x e))

-- ---- a desk whose node goes on
pub kept_on : (work new_work : Workload) (x y : Small) (places new_places : Places) (queue rest : List Request) (last new_last : List (Option Reply)) →
    new_work ≡ work → y.number ≡ x.number → calls_of rest ≡ y.queue → KeepsFirst y →
    (AreLast (plain_workload work) x.number last → AreLast (plain_workload work) x.number new_last) → new_places.round ≤ y.round →
    IsKept places (value_of work x places queue last) → IsKept new_places (value_of new_work y new_places rest new_last)
kept_on work new_work x y places new_places queue rest last new_last same number paired first goes within kept = record {
  round = within;
  paired = paired;
  first = first;
  last = subst (λ v. AreLast (plain_workload v) y.number new_last) (sym same) (subst (λ k. AreLast (plain_workload work) k new_last) (sym number) (goes kept.last));
}

-- a desk that begins
pub begun_kept : (v : LiveValue) (c : Workload) (x : Small) (places : Places) (queue : List Request) (last : List (Option Reply)) →
    v ≡ record { work = c; node = x } → calls_of queue ≡ x.queue → KeepsFirst x → (AreLast (plain_workload c) x.number (no_answers (plain_workload c)) → AreLast (plain_workload c) x.number last) →
    places.round ≤ x.round → IsKept places (value_of v.work v.node places queue last)
begun_kept v c x places queue last is paired first goes within =
    subst (λ (u : LiveValue). IsKept places (value_of u.work u.node places queue last)) (sym is)
    (record { round = within; paired = paired; first = first; last = goes (no_last (plain_workload c) x.number) })

-- ---- answers one after another
pub next_called : (queue : List Request) (items ys rest : List memory.Answer) (made : memory.Answer) → items ≡ ys ++ made ∷ rest →
    take (length items) (calls_of queue) ≡ map h.called (map plain_answer items) → take 1 (calls_of (drop (length ys) queue)) ≡ h.called (plain_answer made) ∷ []
next_called queue items ys rest made is begins =
    let g : memory.Answer → CallId = λ a. h.called (plain_answer a) in
    let all = map g ys ++ g made ∷ map g rest in
    let calls : map h.called (map plain_answer items) ≡ all = map-map h.called plain_answer items ∙ ap (map g) is ∙ map-append g ys (made ∷ rest) in
    let long : length all ≡ length items = ap length (sym (ap (map g) is ∙ map-append g ys (made ∷ rest))) ∙ length-map items g in
    ap (take 1) (sym (drop-map (λ (r : Request). r.call) (length ys) queue))
    ∙ ap (λ k. take 1 (drop k (calls_of queue))) (sym (length-map ys g))
    ∙ next_of (map g ys) (g made) (map g rest) (calls_of queue) (ap (λ k. take k (calls_of queue)) long ∙ begins ∙ calls)

pub all_before : {X : Type 0} (P : X → Type 0) (xs ys : List X) → All P (xs ++ ys) → All P xs
all_before P xs ys all = all_from_get P xs (λ i x e. All-get P (xs ++ ys) i x all (get_left xs ys i x e))

pub all_here : {X : Type 0} (P : X → Type 0) (xs : List X) (y : X) (ys : List X) → All P (xs ++ y ∷ ys) → P y
all_here P xs y ys all = All-get P (xs ++ y ∷ ys) (length xs) y all (get_after xs y ys)

pub all_one : {X : Type 0} (P : X → Type 0) (x : X) → P x → All P (x ∷ [])
all_one P x h = All-cons P x [] h (All-nil P)

pub both_ok : {P Q R : Type 0} (r s t : Result (Unit {0}) Memory) → t ≡ result_and r s → OnOk r P → OnOk s Q → (P → Q → R) → OnOk t R
both_ok {R = R} (Ok u) s t e p q f = subst (λ z. OnOk z R) (sym e) (on_ok_weaker s (λ h. f p h) q)
both_ok {R = R} (Err d) s t e p q f = subst (λ z. OnOk z R) (sym e) tt

pub not_closed : (step : Step) → ((answers : Listed memory.Answer) → step ≡ live.Closed answers → ⊥) → closed_by (plain_step step) ≡ []
unfolding live_definitions
not_closed live.Queued other = refl
not_closed (live.Kept call prints) other = refl
not_closed (live.Wanted broken) other = refl
not_closed live.Held other = refl
not_closed live.Taken other = refl
not_closed live.Ignored other = refl
not_closed (live.Closed answers) other = absurd (other answers refl)

pub none_of : {X : Type 0} (o : Option X) → ((x : X) → o ≡ Some x → ⊥) → o ≡ None
none_of None other = refl
none_of (Some x) other = absurd (other x refl)

-- ---- a state of a desk
pub state_is : (work : Workload) (x : Small) (places : Places) (queue : List Request) (last : List (Option Reply)) (s : DeskState) →
    plain_node s.node ≡ x → s.made ≡ made_in places.round places.made x.round → s.queue.items ≡ queue →
    map plain_reply s.answered.items ≡ filter_map (λ o. o) last → AreLast (plain_workload work) x.number last → desk_of work s ≡ value_of work x places queue last
state_is work x places queue last s node made requests replies are =
    let answered : last_answers (map plain_reply s.answered.items) (no_answers (plain_workload work)) ≡ last =
    ap (λ rs. last_answers rs (no_answers (plain_workload work))) replies ∙ restored (plain_workload work) x.number last are in
    λ j. record { work = work; node = node j; made = made j; queue = requests j; answered = answered j }

-- What contracts see of a site, from what its parts hold.
use Rattle.std.proofs.Common.{◌≡◌, ℕ, false, List, [], length, map, replicate, ℤ, All, refl, sym, ap, ◌∙◌, subst, arith}
use Rattle.std.proofs.lemmas.List.Elements.{All-replicate}
use Rattle.homeo_syntax.specs.Listed.{Listed}
use Rattle.homeo_syntax.specs.SourceView.{plain_workload}
use Rattle.homeo_meaning.specs.declared.call.CallId.{CallId}
use Rattle.homeo_meaning.specs.Serial.{values_of}
use Rattle.homeo_history.specs.Key.{definitions as history_definitions}
use Rattle.homeo_history.specs.HistoryView.{plain_entry, plain_segment}
use Rattle.homeo_history.specs.declared.history.Entry.{Entry}
use Rattle.homeo_history.specs.declared.history.Segment.{Segment}
use Rattle.homeo_site.specs.Key.{definitions}
use Rattle.homeo_site.specs.Attempts.{IsRoom, IsEmptyCopy}
use Rattle.homeo_outline.specs.Numbers.{has}
use Rattle.homeo_site.specs.SiteState.{SiteHolds, begun, step_prints, step_deltas}
use Rattle.homeo_site.specs.SiteView.{with_deltas, StartValue, SiteValue}
use Rattle.homeo_site.specs.declared.attempts.Room.{Room}
use Rattle.homeo_site.specs.Standing.{IsStart, IsSite, state_in}
use Rattle.homeo_site.proofs.SitesHold.{begun_holds}

-- the value of a site with these parts
abbrev pub value_in : StartValue → List ℤ → Segment → SiteValue
value_in v x s = record { work = v.work; state = state_in v x s; spare = s.entries.spare }

-- ---- the start
abbrev pub begun_value : StartValue → SiteValue
begun_value v = record { work = v.work; state = begun v.number v.round v.base; spare = 0 }

begun_state : (v : StartValue) (x : List ℤ) (s : Segment) → IsStart v x s → state_in v x s ≡ begun v.number v.round v.base
unfolding definitions history_definitions
begun_state v x s is =
    let none : plain_segment s ≡ [] = ap (λ (l : Listed Entry). map plain_entry l.items) is.entries in
    λ j. record { number = v.number; round = v.round; base = v.base; deltas = is.deltas j; segment = none j }

pub start_is_site : (v : StartValue) (x : List ℤ) (s : Segment) → IsStart v x s → IsSite v x s
start_is_site v x s is =
    record {
      accepted = is.accepted;
      holds =
          subst (SiteHolds (plain_workload v.work)) (sym (begun_state v x s is))
          (begun_holds (plain_workload v.work) v.number v.round v.base is.accepted is.site is.within);
    }

pub start_value : (v u : StartValue) (x : List ℤ) (s : Segment) → IsStart v x s → v ≡ u → value_in v x s ≡ begun_value u
start_value v u x s is same =
    let spare : s.entries.spare ≡ 0 = ap (λ (l : Listed Entry). l.spare) is.entries in
    let state = begun_state v x s is in
    let here : value_in v x s ≡ begun_value v = λ j. record { work = v.work; state = state j; spare = spare j } in
    here ∙ ap begun_value same

-- ---- another spare, and the deltas by another name
same_state :
    (v : StartValue) (x y : List ℤ) (s t : Segment) → y ≡ x → t.entries.items ≡ s.entries.items → state_in v y t ≡ state_in v x s
unfolding history_definitions
same_state v x y s t deltas same =
    let segment : plain_segment t ≡ plain_segment s = ap (map plain_entry) same in
    λ j. record { number = v.number; round = v.round; base = v.base; deltas = deltas j; segment = segment j }

pub still_site :
    (v : StartValue) (x y : List ℤ) (s t : Segment) → IsSite v x s → y ≡ x → t.entries.items ≡ s.entries.items → IsSite v y t
still_site v x y s t is deltas same =
    record {
      accepted = is.accepted;
      holds = subst (SiteHolds (plain_workload v.work)) (sym (same_state v x y s t deltas same)) is.holds;
    }

-- the value with another spare
abbrev pub with_spare : SiteValue → ℕ → SiteValue
with_spare v n = record { work = v.work; state = v.state; spare = n }

pub same_spare : (u v : SiteValue) → u ≡ v → u ≡ with_spare v u.spare
same_spare u v is = λ j. record { work = (is j).work; state = (is j).state; spare = u.spare }

pub spare_changed :
    (v : StartValue) (x y : List ℤ) (s t : Segment) (u : SiteValue) → y ≡ x → t.entries.items ≡ s.entries.items → value_in v x s ≡ u →
    value_in v y t ≡ with_spare u t.entries.spare
spare_changed v x y s t u deltas same is =
    let state = same_state v x y s t deltas same in
    let here : value_in v y t ≡ with_spare (value_in v x s) t.entries.spare =
    λ j. record { work = v.work; state = state j; spare = t.entries.spare } in
    here ∙ ap (λ (z : SiteValue). with_spare z t.entries.spare) is

-- ---- room
pub room_is :
    (v : StartValue) (x : List ℤ) (s : Segment) (u : SiteValue) (call : CallId) (r : Room) → value_in v x s ≡ u → r.call ≡ call →
    r.deltas.items ≡ step_deltas (plain_workload v.work) (with_deltas v x) call →
    r.prints.items ≡ step_prints (plain_workload v.work) (with_deltas v x) call →
    ((n : ℕ) → has n r.written.items ≡ false → values_of r.deltas.items n ≡ values_of x n) → IsRoom (plain_workload u.work) u.state call r
unfolding definitions
room_is v x s u call r is name deltas prints written =
    subst (λ (y : SiteValue). IsRoom (plain_workload y.work) y.state call r) is
    (record { call = name; deltas = deltas; prints = prints; written = written })

pub copies_are :
    (v : StartValue) (x : List ℤ) (s : Segment) (u : SiteValue) (call : CallId) (lists : List (Listed ℤ)) (copies : ℕ) (prints : List ℤ) →
    value_in v x s ≡ u → prints ≡ step_prints (plain_workload v.work) (with_deltas v x) call →
    lists ≡ replicate copies (record { items = []; spare = length prints }) → All (IsEmptyCopy (plain_workload u.work) u.state call) lists
unfolding definitions
copies_are v x s u call lists copies prints is printed e =
    subst (λ (y : SiteValue). All (IsEmptyCopy (plain_workload y.work) y.state call) lists) is
    (subst (λ ls. All (IsEmptyCopy (plain_workload v.work) (state_in v x s) call) ls) (sym e)
    (All-replicate (IsEmptyCopy (plain_workload v.work) (state_in v x s) call) copies (record { items = []; spare = length prints })
    (record { empty = refl; spare = omega (arith, ap length printed) })))

-- Lines that nodes of all sites take are moves of their desks.
use Rattle.homeo_nodes.specs.Key.{definitions}
use Rattle.homeo_site.specs.Key.{definitions as site_definitions}
use Rattle.std.proofs.Common.{inl, inr, ◌≡◌, ◌⊎◌, ℕ, List, [], ◌∷◌, ◌++◌, map, Option, Some, None, refl, sym, ap, ap₂, subst, ◌∙◌, arith, slice_set, ⊎_elim}
use Rattle.std.specs.Prelude.{All, IfSome, slice_get}
use Rattle.std.specs.List.{range_with_len}
use Rattle.std.proofs.lemmas.List.{map-set, set-get_or}
use Rattle.std.proofs.lemmas.List.Elements.{All-cons, All-nil}
use Rattle.homeo_syntax.specs.SourceView.{plain_workload}
use Rattle.homeo_syntax.specs.declared.workload.Workload.{Workload}
use Rattle.homeo_meaning.specs.declared.call.CallId.{CallId}
use Rattle.homeo_plan.specs.Planned.{sites_of}
use Rattle.homeo_history.specs.Legal.{IsCallAt}
use Rattle.homeo_history.proofs.Lists.{get_index, get_map_back, set_cases}
use Rattle.homeo_lemmas.proofs.Places.{get_map}
use Rattle.std.proofs.lemmas.Simd.{map-map}
use Rattle.homeo_nodes.specs.Nodes as n
use Rattle.homeo_nodes.specs.Nodes.{of_past, at_start, reached}
use Rattle.homeo_nodes.specs.Told.{told_in}
use Rattle.homeo_nodes.proofs.Standing.{one_story}
use Rattle.homeo_nodes.proofs.Starting.{range_at}
use Rattle.homeo_nodes.proofs.Telling.{answers_stand}
use Rattle.homeo_desk.specs.declared.output.Output.{Output}
use Rattle.homeo_desk.specs.declared.output.Output.TheVariants as o
use Rattle.homeo_desk.specs.declared.output.Request.{Request}
use Rattle.homeo_desk.specs.declared.output.Why.TheVariants as why
use Rattle.homeo_desk.specs.DeskView.{DeskValue, calls_of}
use Rattle.homeo_desk.specs.Moves.{IsMove}
use Rattle.homeo_desk.specs.Outputs.{AreIn, Gives, packets_of, answers_of}
use Rattle.homeo_desk.specs.Requests.{Standing, Answered, Waits, Late, Full, New, Replies, taken_on, standing}
use Rattle.homeo_desk.specs.Runs.{Told, Desks, IsRun, begin, go_on}
use Rattle.homeo_desk.specs.Runs as r
use Rattle.homeo_desk.proofs.Giving.{in_nothing, gives_nothing, gives_put}
use Rattle.homeo_desk.proofs.Moving.{stays}
use Rattle.homeo_desk.proofs.Running.{runs_are_events}
use Rattle.homeo_lines.specs.Lines as l
use Rattle.homeo_lines.specs.Read.{no_line, malformed, unlisted}
use Rattle.homeo_process.specs.Cluster as c
use Rattle.homeo_process.specs.Cluster.{asked_outputs, sent_outputs, served_outputs, done_outputs, outputs_of, packets_meant, Place, Cluster, first_place, first_cluster, last_desk, TakesLine, Restarts, HaveRun}
use Rattle.homeo_process.specs.Driven.{Driven, sender}
use Rattle.homeo_process.specs.Laws.{desks_of, LinesAreEvents, LinesTellOneHistory}
use Rattle.homeo_process.specs.Taking.{Fails, Answers, Asks, IsOwn, Moves, Takes, Serves, Waits as Idles, Does, IsTaken, long, no_json, json}

-- ---- a line is a move
-- the desk moves by requests of its own clients and by these packets
record IsMoved (d : Driven) (desk : DeskValue) (packets : List n.Packet) (after : Driven) (outputs : List Output) : Type 0 where
  pub requests : List Request
  pub calls : All (IsCallAt (plain_workload desk.work) desk.node.number) (calls_of requests)
  pub move : IsMove requests packets desk (last_desk desk after.desk) [] outputs
  pub work : after.work ≡ d.work

no_calls : (desk : DeskValue) → All (IsCallAt (plain_workload desk.work) desk.node.number) (calls_of [])
no_calls desk = All-nil _

-- nothing is done
rests : (d : Driven) (desk : DeskValue) (packets : List n.Packet) (after : Driven) → last_desk desk after.desk ≡ desk → after.work ≡ d.work → IsMoved d desk packets after []
rests d desk packets after same work = record {
  requests = [];
  calls = no_calls desk;
  move = stays packets desk (last_desk desk after.desk) [] [] same (gives_nothing [] []);
  work = work;
}

-- a request
replied : (x : Standing) (r : Request) (old new : DeskValue) (after : List Output) → Replies x r old new [] after → IsMove (taken_on x r) [] old new [] after
replied (Answered reply) r old new after h =
    stays [] old new [] after h.0 (gives_put [] [] [] after (o.Again r.caller h.1.answer) h.1.after_is (in_nothing []) refl)
replied Waits r old new after h = stays [] old new [] after h.0 (subst (Gives [] [] []) (sym h.1) (gives_nothing [] []))
replied Late r old new after h =
    stays [] old new [] after h.0 (gives_put [] [] [] after (o.Refusal r.caller r.number why.Late) h.1 (in_nothing []) refl)
replied Full r old new after h =
    stays [] old new [] after h.0 (gives_put [] [] [] after (o.Refusal r.caller r.number why.Full) h.1 (in_nothing []) refl)
replied New r old new after h = h

own_calls : (x : Standing) (r : Request) (P : CallId → Type 0) → P r.call → All P (calls_of (taken_on x r))
own_calls (Answered reply) r P own = All-nil P
own_calls Waits r P own = All-nil P
own_calls Late r P own = All-nil P
own_calls Full r P own = All-nil P
own_calls New r P own = All-cons P r.call [] own (All-nil P)

-- ---- by a node that has begun
module _ (d : Driven) (desk : DeskValue) (begun : d.desk ≡ Some desk) where
  last_is : (after : Driven) → after ≡ d → last_desk desk after.desk ≡ desk
  last_is after same = ap (λ (e : Driven). last_desk desk e.desk) same ∙ ap (last_desk desk) begun

  unchanged : (packets : List n.Packet) (after : Driven) → after ≡ d → IsMoved d desk packets after []
  unchanged packets after same = rests d desk packets after (last_is after same) (ap (λ (e : Driven). e.work) same)

  failed : (packets : List n.Packet) (from : Option (List ℕ)) (number : Option ℕ) (code : ℕ) (after : Driven) (written : List ℕ) →
      Fails d from number code after written → IsMoved d desk packets after []
  failed packets from number code after written h = unchanged packets after h.same

  moved : (packets : List n.Packet) (from : Option (List ℕ)) (number : Option ℕ) (after : Driven) (written : List ℕ) →
      (m : Moves d desk packets from number after written) → IsMoved d desk packets after m.outputs
  moved packets from number after written m =
      subst (λ e. IsMoved d desk packets e m.outputs) (sym m.then)
      (record { requests = []; calls = no_calls desk; move = m.move; work = refl })

  answered : (r : Request) (after : Driven) (written : List ℕ) → IsOwn desk r.call → (a : Answers d desk r after written) → IsMoved d desk [] after a.outputs
  answered r after written own a =
      subst (λ e. IsMoved d desk [] e a.outputs) (sym a.then)
      (record {
        requests = taken_on (standing desk r) r;
        calls = own_calls (standing desk r) r (IsCallAt (plain_workload desk.work) desk.node.number) own;
        move = replied (standing desk r) r desk a.new a.outputs a.replies;
        work = refl;
      })

  asked : (call : CallId) (from : Option (List ℕ)) (number : Option ℕ) (after : Driven) (written : List ℕ) → IsOwn desk call →
      (a : Asks d desk call from number after written) → IsMoved d desk [] after (asked_outputs d desk call from number after written a)
  asked call from None after written own a = failed [] from None malformed after written a
  asked call None (Some number) after written own a = failed [] None (Some number) malformed after written a
  asked call (Some caller) (Some number) after written own a =
      answered (record { caller = caller; number = number; call = call }) after written own a

  sent : (site : Option ℕ) (packets : List n.Packet) (from : Option (List ℕ)) (number : Option ℕ) (after : Driven) (written : List ℕ) →
      (a : Takes site d desk packets from number after written) → IsMoved d desk packets after (sent_outputs site d desk packets from number after written a)
  sent None packets from number after written a = failed packets from number malformed after written a
  sent (Some site) packets from number after written a = moved packets from number after written a

  served : (m : l.Message) (from : Option (List ℕ)) (number : Option ℕ) (after : Driven) (written : List ℕ) → (a : Serves d desk m from number after written) →
      IsMoved d desk (packets_meant m) after (served_outputs d desk m from number after written a)
  served (l.Init node nodes state) from number after written a = failed [] from number malformed after written a
  served (l.Call call) from number after written (inl own) = asked call from number after written own.0 own.1
  served (l.Call call) from number after written (inr other) = failed [] from number unlisted after written other.1
  served (l.Came packet) from number after written a = sent (sender d.names from) (packet ∷ []) from number after written a
  served (l.HasLeft past) from number after written a = sent (sender d.names from) (of_past (Some past)) from number after written a
  served l.Tick from number after written a = moved [] from number after written a.0
  served l.Snapshot from number after written a = unchanged [] after a.same
  served l.Status from number after written a = unchanged [] after a.same
  served (l.Wrong code) from number after written a = failed [] from number code after written a

-- ---- by one that hasn't, which may begin at the desk of its place
module _ (d : Driven) (desk : DeskValue) (idle : d.desk ≡ None) where
  stays_idle : (packets : List n.Packet) (after : Driven) → after ≡ d → IsMoved d desk packets after []
  stays_idle packets after same =
      rests d desk packets after (ap (λ (e : Driven). last_desk desk e.desk) same ∙ ap (last_desk desk) idle) (ap (λ (e : Driven). e.work) same)

  begins_at : (o : Option DeskValue) → IfSome o (λ x. x ≡ desk) → last_desk desk o ≡ desk
  begins_at None h = refl
  begins_at (Some x) h = h

  idled : (m : l.Message) (from : Option (List ℕ)) (number : Option ℕ) (after : Driven) (written : List ℕ) → IfSome after.desk (λ x. x ≡ desk) →
      Idles d m from number after written → IsMoved d desk (packets_meant m) after []
  idled (l.Init node nodes state) from number after written at (inl b) =
      rests d desk [] after (begins_at after.desk at) (ap (λ (e : Driven). e.work) b.then)
  idled (l.Init node nodes state) from number after written at (inr f) = stays_idle [] after f.0.same
  idled (l.Call call) from number after written at f = stays_idle [] after f.same
  idled (l.Came packet) from number after written at f = stays_idle (packet ∷ []) after f.same
  idled (l.HasLeft past) from number after written at f = stays_idle (of_past (Some past)) after f.same
  idled l.Tick from number after written at f = stays_idle [] after f.same
  idled l.Snapshot from number after written at f = stays_idle [] after f.same
  idled l.Status from number after written at f = stays_idle [] after f.same
  idled (l.Wrong code) from number after written at f = stays_idle [] after f.same

-- ---- by any
module _ (d : Driven) (last : DeskValue) (has : IfSome d.desk (λ desk. desk ≡ last)) (after : Driven) (begins : d.desk ≡ None → IfSome after.desk (λ desk. desk ≡ last)) (written : List ℕ) where
  done : (desk : Option DeskValue) → d.desk ≡ desk → (x : l.Line) → (a : Does d desk x after written) →
      IsMoved d last (packets_meant x.message) after (done_outputs d desk x after written a)
  done None e x a = idled d last e x.message x.from x.number after written (begins e) a
  done (Some desk) e x a =
      let same : desk ≡ last = subst (λ v. IfSome v (λ y. y ≡ last)) e has in
      subst (λ v. IsMoved d v (packets_meant x.message) after (served_outputs d desk x.message x.from x.number after written a)) same
      (served d desk e x.message x.from x.number after written a)

  -- a line that is too long means no packet
  too_long : (desk : Option DeskValue) → d.desk ≡ desk → Fails d None None malformed after written → IsMoved d last [] after []
  too_long None e f = stays_idle d last e [] after f.same
  too_long (Some desk) e f =
      let same : desk ≡ last = subst (λ v. IfSome v (λ y. y ≡ last)) e has in
      subst (λ v. IsMoved d v [] after []) same (failed d desk e [] None None malformed after written f)

-- ---- all places
pub record IsPlace (work : Workload) (i : ℕ) (p : Place) : Type 0 where
  pub node_work : p.node.work ≡ work
  pub desk_work : p.told.desk.work ≡ work
  pub number : p.told.desk.node.number ≡ i
  pub has : IfSome p.node.desk (λ desk. desk ≡ p.told.desk)

pub record IsLed (work : Workload) (x : Cluster) : Type 0 where
  pub run : IsRun work (desks_of x)
  pub places : (i : ℕ) (p : Place) → slice_get x.places i ≡ Some p → IsPlace work i p

abbrev told_of : Place → Told
told_of p = p.told

first_led : (work : Workload) → IsLed work (first_cluster work)
unfolding definitions site_definitions
first_led work =
    let sites = range_with_len 0 (sites_of (plain_workload work)) in
    record {
      run = subst (IsRun work) (sym (ap (λ ts. desks_with ts) (map-map told_of (first_place work) sites))) begin;
      places = λ i p e.
          let k = get_map_back (first_place work) sites i p e in
          let at = (range_at 0 (sites_of (plain_workload work)) i k.0 k.1.0).is in
          let same : k.0 ≡ i = omega (arith, at) in
          subst (IsPlace work i) k.1.1 (record { node_work = refl; desk_work = refl; number = same; has = tt });
    }
  where
    desks_with : List Told → Desks
    desks_with ts = record { desks = ts; packets = [] }

-- all places but one stay
module _ (work : Workload) (x : Cluster) (led : IsLed work x) (i : ℕ) (next : Place) (is : IsPlace work i next) where
  places_then : (k : ℕ) (p : Place) → slice_get (slice_set x.places i next) k ≡ Some p → IsPlace work k p
  places_then k p e =
      ⊎_elim (λ h. subst (λ j. IsPlace work j p) (sym h.0) (subst (IsPlace work i) h.1 is)) (λ f. led.places k p f) (set_cases x.places i k next p e)

has_last : (last : DeskValue) (o : Option DeskValue) → IfSome o (λ desk. desk ≡ last_desk last o)
has_last last None = tt
has_last last (Some desk) = refl

module _ (work : Workload) (x y : Cluster) (led : IsLed work x) (step : TakesLine x y) where
  abbrev i : ℕ
  i = step.site

  abbrev old : Place
  old = step.old

  abbrev desk : DeskValue
  desk = old.told.desk

  abbrev outputs : List Output
  outputs = outputs_of old.node step.line step.after step.written step.taken

  place : IsPlace work i old
  place = led.places i old step.here

  record HasMoved (given : List Output) : Type 0 where
    pub packets : List n.Packet
    pub came : AreIn packets x.packets
    pub moved : IsMoved old.node desk packets step.after given

  by_line : (a : IsTaken old.node step.line step.after step.written) → HasMoved (outputs_of old.node step.line step.after step.written a)
  by_line (long is_long fails) = record {
    packets = [];
    came = in_nothing x.packets;
    moved = too_long old.node desk place.has step.after step.begins step.written old.node.desk refl fails;
  }
  by_line (no_json few no_value does) = record {
    packets = [];
    came = in_nothing x.packets;
    moved = done old.node desk place.has step.after step.begins step.written old.node.desk refl no_line does;
  }
  by_line (json few m read does) = record {
    packets = packets_meant m.message;
    came = step.came m read;
    moved = done old.node desk place.has step.after step.begins step.written old.node.desk refl m does;
  }

  went : HasMoved outputs
  went = by_line step.taken

  abbrev new : DeskValue
  new = last_desk desk step.after.desk

  move : IsMove went.moved.requests went.packets desk new [] outputs
  move = went.moved.move

  abbrev next : Place
  next = record { node = step.after; told = record { desk = new; given = old.told.given ++ answers_of outputs } }

  next_is : IsPlace work i next
  next_is = record {
    node_work = went.moved.work ∙ place.node_work;
    desk_work = move.work ∙ place.desk_work;
    number = move.number ∙ place.number;
    has = has_last desk step.after.desk;
  }

  desks_then : desks_of y ≡ record {
    desks = slice_set (desks_of x).desks i (record { desk = new; given = old.told.given ++ move.given });
    packets = x.packets ++ packets_of move.gives.more;
  }
  desks_then =
      ap desks_of step.then
      ∙ ap₂ desks_with
      (map-set told_of x.places i next ∙ ap (λ g. slice_set (map told_of x.places) i (record { desk = new; given = old.told.given ++ g })) (ap answers_of move.gives.after_is ∙ move.gives.answers_are))
      (ap (λ os. x.packets ++ packets_of os) move.gives.after_is)
    where
      desks_with : List Told → List n.Packet → Desks
      desks_with ts ps = record { desks = ts; packets = ps }

  moves : r.Moves (desks_of x) (desks_of y)
  moves = record {
    site = i;
    old = old.told;
    new = new;
    here = get_map told_of x.places i old step.here;
    requests = went.moved.requests;
    calls = subst (λ k. All (IsCallAt (plain_workload desk.work) k) (calls_of went.moved.requests)) place.number went.moved.calls;
    packets = went.packets;
    came = went.came;
    before = [];
    after = outputs;
    move = move;
    then = desks_then;
  }

  line_led : IsLed work y
  line_led = record {
    run = go_on (desks_of x) (desks_of y) led.run moves;
    places = λ k p e. places_then work x led i next next_is k p (ap (λ (v : Cluster). slice_get v.places k) (sym step.then) ∙ e);
  }

module _ (work : Workload) (x y : Cluster) (led : IsLed work x) (step : Restarts x y) where
  restart_led : IsLed work y
  restart_led =
      let i = step.site in
      let told = step.old.told in
      let next : Place = record { node = step.node; told = told } in
      let place = led.places i step.old step.here in
      let desks = map told_of x.places in
      let same : slice_set desks i told ≡ desks =
      ap (slice_set desks i) (sym (get_index desks i told told (get_map told_of x.places i step.old step.here))) ∙ set-get_or desks i told in
      let desks_then : desks_of y ≡ desks_of x =
      ap desks_of step.then ∙ ap (λ ts. desks_with ts) (map-set told_of x.places i next ∙ same) in
      let next_is : IsPlace work i next =
      record { node_work = step.work ∙ place.node_work; desk_work = place.desk_work; number = place.number; has = step.has } in
      record {
        run = subst (IsRun work) (sym desks_then) led.run;
        places = λ k p e. places_then work x led i next next_is k p (ap (λ (v : Cluster). slice_get v.places k) (sym step.then) ∙ e);
      }
    where
      desks_with : List Told → Desks
      desks_with ts = record { desks = ts; packets = x.packets }

pub led : (work : Workload) (x : Cluster) → HaveRun work x → IsLed work x
led work x c.begin = first_led work
led work x (c.takes z y run step) = line_led work z x (led work z run) step
led work x (c.restarts z y run step) = restart_led work z x (led work z run) step

-- ---- the laws
pub lines_are_events : LinesAreEvents
lines_are_events work x run =
    let was = led work x run in
    let same = runs_are_events work (desks_of x) was.run in
    (same.0, record { desks = λ i p e. (was.places i p e).has; nodes = same.1 })

pub lines_tell_one_history : LinesTellOneHistory
unfolding definitions
lines_tell_one_history work x accepted run =
    let w = plain_workload work in
    let same = lines_are_events work x run in
    let events : List n.Event = same.0 in
    let one = one_story w events accepted in
    record {
      events = events;
      are = same.1;
      calls = one.0;
      story = one.1;
      answered = λ i p e.
          let here = get_map told_of x.places i p e in
          let m = same.1.nodes.nodes i p.told here in
          let stands = one.1.answered i m.0.journal (get_map (λ (v : n.Node). v.journal) (reached w events).nodes i m.0 m.1) in
          record {
            told = told_in w i (at_start w) events;
            rest = stands.rest;
            stand = stands.begins ∙ ap (λ ts. ts ++ stands.rest) (answers_stand w events i m.0 accepted m.1);
            are = same.1.nodes.told i p.told here;
          };
    }

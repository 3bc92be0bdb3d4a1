use Rattle.std.proofs.Common.{◌≡◌, ◌∙◌, ◌<◌, ℕ, ℤ, List, [], length, map, Result, Ok, Err, IfOk, get_or, ap, sym, subst, arith}
use Rattle.homeo_syntax.specs.Source as s
use Rattle.homeo_syntax.specs.SourceView.{plain_workload}
use Rattle.homeo_syntax.specs.declared.list.Memory.{Memory}
use Rattle.homeo_syntax.specs.declared.phrase.Ident.{Ident}
use Rattle.homeo_syntax.specs.declared.workload.Workload.{Workload}
use Rattle.homeo_meaning.specs.Bounds.{IsWithin}
use Rattle.homeo_meaning.specs.Declarations.{place_of}
use Rattle.homeo_meaning.specs.Schema.{schema_of}
use Rattle.homeo_history.specs.declared.history.History.{History}
use Rattle.homeo_history.specs.Follows.{Follows}
use Rattle.homeo_history.specs.HistoryView.{plain_history}
use Rattle.homeo_history.specs.Legal.{IsLegalFrom}
use Rattle.homeo_core.specs.CoreView.{CoreValue, core_at, core_history, start_of}
use Rattle.homeo_report.specs.Report.{CanReport}
use Rattle.homeo_report.proofs.CanReport.{can_report}
use Rattle.homeo_order.specs.Order.{client_names, order_of, scheduled_calls}
use Rattle.homeo_order.specs.Scheduled.{IsWholeOrder}
use Rattle.homeo_steps.specs.inner.Stepped.{HasMade}
use Rattle.homeo_order.proofs.Accepting.{whole_order}
use Rattle.homeo_steps.proofs.Stepping.{none_yet, read_again, client_there, left_next, made_next, all_made, is_full, does_follow}
use Rattle.homeo_steps.proofs.making.steps_from.Goals as goal
use Rattle.homeo_steps.proofs.making.steps_from.Goals.{After-get, After-finish}

abbrev none : Ident
none = record { name = 0; offset = 0 }

full : (w : s.Workload) (base : List ℤ) (x : CoreValue) (result : Result History Memory) → IsWholeOrder w → HasMade w base (order_of w.schedule) x
    → IfOk result (λ h. IsLegalFrom (plain_workload x.work) (start_of x.book) x.counts (plain_history h)) → IfOk result (λ h. IsLegalFrom w base (map (λ client. length client.calls) w.clients) (plain_history h))
full w base x (Ok h) order made legal = is_full w base x (plain_history h) order made legal
full w base x (Err e) order made legal = tt

follows : (w : s.Workload) (base : List ℤ) (x : CoreValue) (result : Result History Memory) → HasMade w base (order_of w.schedule) x
    → IfOk result (λ h. plain_history h ≡ core_history x) → IfOk result (λ h. Follows w (plain_history h) (scheduled_calls w))
follows w base x (Ok h) made is = does_follow w base x (plain_history h) made is
follows w base x (Err e) made is = tt

reportable : (w : s.Workload) (base : List ℤ) (x : CoreValue) (result : Result History Memory) → HasMade w base (order_of w.schedule) x
    → IfOk result (λ h. IsWithin (schema_of (plain_workload x.work)) (plain_history h).last) → IfOk result (λ h. CanReport w (plain_history h))
reportable w base x (Ok h) made within =
    can_report w (plain_history h) (subst (λ (v : s.Workload). IsWithin (schema_of v) (plain_history h).last) made.work within)
reportable w base x (Err e) made within = tt

pub loop-name-init : goal.loop-name-init
loop-name-init c =
    let same : c.in_ok-try_clone.field-0.value ≡ c.args.c.now.value = c.in_ok-try_clone.ensures in
    none_yet c.args.c.now.value c.args.base.items c.in_ok-core.core (c.in_ok-core.ensures.core ∙ ap (λ (v : Workload). core_at v c.args.base.items) same)
    (subst (λ (v : Workload). Follows (plain_workload v) (core_history c.in_ok-core.core) []) same c.in_ok-core.ensures.follows)

-- ---- the client that the next name of the schedule stands for
abbrev name_at : After-get → Ident
name_at c = get_or c.order-name-items.result.now c.loop-name.name-index none

order_is : (c : After-get) → c.order-name-items.result.now ≡ order_of (plain_workload c.args.c.now.value).schedule
order_is c = c.order-name-items.ensures ∙ ap (λ (v : Workload). order_of (plain_workload v).schedule) (c.workload-w.ensures.value ∙ c.workload.ensures ∙ c.deref.ensures)

place_is : (c : After-get) → c.get.result ≡ place_of (client_names (plain_workload c.args.c.now.value)) (name_at c).name
place_is c =
    let clients : c.in_ok-clients.clients ≡ client_names (plain_workload c.args.c.now.value) =
    c.in_ok-clients.ensures ∙ ap (λ (v : Workload). client_names (plain_workload v)) (c.workload-w.ensures.value ∙ c.workload.ensures ∙ c.deref.ensures) in
    c.get.ensures ∙ ap (λ (ns : List ℕ). place_of ns (name_at c).name) clients

whole : (c : After-get) → IsWholeOrder (plain_workload c.args.c.now.value)
whole c = whole_order (plain_workload c.args.c.now.value) c.requires.well_formed c.requires.sound

read : (c : After-get) → name_at c ≡ get_or c.order-name-items.result.now c.loop-name.name-index (name_at c)
read c = read_again c.order-name-items.result.now c.loop-name.name-index none c.loop-name-test.true

there : (c : After-get) → c.get.result < length (plain_workload c.args.c.now.value).clients
there c =
    client_there (plain_workload c.args.c.now.value) c.order-name-items.result.now c.loop-name.name-index (name_at c) c.get.result (whole c) (order_is c) c.loop-name-test.true (read c) (place_is c)

pub overflow_cast-get : goal.overflow_cast-get
overflow_cast-get c =
    let e = (goal.at.overflow_cast-get c).After-get in
    let below = there e in
    let few = (whole e).few in
    omega (arith, below, few)

pub step_unasked-requires-clause-exists : goal.step_unasked-requires-clause-exists
step_unasked-requires-clause-exists c =
    subst (λ (v : s.Workload). c.get.result < length v.clients) (sym c.loop-name.invariant.work) (there (goal.at.step_unasked-requires-clause-exists c).After-get)

pub step_unasked-requires-clause-left : goal.step_unasked-requires-clause-left
step_unasked-requires-clause-left c =
    let e = (goal.at.step_unasked-requires-clause-left c).After-get in
    left_next (plain_workload c.args.c.now.value) c.args.base.items c.loop-name.core c.order-name-items.result.now c.loop-name.name-index (name_at e) c.get.result c.loop-name.invariant (whole e) (order_is e) c.loop-name-test.true (read e) (place_is e)

pub loop-name-preserved : goal.loop-name-preserved
loop-name-preserved c =
    let e = (goal.at.loop-name-preserved c).After-get in
    made_next (plain_workload c.args.c.now.value) c.args.base.items c.loop-name.core c.step_unasked.new.self _ c.order-name-items.result.now c.loop-name.name-index (name_at e) c.get.result c.loop-name.invariant (whole e) (order_is e) c.loop-name-test.true (read e) (place_is e)
    c.in_ok-step_unasked.ensures.step.step c.in_ok-step_unasked.ensures.start c.in_ok-step_unasked.ensures.follows

-- ---- after the last name
made : (c : After-finish) → HasMade (plain_workload c.args.c.now.value) c.args.base.items (order_of (plain_workload c.args.c.now.value).schedule) c.loop-name.core
made c =
    let work : c.workload-w.result.now ≡ c.args.c.now.value = c.workload-w.ensures.value ∙ c.workload.ensures ∙ c.deref.ensures in
    let order : c.order-name-items.result.now ≡ order_of (plain_workload c.args.c.now.value).schedule = c.order-name-items.ensures ∙ ap (λ (v : Workload). order_of (plain_workload v).schedule) work in
    all_made (plain_workload c.args.c.now.value) c.args.base.items c.loop-name.core _ c.loop-name.name-index c.loop-name.invariant order c.loop-name-test.false

pub returns-clause-legal : goal.returns-clause-legal
returns-clause-legal c =
    let w = plain_workload c.args.c.now.value in
    full w c.args.base.items c.loop-name.core c.finish.result (whole_order w c.requires.well_formed c.requires.sound) (made (goal.at.returns-clause-legal c).After-finish) c.finish.ensures.legal

pub returns-clause-follows : goal.returns-clause-follows
returns-clause-follows c = follows (plain_workload c.args.c.now.value) c.args.base.items c.loop-name.core c.finish.result (made (goal.at.returns-clause-follows c).After-finish) c.finish.ensures.history

pub returns-clause-reportable : goal.returns-clause-reportable
returns-clause-reportable c = reportable (plain_workload c.args.c.now.value) c.args.base.items c.loop-name.core c.finish.result (made (goal.at.returns-clause-reportable c).After-finish) c.finish.ensures.within

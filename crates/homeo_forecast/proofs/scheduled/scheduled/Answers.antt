-- Each name stands for the next call of its client.
use Rattle.std.proofs.Common.{◌≡◌, ◌∙◌, ◌+◌, ℕ, List, length, replicate, take, get_or, sym, ap, subst, arith}
use Rattle.std.proofs.Math.ListN.{set}
use Rattle.std.proofs.lemmas.List.{length-map}
use Rattle.homeo_syntax.specs.Source as s
use Rattle.homeo_syntax.specs.SourceView.{plain_client, plain_workload}
use Rattle.homeo_syntax.specs.declared.phrase.Ident.{Ident}
use Rattle.homeo_syntax.proofs.SourceViews.{plain_Workload}
use Rattle.homeo_meaning.specs.Declarations.{place_of}
use Rattle.homeo_order.specs.Order.{client_names}
use Rattle.homeo_forecast.proofs.Schedules.{HasCounted, none_counted, next_small, name_counted, all_counted}
use Rattle.homeo_forecast.proofs.scheduled.scheduled.Goals as goal

abbrev none : Ident
none = record { name = 0; offset = 0 }

pub loop-name-init : goal.loop-name-init
loop-name-init c =
    let w = plain_workload c.args.w.now in
    let count : length c.args.w.now.clients.items ≡ length w.clients =
    sym (ap (λ (v : s.Workload). length v.clients) (plain_Workload c.args.w.now) ∙ length-map c.args.w.now.clients.items plain_client) in
    none_counted w c.new-calls.result.items c.in_ok-made.made.items c.new-calls.ensures.items
    (c.in_ok-made.ensures ∙ ap (λ (n : ℕ). replicate {A = ℕ} n 0) (ap length c.as_slice.ensures ∙ count))

pub count-seq-requires-clause-fits : goal.count-seq-requires-clause-fits
count-seq-requires-clause-fits c =
    let w = plain_workload c.args.w.now in
    let names : List Ident = c.order-name-items.result.now in
    let i = c.loop-name.name-index in
    let made : List ℕ = c.loop-name.made.items in
    let place : c.get-client.result ≡ place_of (client_names w) (get_or names i none).name =
    c.get-client.ensures ∙ ap (λ ns. place_of ns (get_or names i none).name) c.in_ok-clients.ensures in
    let few = next_small w c.requires names c.order-name-items.ensures i none c.loop-name-test.true c.loop-name.calls.items made c.loop-name.invariant in
    omega (arith, few, ap (λ n. get_or made n 0) place, c.order-name-items.type_inv)

pub loop-name-preserved : goal.loop-name-preserved
loop-name-preserved c =
    let w = plain_workload c.args.w.now in
    let names : List Ident = c.order-name-items.result.now in
    let i = c.loop-name.name-index in
    let made : List ℕ = c.loop-name.made.items in
    let next = c.count-seq.result in
    let place : c.get-client.result ≡ place_of (client_names w) (get_or names i none).name =
    c.get-client.ensures ∙ ap (λ ns. place_of ns (get_or names i none).name) c.in_ok-clients.ensures in
    subst (λ (l : List ℕ). HasCounted w (take (i + 1) names) c.push.new.self.items l) (sym (c.count-seq.ensures.counted ∙ ap (λ n. set made n next) place))
    (name_counted w c.requires names c.order-name-items.ensures i none c.loop-name-test.true c.loop-name.calls.items made c.loop-name.invariant
    next (record { client = c.get-client.result; seq = next }) c.push.new.self.items
    (c.count-seq.ensures.number ∙ ap (λ n. get_or made n 0 + 1) place) (ap (λ (n : ℕ). record { client = n; seq = next }) place) c.in_ok-push.ensures.items)

pub returns : goal.returns
returns c =
    all_counted (plain_workload c.args.w.now) c.order-name-items.result.now c.loop-name.name-index c.loop-name.calls.items c.loop-name.made.items
    c.order-name-items.ensures c.loop-name-test.false c.loop-name.invariant

use Rattle.homeo_history.specs.Key.{definitions as history_definitions}
use Rattle.homeo_wire.specs.Key.{definitions}
use Rattle.std.proofs.Common.{[], ◌∷◌, ◌++◌, None, map, length, sym, ap, subst, ◌∙◌}
use Rattle.std.proofs.lemmas.List.{map-append}
use Rattle.homeo_history.specs.HistoryView.{plain_round}
use Rattle.homeo_core.specs.Joined.{gathered}
use Rattle.homeo_wire.specs.inner.Standing.{LastFits}
use Rattle.homeo_wire.specs.Read.{ran_in, rounds_left, sites_in}
use Rattle.homeo_wire.specs.WireView.{plain_left, plain_journal}
use Rattle.homeo_wire.proofs.history.history_by.Goals as goal

pub last_values-requires : goal.last_values-requires
last_values-requires c =
    let js = map plain_journal c.args.nodes.now in
    record { fits = subst (λ v. LastFits v c.round.result js) (sym (c.as_slice-base.ensures ∙ c.requires.base)) (subst (λ r. LastFits c.args.node.now.site.state.base r js) (sym c.round.ensures) c.requires.fits) }

pub returns : goal.returns
unfolding history_definitions definitions
returns c =
    let js = map plain_journal c.args.nodes.now in
    let x = c.args.node.now in
    let long = ap length c.as_slice-left.ensures ∙ c.requires.rounds in
    let base = c.in_ok-copy_values.ensures ∙ c.as_slice-base.ensures ∙ c.requires.base in
    let left = c.in_ok-rounds.ensures ∙ ap (λ ls. rounds_left js 0 (map plain_left ls)) c.as_slice-left.ensures in
    let segments = c.in_ok-ran_by_all.ensures ∙ ap (λ r. map (ran_in r) js) long in
    let rounds =
    ap (λ l. map plain_round l.items) c.in_ok-push.ensures.ok ∙ map-append plain_round c.in_ok-rounds.rounds.items (_ ∷ [])
    ∙ (λ k. left k ++ record { base = base k; segments = segments k; closing = None } ∷ []) in
    let last =
    c.in_ok-last.ensures ∙ ap (λ v. gathered v (sites_in c.round.result js)) (c.as_slice-base.ensures ∙ c.requires.base)
    ∙ ap (λ r. gathered x.site.state.base (sites_in r js)) c.round.ensures in
    λ k. record { rounds = rounds k; last = last k }

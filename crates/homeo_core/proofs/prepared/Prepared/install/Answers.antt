use Rattle.homeo_site.specs.Key.{definitions as site_definitions}
use Rattle.homeo_core.specs.Starts.{start_after, waits}
use Rattle.homeo_core.specs.Key.{definitions}
use Rattle.homeo_site.specs.SiteView.{SiteValue, StartValue}
use Rattle.homeo_site.specs.SiteState.{begun}
use Rattle.homeo_history.specs.HistoryView.{plain_segment, plain_closing}
use Rattle.homeo_history.proofs.Lists.{length_set}
use Rattle.std.proofs.Common.{◌≡◌, true, Some, subst, sym, ◌∙◌, ℕ, suc, false, map, ap, slice_set}
use Rattle.std.specs.Prelude.{slice_get}
use Rattle.homeo_lemmas.proofs.Places.{map_set}
use Rattle.homeo_core.specs.PreparedView.{PreparedValue}
use Rattle.homeo_core.proofs.StartsOfSites.{no_start, start_there, starts_less}
use Rattle.homeo_core.proofs.prepared.Prepared.install.Goals as goal

pub unreachable-requires : goal.unreachable-requires
unreachable-requires c =
    let here = subst (λ (v : PreparedValue). slice_get v.waiting c.number-number.result ≡ Some true) (sym c.self.view_is)
    (subst (λ (n : ℕ). slice_get c.args.self.now.waiting n ≡ Some true) (sym c.number-number.ensures) c.requires.waits) in
    no_start c.self.inside.starts.items c.number-number.result _ here (sym c.index_mut.ensures.value ∙ sym c.take.ensures.value ∙ c.in-None.is)

pub invariant_of-self : goal.invariant_of-self
unfolding definitions
invariant_of-self c =
    let f = c.self.inside in
    let n : ℕ = c.number-number.result in (
      c.self.invariant.0,
      starts_less f.compiled.value f.round f.next.items f.starts.items n c.take.new.self c.take.ensures.after c.self.invariant.1,
      length_set f.segments.items n c.renew.result ∙ c.self.invariant.2 ∙ sym (length_set f.starts.items n c.take.new.self),
    )

pub returns-clause-site : goal.returns-clause-site
unfolding definitions site_definitions
returns-clause-site c =
    let f = c.self.inside in
    let n : ℕ = c.number-number.result in
    let view = c.self.view_is in
    let waiting : slice_get (map waits f.starts.items) n ≡ Some true = subst (λ (v : PreparedValue). slice_get v.waiting n ≡ Some true) (sym view)
    (subst (λ (m : ℕ). slice_get c.args.self.now.waiting m ≡ Some true) (sym c.number-number.ensures) c.requires.waits) in
    let start : slice_get f.starts.items n ≡ Some (Some c.in-Some.start) = start_there f.starts.items n _ c.in-Some.start waiting (sym c.index_mut.ensures.value ∙ sym c.take.ensures.value ∙ c.in-Some.is) in
    let is : c.in-Some.start ≡ start_after f.compiled.value f.round f.next.items n = c.self.invariant.1 n c.in-Some.start start in
    let round : f.round ≡ c.args.site.now.state.round = ap (λ (v : PreparedValue). v.round) view ∙ sym c.requires.round in
    let next : f.next.items ≡ c.args.self.now.next = ap (λ (v : PreparedValue). v.next) view in
    ap (λ (s : SiteValue). s.state) c.renew.ensures.state
    ∙ ap (λ (s : StartValue). begun s.number s.round s.base) is
    ∙ (λ j. begun (c.number-number.ensures j) (suc (round j)) (next j))

pub returns-clause-work : goal.returns-clause-work
unfolding definitions
returns-clause-work c =
    let f = c.self.inside in
    let n : ℕ = c.number-number.result in
    let view = c.self.view_is in
    let waiting : slice_get (map waits f.starts.items) n ≡ Some true = subst (λ (v : PreparedValue). slice_get v.waiting n ≡ Some true) (sym view)
    (subst (λ (m : ℕ). slice_get c.args.self.now.waiting m ≡ Some true) (sym c.number-number.ensures) c.requires.waits) in
    let start : slice_get f.starts.items n ≡ Some (Some c.in-Some.start) = start_there f.starts.items n _ c.in-Some.start waiting (sym c.index_mut.ensures.value ∙ sym c.take.ensures.value ∙ c.in-Some.is) in
    let is : c.in-Some.start ≡ start_after f.compiled.value f.round f.next.items n = c.self.invariant.1 n c.in-Some.start start in
    ap (λ (s : SiteValue). s.work) c.renew.ensures.state ∙ ap (λ (s : StartValue). s.work) is ∙ ap (λ (v : PreparedValue). v.work) view

pub returns-clause-taken : goal.returns-clause-taken
unfolding definitions
returns-clause-taken c =
    let f = c.self.inside in
    let n : ℕ = c.number-number.result in
    let view : ◌≡◌ {A = PreparedValue} record {
      work = f.compiled.value;
      round = f.round;
      base = f.base.items;
      closing = plain_closing f.closing;
      next = f.next.items;
      segments = map plain_segment f.segments.items;
      waiting = map waits f.starts.items;
    } c.args.self.now = c.self.view_is in
    let segments : map plain_segment (slice_set f.segments.items n c.renew.result) ≡ slice_set c.args.self.now.segments c.args.site.now.state.number c.args.site.now.state.segment =
    map_set plain_segment f.segments.items n c.renew.result
    ∙ (λ j. slice_set (view j).segments (c.number-number.ensures j) (c.renew.ensures.segment j)) in
    let waiting : map waits (slice_set f.starts.items n c.take.new.self) ≡ slice_set c.args.self.now.waiting c.args.site.now.state.number false =
    map_set waits f.starts.items n c.take.new.self
    ∙ (λ j. slice_set (view j).waiting (c.number-number.ensures j) (waits (c.take.ensures.after j))) in
    (λ j. record {
      work = (view j).work;
      round = (view j).round;
      base = (view j).base;
      closing = (view j).closing;
      next = (view j).next;
      segments = segments j;
      waiting = waiting j;
    })

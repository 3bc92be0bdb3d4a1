use Rattle.std.proofs.Common.{◌≡◌, ℕ, suc, ◌+◌, true, false, Bool, Some, List, length, map, replicate, get_or, refl, sym, ap, ◌∙◌, arith, slice_set}
use Rattle.std.specs.Prelude.{slice_get}
use Rattle.std.proofs.lemmas.List.{length-map, length-replicate}
use Rattle.homeo_lemmas.proofs.Places.{get_map}
use Rattle.homeo_site.specs.SiteState.{SiteState, renewed}
use Rattle.homeo_site.specs.SiteView.{SiteValue}
use Rattle.homeo_core.specs.Key.{definitions}
use Rattle.homeo_core.specs.PreparedView.{PreparedValue}
use Rattle.homeo_core.specs.Joined.{segments_of}
use Rattle.homeo_core.specs.SiteLists.{states, first_from}
use Rattle.homeo_core.proofs.GatheredSites.{turn, from_next, from_at, from_all, states_set, states_count, all_set, same_in}
use Rattle.homeo_core.proofs.rounds.install_all.Goals as goal

pub loop-i-init : goal.loop-i-init
unfolding definitions
loop-i-init c = record { renewed = refl; of = c.requires.of; prepared = refl }

pub install-requires-clause-waits : goal.install-requires-clause-waits
unfolding definitions
install-requires-clause-waits c =
    let p = c.args.prepared.now in
    let i = c.loop-i.i in
    let old = states c.args.sites.now in
    let t = turn p.round p.base old (map (renewed p.next) old) c.loop-i.sites i c.index-sites-i.result c.requires.at c.loop-i.invariant.renewed (omega (arith, c.loop-i-test.true, c.loop-i.auto.sites)) in
    let waiting : slice_get c.loop-i.prepared.waiting i ≡ Some true =
    ap (λ (q : PreparedValue). slice_get q.waiting i) c.loop-i.invariant.prepared
    ∙ from_at p.waiting (replicate (length old) false) i
    ∙ ap (λ (l : List Bool). slice_get l i) c.requires.waiting
    ∙ same_in (length c.args.sites.now) i true (omega (arith, c.loop-i-test.true, c.loop-i.auto.sites)) in
    ap (λ n. slice_get c.loop-i.prepared.waiting n) t.at.numbered ∙ waiting

pub install-requires-clause-round : goal.install-requires-clause-round
install-requires-clause-round c =
    let p = c.args.prepared.now in
    let old = states c.args.sites.now in
    let t = turn p.round p.base old (map (renewed p.next) old) c.loop-i.sites c.loop-i.i c.index-sites-i.result c.requires.at c.loop-i.invariant.renewed (omega (arith, c.loop-i-test.true, c.loop-i.auto.sites)) in
    t.at.in_round ∙ sym (ap (λ (q : PreparedValue). q.round) c.loop-i.invariant.prepared)

pub loop-i-preserved : goal.loop-i-preserved
unfolding definitions
loop-i-preserved c =
    let p = c.args.prepared.now in
    let q = c.loop-i.prepared in
    let i = c.loop-i.i in
    let old = states c.args.sites.now in
    let new : List SiteState = map (renewed p.next) old in
    let x : SiteState = (get_or c.loop-i.sites i c.index-sites-i.result).state in
    let t = turn p.round p.base old new c.loop-i.sites i c.index-sites-i.result c.requires.at c.loop-i.invariant.renewed (omega (arith, c.loop-i-test.true, c.loop-i.auto.sites)) in
    let next : suc i ≡ i + 1 = omega arith in
    let same : q ≡ record {
      work = p.work;
      round = p.round;
      base = p.base;
      closing = p.closing;
      next = p.next;
      segments = first_from p.segments (segments_of old) i;
      waiting = first_from p.waiting (replicate (length old) false) i;
    } = c.loop-i.invariant.prepared in
    let state : c.install.new.site.state ≡ renewed p.next x = c.install.ensures.site ∙ ap (λ (v : PreparedValue). renewed v.next x) same in
    let segments : slice_set q.segments x.number x.segment ≡ first_from p.segments (segments_of old) (i + 1) =
    ap (λ (v : PreparedValue). slice_set v.segments x.number x.segment) same
    ∙ ap (λ n. slice_set (first_from p.segments (segments_of old) i) n x.segment) t.at.numbered
    ∙ from_next p.segments (segments_of old) i x.segment (get_map (λ (y : SiteState). y.segment) old i x t.stands)
    ∙ ap (first_from p.segments (segments_of old)) next in
    let waiting : slice_set q.waiting x.number false ≡ first_from p.waiting (replicate (length old) false) (i + 1) =
    ap (λ (v : PreparedValue). slice_set v.waiting x.number false) same
    ∙ ap (λ n. slice_set (first_from p.waiting (replicate (length old) false) i) n false) t.at.numbered
    ∙ from_next p.waiting (replicate (length old) false) i false (same_in (length old) i false (omega (arith, c.loop-i-test.true, c.loop-i.auto.sites, states_count c.args.sites.now)))
    ∙ ap (first_from p.waiting (replicate (length old) false)) next in
    record {
      renewed =
          states_set c.loop-i.sites i c.install.new.site
          ∙ ap (slice_set (states c.loop-i.sites) i) state
          ∙ ap (λ l. slice_set l i (renewed p.next x)) c.loop-i.invariant.renewed
          ∙ from_next old new i (renewed p.next x) (get_map (renewed p.next) old i x t.stands)
          ∙ ap (first_from old new) next;
      of = all_set (λ (s : SiteValue). s.work ≡ p.work) c.loop-i.sites i c.install.new.site c.loop-i.invariant.of (c.install.ensures.work ∙ ap (λ (v : PreparedValue). v.work) same);
      prepared =
          c.install.ensures.taken
          ∙ (λ j. record {
            work = (same j).work;
            round = (same j).round;
            base = (same j).base;
            closing = (same j).closing;
            next = (same j).next;
            segments = segments j;
            waiting = waiting j;
          });
    }

pub returns-clause-sites : goal.returns-clause-sites
unfolding definitions
returns-clause-sites c =
    let p = c.args.prepared.now in
    let old = states c.args.sites.now in
    let new : List SiteState = map (renewed p.next) old in
    let end : c.loop-i.i ≡ length old = omega (arith, c.loop-i-test.false, c.loop-i.auto.i-end, c.loop-i.auto.sites, states_count c.args.sites.now) in
    c.loop-i.invariant.renewed ∙ ap (first_from old new) end ∙ from_all old new (sym (length-map old (renewed p.next)))

pub returns-clause-prepared : goal.returns-clause-prepared
unfolding definitions
returns-clause-prepared c =
    let p = c.args.prepared.now in
    let old = states c.args.sites.now in
    let n : ℕ = length c.args.sites.now in
    let end : c.loop-i.i ≡ n = omega (arith, c.loop-i-test.false, c.loop-i.auto.i-end, c.loop-i.auto.sites) in
    let count : length old ≡ n = states_count c.args.sites.now in
    let segments : first_from p.segments (segments_of old) c.loop-i.i ≡ segments_of old =
    ap (first_from p.segments (segments_of old)) (end ∙ sym c.requires.segments)
    ∙ from_all p.segments (segments_of old) (c.requires.segments ∙ sym count ∙ sym (length-map old (λ (y : SiteState). y.segment))) in
    let waits : length p.waiting ≡ n = ap length c.requires.waiting ∙ length-replicate n true in
    let waiting : first_from p.waiting (replicate (length old) false) c.loop-i.i ≡ replicate n false =
    ap (first_from p.waiting (replicate (length old) false)) (end ∙ sym waits)
    ∙ from_all p.waiting (replicate (length old) false) (waits ∙ sym count ∙ sym (length-replicate (length old) false))
    ∙ ap (λ m. replicate m false) count in
    c.loop-i.invariant.prepared
    ∙ (λ j. record {
      work = p.work;
      round = p.round;
      base = p.base;
      closing = p.closing;
      next = p.next;
      segments = segments j;
      waiting = waiting j;
    })

use Rattle.std.proofs.Common.{◌≡◌, ◌+◌, ◌<◌, ◌≤◌, [], ◌∷◌, ◌++◌, sym, subst, ◌∙◌, arith}
use Rattle.homeo_meaning.specs.Initial.{initial}
use Rattle.homeo_notes.specs.Lines.{Owns, IsOwner, list_at, with_list, without_lines, only_lines}
use Rattle.homeo_cluster.specs.Places.{at_line, bases_line}
use Rattle.homeo_cluster.specs.inner.Begun.{IsRest, IsFirst, first_line}
use Rattle.homeo_cluster.proofs.LinesInOrder.{at_after_first, at_before_bases, bases_few}
use Rattle.homeo_cluster.proofs.Begins.{owned_owner, some_room, owners_dealt, site_dealt}
use Rattle.homeo_cluster.proofs.frame.Frame.deal_site.Given.{Over}
use Rattle.homeo_cluster.proofs.frame.Frame.deal_site.Goals as goal
use Rattle.homeo_cluster.proofs.frame.Frame.deal_site.Goals.{After-tell-2}

pub extend-requires-clause-owner : goal.extend-requires-clause-owner
extend-requires-clause-owner g c =
    let w = g.N.ClusterNaming.workload in
    let site = c.args.site in
    let own : Owns c.args.rest.now (at_line w site) [] = c.requires.rest.left (at_line w site) (at_after_first w site) (at_before_bases w site c.requires.site) in
    subst (IsOwner c.args.rest.now) (sym c.at-at.ensures) (owned_owner c.args.rest.now (at_line w site) [] own)

pub extend-requires-clause-room : goal.extend-requires-clause-room
extend-requires-clause-room g c =
    let w = g.N.ClusterNaming.workload in
    let site = c.args.site in
    let own : Owns c.args.rest.now (at_line w site) [] = c.requires.rest.left (at_line w site) (at_after_first w site) (at_before_bases w site c.requires.site) in
    some_room c.args.rest.now c.at-at.result (subst (λ n. Owns c.args.rest.now n []) (sym c.at-at.ensures) own)

pub overflow_add-at : goal.overflow_add-at
overflow_add-at g c =
    let w = g.N.ClusterNaming.workload in
    let before : at_line w c.args.site < bases_line w = at_before_bases w c.args.site c.requires.site in
    let few : bases_line w ≤ 272 = bases_few w c.accepted.ensures in
    let at = c.at-at.ensures in
    omega (arith, before, few, at)

pub deal-holder-requires-clause-range : goal.deal-holder-requires-clause-range
deal-holder-requires-clause-range g c =
    let w = g.N.ClusterNaming.workload in
    let after : first_line w c.args.site ≤ at_line w c.args.site = at_after_first w c.args.site in
    let at = c.at-at.ensures in
    let first = c.requires.first in
    omega (arith, after, at, first)

pub deal-holder-requires-clause-owner : goal.deal-holder-requires-clause-owner
deal-holder-requires-clause-owner g c i l u =
    let w = g.N.ClusterNaming.workload in
    let h = c.args.rest.now in
    let at : c.at-at.result ≡ at_line w c.args.site = c.at-at.ensures in
    let first : c.args.first ≡ first_line w c.args.site = c.requires.first in
    let base : c.as_slice.result.now ≡ initial w = c.as_slice.ensures ∙ c.requires.base in
    let is : c.extend.new.holder ≡ with_list h (at_line w c.args.site) (list_at h (at_line w c.args.site) ++ initial w ∷ []) = c.extend.ensures.appended ∙ (λ j. with_list h (at j) (list_at h (at j) ++ base j ∷ [])) in
    owners_dealt w (initial w) c.args.site i h c.extend.new.holder c.requires.site c.requires.rest is (omega (arith, l, first)) (omega (arith, u, at))

both : (g : Over) (c : After-tell-2 g) → IsRest g.N.ClusterNaming.workload (initial g.N.ClusterNaming.workload) (c.args.site + 1) c.tell-2.new.from × IsFirst g.N.ClusterNaming.workload (initial g.N.ClusterNaming.workload) c.args.site c.tell-2.new.to
both g c =
    let w = g.N.ClusterNaming.workload in
    let h = c.args.rest.now in
    let h1 = c.extend.new.holder in
    let at : c.at-at.result ≡ at_line w c.args.site = c.at-at.ensures in
    let first : c.args.first ≡ first_line w c.args.site = c.requires.first in
    let base : c.as_slice.result.now ≡ initial w = c.as_slice.ensures ∙ c.requires.base in
    let is1 : h1 ≡ with_list h (at_line w c.args.site) (list_at h (at_line w c.args.site) ++ initial w ∷ []) = c.extend.ensures.appended ∙ (λ j. with_list h (at j) (list_at h (at j) ++ base j ∷ [])) in
    let is2 : c.deal-holder.new.from ≡ without_lines (first_line w c.args.site) (at_line w c.args.site + 1) h1 = c.deal-holder.ensures.from ∙ (λ j. without_lines (first j) (at j + 1) h1) in
    let is : c.deal-holder.result ≡ only_lines (first_line w c.args.site) (at_line w c.args.site + 1) h1 = c.deal-holder.ensures.new ∙ (λ j. only_lines (first j) (at j + 1) h1) in
    site_dealt w (initial w) c.args.site h h1 c.deal-holder.new.from c.tell.new.to c.tell-2.new.from c.deal-holder.result c.tell.new.from c.tell-2.new.to c.requires.site c.requires.rest
    is1 is2 is c.tell.ensures.to c.tell.ensures.prefixes c.tell.ensures.from c.tell-2.ensures.to c.tell-2.ensures.prefixes c.tell-2.ensures.from

pub returns-clause-rest : goal.returns-clause-rest
returns-clause-rest g c = (both g (goal.at.returns-clause-rest g c).After-tell-2).0

pub returns-clause-dealt : goal.returns-clause-dealt
returns-clause-dealt g c = (both g (goal.at.returns-clause-dealt g c).After-tell-2).1

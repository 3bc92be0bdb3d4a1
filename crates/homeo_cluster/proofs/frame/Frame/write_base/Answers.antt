use Rattle.std.proofs.Common.{◌≡◌, [], ◌∷◌, ◌++◌, sym, subst, ◌∙◌}
use Rattle.homeo_meaning.specs.Initial.{initial}
use Rattle.homeo_notes.specs.Lines.{Owns, IsOwner, list_at, with_list}
use Rattle.homeo_cluster.specs.Places.{bases_line}
use Rattle.homeo_cluster.proofs.LinesInOrder.{bases_after_asked, bases_before_end}
use Rattle.homeo_cluster.proofs.Begins.{owned_owner, some_room, base_written}
use Rattle.homeo_cluster.proofs.frame.Frame.write_base.Goals as goal

pub extend-requires-clause-owner : goal.extend-requires-clause-owner
extend-requires-clause-owner g c =
    let w = g.N.ClusterNaming.workload in
    let own : Owns c.args.rest.now (bases_line w) [] = c.requires.rest (bases_line w) (bases_after_asked w) (bases_before_end w) in
    subst (IsOwner c.args.rest.now) (sym c.bases-line.ensures) (owned_owner c.args.rest.now (bases_line w) [] own)

pub extend-requires-clause-room : goal.extend-requires-clause-room
extend-requires-clause-room g c =
    let w = g.N.ClusterNaming.workload in
    let own : Owns c.args.rest.now (bases_line w) [] = c.requires.rest (bases_line w) (bases_after_asked w) (bases_before_end w) in
    some_room c.args.rest.now c.bases-line.result (subst (λ n. Owns c.args.rest.now n []) (sym c.bases-line.ensures) own)

pub returns : goal.returns
returns g c =
    let w = g.N.ClusterNaming.workload in
    let h = c.args.rest.now in
    let base : c.as_slice.result.now ≡ initial w = c.as_slice.ensures ∙ c.requires.base in
    let is : c.extend.new.holder ≡ with_list h (bases_line w) (list_at h (bases_line w) ++ initial w ∷ []) = c.extend.ensures.appended ∙ (λ j. with_list h (c.bases-line.ensures j) (list_at h (c.bases-line.ensures j) ++ base j ∷ [])) in
    base_written w (initial w) h c.extend.new.holder is c.requires.rest

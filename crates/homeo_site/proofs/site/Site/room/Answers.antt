-- The site is the same as before its effect was made.
use Rattle.std.proofs.Common.{All, sym, ap, ◌∙◌, subst}
use Rattle.std.specs.Prelude.{IfOk}
use Rattle.homeo_syntax.specs.SourceView.{plain_workload}
use Rattle.homeo_history.specs.Legal.{IsCallAt}
use Rattle.homeo_site.specs.Attempts.{IsRoom, IsEmptyCopy}
use Rattle.homeo_site.specs.SiteView.{SiteValue}
use Rattle.homeo_site.proofs.SiteViews.{with_spare, same_spare}
use Rattle.homeo_site.proofs.site.Site.room.Goals as goal

pub take_room-requires : goal.take_room-requires
take_room-requires c =
    subst (λ (v : SiteValue). IsCallAt (plain_workload v.work) v.state.number c.args.call) (sym c.prepare.ensures) c.requires

pub returns-in_err-prepare-clause-state : goal.returns-in_err-prepare-clause-state
returns-in_err-prepare-clause-state c = same_spare _ _ c.prepare.ensures

pub returns-clause-state : goal.returns-clause-state
returns-clause-state c =
    c.take_room.ensures.state ∙ ap (λ (v : SiteValue). with_spare v c.take_room.new.self.spare) c.prepare.ensures

pub returns-clause-room : goal.returns-clause-room
returns-clause-room c =
    subst (λ (v : SiteValue). IfOk c.take_room.result (λ r. IsRoom (plain_workload v.work) v.state c.args.call r.0)) c.prepare.ensures
    c.take_room.ensures.room

pub returns-clause-copies : goal.returns-clause-copies
returns-clause-copies c =
    subst (λ (v : SiteValue). IfOk c.take_room.result (λ r. All (IsEmptyCopy (plain_workload v.work) v.state c.args.call) r.1.items))
    c.prepare.ensures c.take_room.ensures.copies

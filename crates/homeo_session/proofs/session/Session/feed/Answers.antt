use Rattle.std.proofs.Common.{subst, sym}
use Rattle.homeo_session.specs.Streams.{SessionValue, IsAfter}
use Rattle.homeo_session.proofs.session.Session.feed.Goals as goal

pub returns-clause-stops : goal.returns-clause-stops
returns-clause-stops c = λ bytes out r h.
    let was : IsAfter bytes out c.self.inside.stream = subst (λ (x : SessionValue). IsAfter bytes out x.state) (sym c.self.view_is) h in
    c.feed-fed.ensures.stops bytes out r was

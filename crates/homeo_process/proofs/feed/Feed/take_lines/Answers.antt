use Rattle.std.proofs.Common.{Option, sym, subst}
use Rattle.homeo_process.specs.inner.Feeds.{FeedValue, IsBehindText, IsKept, IsAfter}
use Rattle.homeo_process.specs.inner.Lines.{LinesValue}
use Rattle.homeo_process.specs.contracts.feed.Feed.{the_view}
use Rattle.homeo_process.proofs.Feeding.{behind_more}
use Rattle.homeo_process.proofs.feed.Feed.take_lines.Goals as goal

pub returns-clause-gives : goal.returns-clause-gives
returns-clause-gives c = λ bytes given h.
    let f : FeedValue = the_view c.self.inside in
    let was : IsAfter bytes given f = subst (λ (x : FeedValue). IsAfter bytes given x) (sym c.self.view_is) h in
    let behind : IsBehindText bytes given c.in-Some.lines = subst (λ (o : Option LinesValue). IsKept bytes given f.text o) c.in-Some.is was in
    behind_more c.take.result bytes given c.args.piece.now c.args.answers.now.items c.take.new.answers.items c.in-Some.lines c.take.new.self behind c.take.ensures

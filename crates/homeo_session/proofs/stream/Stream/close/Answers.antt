use Rattle.std.proofs.Common.{◌≡◌, ◌∙◌, ◌++◌, [], sym, ap, subst}
use Rattle.homeo_session.specs.Batches.{RefusesHead}
use Rattle.homeo_session.specs.inner.Heads.{EndsBy}
use Rattle.homeo_session.specs.Streams.{State, IsAfter, IsServed}
use Rattle.homeo_session.specs.contracts.stream.Stream.{the_view}
use Rattle.homeo_session.proofs.Taking.{served_at_end, none_before}
use Rattle.homeo_session.proofs.stream.Stream.close.Goals as goal

pub returns-clause-served : goal.returns-clause-served
returns-clause-served c = λ bytes out h none.
    let s : State = the_view c.self.inside in
    let was : IsAfter bytes out s = subst (λ (x : State). IsAfter bytes out x) (sym c.self.view_is) h in
    let answer = c.in_ok-stop.ensures.answered none in
    let rest : c.deref.result.now ≡ s.rest = c.deref.ensures.value in
    let made = served_at_end bytes out answer.0 s was (subst (λ l. EndsBy s.head l answer.0) rest answer.2) in
    let same : c.from_vec.result.items ≡ answer.0 = ap (λ x. x.items) c.from_vec.ensures ∙ answer.1 ∙ ap (λ l. l ++ answer.0) c.new-answers.ensures.items in
    subst (λ l. IsServed bytes (out ++ l)) (sym same) made

pub returns-clause-stops : goal.returns-clause-stops
returns-clause-stops c = λ bytes out r h is.
    let s : State = the_view c.self.inside in
    let was : IsAfter bytes out s = subst (λ (x : State). IsAfter bytes out x) (sym c.self.view_is) h in
    let refused = c.in_ok-stop.ensures.refused r is in
    let rest : c.deref.result.now ≡ s.rest = c.deref.ensures.value in
    let nothing : out ≡ [] = none_before bytes out s was refused.1 in (
      nothing,
      ap (λ x. x.items) c.from_vec.ensures ∙ refused.0 ∙ c.new-answers.ensures.items,
      record {
        state = s;
        goes_on = subst (λ l. IsAfter bytes l s) nothing was;
        first = refused.1;
        refused = subst (λ l. RefusesHead l r) rest refused.2;
      },
    )

-- The command is followed from the base on.
use Rattle.std.proofs.Common.{refl, subst}
use Rattle.std.specs.Prelude.{IfSome}
use Rattle.std.proofs.lemmas.Result.{IfOk-weaker}
use Rattle.homeo_syntax.specs.LowView.{plain_lcommand}
use Rattle.homeo_follow.specs.Follow.{Followed}
use Rattle.homeo_linear.specs.Effect.{IsEffect}
use Rattle.homeo_linear.specs.inner.Course.{followed_so}
use Rattle.homeo_linear.proofs.Coursing.{begins_at, followed_whole}
use Rattle.homeo_linear.proofs.course.Follower.effect.Goals as goal

pub follow-requires : goal.follow-requires
follow-requires c =
    let b = c.args.self.now.base.now in
    let q = followed_so c.begin.new.self in
    begins_at q q b b (plain_lcommand c.args.command.now) c.begin.ensures refl c.requires

pub returns-clause-effect : goal.returns-clause-effect
returns-clause-effect c =
    let b = c.args.self.now.base.now in
    IfOk-weaker c.effect.result _ _
    (λ o. subst (λ (q : Followed). IfSome o (IsEffect q)) (followed_whole (followed_so c.begin.new.self) (followed_so c.follow.new.course) b b
    (plain_lcommand c.args.command.now) c.begin.ensures refl c.in_ok-follow.ensures)) c.effect.ensures

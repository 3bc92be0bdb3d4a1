-- The command is followed from the base on.
use Rattle.std.proofs.Common.{refl, ap, ◌∙◌}
use Rattle.std.proofs.lemmas.Result.{IfOk-weaker}
use Rattle.homeo_syntax.specs.LowView.{plain_lcommand}
use Rattle.homeo_meaning.specs.Serial.{values_of}
use Rattle.homeo_follow.specs.Key.{definitions}
use Rattle.homeo_linear.specs.inner.Course.{brought_by, followed_so}
use Rattle.homeo_linear.proofs.Coursing.{begins_at, followed_whole, left_forms}
use Rattle.homeo_linear.proofs.course.Follower.part.Goals as goal

pub follow-requires : goal.follow-requires
follow-requires c =
    let b = c.args.self.now.base.now in
    let q = followed_so c.begin.new.self in
    begins_at q q b b (plain_lcommand c.args.command.now) c.begin.ensures refl c.requires.can

pub part-requires : goal.part-requires
part-requires c =
    let b = c.args.self.now.base.now in
    left_forms (followed_so c.begin.new.self) (followed_so c.follow.new.course) b b (plain_lcommand c.args.command.now) c.begin.ensures refl
    c.in_ok-follow.ensures c.requires.left

pub returns-clause-part : goal.returns-clause-part
unfolding definitions
returns-clause-part c =
    let b = c.args.self.now.base.now in
    IfOk-weaker c.part.result _ _
    (λ p h. h (values_of b) ∙ ap (brought_by (values_of b)) (followed_whole (followed_so c.begin.new.self) (followed_so c.follow.new.course) b b
    (plain_lcommand c.args.command.now) c.begin.ensures refl c.in_ok-follow.ensures)) c.part.ensures

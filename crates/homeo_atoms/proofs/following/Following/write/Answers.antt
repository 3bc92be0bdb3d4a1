-- The form stands at the name, which is written.
use Rattle.std.proofs.Common.{refl}
use Rattle.std.proofs.lemmas.Result.{on_ok_weaker}
use Rattle.homeo_syntax.specs.LowView.{plain_lexpr}
use Rattle.homeo_atoms.proofs.Needing.{wrote}
use Rattle.homeo_atoms.proofs.following.Following.write.Goals as goal

pub returns : goal.returns
returns c =
    on_ok_weaker c.push_written.result
    (λ h. wrote c.args.self.now
    (record { site = c.args.self.now.site; standing = c.set.new.self; written = c.push_written.new.written; prints = c.args.self.now.prints })
    (plain_lexpr c.args.value.now) c.in_ok-form.form c.in_ok-form.ensures refl c.args.target _ c.place_of.ensures h refl
    c.in_ok-set.ensures) c.push_written.ensures

-- The form stands at the temporary.
use Rattle.std.proofs.Common.{refl}
use Rattle.std.proofs.lemmas.Result.{on_ok_weaker}
use Rattle.homeo_syntax.specs.LowView.{plain_lexpr}
use Rattle.homeo_atoms.proofs.Needing.{assigned}
use Rattle.homeo_atoms.proofs.following.Following.assign.Goals as goal

pub returns : goal.returns
returns c =
    on_ok_weaker c.set.result
    (λ h. assigned c.args.self.now
    (record { site = c.args.self.now.site; standing = c.set.new.self; written = c.args.self.now.written; prints = c.args.self.now.prints })
    (plain_lexpr c.args.value.now) c.in_ok-form.form c.in_ok-form.ensures refl c.args.target _ c.place_of_temp.ensures refl refl h)
    c.set.ensures

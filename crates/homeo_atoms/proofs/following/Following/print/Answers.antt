-- What the print needs is one list more.
use Rattle.std.proofs.Common.{refl, map, ap, ◌∙◌}
use Rattle.std.proofs.lemmas.List.{map_push}
use Rattle.homeo_syntax.specs.LowView.{plain_lexpr}
use Rattle.homeo_atoms.proofs.Needing.{printed}
use Rattle.homeo_atoms.proofs.following.Following.print.Goals as goal

pub returns : goal.returns
returns c =
    printed c.args.self.now
    (record { site = c.args.self.now.site; standing = c.args.self.now.standing; written = c.args.self.now.written; prints = c.push.new.self })
    (plain_lexpr c.args.value.now) c.in_ok-form.form c.in_ok-form.ensures refl c.in_ok-remote.field-0.items c.in_ok-remote.ensures refl
    (ap (map (λ p. p.items)) c.in_ok-push.ensures.items ∙ map_push (λ p. p.items) c.args.self.now.prints.items c.in_ok-remote.field-0) refl

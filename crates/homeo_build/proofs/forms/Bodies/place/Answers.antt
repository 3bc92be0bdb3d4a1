-- A form that is new is made, and that of an earlier call stands at its place.
use Rattle.std.proofs.Common.{sym, ap, ◌∙◌, map}
use Rattle.std.specs.List.{list_any}
use Rattle.homeo_syntax.specs.LowView.{plain_lcommand}
use Rattle.homeo_syntax.specs.SourceView.{plain_workload}
use Rattle.homeo_meaning.specs.Ground.{plain_ground}
use Rattle.homeo_build.proofs.FormsMade.{stay_pushed, same_body, put_new, put_old, found_form, keys_put}
use Rattle.homeo_build.proofs.forms.Bodies.place.Goals as goal

pub returns-then-is_new-clause-bodies : goal.returns-then-is_new-clause-bodies
returns-then-is_new-clause-bodies c =
    let set = c.in_ok-place.ensures in
    let old = c.args.self.now in
    put_new (plain_workload c.args.w.now) (plain_ground c.args.call.now) c.in_ok-body.body c.in_ok-body.ensures.transaction c.in_ok-body.ensures.args
    old.bodies.keys c.insert_full.new.self.keys old.forms.items c.push.new.self.items c.in_ok-form.form (list_any (same_body c.in_ok-body.body) old.bodies.keys)
    set.keys (sym set.added ∙ c.if-is_new.true) (ap (λ l. l.items) c.in_ok-push.ensures.ok) c.requires.bodies c.in_ok-form.ensures.form

pub returns-then-is_new-clause-stay : goal.returns-then-is_new-clause-stay
returns-then-is_new-clause-stay c =
    stay_pushed c.args.self.now.forms.items c.push.new.self.items c.in_ok-form.form (ap (λ l. l.items) c.in_ok-push.ensures.ok)

pub returns-then-is_new-clause-place : goal.returns-then-is_new-clause-place
returns-then-is_new-clause-place c =
    let w = plain_workload c.args.w.now in
    let g = plain_ground c.args.call.now in
    let set = c.in_ok-place.ensures in
    found_form w g c.in_ok-body.body c.in_ok-body.ensures.transaction c.in_ok-body.ensures.args c.insert_full.new.self.keys (map plain_lcommand c.push.new.self.items)
    c.in_ok-place.place set.stored.0 (returns-then-is_new-clause-bodies c) set.stored.1 set.stored.2

pub returns-clause-bodies : goal.returns-clause-bodies
returns-clause-bodies c =
    let set = c.in_ok-place.ensures in
    let old = c.args.self.now in
    put_old (plain_workload c.args.w.now) (plain_ground c.args.call.now) c.in_ok-body.body c.in_ok-body.ensures.transaction c.in_ok-body.ensures.args
    old.bodies.keys c.insert_full.new.self.keys (map plain_lcommand old.forms.items) (list_any (same_body c.in_ok-body.body) old.bodies.keys)
    set.keys (sym set.added ∙ c.if-is_new.false) c.requires.bodies

pub returns-clause-stay : goal.returns-clause-stay
returns-clause-stay c = λ n f h. h

pub returns-clause-place : goal.returns-clause-place
returns-clause-place c =
    let w = plain_workload c.args.w.now in
    let g = plain_ground c.args.call.now in
    let set = c.in_ok-place.ensures in
    found_form w g c.in_ok-body.body c.in_ok-body.ensures.transaction c.in_ok-body.ensures.args c.insert_full.new.self.keys (map plain_lcommand c.args.self.now.forms.items)
    c.in_ok-place.place set.stored.0 (returns-clause-bodies c) set.stored.1 set.stored.2

pub returns-then-is_new-clause-keys : goal.returns-then-is_new-clause-keys
returns-then-is_new-clause-keys c =
    keys_put (plain_ground c.args.call.now) c.in_ok-body.body c.args.self.now.bodies.keys c.insert_full.new.self.keys
    c.in_ok-body.ensures.transaction c.in_ok-body.ensures.args c.in_ok-place.ensures.keys

pub returns-clause-keys : goal.returns-clause-keys
returns-clause-keys c =
    keys_put (plain_ground c.args.call.now) c.in_ok-body.body c.args.self.now.bodies.keys c.insert_full.new.self.keys
    c.in_ok-body.ensures.transaction c.in_ok-body.ensures.args c.in_ok-place.ensures.keys

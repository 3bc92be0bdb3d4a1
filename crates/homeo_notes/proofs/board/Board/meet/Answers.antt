use Rattle.std.proofs.Common.{ℕ, sym, ◌∙◌, subst, ap}
use mathlib.Core.List.{IsPrefix}
use Rattle.homeo_notes.specs.Lines.{Held, TellsOf, HasSeen, list_at, seen_at, after_telling}
use Rattle.homeo_notes.proofs.Meets.{met}
use Rattle.homeo_notes.proofs.board.Board.meet.Goals as goal

pub returns-clause-equal : goal.returns-clause-equal
returns-clause-equal g c =
    let second = λ (i : ℕ). subst (λ (h : Held). TellsOf c.tell.new.to h i) c.tell.ensures.from (c.tell-2.ensures.prefixes i) in
    let left = c.tell-2.ensures.to ∙ ap (after_telling c.tell.new.to) c.tell.ensures.from in
    let looked = subst (λ (h : Held). IsPrefix (seen_at h c.args.other) (list_at h c.args.other)) c.tell-2.ensures.from c.look-2.ensures.prefix in
    met c.args.left.now c.args.right.now c.tell-2.new.to c.tell.new.to c.args.one c.args.other c.tell.ensures.to left c.tell.ensures.prefixes second c.requires.left c.requires.right c.look.ensures.prefix looked

pub returns-clause-left_seen : goal.returns-clause-left_seen
returns-clause-left_seen g c i =
    let second = subst (λ (h : Held). TellsOf c.tell.new.to h i) c.tell.ensures.from (c.tell-2.ensures.prefixes i) in
    let left = c.look.ensures.same ∙ c.tell-2.ensures.to ∙ ap (after_telling c.tell.new.to) c.tell.ensures.from in
    subst (λ (h : Held). HasSeen h i (seen_at c.args.left.now i)) (sym left) second.0

pub returns-clause-right_seen : goal.returns-clause-right_seen
returns-clause-right_seen g c i =
    let right = c.look-2.ensures.same ∙ c.tell-2.ensures.from ∙ c.tell.ensures.to in
    subst (λ (h : Held). HasSeen h i (seen_at c.args.right.now i)) (sym right) (c.tell.ensures.prefixes i).0

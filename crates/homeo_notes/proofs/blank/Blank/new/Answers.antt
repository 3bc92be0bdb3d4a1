use Rattle.std.proofs.Common.{[], ◌∙◌, sym, subst, List, ℕ}
use Rattle.atomic_table.specs.Table.{opening}
use Rattle.homeo_notes.specs.Boards.{newcomer}
use Rattle.homeo_notes.specs.inner.Rule.{Kept}
use Rattle.homeo_notes.proofs.KeepsBegin.{begins}
use Rattle.homeo_notes.proofs.blank.Blank.new.Goals as goal

pub of_words-requires : goal.of_words-requires
of_words-requires c =
    subst (λ (ws : List ℕ). Kept c.args.lines (opening ws [] (newcomer c.args.lines))) (sym (c.as_slice.ensures.value ∙ c.in-Ok.ensures)) (begins c.args.lines)

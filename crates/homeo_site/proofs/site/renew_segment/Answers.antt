-- Neither has entries.
use Rattle.std.proofs.Common.{◌≡◌, ◌==◌, List, [], ◌∷◌, map, length, true, eqb-true, refl, sym, ap, ◌∙◌, arith}
use Rattle.homeo_syntax.specs.Listed.{Listed}
use Rattle.homeo_history.specs.Key.{definitions as history_definitions}
use Rattle.homeo_history.specs.HistoryView.{plain_entry}
use Rattle.homeo_history.specs.declared.history.Entry.{Entry}
use Rattle.homeo_history.specs.declared.history.Segment.{Segment}
use Rattle.homeo_site.proofs.site.renew_segment.Goals as goal

empty : {X : Type 0} (xs : List X) → (length xs == 0) ≡ true → xs ≡ []
empty [] h = refl
empty (x ∷ xs) h = absurd (omega (arith, eqb-true (length (x ∷ xs)) 0 h))

pub returns-clause-segment : goal.returns-clause-segment
unfolding history_definitions
returns-clause-segment c =
    let given = ap (λ (s : Segment). s.entries.items) (c.replace.ensures.value ∙ c.replace-ran.ensures.after) ∙ ap (λ (l : Listed Entry). l.items) c.requires in
    let none = empty c.as_slice.result.now (sym c.is_empty.ensures ∙ c.if-not-is_empty.false) in
    let ran = ap (λ (s : Segment). s.entries.items) (sym c.replace-ran.ensures.value) ∙ sym c.as_slice.ensures ∙ none in
    ap (map plain_entry) (given ∙ sym ran)

-- What one more command writes.
use Rattle.std.proofs.Common.{◌≡◌, ℕ, ◌+◌, ◌<◌, List, [], ◌∷◌, ◌++◌, map, take, get_or, length, refl, sym, ap, ◌∙◌}
use Rattle.std.proofs.lemmas.List.{take_more, map-append}
use Rattle.homeo_syntax.specs.Key.{definitions as syntax_definitions}
use Rattle.homeo_syntax.specs.Low as l
use Rattle.homeo_syntax.specs.LowView.{low_commands}
use Rattle.homeo_syntax.specs.declared.low.SplitName.{SplitName}
use Rattle.homeo_syntax.specs.declared.low.SplitName.TheVariants as split
use Rattle.homeo_plan.specs.declared.forms.Delta.{Delta}
use Rattle.homeo_effect.specs.Key.{definitions}
use Rattle.homeo_effect.specs.Touched.{with_delta, written}
use Rattle.homeo_effect.specs.inner.Uses.{objects_of}

with_more : (x : SplitName) (ds es : List Delta) → with_delta x (ds ++ es) ≡ with_delta x ds ++ es
unfolding definitions
with_more (split.Whole x) ds es = refl
with_more (split.Base x) ds es = refl
with_more (split.Delta x j) ds es = refl

pub written_more : (cs : List l.Command) (c : l.Command) → written (low_commands (cs ++ c ∷ [])) ≡ written (low_commands cs) ++ written (low_commands (c ∷ []))
unfolding definitions syntax_definitions
written_more [] c = refl
written_more (l.Skip ∷ cs) c = written_more cs c
written_more (l.Assign t e ∷ cs) c = written_more cs c
written_more (l.Write x e ∷ cs) c = ap (with_delta x) (written_more cs c) ∙ with_more x (written (low_commands cs)) (written (low_commands (c ∷ [])))
written_more (l.Print e ∷ cs) c = written_more cs c
written_more (l.Seq ds ∷ cs) c = written_more cs c
written_more (l.If t d e ∷ cs) c = written_more cs c

pub objects_more :
    {A : Type 0} (f : A → l.Command) (cs : List A) (k : ℕ) (c : A) → k < length cs → c ≡ get_or cs k c → (before after : List ℕ) →
    before ≡ objects_of (written (low_commands (map f (take k cs)))) → after ≡ before ++ objects_of (written (low_commands (f c ∷ []))) →
    after ≡ objects_of (written (low_commands (map f (take (k + 1) cs))))
objects_more f cs k c lt p before after so_far more =
    let taken : map f (take (k + 1) cs) ≡ map f (take k cs) ++ f c ∷ [] =
    ap (map f) (take_more cs k c lt ∙ ap (λ d. take k cs ++ d ∷ []) (sym p)) ∙ map-append f (take k cs) (c ∷ []) in
    let first = written (low_commands (map f (take k cs))) in
    let last = written (low_commands (f c ∷ [])) in
    more ∙ ap (λ (xs : List ℕ). xs ++ objects_of last) so_far
    ∙ sym (map-append (λ (d : Delta). d.object) first last)
    ∙ ap objects_of (sym (ap (λ ds. written (low_commands ds)) taken ∙ written_more (map f (take k cs)) (f c)))

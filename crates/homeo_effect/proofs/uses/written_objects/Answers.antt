-- One more command, and each object once.
use Rattle.std.proofs.Common.{◌==◌, map, sym, ap, ◌∙◌}
use Rattle.std.proofs.lemmas.List.Filters.{dedup_is}
use Rattle.std.proofs.lemmas.List.Sorted.{list_any-IsPermutation}
use Rattle.homeo_lemmas.proofs.Lists.{take_past}
use Rattle.homeo_syntax.specs.Key.{definitions as syntax_definitions}
use Rattle.homeo_syntax.specs.LowView.{low_commands, plain_lcommand}
use Rattle.homeo_outline.specs.Numbers.{has}
use Rattle.homeo_effect.specs.Key.{definitions}
use Rattle.homeo_effect.specs.Touched.{written}
use Rattle.homeo_effect.specs.inner.Uses.{objects_of}
use Rattle.homeo_effect.proofs.WrittenDeltas.{objects_more}
use Rattle.homeo_effect.proofs.RisingNumbers.{kept}
use Rattle.homeo_effect.proofs.uses.written_objects.Goals as goal

pub loop-c-init : goal.loop-c-init
unfolding definitions syntax_definitions
loop-c-init c = c.new-objects.ensures.items

pub loop-c-preserved : goal.loop-c-preserved
loop-c-preserved c =
    objects_more plain_lcommand c.args.cs.now c.loop-c.c-index c.c-item.result c.loop-c-test.true c.c-item.is
    c.loop-c.objects.items c.append_object.new.objects.items c.loop-c.invariant c.in_ok-append_object.ensures

pub returns : goal.returns
returns c x =
    ap (has x) (dedup_is _ _ _ c.dedup.ensures.filtered) ∙ kept x c.sort_unstable.new.self.items
    ∙ sym (list_any-IsPermutation (λ m. x == m) c.loop-c.objects.items c.sort_unstable.new.self.items c.sort_unstable.ensures.permutation)
    ∙ ap (has x) (c.loop-c.invariant
    ∙ ap (λ cs. objects_of (written (low_commands (map plain_lcommand cs)))) (take_past c.args.cs.now c.loop-c.c-index c.loop-c-test.false))

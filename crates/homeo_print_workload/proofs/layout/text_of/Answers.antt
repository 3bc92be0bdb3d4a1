use Rattle.std.proofs.Common.{◌++◌, map, sym, ap, ◌∙◌}
use Rattle.homeo_print_workload.specs.declared.layout.Before.TheVariants as before
use Rattle.homeo_print_workload.specs.declared.pieces.Piece.TheVariants as piece
use Rattle.homeo_print_workload.specs.inner.Pieces.{kind_of}
use Rattle.homeo_print_workload.specs.Layout.{laid}
use Rattle.homeo_print_workload.proofs.Laying.{laid_first, laid_more, laid_end}
use Rattle.homeo_print_workload.proofs.layout.text_of.Goals as goal

pub loop-piece-init : goal.loop-piece-init
loop-piece-init c = ap (λ t. t ++ laid c.args.names.now before.Tight (map kind_of c.args.pieces.now)) c.new-text.ensures.items ∙ sym (laid_first c.args.names.now (map kind_of c.args.pieces.now))

pub loop-piece-preserved : goal.loop-piece-preserved
loop-piece-preserved c =
    laid_more c.args.names.now c.loop-piece.before c.args.pieces.now c.loop-piece.piece-index (piece.Name 0) _ c.loop-piece.text.items _ _ _ _
    c.loop-piece-test.true c.loop-piece.invariant c.sort_of-sort.ensures.sort
    (c.in_ok-push_bytes.ensures ∙ ap (λ g. c.loop-piece.text.items ++ g) c.gap.ensures.text)
    c.in_ok-push_token.ensures.pushed c.after-before.ensures.state

pub returns : goal.returns
returns c = record {
  text = c.in_ok-push_bytes-2.ensures
      ∙ ap (λ l. c.loop-piece.text.items ++ l) (sym (laid_end c.args.names.now c.loop-piece.before c.args.pieces.now c.loop-piece.piece-index c.loop-piece-test.false))
      ∙ c.loop-piece.invariant;
}

-- The items so far are sent.
use Rattle.std.proofs.Common.{drop}
use Rattle.homeo_cert.proofs.Lists.{SendsUpTo}
use Rattle.homeo_cert.proofs.written.RefSliceWritten.write.Given as goal

abbrev pub invariant-loop-item : goal.invariant-loop-item
invariant-loop-item g l =
    SendsUpTo g.T.Written.json l.item-items (drop l.item-index l.item-items) (g.S.Serializer.written l.initial.out) (g.S.Serializer.written l.out)

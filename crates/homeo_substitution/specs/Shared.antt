-- What an expression with shared parts stands for.
use Rattle.homeo_syntax.specs.Low as l
use Rattle.homeo_syntax.specs.LowView.{low_exprs}
use Rattle.homeo_substitution.specs.declared.shared.Shared.{Shared}
use Rattle.homeo_substitution.specs.declared.shared.Shared.TheOpen.{Shared-F}
use Rattle.homeo_substitution.specs.declared.shared.Shared.TheFolds.{fold-Shared}
use Rattle.homeo_substitution.specs.Key.{definitions}

abbrev pub shared_step : Shared-F l.Expr → l.Expr
shared_step (Shared-F.Literal n) = l.Literal n
shared_step (Shared-F.Read x) = l.Read x
shared_step (Shared-F.Sum es) = l.Sum (low_exprs es.items)
shared_step (Shared-F.Product es) = l.Product (low_exprs es.items)
shared_step (Shared-F.Neg e) = l.Neg e.value
shared_step (Shared-F.Same e) = e.value

abbrev pub plain_shared : Shared → l.Expr
unfolding definitions
plain_shared = fold-Shared l.Expr shared_step

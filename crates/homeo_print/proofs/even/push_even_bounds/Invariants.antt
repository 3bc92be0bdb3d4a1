use Rattle.std.proofs.Common.{◌≡◌, ◌++◌, take}
use Rattle.std.specs.Prelude.{replicate}
use Rattle.homeo_plan.specs.Config.{split}
use Rattle.homeo_print.specs.Names.{numbers_text}
use Rattle.homeo_print.proofs.even.push_even_bounds.Given as goal

abbrev pub invariant-loop-site : goal.invariant-loop-site
invariant-loop-site l = l.out.items ≡ l.fn.out.items ++ numbers_text (take l.site (split (replicate l.sites 1) l.slack))

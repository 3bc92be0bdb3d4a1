-- The view of each kind of expression with shared parts as it is made, and that its parts are smaller.
use Rattle.std.proofs.Common.{◌≡◌, ℤ, map, Vec, Box, Global, rules}
use Rattle.std.specs.declared.rc.Rc.{Rc}
use Rattle.homeo_syntax.specs.declared.low.SplitName.{SplitName}
use Rattle.homeo_syntax.specs.Low as l
use Rattle.homeo_syntax.specs.LowView.{low_exprs}
use Rattle.homeo_substitution.specs.declared.shared.Shared.{Shared, Literal, Read, Sum, Product, Neg, Same, the_lemmas}
use Rattle.homeo_substitution.specs.Key.{definitions}
use Rattle.homeo_substitution.specs.Shared.{plain_shared}

pub ruleset parts = (the_lemmas)

pub shared-Literal : (n : ℤ) → plain_shared (Literal n) ≡ l.Literal n
unfolding definitions
shared-Literal n = search (rules, the_lemmas)

pub shared-Read : (x : SplitName) → plain_shared (Read x) ≡ l.Read x
unfolding definitions
shared-Read x = search (rules, the_lemmas)

pub shared-Sum : (es : Vec Shared Global) → plain_shared (Sum es) ≡ l.Sum (low_exprs (map plain_shared es.items))
unfolding definitions
shared-Sum es = search (rules, the_lemmas)

pub shared-Product : (es : Vec Shared Global) → plain_shared (Product es) ≡ l.Product (low_exprs (map plain_shared es.items))
unfolding definitions
shared-Product es = search (rules, the_lemmas)

pub shared-Neg : (e : Box Shared Global) → plain_shared (Neg e) ≡ l.Neg (plain_shared e.value)
unfolding definitions
shared-Neg e = search (rules, the_lemmas)

pub shared-Same : (e : Rc Shared Global) → plain_shared (Same e) ≡ plain_shared e.value
unfolding definitions
shared-Same e = search (rules, the_lemmas)

pub ruleset views = (shared-Literal, shared-Read, shared-Sum, shared-Product, shared-Neg, shared-Same)

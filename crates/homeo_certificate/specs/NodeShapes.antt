-- Which nodes of a command are in shape, of n objects and k sites.
use Rattle.std.specs.Prelude.{ℕ, ◌<◌}
use Rattle.homeo_certificate.specs.declared.nodes.Node.{Node}
use Rattle.homeo_certificate.specs.declared.nodes.Node.TheVariants as node
use Rattle.homeo_certificate.specs.Key.{definitions}
use Rattle.homeo_certificate.specs.Shape.{IsWord, IsCount, TempInShape}

module _ (n k : ℕ) where
  -- a node with numbers in their ranges
  abbrev pub NodeInShape : Node → Type 0
  unfolding definitions
  NodeInShape (node.Write x j) = (x < n) × (j < k)
  NodeInShape (node.Seq m) = IsCount m
  NodeInShape (node.If m) = IsCount m
  NodeInShape (node.Not m) = IsCount m
  NodeInShape (node.Temp t) = TempInShape n k t
  NodeInShape (node.Literal m) = IsWord m
  NodeInShape (node.Base x) = x < n
  NodeInShape (node.Delta x j) = (x < n) × (j < k)
  NodeInShape (node.Sum m) = IsCount m
  NodeInShape (node.Product m) = IsCount m
  NodeInShape _ = Unit {0}

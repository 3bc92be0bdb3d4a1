-- Nodes and numbers as JSON values.
use Rattle.std.specs.Prelude.{ℕ, List, [], ◌∷◌, map, ℤ, pos, codes}
use Rattle.serde_json.specs.Data.{Data, number, string, array}
use Rattle.serde_json.specs.Find.{of_integer}
use Rattle.serde_json.specs.View.{items_of}
use Rattle.homeo_syntax.specs.declared.phrase.Compare.{Compare}
use Rattle.homeo_syntax.specs.declared.phrase.Compare.TheVariants.{Less, LessEqual, Equal}
use Rattle.homeo_syntax.specs.declared.low.Temp.{Temp}
use Rattle.homeo_syntax.specs.declared.low.Temp.TheVariants.{Named, Fresh}
use Rattle.homeo_certificate.specs.declared.nodes.Node.{Node}
use Rattle.homeo_certificate.specs.declared.nodes.Node.TheVariants as node
use Rattle.homeo_certificate.specs.Key.{definitions}

-- a whole number
abbrev pub whole_data : ℤ → Data
whole_data n = number (of_integer n)

-- a list
abbrev pub list_data : List Data → Data
list_data ds = array (items_of ds)

-- a list of whole numbers
abbrev pub wholes_data : List ℤ → Data
wholes_data ns = list_data (map whole_data ns)

-- ["name",n,..]
abbrev pub named : List ℕ → List ℤ → Data
named name ns = list_data (string name ∷ map whole_data ns)

abbrev pub temp_data : Temp → Data
unfolding definitions
temp_data (Named n) = named (codes "named") (pos n ∷ [])
temp_data (Fresh n) = named (codes "fresh") (pos n ∷ [])

abbrev pub compare_data : Compare → Data
unfolding definitions
compare_data Less = named (codes "<") []
compare_data LessEqual = named (codes "<=") []
compare_data Equal = named (codes "=") []

abbrev pub node_data : Node → Data
unfolding definitions
node_data node.Skip = named (codes "skip") []
node_data node.Assign = named (codes "assign") []
node_data (node.Write x j) = named (codes "write") (pos x ∷ pos j ∷ [])
node_data node.Print = named (codes "print") []
node_data (node.Seq n) = named (codes "seq") (pos n ∷ [])
node_data (node.If n) = named (codes "if") (pos n ∷ [])
node_data node.True = named (codes "true") []
node_data (node.Not n) = named (codes "not") (pos n ∷ [])
node_data (node.Comparison op) = compare_data op
node_data (node.Temp t) = temp_data t
node_data (node.Literal n) = named (codes "lit") (n ∷ [])
node_data (node.Base x) = named (codes "base") (pos x ∷ [])
node_data (node.Delta x j) = named (codes "delta") (pos x ∷ pos j ∷ [])
node_data (node.Sum n) = named (codes "sum") (pos n ∷ [])
node_data (node.Product n) = named (codes "product") (pos n ∷ [])
node_data node.Neg = named (codes "neg") []

-- Nodes by their names and numbers.
use Rattle.std.proofs.Common.{◌≡◌, ℕ, ◌≤◌, List, [], ◌∷◌, map, length, pos, Option, Some, None, refl, sym, ap, ◌∙◌, subst, arith}
use Rattle.std.specs.Prelude.{codes}
use Rattle.serde_json.specs.Data.{Data, string}
use Rattle.serde_json.specs.Find.{as_str}
use Rattle.homeo_lemmas.proofs.Lists.{cons_head, cons_tail}
use Rattle.homeo_syntax.specs.declared.phrase.Compare.TheVariants.{Less, LessEqual, Equal}
use Rattle.homeo_syntax.specs.declared.low.Temp.TheVariants.{Named, Fresh}
use Rattle.homeo_plan.specs.declared.forms.Delta.{Delta}
use Rattle.homeo_certificate.specs.declared.nodes.Node.{Node}
use Rattle.homeo_certificate.specs.declared.nodes.Node.TheVariants as node
use Rattle.homeo_certificate.specs.Key.{definitions}
use Rattle.homeo_certificate.specs.Json.{whole_data, list_data, node_data}
use Rattle.homeo_certificate.specs.Shape.{DeltaInShape}
use Rattle.homeo_certificate.specs.Text.{delta_data}
use Rattle.homeo_cert_reader.specs.Read.{IsRead}
use Rattle.homeo_cert_reader.specs.inner.Reading.{IsBare}
use Rattle.homeo_certificate.specs.NodeShapes.{NodeInShape}
use Rattle.homeo_cert_reader.proofs.ReadLists.{same_list}

-- a name and numbers
abbrev pub NamedData : List ℕ → List Data → Data
NamedData name ds = list_data (string name ∷ ds)

record HasName (m : Node) : Type 0 where
  pub name : List ℕ
  pub numbers : List Data
  pub is : node_data m ≡ NamedData name numbers
  pub few : length numbers ≤ 2

named : (name : List ℕ) (ds : List Data) (m : Node) → node_data m ≡ NamedData name ds → length ds ≤ 2 → HasName m
named name ds m e l = record { name = name; numbers = ds; is = e; few = l }

has_name : (m : Node) → HasName m
unfolding definitions
has_name node.Skip = named (codes "skip") [] node.Skip refl (omega arith)
has_name node.Assign = named (codes "assign") [] node.Assign refl (omega arith)
has_name node.Print = named (codes "print") [] node.Print refl (omega arith)
has_name node.True = named (codes "true") [] node.True refl (omega arith)
has_name (node.Comparison Less) = named (codes "<") [] (node.Comparison Less) refl (omega arith)
has_name (node.Comparison LessEqual) = named (codes "<=") [] (node.Comparison LessEqual) refl (omega arith)
has_name (node.Comparison Equal) = named (codes "=") [] (node.Comparison Equal) refl (omega arith)
has_name node.Neg = named (codes "neg") [] node.Neg refl (omega arith)
has_name (node.Literal x) = named (codes "lit") (whole_data x ∷ []) (node.Literal x) refl (omega arith)
has_name (node.Base x) = named (codes "base") (whole_data (pos x) ∷ []) (node.Base x) refl (omega arith)
has_name (node.Temp (Named x)) = named (codes "named") (whole_data (pos x) ∷ []) (node.Temp (Named x)) refl (omega arith)
has_name (node.Temp (Fresh x)) = named (codes "fresh") (whole_data (pos x) ∷ []) (node.Temp (Fresh x)) refl (omega arith)
has_name (node.Seq x) = named (codes "seq") (whole_data (pos x) ∷ []) (node.Seq x) refl (omega arith)
has_name (node.If x) = named (codes "if") (whole_data (pos x) ∷ []) (node.If x) refl (omega arith)
has_name (node.Not x) = named (codes "not") (whole_data (pos x) ∷ []) (node.Not x) refl (omega arith)
has_name (node.Sum x) = named (codes "sum") (whole_data (pos x) ∷ []) (node.Sum x) refl (omega arith)
has_name (node.Product x) = named (codes "product") (whole_data (pos x) ∷ []) (node.Product x) refl (omega arith)
has_name (node.Write x j) = named (codes "write") (whole_data (pos x) ∷ whole_data (pos j) ∷ []) (node.Write x j) refl (omega arith)
has_name (node.Delta x j) = named (codes "delta") (whole_data (pos x) ∷ whole_data (pos j) ∷ []) (node.Delta x j) refl (omega arith)

numbers_of : (name s : List ℕ) (ds es : List Data) → NamedData name ds ≡ NamedData s es → ds ≡ es
numbers_of name s ds es e = cons_tail (string name) (string s) ds es (same_list (string name ∷ ds) (string s ∷ es) e)

counts_same : (name s : List ℕ) (ds es : List Data) → NamedData name ds ≡ NamedData s es → length ds ≡ length es
counts_same name s ds es e = ap length (numbers_of name s ds es e)

-- no node has more than two numbers
pub few_numbers : (s : List ℕ) (ds : List Data) (m : Node) → node_data m ≡ NamedData s ds → length ds ≤ 2
few_numbers s ds m e =
    let h = has_name m in
    omega (arith, counts_same h.name s h.numbers ds (sym h.is ∙ e), h.few)

-- what is no list is no node, nor is a list without a name
module _ (d : Data) where
  pub no_list : ((ds : List Data) → list_data ds ≡ d → ⊥) → (m : Node) → node_data m ≡ d → ⊥
  no_list h m e = let f = has_name m in h (string f.name ∷ f.numbers) (sym f.is ∙ e)

  pub no_items : (ds : List Data) → list_data ds ≡ d → length ds ≡ 0 → (m : Node) → node_data m ≡ d → ⊥
  no_items ds is none m e =
      let f = has_name m in
      let l : length (string f.name ∷ f.numbers) ≡ length ds = ap length (same_list (string f.name ∷ f.numbers) ds (sym f.is ∙ e ∙ sym is)) in
      absurd (omega (arith, l, none))

  pub no_text : (name : Data) (ds : List Data) → list_data (name ∷ ds) ≡ d → None ≡ as_str name → (m : Node) → node_data m ≡ d → ⊥
  no_text name ds is none m e =
      let f = has_name m in
      let same : string f.name ≡ name = cons_head (string f.name) name f.numbers ds (same_list (string f.name ∷ f.numbers) (name ∷ ds) (sym f.is ∙ e ∙ sym is)) in
      let q : None ≡ Some f.name = none ∙ ap as_str (sym same) in
      absurd cc

module _ (n k : ℕ) where
  -- two numbers are those of a delta
  pub no_two :
      (s : List ℕ) (d e : Data) → ((x : Delta) → DeltaInShape n k x → delta_data x ≡ list_data (d ∷ e ∷ []) → ⊥) →
      (m : Node) → NodeInShape n k m → node_data m ≡ NamedData s (d ∷ e ∷ []) → ⊥
  unfolding definitions
  no_two s d e h node.Skip shape q = absurd (omega (arith, counts_same (codes "skip") s [] (d ∷ e ∷ []) q))
  no_two s d e h node.Assign shape q = absurd (omega (arith, counts_same (codes "assign") s [] (d ∷ e ∷ []) q))
  no_two s d e h node.Print shape q = absurd (omega (arith, counts_same (codes "print") s [] (d ∷ e ∷ []) q))
  no_two s d e h node.True shape q = absurd (omega (arith, counts_same (codes "true") s [] (d ∷ e ∷ []) q))
  no_two s d e h (node.Comparison Less) shape q = absurd (omega (arith, counts_same (codes "<") s [] (d ∷ e ∷ []) q))
  no_two s d e h (node.Comparison LessEqual) shape q = absurd (omega (arith, counts_same (codes "<=") s [] (d ∷ e ∷ []) q))
  no_two s d e h (node.Comparison Equal) shape q = absurd (omega (arith, counts_same (codes "=") s [] (d ∷ e ∷ []) q))
  no_two s d e h node.Neg shape q = absurd (omega (arith, counts_same (codes "neg") s [] (d ∷ e ∷ []) q))
  no_two s d e h (node.Literal x) shape q = absurd (omega (arith, counts_same (codes "lit") s (whole_data x ∷ []) (d ∷ e ∷ []) q))
  no_two s d e h (node.Base x) shape q = absurd (omega (arith, counts_same (codes "base") s (whole_data (pos x) ∷ []) (d ∷ e ∷ []) q))
  no_two s d e h (node.Temp (Named x)) shape q = absurd (omega (arith, counts_same (codes "named") s (whole_data (pos x) ∷ []) (d ∷ e ∷ []) q))
  no_two s d e h (node.Temp (Fresh x)) shape q = absurd (omega (arith, counts_same (codes "fresh") s (whole_data (pos x) ∷ []) (d ∷ e ∷ []) q))
  no_two s d e h (node.Seq x) shape q = absurd (omega (arith, counts_same (codes "seq") s (whole_data (pos x) ∷ []) (d ∷ e ∷ []) q))
  no_two s d e h (node.If x) shape q = absurd (omega (arith, counts_same (codes "if") s (whole_data (pos x) ∷ []) (d ∷ e ∷ []) q))
  no_two s d e h (node.Not x) shape q = absurd (omega (arith, counts_same (codes "not") s (whole_data (pos x) ∷ []) (d ∷ e ∷ []) q))
  no_two s d e h (node.Sum x) shape q = absurd (omega (arith, counts_same (codes "sum") s (whole_data (pos x) ∷ []) (d ∷ e ∷ []) q))
  no_two s d e h (node.Product x) shape q = absurd (omega (arith, counts_same (codes "product") s (whole_data (pos x) ∷ []) (d ∷ e ∷ []) q))
  no_two s d e h (node.Write x j) shape q =
      h (record { object = x; site = j }) (record { object = shape.0; site = shape.1 }) (ap list_data (numbers_of (codes "write") s (whole_data (pos x) ∷ whole_data (pos j) ∷ []) (d ∷ e ∷ []) q))
  no_two s d e h (node.Delta x j) shape q =
      h (record { object = x; site = j }) (record { object = shape.0; site = shape.1 }) (ap list_data (numbers_of (codes "delta") s (whole_data (pos x) ∷ whole_data (pos j) ∷ []) (d ∷ e ∷ []) q))

  bare_in_shape : (s : List ℕ) (m : Node) → node_data m ≡ NamedData s [] → NodeInShape n k m
  unfolding definitions
  bare_in_shape s node.Skip e = tt
  bare_in_shape s node.Assign e = tt
  bare_in_shape s node.Print e = tt
  bare_in_shape s node.True e = tt
  bare_in_shape s (node.Comparison Less) e = tt
  bare_in_shape s (node.Comparison LessEqual) e = tt
  bare_in_shape s (node.Comparison Equal) e = tt
  bare_in_shape s node.Neg e = tt
  bare_in_shape s (node.Literal x) e = absurd (omega (arith, counts_same (codes "lit") s (whole_data x ∷ []) [] e))
  bare_in_shape s (node.Base x) e = absurd (omega (arith, counts_same (codes "base") s (whole_data (pos x) ∷ []) [] e))
  bare_in_shape s (node.Temp (Named x)) e = absurd (omega (arith, counts_same (codes "named") s (whole_data (pos x) ∷ []) [] e))
  bare_in_shape s (node.Temp (Fresh x)) e = absurd (omega (arith, counts_same (codes "fresh") s (whole_data (pos x) ∷ []) [] e))
  bare_in_shape s (node.Seq x) e = absurd (omega (arith, counts_same (codes "seq") s (whole_data (pos x) ∷ []) [] e))
  bare_in_shape s (node.If x) e = absurd (omega (arith, counts_same (codes "if") s (whole_data (pos x) ∷ []) [] e))
  bare_in_shape s (node.Not x) e = absurd (omega (arith, counts_same (codes "not") s (whole_data (pos x) ∷ []) [] e))
  bare_in_shape s (node.Sum x) e = absurd (omega (arith, counts_same (codes "sum") s (whole_data (pos x) ∷ []) [] e))
  bare_in_shape s (node.Product x) e = absurd (omega (arith, counts_same (codes "product") s (whole_data (pos x) ∷ []) [] e))
  bare_in_shape s (node.Write x j) e = absurd (omega (arith, counts_same (codes "write") s (whole_data (pos x) ∷ whole_data (pos j) ∷ []) [] e))
  bare_in_shape s (node.Delta x j) e = absurd (omega (arith, counts_same (codes "delta") s (whole_data (pos x) ∷ whole_data (pos j) ∷ []) [] e))

  pub bare_read : (s : List ℕ) (ds : List Data) (r : Option Node) → ds ≡ [] → IsBare s r → IsRead (NodeInShape n k) node_data (NamedData s ds) r
  bare_read s ds None e h = λ m shape q. h m (subst (λ l. node_data m ≡ NamedData s l) e q)
  bare_read s ds (Some m) e h = (bare_in_shape s m h, h ∙ ap (NamedData s) (sym e))

pub none_mapped : {X : Type 0} (f : X → Data) (xs : List X) → length xs ≡ 0 → map f xs ≡ []
none_mapped f [] h = refl
none_mapped f (x ∷ xs) h = absurd (omega (arith, h))

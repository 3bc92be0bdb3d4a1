-- The data of a certificate has no float.
use Rattle.std.proofs.Common.{◌≡◌, ℕ, List, [], ◌∷◌, ◌||◌, false, map, ℤ, pos, negsuc, codes, refl, ap₂}
use Rattle.serde_json.specs.Data.{Data}
use Rattle.serde_json.specs.Written.{has_float}
use Rattle.homeo_syntax.specs.declared.phrase.Compare.{Compare}
use Rattle.homeo_syntax.specs.declared.phrase.Compare.TheVariants.{Less, LessEqual, Equal}
use Rattle.homeo_syntax.specs.declared.low.Temp.{Temp}
use Rattle.homeo_syntax.specs.declared.low.Temp.TheVariants.{Named, Fresh}
use Rattle.homeo_plan.specs.declared.forms.Delta.{Delta}
use Rattle.homeo_plan.specs.declared.forms.Term.{Term}
use Rattle.homeo_plan.specs.Template.{Clause}
use Rattle.homeo_certificate.specs.Key.{definitions}
use Rattle.homeo_certificate.specs.declared.nodes.Node.{Node}
use Rattle.homeo_certificate.specs.declared.nodes.Node.TheVariants as node
use Rattle.homeo_certificate.specs.Certificate.{Call, Certificate}
use Rattle.homeo_certificate.specs.Json.{whole_data, wholes_data, list_data, named, temp_data, compare_data, node_data}
use Rattle.homeo_certificate.specs.Nodes.{command_nodes}
use Rattle.homeo_certificate.specs.Text.{delta_data, term_data, clause_data, call_data, certificate_data}

abbrev HasNone : Data → Type 0
HasNone d = has_float d ≡ false

in_list : {A : Type 0} (f : A → Data) → ((x : A) → HasNone (f x)) → (xs : List A) → HasNone (list_data (map f xs))
in_list f h [] = refl
in_list f h (x ∷ xs) = ap₂ ◌||◌ (h x) (in_list f h xs)

in_whole : (n : ℤ) → HasNone (whole_data n)
in_whole (pos n) = refl
in_whole (negsuc n) = refl

in_wholes : (ns : List ℤ) → HasNone (wholes_data ns)
in_wholes ns = in_list whole_data in_whole ns

in_named : (name : List ℕ) (ns : List ℤ) → HasNone (named name ns)
in_named name ns = in_wholes ns

in_compare : (op : Compare) → HasNone (compare_data op)
unfolding definitions
in_compare Less = refl
in_compare LessEqual = refl
in_compare Equal = refl

in_temp : (t : Temp) → HasNone (temp_data t)
unfolding definitions
in_temp (Named n) = refl
in_temp (Fresh n) = refl

in_node : (n : Node) → HasNone (node_data n)
unfolding definitions
in_node node.Skip = refl
in_node node.Assign = refl
in_node (node.Write x j) = refl
in_node node.Print = refl
in_node (node.Seq n) = refl
in_node (node.If n) = refl
in_node node.True = refl
in_node (node.Not n) = refl
in_node (node.Comparison op) = in_compare op
in_node (node.Temp t) = in_temp t
in_node (node.Literal n) = in_named (codes "lit") (n ∷ [])
in_node (node.Base x) = refl
in_node (node.Delta x j) = refl
in_node (node.Sum n) = refl
in_node (node.Product n) = refl
in_node node.Neg = refl

in_delta : (d : Delta) → HasNone (delta_data d)
in_delta d = refl

in_term : (t : Term) → HasNone (term_data t)
in_term t = in_wholes (pos t.delta.object ∷ pos t.delta.site ∷ t.factor ∷ [])

in_clause : (c : Clause) → HasNone (clause_data c)
in_clause c = ap₂ ◌||◌ (in_whole c.slack) (ap₂ ◌||◌ (in_list term_data in_term c.terms) refl)

in_call : (g : Call) → HasNone (call_data g)
in_call g = ap₂ ◌||◌ (in_list node_data in_node (command_nodes g.command)) refl

pub no_floats : (c : Certificate) → has_float (certificate_data c) ≡ false
no_floats c =
    ap₂ ◌||◌ (in_wholes c.base)
    (ap₂ ◌||◌ (in_list wholes_data in_wholes c.bounds)
    (ap₂ ◌||◌ (in_list call_data in_call c.calls)
    (ap₂ ◌||◌ (in_list clause_data in_clause c.clauses)
    (ap₂ ◌||◌ (in_list delta_data in_delta c.freezes) refl))))

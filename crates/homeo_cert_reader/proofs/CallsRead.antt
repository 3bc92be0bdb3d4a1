-- Calls, read from the parts of a JSON object.
use Rattle.std.proofs.Common.{◌≡◌, ℕ, ◌<◌, ◌≤◌, List, [], map, length, pos, Option, Some, None, sym, ap, ap₂, ◌∙◌, subst, append-nil}
use Rattle.std.specs.Prelude.{codes}
use Rattle.serde_json.specs.Data.{Data, object, member, no_members}
use Rattle.homeo_syntax.specs.Low.{Command}
use Rattle.homeo_plan.specs.Each.{Each}
use Rattle.homeo_certificate.specs.declared.nodes.Node.{Node}
use Rattle.homeo_certificate.specs.Certificate.{Call}
use Rattle.homeo_certificate.specs.Json.{whole_data, list_data, node_data}
use Rattle.homeo_certificate.specs.Nodes.{command_nodes}
use Rattle.homeo_certificate.specs.Shape.{CallInShape}
use Rattle.homeo_certificate.specs.Text.{call_data}
use Rattle.homeo_certificate.specs.Parse.{parse_command}
use Rattle.homeo_certificate.specs.NodeShapes.{NodeInShape}
use Rattle.homeo_certificate.proofs.NodesInShape.{nodes_in_shape}
use Rattle.homeo_certificate.proofs.OneCertificate.{value_at, same_nodes}
use Rattle.homeo_cert_reader.specs.Read.{IsRead}
use Rattle.homeo_cert_reader.specs.inner.Reading.{AreCalls}
use Rattle.homeo_cert_reader.proofs.ParseSound.{command_sound}
use Rattle.homeo_certificate.proofs.Unique.{read_command}

abbrev call_object : Data → Data → Data
call_object c s = object (member (codes "command") c (member (codes "site") s no_members))

module _ (n k : ℕ) (d c s : Data) (is : call_object c s ≡ d) where
  command_is : (g : Call) → call_data g ≡ d → list_data (map node_data (command_nodes g.command)) ≡ c
  command_is g e = ap (value_at 0) (e ∙ sym is)

  pub no_nodes : ((ns : List Node) → Each (NodeInShape n k) ns → list_data (map node_data ns) ≡ c → ⊥) → (g : Call) → CallInShape n k g → call_data g ≡ d → ⊥
  no_nodes h g shape e = h (command_nodes g.command) (nodes_in_shape n k g.command shape.command) (command_is g e)

  module _ (ns : List Node) (each : Each (NodeInShape n k) ns) (nodes : list_data (map node_data ns) ≡ c) where
    nodes_are : (g : Call) → call_data g ≡ d → command_nodes g.command ≡ ns
    nodes_are g e = same_nodes (command_nodes g.command) ns (command_is g e ∙ sym nodes)

    pub no_command : ((x : Command) → parse_command 1000 ns ≡ Some (x, []) → ⊥) → (g : Call) → CallInShape n k g → call_data g ≡ d → ⊥
    no_command h g shape e =
        h g.command
        (subst (λ l. parse_command 1000 l ≡ Some (g.command, [])) (append-nil (command_nodes g.command) ∙ nodes_are g e)
        (read_command n k 1000 g.command [] shape.command shape.nesting))

    pub call_read :
        (x : Command) → parse_command 1000 ns ≡ Some (x, []) → (y : ℕ) → y < k → whole_data (pos y) ≡ s →
        CallInShape n k (record { site = y; command = x }) × (call_data (record { site = y; command = x }) ≡ d)
    call_read x p y l site =
        let got = command_sound n k 1000 ns x [] each p in (
          record { site = l; command = got.good.0; nesting = got.good.1 },
          ap₂ call_object (ap (λ l. list_data (map node_data l)) (sym (append-nil (command_nodes x)) ∙ sym got.is) ∙ nodes) site ∙ is,
        )

-- calls that are few enough are read as a list
pub few_calls :
    (n k : ℕ) (d : Data) (r : Option (List Call)) → ((gs : List Call) → list_data (map call_data gs) ≡ d → length gs ≤ 1024) →
    IsRead (Each (CallInShape n k)) (λ gs. list_data (map call_data gs)) d r → IsRead (AreCalls n k) (λ gs. list_data (map call_data gs)) d r
few_calls n k d None few h = λ gs are e. h gs are.in_shape e
few_calls n k d (Some gs) few h = (record { few = few gs h.1; in_shape = h.0 }, h.1)

-- The text of a certificate: a JSON object with its keys in the order of their bytes, and no space.
use Rattle.std.specs.Prelude.{◌≡◌, ℕ, List, [], ◌∷◌, map, pos, codes, Some, IsUtf8}
use Rattle.serde_json.specs.Data.{Data, object, no_members, member}
use Rattle.serde_json.specs.Read.{read}
use Rattle.serde_json.specs.Written.{compact_text}
use Rattle.homeo_plan.specs.declared.forms.Delta.{Delta}
use Rattle.homeo_plan.specs.declared.forms.Term.{Term}
use Rattle.homeo_plan.specs.Template.{Clause}
use Rattle.homeo_certificate.specs.Certificate.{Call, Certificate}
use Rattle.homeo_certificate.specs.Nodes.{command_nodes}
use Rattle.homeo_certificate.specs.Json.{whole_data, list_data, wholes_data, node_data}

-- [object,site]
abbrev pub delta_data : Delta → Data
delta_data d = wholes_data (pos d.object ∷ pos d.site ∷ [])

-- [object,site,factor]
abbrev pub term_data : Term → Data
term_data t = wholes_data (pos t.delta.object ∷ pos t.delta.site ∷ t.factor ∷ [])

-- {"slack":..,"terms":[..]}
abbrev pub clause_data : Clause → Data
clause_data c =
    object (member (codes "slack") (whole_data c.slack)
    (member (codes "terms") (list_data (map term_data c.terms)) no_members))

-- {"command":[..],"site":..}
abbrev pub call_data : Call → Data
call_data g =
    object (member (codes "command") (list_data (map node_data (command_nodes g.command)))
    (member (codes "site") (whole_data (pos g.site)) no_members))

-- {"base":[..],"bounds":[..],"calls":[..],"clauses":[..],"freezes":[..],"sites":..,"version":1}
abbrev pub certificate_data : Certificate → Data
certificate_data c =
    object (member (codes "base") (wholes_data c.base)
    (member (codes "bounds") (list_data (map wholes_data c.bounds))
    (member (codes "calls") (list_data (map call_data c.calls))
    (member (codes "clauses") (list_data (map clause_data c.clauses))
    (member (codes "freezes") (list_data (map delta_data c.freezes))
    (member (codes "sites") (whole_data (pos c.sites))
    (member (codes "version") (whole_data (pos 1)) no_members)))))))

abbrev pub text_of : Certificate → List ℕ
text_of c = compact_text (certificate_data c)

-- the bytes are UTF-8, and a text of this JSON value
pub record IsJsonOf (bytes : List ℕ) (d : Data) : Type 0 where
  pub utf8 : IsUtf8 bytes
  pub reads : read bytes ≡ Some d

-- What the parser reads of declarations.
use Rattle.std.specs.Prelude.{ℕ, pos, List, [], ◌∷◌, map, Option, Some, None, Ok, Err}
use Rattle.homeo_syntax.specs.declared.token.Mark.TheVariants as mark
use Rattle.homeo_syntax.specs.declared.token.Kind.{Kind}
use Rattle.homeo_syntax.specs.declared.token.Kind.TheVariants as kind
use Rattle.homeo_syntax.specs.declared.token.Token.{Token}
use Rattle.homeo_syntax.specs.declared.token.Version.{Version}
use Rattle.homeo_syntax.specs.declared.token.Version.TheVariants.{First, Second}
use Rattle.homeo_syntax.specs.declared.phrase.Ident.{Ident}
use Rattle.homeo_syntax.specs.declared.phrase.Number.{Number}
use Rattle.homeo_syntax.specs.declared.workload.ObjectDecl.{ObjectDecl}
use Rattle.homeo_syntax.specs.declared.workload.RangeDecl.{RangeDecl}
use Rattle.homeo_syntax.specs.declared.workload.RelationDecl.{RelationDecl}
use Rattle.homeo_syntax.specs.declared.workload.Call.{Call}
use Rattle.homeo_syntax.specs.declared.workload.Transaction.{Transaction}
use Rattle.homeo_syntax.specs.declared.workload.Client.{Client}
use Rattle.homeo_syntax.specs.Source as s
use Rattle.homeo_syntax.specs.SourceView.{plain_call, plain_relation, plain_transaction, plain_client}
use Rattle.homeo_syntax.specs.Grammar.{many}
use Rattle.homeo_syntax.specs.Rules as rules
use Rattle.homeo_syntax.specs.Versions.{version_number}
use Rattle.homeo_syntax.specs.Listed.{Listed}
use Rattle.homeo_syntax.specs.Rules.{Deep, Tree, rule, lead, minus_number, limit}
use Rattle.homeo_reader.specs.inner.Engine.{Calls, Reading, ◌>>=◌, read, calls_at}
use Rattle.homeo_reader.specs.inner.Commands.{block_read}
use Rattle.homeo_reader.specs.inner.Reading.{mark_read, ident_read, number_read, number_is_read, offset_read, if_marked, opt_read}

abbrev pub call_views : List Call → List s.Call
call_views cs = map plain_call cs

abbrev pub relation_views : List RelationDecl → List s.RelationDecl
relation_views rs = map plain_relation rs

abbrev pub transaction_views : List Transaction → List s.Transaction
transaction_views ts = map plain_transaction ts

abbrev pub client_views : List Client → List s.Client
client_views cs = map plain_client cs

-- the number of sites, and the weights
abbrev pub head_view : Number × Listed Number → Number × List Number
head_view p = (p.0, p.1.items)

abbrev pub top : Calls Deep Tree
top = calls_at rule limit

-- ---- what the engine reads by each rule
unfoldable pub signed_read : List Token → Reading Number
signed_read ts = read top rules.signed ts

unfoldable pub range_read : List Token → Reading (Number × Number)
range_read ts = read top rules.range ts

unfoldable pub next_object_read : List Token → Reading (Option ObjectDecl)
next_object_read ts = opt_read top rules.object ts

unfoldable pub objects_read : List Token → Reading (List ObjectDecl)
objects_read ts = read top (many rules.object) ts

unfoldable pub decl_read : List Token → Reading RangeDecl
decl_read ts = read top rules.decl ts

unfoldable pub first_decl_read : List Token → Reading (Option RangeDecl)
first_decl_read ts = opt_read top rules.decl ts

unfoldable pub next_decl_read : List Token → Reading (Option RangeDecl)
next_decl_read ts = opt_read top (lead mark.Comma rules.decl) ts

unfoldable pub other_decls_read : List Token → Reading (List RangeDecl)
other_decls_read ts = read top (many (lead mark.Comma rules.decl)) ts

unfoldable pub fields_read : List Token → Reading (List RangeDecl)
fields_read ts = read top rules.fields ts

unfoldable pub next_relation_read : List Token → Reading (Option s.RelationDecl)
next_relation_read ts = opt_read top rules.relation ts

unfoldable pub relations_read : List Token → Reading (List s.RelationDecl)
relations_read ts = read top (many rules.relation) ts

unfoldable pub parameters_read : List Token → Reading (List RangeDecl)
parameters_read ts = read top rules.parameters ts

unfoldable pub next_transaction_read : Version → List Token → Reading (Option s.Transaction)
next_transaction_read v ts = opt_read top (rules.transaction v) ts

unfoldable pub transactions_read : Version → List Token → Reading (List s.Transaction)
transactions_read v ts = read top (many (rules.transaction v)) ts

unfoldable pub first_argument_read : List Token → Reading (Option Number)
first_argument_read ts = opt_read top rules.signed ts

unfoldable pub next_argument_read : List Token → Reading (Option Number)
next_argument_read ts = opt_read top (lead mark.Comma rules.signed) ts

unfoldable pub other_arguments_read : List Token → Reading (List Number)
other_arguments_read ts = read top (many (lead mark.Comma rules.signed)) ts

unfoldable pub arguments_read : List Token → Reading (List Number)
arguments_read ts = read top rules.arguments ts

unfoldable pub invocation_read : List Token → Reading s.Call
invocation_read ts = read top rules.invocation ts

unfoldable pub first_invocation_read : List Token → Reading (Option s.Call)
first_invocation_read ts = opt_read top rules.invocation ts

unfoldable pub next_invocation_read : List Token → Reading (Option s.Call)
next_invocation_read ts = opt_read top (lead mark.Semicolon rules.invocation) ts

unfoldable pub other_invocations_read : List Token → Reading (List s.Call)
other_invocations_read ts = read top (many (lead mark.Semicolon rules.invocation)) ts

unfoldable pub invocations_read : List Token → Reading (List s.Call)
invocations_read ts = read top rules.invocations ts

unfoldable pub calls_read : List Token → Reading (List s.Call)
calls_read ts = read top rules.calls ts

unfoldable pub next_client_read : List Token → Reading (Option s.Client)
next_client_read ts = opt_read top rules.client ts

unfoldable pub clients_read : List Token → Reading (List s.Client)
clients_read ts = read top (many rules.client) ts

unfoldable pub next_name_read : List Token → Reading (Option Ident)
next_name_read ts = opt_read top rules.ident ts

unfoldable pub names_read : List Token → Reading (List Ident)
names_read ts = read top (many rules.ident) ts

unfoldable pub schedule_read : List Token → Reading (Option (List Ident))
schedule_read ts = read top rules.schedule ts

unfoldable pub next_weight_read : List Token → Reading (Option Number)
next_weight_read ts = opt_read top (lead mark.Comma rules.number) ts

unfoldable pub other_weights_read : List Token → Reading (List Number)
other_weights_read ts = read top (many (lead mark.Comma rules.number)) ts

unfoldable pub weights_read : Version → List Token → Reading (List Number)
weights_read v ts = read top (rules.weights v) ts

unfoldable pub head_read : Version → List Token → Reading (Number × List Number)
head_read v ts = read top (rules.head v) ts

unfoldable pub workload_read : Version → List (List ℕ) → List Token → Reading s.Workload
workload_read v names ts = read top (rules.workload v names) ts

-- ---- the same, step by step
unfoldable pub signed_by : Kind → Token → List Token → Reading Number
signed_by (kind.Fixed mark.Minus) t ts = number_read ts >>= λ n. Ok (minus_number t.offset n.0, n.1)
signed_by _ t ts = number_read (t ∷ ts)

unfoldable pub signed_do : List Token → Reading Number
signed_do [] = Err []
signed_do (t ∷ ts) = signed_by t.kind t ts

unfoldable pub range_do : List Token → Reading (Number × Number)
range_do ts = signed_read ts >>= λ a. mark_read mark.Dots a.1 >>= λ b. signed_read b.1 >>= λ c. Ok ((a.0, c.0), c.1)

-- what follows `object`
unfoldable pub object_rest : List Token → Reading ObjectDecl
object_rest ts =
    ident_read ts >>= λ a. mark_read mark.In a.1 >>= λ b. range_read b.1 >>= λ c. mark_read mark.Equal c.1 >>= λ d. signed_read d.1 >>= λ e.
    Ok (record { name = a.0; lo = c.0.0; hi = c.0.1; start = e.0 }, e.1)

unfoldable pub next_object_do : List Token → Reading (Option ObjectDecl)
next_object_do ts = if_marked mark.Object ts (λ r. object_rest r >>= λ x. Ok (Some x.0, x.1)) (Ok (None, ts))

-- the first of a list, and then the others
unfoldable pub after_first : {X : Type 0} → (List Token → Reading (List X)) → Option X → List Token → Reading (List X)
after_first others None ts = Ok ([], ts)
after_first others (Some x) ts = others ts >>= λ y. Ok (x ∷ y.0, y.1)

unfoldable pub decl_do : List Token → Reading RangeDecl
decl_do ts =
    ident_read ts >>= λ a. mark_read mark.In a.1 >>= λ b. range_read b.1 >>= λ c. Ok (record { name = a.0; lo = c.0.0; hi = c.0.1 }, c.1)

unfoldable pub first_decl_by : Kind → Token → List Token → Reading (Option RangeDecl)
first_decl_by (kind.Name n) t ts = decl_read (t ∷ ts) >>= λ x. Ok (Some x.0, x.1)
first_decl_by _ t ts = Ok (None, t ∷ ts)

unfoldable pub first_decl_do : List Token → Reading (Option RangeDecl)
first_decl_do [] = Ok (None, [])
first_decl_do (t ∷ ts) = first_decl_by t.kind t ts

unfoldable pub next_decl_do : List Token → Reading (Option RangeDecl)
next_decl_do ts = if_marked mark.Comma ts (λ r. decl_read r >>= λ x. Ok (Some x.0, x.1)) (Ok (None, ts))

unfoldable pub fields_do : List Token → Reading (List RangeDecl)
fields_do ts = decl_read ts >>= λ x. other_decls_read x.1 >>= λ y. Ok (x.0 ∷ y.0, y.1)

-- what follows `relation`
unfoldable pub relation_rest : List Token → Reading s.RelationDecl
relation_rest ts =
    ident_read ts >>= λ a. mark_read mark.OpenBracket a.1 >>= λ b. number_read b.1 >>= λ c. mark_read mark.CloseBracket c.1 >>= λ d.
    mark_read mark.Open d.1 >>= λ e. fields_read e.1 >>= λ f. mark_read mark.Close f.1 >>= λ g. Ok (record { name = a.0; slots = c.0; fields = f.0 }, g.1)

unfoldable pub next_relation_do : List Token → Reading (Option s.RelationDecl)
next_relation_do ts = if_marked mark.Relation ts (λ r. relation_rest r >>= λ x. Ok (Some x.0, x.1)) (Ok (None, ts))

unfoldable pub parameters_do : List Token → Reading (List RangeDecl)
parameters_do ts = first_decl_read ts >>= λ x. after_first other_decls_read x.0 x.1

-- what follows `transaction`
unfoldable pub transaction_rest : Version → List Token → Reading s.Transaction
transaction_rest v ts =
    ident_read ts >>= λ a. mark_read mark.Open a.1 >>= λ b. parameters_read b.1 >>= λ c. mark_read mark.Close c.1 >>= λ d. block_read v limit d.1 >>= λ e.
    Ok (record { name = a.0; params = c.0; body = e.0 }, e.1)

unfoldable pub next_transaction_do : Version → List Token → Reading (Option s.Transaction)
next_transaction_do v ts = if_marked mark.Transaction ts (λ r. transaction_rest v r >>= λ x. Ok (Some x.0, x.1)) (Ok (None, ts))

unfoldable pub first_argument_by : Kind → Token → List Token → Reading (Option Number)
first_argument_by (kind.Fixed mark.Minus) t ts = signed_read (t ∷ ts) >>= λ x. Ok (Some x.0, x.1)
first_argument_by (kind.Number (pos n)) t ts = signed_read (t ∷ ts) >>= λ x. Ok (Some x.0, x.1)
first_argument_by _ t ts = Ok (None, t ∷ ts)

unfoldable pub first_argument_do : List Token → Reading (Option Number)
first_argument_do [] = Ok (None, [])
first_argument_do (t ∷ ts) = first_argument_by t.kind t ts

unfoldable pub next_argument_do : List Token → Reading (Option Number)
next_argument_do ts = if_marked mark.Comma ts (λ r. signed_read r >>= λ x. Ok (Some x.0, x.1)) (Ok (None, ts))

unfoldable pub arguments_do : List Token → Reading (List Number)
arguments_do ts = first_argument_read ts >>= λ x. after_first other_arguments_read x.0 x.1

unfoldable pub invocation_do : List Token → Reading s.Call
invocation_do ts =
    ident_read ts >>= λ a. mark_read mark.Open a.1 >>= λ b. arguments_read b.1 >>= λ c. mark_read mark.Close c.1 >>= λ d.
    Ok (record { name = a.0; args = c.0 }, d.1)

unfoldable pub first_invocation_by : Kind → Token → List Token → Reading (Option s.Call)
first_invocation_by (kind.Name n) t ts = invocation_read (t ∷ ts) >>= λ x. Ok (Some x.0, x.1)
first_invocation_by _ t ts = Ok (None, t ∷ ts)

unfoldable pub first_invocation_do : List Token → Reading (Option s.Call)
first_invocation_do [] = Ok (None, [])
first_invocation_do (t ∷ ts) = first_invocation_by t.kind t ts

unfoldable pub next_invocation_do : List Token → Reading (Option s.Call)
next_invocation_do ts = if_marked mark.Semicolon ts (λ r. invocation_read r >>= λ x. Ok (Some x.0, x.1)) (Ok (None, ts))

unfoldable pub invocations_do : List Token → Reading (List s.Call)
invocations_do ts = first_invocation_read ts >>= λ x. after_first other_invocations_read x.0 x.1

unfoldable pub calls_do : List Token → Reading (List s.Call)
calls_do ts = mark_read mark.OpenBrace ts >>= λ a. invocations_read a.1 >>= λ b. mark_read mark.CloseBrace b.1 >>= λ c. Ok (b.0, c.1)

-- what follows `client`
unfoldable pub client_rest : List Token → Reading s.Client
client_rest ts =
    ident_read ts >>= λ a. mark_read mark.At a.1 >>= λ b. number_read b.1 >>= λ c. calls_read c.1 >>= λ d.
    Ok (record { name = a.0; site = c.0; calls = d.0 }, d.1)

unfoldable pub next_client_do : List Token → Reading (Option s.Client)
next_client_do ts = if_marked mark.Client ts (λ r. client_rest r >>= λ x. Ok (Some x.0, x.1)) (Ok (None, ts))

unfoldable pub next_name_by : Kind → Token → List Token → Reading (Option Ident)
next_name_by (kind.Name n) t ts = Ok (Some (rules.ident_at t), ts)
next_name_by _ t ts = Ok (None, t ∷ ts)

unfoldable pub next_name_do : List Token → Reading (Option Ident)
next_name_do [] = Ok (None, [])
next_name_do (t ∷ ts) = next_name_by t.kind t ts

unfoldable pub schedule_do : List Token → Reading (Option (List Ident))
schedule_do ts = if_marked mark.Schedule ts (λ r. names_read r >>= λ x. Ok (Some x.0, x.1)) (Ok (None, ts))

unfoldable pub next_weight_do : List Token → Reading (Option Number)
next_weight_do ts = if_marked mark.Comma ts (λ r. number_read r >>= λ x. Ok (Some x.0, x.1)) (Ok (None, ts))

unfoldable pub weights_do : Version → List Token → Reading (List Number)
weights_do First ts = Ok ([], ts)
weights_do Second ts = mark_read mark.Weights ts >>= λ a. number_read a.1 >>= λ b. other_weights_read b.1 >>= λ c. Ok (b.0 ∷ c.0, c.1)

unfoldable pub head_do : Version → List Token → Reading (Number × List Number)
head_do v ts =
    mark_read mark.Workload ts >>= λ a. number_is_read (version_number v) a.1 >>= λ b. mark_read mark.Sites b.1 >>= λ c. number_read c.1 >>= λ d.
    weights_read v d.1 >>= λ e. Ok ((d.0, e.0), e.1)

unfoldable pub workload_do : Version → List (List ℕ) → List Token → Reading s.Workload
workload_do v names ts =
    head_read v ts >>= λ a. objects_read a.1 >>= λ b. relations_read b.1 >>= λ c. transactions_read v c.1 >>= λ d. clients_read d.1 >>= λ e.
    schedule_read e.1 >>= λ f. offset_read mark.End f.1 >>= λ g.
    Ok (record { version = version_number v; names = names; sites = a.0.0; objects = b.0; relations = c.0; transactions = d.0; clients = e.0; schedule = f.0; end = g.0; weights = a.0.1 }, g.1)

-- The grammar of a workload.
use Rattle.std.specs.Prelude.{ℕ, Bool, true, false, ◌==◌, ℤ, pos, negsuc, neg_ℤ, List, [], ◌∷◌, Option, Some, None}
use Rattle.homeo_syntax.specs.declared.token.Mark.{Mark}
use Rattle.homeo_syntax.specs.declared.token.Mark.TheVariants as mark
use Rattle.homeo_syntax.specs.declared.token.Kind.{Kind}
use Rattle.homeo_syntax.specs.declared.token.Kind.TheVariants as kind
use Rattle.homeo_syntax.specs.declared.token.Token.{Token}
use Rattle.homeo_syntax.specs.declared.token.Version.{Version}
use Rattle.homeo_syntax.specs.declared.token.Version.TheVariants.{First, Second}
use Rattle.homeo_syntax.specs.declared.phrase.Ident.{Ident}
use Rattle.homeo_syntax.specs.declared.phrase.Number.{Number}
use Rattle.homeo_syntax.specs.declared.phrase.Compare.{Compare}
use Rattle.homeo_syntax.specs.declared.phrase.Compare.TheVariants as compare
use Rattle.homeo_syntax.specs.declared.workload.ObjectDecl.{ObjectDecl}
use Rattle.homeo_syntax.specs.declared.workload.RangeDecl.{RangeDecl}
use Rattle.homeo_syntax.specs.Source as s
use Rattle.homeo_syntax.specs.SourceView.{exprs, tests, commands}
use Rattle.homeo_syntax.specs.Classes.{number_of, name_class, number_class}
use Rattle.homeo_syntax.specs.Versions.{version_number}
use Rattle.homeo_syntax.specs.Grammar.{Grammar, token, nothing, call, seq, alt, many, part, as_value, Spells, Means}

-- The phrases that count for the depth.
pub data Deep : Type 0 where
  Factor : Deep
  Test : Deep
  Command : Version → Deep

abbrev pub Tree : Deep → Type 0
Tree Factor = s.Expr
Tree Test = s.Test
Tree (Command v) = s.Command

abbrev pub Rule : Type 0 → Type 1
Rule A = Grammar Deep Tree A

-- ---- tokens
abbrev pub sample : Kind → Token
sample k = record { kind = k; offset = 0 }

abbrev pub name_in : Kind → ℕ
name_in (kind.Name n) = n
name_in _ = 0

abbrev pub value_in : Kind → ℤ
value_in (kind.Number n) = n
value_in _ = pos 0

abbrev pub is_natural_value : ℤ → Bool
is_natural_value (pos n) = true
is_natural_value (negsuc n) = false

-- a number without a sign, as each number of a text is
abbrev pub is_natural : Kind → Bool
is_natural k = is_natural_value (value_in k)

abbrev pub is_value : ℕ → ℤ → Bool
is_value n (pos m) = m == n
is_value n (negsuc m) = false

-- this mark, which stands for itself
abbrev pub fixed : Mark → Rule (Unit {0})
fixed m = token (number_of m ∷ []) (λ k. true) (λ t. tt) (sample (kind.Fixed m))

-- where this mark begins
abbrev pub offset_of : Mark → Rule ℕ
offset_of m = token (number_of m ∷ []) (λ k. true) (λ t. t.offset) (sample (kind.Fixed m))

-- a mark, and then the phrase
abbrev pub lead : {A : Type 0} → Mark → Rule A → Rule A
lead m g = as_value (λ p. p.1) (seq (fixed m) g)

-- the phrase, and then a mark
abbrev pub closed : {A : Type 0} → Rule A → Mark → Rule A
closed g m = as_value (λ p. p.0) (seq g (fixed m))

abbrev pub ident_at : Token → Ident
ident_at t = record { name = name_in t.kind; offset = t.offset }

abbrev pub ident : Rule Ident
ident = token (name_class ∷ []) (λ k. true) ident_at (sample (kind.Name 0))

abbrev pub literal_at : Token → s.Expr
literal_at t = s.Literal (value_in t.kind)

abbrev pub literal : Rule s.Expr
literal = token (number_class ∷ []) (λ k. true) literal_at (sample (kind.Number (pos 0)))

abbrev pub number_at : Token → Number
number_at t = record { value = value_in t.kind; offset = t.offset }

abbrev pub number : Rule Number
number = token (number_class ∷ []) is_natural number_at (sample (kind.Number (pos 0)))

-- a number with this value
abbrev pub number_is : ℕ → Rule (Unit {0})
number_is n = token (number_class ∷ []) (λ k. is_value n (value_in k)) (λ t. tt) (sample (kind.Number (pos n)))

-- a number with this value, and then the phrase
abbrev pub lead_number : {A : Type 0} → ℕ → Rule A → Rule A
lead_number n g = as_value (λ p. p.1) (seq (number_is n) g)

-- phrase {mark phrase}
abbrev pub listed : {A : Type 0} → Mark → Rule A → Rule (List A)
listed m g = as_value (λ p. p.0 ∷ p.1) (seq g (many (lead m g)))

-- [phrase {mark phrase}]
abbrev pub separated : {A : Type 0} → Mark → Rule A → Rule (List A)
separated m g = alt (listed m g) (nothing [])

-- ---- expressions and conditions
abbrev pub product_of : s.Expr → List s.Expr → s.Expr
product_of e [] = e
product_of e (f ∷ fs) = s.Product (exprs (e ∷ f ∷ fs))

abbrev pub sum_of : s.Expr → List s.Expr → s.Expr
sum_of e [] = e
sum_of e (f ∷ fs) = s.Sum (exprs (e ∷ f ∷ fs))

-- term = factor {"*" factor}
abbrev pub term : Rule s.Expr
term = part (as_value (λ p. product_of p.0 p.1) (seq (call Factor) (many (lead mark.Star (call Factor)))))

-- expr = term {("+" | "-") term}
abbrev pub expr : Rule s.Expr
expr = part (as_value (λ p. sum_of p.0 p.1) (seq term (many (alt (lead mark.Plus term) (as_value s.Neg (lead mark.Minus term))))))

-- cond = test {"and" test}
abbrev pub cond : Rule s.Cond
cond = part (as_value (λ p. tests (p.0 ∷ p.1)) (seq (call Test) (many (lead mark.And (call Test)))))

-- visit = name "of" name "when" cond
abbrev pub visit : Rule (Ident × (Ident × s.Cond))
visit = part (seq ident (lead mark.Of (seq ident (lead mark.When cond))))

-- after_name = ["[" expr "]" "." name | "." name], what may stand behind a name
abbrev pub after_name : Rule (Ident → s.Expr)
after_name =
    part (alt (as_value (λ p x. s.Field x p.0 p.1) (lead mark.OpenBracket (seq expr (lead mark.CloseBracket (lead mark.Dot ident)))))
    (alt (as_value (λ p x. s.Row x p) (lead mark.Dot ident))
    (nothing s.Name)))

-- factor = number | "-" factor | "(" expr ")" | "read" "(" name ")" | "count" "(" visit ")"
--        | "sum" "(" name "." visit ")" | name after_name
abbrev pub factor : Rule s.Expr
factor =
    alt literal
    (alt (as_value s.Neg (lead mark.Minus (call Factor)))
    (alt (lead mark.Open (closed expr mark.Close))
    (alt (as_value s.Read (lead mark.Read (lead mark.Open (closed ident mark.Close))))
    (alt (as_value (λ p. s.Count p.0 p.1.0 p.1.1) (lead mark.Count (lead mark.Open (closed visit mark.Close))))
    (alt (as_value (λ p. s.Total p.0 p.1.0 p.1.1.0 p.1.1.1) (lead mark.Sum (lead mark.Open (seq ident (lead mark.Dot (closed visit mark.Close))))))
    (as_value (λ p. p.1 p.0) (seq ident after_name)))))))

-- comparison = "<" | "<=" | "="
abbrev pub comparison : Rule Compare
comparison =
    part (alt (as_value (λ p. compare.Less) (fixed mark.Less))
    (alt (as_value (λ p. compare.LessEqual) (fixed mark.LessEqual))
    (as_value (λ p. compare.Equal) (fixed mark.Equal))))

-- test = "true" | "not" "(" cond ")" | expr comparison expr
abbrev pub test : Rule s.Test
test =
    alt (as_value (λ p. s.True) (fixed mark.True))
    (alt (as_value s.Not (lead mark.Not (lead mark.Open (closed cond mark.Close))))
    (as_value (λ p. s.Comparison p.1.0 p.0 p.1.1) (seq expr (seq comparison expr))))

-- ---- commands
-- block = "{" [command {";" command}] "}"
abbrev pub block : Version → Rule s.Commands
block v =
    part (lead mark.OpenBrace (closed
    (alt (as_value (λ p. commands (p.0 ∷ p.1)) (seq (call (Command v)) (many (lead mark.Semicolon (call (Command v)))))) (nothing s.NoCommand))
    mark.CloseBrace))

-- setting = ":=" expr | "[" expr "]" "." name ":=" expr | "." name ":=" expr, behind the name that is set
abbrev pub setting : Rule (Ident → s.Command)
setting =
    part (alt (as_value (λ p x. s.Assign x p) (lead mark.Assign expr))
    (alt (as_value (λ p x. s.SetField x p.0 p.1.0 p.1.1) (lead mark.OpenBracket (seq expr (lead mark.CloseBracket (lead mark.Dot (seq ident (lead mark.Assign expr)))))))
    (as_value (λ p x. s.SetRow x p.0 p.1) (lead mark.Dot (seq ident (lead mark.Assign expr))))))

-- field_value = name "=" expr
abbrev pub field_value : Rule s.FieldValue
field_value = part (as_value (λ p. record { field = p.0; value = p.1 }) (seq ident (lead mark.Equal expr)))

-- field_values = field_value {"," field_value}
abbrev pub field_values : Rule (List s.FieldValue)
field_values = part (listed mark.Comma field_value)

-- common_command = "skip" | block | name setting | "write" "(" name "=" expr ")" | "print" "(" expr ")"
--         | "if" cond "then" command "else" command | "foreach" visit block
--         | "insert" name "(" field_values ")" "into" name | "delete" visit | "update" visit "set" field_value
abbrev pub common_command : Version → Rule s.Command
common_command v =
    alt (as_value (λ p. s.Skip) (fixed mark.Skip))
    (alt (as_value s.Block (block v))
    (alt (as_value (λ p. p.1 p.0) (seq ident setting))
    (alt (as_value (λ p. s.Write p.0 p.1) (lead mark.Write (lead mark.Open (seq ident (lead mark.Equal (closed expr mark.Close))))))
    (alt (as_value s.Print (lead mark.Print (lead mark.Open (closed expr mark.Close))))
    (alt (as_value (λ p. s.If p.0 p.1.0 p.1.1) (lead mark.If (seq cond (lead mark.Then (seq (call (Command v)) (lead mark.Else (call (Command v))))))))
    (alt (as_value (λ p. s.Foreach p.0.0 p.0.1.0 p.0.1.1 p.1) (lead mark.Foreach (seq visit (block v))))
    (alt (as_value (λ p. s.Insert p.0 p.1.0 p.1.1) (lead mark.Insert (seq ident (lead mark.Open (seq field_values (lead mark.Close (lead mark.Into ident)))))))
    (alt (as_value (λ p. s.Delete p.0 p.1.0 p.1.1) (lead mark.Delete visit))
    (as_value (λ p. s.Update p.0.0 p.0.1.0 p.0.1.1 p.1.field p.1.value) (lead mark.Update (seq visit (lead mark.Set field_value))))))))))))

-- command = "abort" | common_command in version 2, and common_command in version 1
abbrev pub command : Version → Rule s.Command
command First = common_command First
command Second = alt (as_value (λ p. s.Abort) (fixed mark.Abort)) (common_command Second)

abbrev pub rule : (c : Deep) → Rule (Tree c)
rule Factor = factor
rule Test = test
rule (Command v) = command v

-- ---- declarations
abbrev pub minus_number : ℕ → Number → Number
minus_number offset n = record { value = neg_ℤ n.value; offset = offset }

-- signed = ["-"] number, with the offset of its first token
abbrev pub signed : Rule Number
signed = part (alt number (as_value (λ p. minus_number p.0 p.1) (seq (offset_of mark.Minus) number)))

-- range = signed ".." signed
abbrev pub range : Rule (Number × Number)
range = part (seq signed (lead mark.Dots signed))

-- object = "object" name "in" range "=" signed
abbrev pub object : Rule ObjectDecl
object =
    part (as_value (λ p. record { name = p.0; lo = p.1.0.0; hi = p.1.0.1; start = p.1.1 })
    (lead mark.Object (seq ident (lead mark.In (seq range (lead mark.Equal signed))))))

-- decl = name "in" range
abbrev pub decl : Rule RangeDecl
decl = part (as_value (λ p. record { name = p.0; lo = p.1.0; hi = p.1.1 }) (seq ident (lead mark.In range)))

-- fields = decl {"," decl}
abbrev pub fields : Rule (List RangeDecl)
fields = part (listed mark.Comma decl)

-- relation = "relation" name "[" number "]" "(" fields ")"
abbrev pub relation : Rule s.RelationDecl
relation =
    part (as_value (λ p. record { name = p.0; slots = p.1.0; fields = p.1.1 })
    (lead mark.Relation (seq ident (lead mark.OpenBracket (seq number (lead mark.CloseBracket (lead mark.Open (closed fields mark.Close))))))))

-- parameters = [decl {"," decl}]
abbrev pub parameters : Rule (List RangeDecl)
parameters = part (separated mark.Comma decl)

-- transaction = "transaction" name "(" parameters ")" block
abbrev pub transaction : Version → Rule s.Transaction
transaction v =
    part (as_value (λ p. record { name = p.0; params = p.1.0; body = p.1.1 })
    (lead mark.Transaction (seq ident (lead mark.Open (seq (closed parameters mark.Close) (block v))))))

-- arguments = [signed {"," signed}]
abbrev pub arguments : Rule (List Number)
arguments = part (separated mark.Comma signed)

-- invocation = name "(" arguments ")"
abbrev pub invocation : Rule s.Call
invocation =
    part (as_value (λ p. record { name = p.0; args = p.1 }) (seq ident (lead mark.Open (closed arguments mark.Close))))

-- invocations = [invocation {";" invocation}]
abbrev pub invocations : Rule (List s.Call)
invocations = part (separated mark.Semicolon invocation)

-- calls = "{" invocations "}"
abbrev pub calls : Rule (List s.Call)
calls = part (lead mark.OpenBrace (closed invocations mark.CloseBrace))

-- client = "client" name "at" number calls
abbrev pub client : Rule s.Client
client =
    part (as_value (λ p. record { name = p.0; site = p.1.0; calls = p.1.1 })
    (lead mark.Client (seq ident (lead mark.At (seq number calls)))))

-- schedule = ["schedule" {name}]
abbrev pub schedule : Rule (Option (List Ident))
schedule = part (alt (as_value (λ xs. Some xs) (lead mark.Schedule (many ident))) (nothing None))

-- weights = "weights" number {"," number} in version 2, and nothing in version 1
abbrev pub weights : Version → Rule (List Number)
weights First = part (nothing [])
weights Second = part (lead mark.Weights (listed mark.Comma number))

-- head = "workload" version "sites" number weights
abbrev pub head : Version → Rule (Number × List Number)
head v = part (lead mark.Workload (lead_number (version_number v) (lead mark.Sites (seq number (weights v)))))

-- workload = head {object} {relation} {transaction} {client} schedule "end"
abbrev pub workload : Version → List (List ℕ) → Rule s.Workload
workload v names =
    as_value (λ p. record {
      version = version_number v;
      names = names;
      sites = p.0.0;
      objects = p.1.0;
      relations = p.1.1.0;
      transactions = p.1.1.1.0;
      clients = p.1.1.1.1.0;
      schedule = p.1.1.1.1.1.0;
      end = p.1.1.1.1.1.1;
      weights = p.0.1;
    })
    (seq (head v) (seq (many object) (seq (many relation) (seq (many (transaction v)) (seq (many client) (seq schedule (offset_of mark.End)))))))

-- how deep phrases may go
unfoldable pub limit : ℕ
limit = 32

-- The tokens are a workload in this version with these names.
unfoldable pub IsWorkload : Version → List (List ℕ) → s.Workload → List Token → Type 0
IsWorkload v names w ts = Spells (Means rule limit) (workload v names) w ts

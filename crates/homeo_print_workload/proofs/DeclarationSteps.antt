-- The tokens of each kind of declaration as it is made.
use Rattle.std.proofs.Common.{◌≡◌, ℕ, false, ◌==◌, pos, Option, Some, None, ◌+◌, ◌<◌, List, [], ◌∷◌, ◌++◌, length, map, take, get_or, append_assoc, append-nil, refl, sym, ap, ◌∙◌, arith}
use Rattle.std.specs.List.{flat_map}
use Rattle.std.proofs.lemmas.List.{take_more, map-append}
use Rattle.std.proofs.lemmas.Grind.{flat_map-append}
use Rattle.homeo_syntax.specs.Key.{definitions as syntax_definitions}
use Rattle.homeo_syntax.specs.Listed.{Listed}
use Rattle.homeo_syntax.specs.SourceView.{commands, plain_command, plain_relation, plain_transaction, plain_call, plain_client, plain_schedule, plain_workload}
use Rattle.homeo_syntax.specs.declared.token.Mark.TheVariants as mark
use Rattle.homeo_syntax.specs.declared.token.Kind.TheVariants as kind
use Rattle.homeo_syntax.specs.declared.phrase.Ident.{Ident}
use Rattle.homeo_syntax.specs.declared.phrase.Number.{Number}
use Rattle.homeo_syntax.specs.declared.workload.ObjectDecl.{ObjectDecl}
use Rattle.homeo_syntax.specs.declared.workload.RangeDecl.{RangeDecl}
use Rattle.homeo_syntax.specs.declared.workload.RelationDecl.{RelationDecl}
use Rattle.homeo_syntax.specs.declared.workload.Transaction.{Transaction}
use Rattle.homeo_syntax.specs.declared.workload.Call.{Call}
use Rattle.homeo_syntax.specs.declared.workload.Client.{Client}
use Rattle.homeo_syntax.specs.declared.workload.Workload.{Workload}
use Rattle.homeo_print_workload.specs.Key.{definitions}
use Rattle.homeo_print_workload.specs.TokensOf.{Kinds, name_of, mark_of, value_of, number_of, separated, commands_kinds, range_kinds, decl_kinds, object_kinds, relation_kinds, transaction_kinds, call_kinds, client_kinds, schedule_kinds, weights_kinds, head_kinds, workload_kinds}
use Rattle.homeo_print_workload.proofs.Behind.{numbers_behind, decls_behind, calls_behind}
use Rattle.homeo_print.proofs.Listed.{flat_more}
use Rattle.homeo_print_workload.proofs.CommandSteps.{led_all, led_viewed, led_more}

-- ---- one declaration
pub number_is : (n : Number) → number_of n ≡ value_of n.value
unfolding definitions
number_is n = refl

pub range_is : (lo hi : Number) → range_kinds lo hi ≡ number_of lo ++ kind.Fixed mark.Dots ∷ number_of hi
unfolding definitions
range_is lo hi = refl

pub decl_is : (d : RangeDecl) → decl_kinds d ≡ kind.Name d.name.name ∷ kind.Fixed mark.In ∷ range_kinds d.lo d.hi
unfolding definitions
decl_is d = refl

pub object_is : (d : ObjectDecl) → object_kinds d ≡ kind.Fixed mark.Object ∷ kind.Name d.name.name ∷ kind.Fixed mark.In ∷ (range_kinds d.lo d.hi ++ kind.Fixed mark.Equal ∷ number_of d.start)
unfolding definitions
object_is d = refl

pub relation_is : (r : RelationDecl) → relation_kinds (plain_relation r)
    ≡ kind.Fixed mark.Relation ∷ kind.Name r.name.name ∷ kind.Fixed mark.OpenBracket ∷ (number_of r.slots ++ kind.Fixed mark.CloseBracket ∷ kind.Fixed mark.Open ∷ (separated mark.Comma (map decl_kinds r.fields.items) ++ kind.Fixed mark.Close ∷ []))
unfolding definitions syntax_definitions
relation_is r = refl

pub transaction_is : (t : Transaction) → transaction_kinds (plain_transaction t)
    ≡ kind.Fixed mark.Transaction ∷ kind.Name t.name.name ∷ kind.Fixed mark.Open ∷ (separated mark.Comma (map decl_kinds t.params.items) ++ kind.Fixed mark.Close ∷ kind.Fixed mark.OpenBrace ∷ (commands_kinds (commands (map plain_command t.body.items)) ++ kind.Fixed mark.CloseBrace ∷ []))
unfolding definitions syntax_definitions
transaction_is t =
    let params = separated mark.Comma (map decl_kinds t.params.items) in
    let body = commands_kinds (commands (map plain_command t.body.items)) in
    ap (λ ks. kind.Fixed mark.Transaction ∷ kind.Name t.name.name ∷ kind.Fixed mark.Open ∷ ks) (append_assoc params (kind.Fixed mark.Close ∷ []) (kind.Fixed mark.OpenBrace ∷ (body ++ kind.Fixed mark.CloseBrace ∷ [])))

pub call_is : (c : Call) → call_kinds (plain_call c) ≡ kind.Name c.name.name ∷ kind.Fixed mark.Open ∷ (separated mark.Comma (map number_of c.args.items) ++ kind.Fixed mark.Close ∷ [])
unfolding definitions syntax_definitions
call_is c = refl

pub client_is : (c : Client) → client_kinds (plain_client c)
    ≡ kind.Fixed mark.Client ∷ kind.Name c.name.name ∷ kind.Fixed mark.At ∷ (number_of c.site ++ kind.Fixed mark.OpenBrace ∷ (separated mark.Semicolon (map call_kinds (map plain_call c.calls.items)) ++ kind.Fixed mark.CloseBrace ∷ []))
unfolding definitions syntax_definitions
client_is c = refl

pub schedule_some : (xs : Listed Ident) → schedule_kinds (plain_schedule (Some xs)) ≡ kind.Fixed mark.Schedule ∷ flat_map name_of xs.items
unfolding definitions syntax_definitions
schedule_some xs = refl

pub schedule_none : schedule_kinds (plain_schedule None) ≡ []
unfolding definitions syntax_definitions
schedule_none = refl

pub no_schedule : (out : Kinds) (xs : Option (Listed Ident)) → xs ≡ None → out ≡ out ++ schedule_kinds (plain_schedule xs)
no_schedule out xs e = sym (append-nil out) ∙ ap (λ l. out ++ l) (sym schedule_none) ∙ ap (λ o. out ++ schedule_kinds (plain_schedule o)) (sym e)

pub no_weights : (out : Kinds) (ns : List Number) → length ns ≡ 0 → out ≡ out ++ weights_kinds ns
unfolding definitions
no_weights out [] e = sym (append-nil out)
no_weights out (n ∷ ns) e = absurd (omega (arith, e))

weights_are : (ns : List Number) → false ≡ (length ns == 0) → weights_kinds ns ≡ kind.Fixed mark.Weights ∷ separated mark.Comma (map number_of ns)
unfolding definitions
weights_are [] ne = let no : ⊥ = cc in absurd no
weights_are (n ∷ ns) ne = refl

pub some_weights : (out marked all : Kinds) (ns : List Number) → false ≡ (length ns == 0) → marked ≡ out ++ mark_of mark.Weights → all ≡ marked ++ separated mark.Comma (map number_of ns) → all ≡ out ++ weights_kinds ns
unfolding definitions
some_weights out marked all ns ne m p =
    p ∙ ap (λ (l : Kinds). l ++ separated mark.Comma (map number_of ns)) m
    ∙ append_assoc out (mark_of mark.Weights) (separated mark.Comma (map number_of ns))
    ∙ ap (λ (l : Kinds). out ++ l) (sym (weights_are ns ne))

pub head_is : (version : ℕ) (sites : Number) (weights : List Number) → head_kinds version sites weights
    ≡ kind.Fixed mark.Workload ∷ (value_of (pos version) ++ kind.Fixed mark.Sites ∷ (number_of sites ++ weights_kinds weights))
unfolding definitions
head_is version sites weights = refl

pub workload_is : (w : Workload) → workload_kinds (plain_workload w)
    ≡ head_kinds w.version w.sites w.weights.items ++ (flat_map object_kinds w.objects.items ++ (flat_map relation_kinds (map plain_relation w.relations.items) ++ (flat_map transaction_kinds (map plain_transaction w.transactions.items)
    ++ (flat_map client_kinds (map plain_client w.clients.items) ++ (schedule_kinds (plain_schedule w.schedule) ++ mark_of mark.End)))))
unfolding definitions syntax_definitions
workload_is w = refl

-- ---- lists with marks between
pub no_numbers_behind : numbers_behind [] ≡ []
unfolding definitions
no_numbers_behind = refl

pub no_number : separated mark.Comma (map number_of []) ≡ []
unfolding definitions
no_number = refl

pub numbers_are : (n : Number) (ns : List Number) → separated mark.Comma (map number_of (n ∷ ns)) ≡ number_of n ++ numbers_behind ns
unfolding definitions
numbers_are n ns = ap (λ l. number_of n ++ l) (led_all mark.Comma number_of ns)

pub numbers_more : (ns : List Number) (i : ℕ) (n : Number) → i < length ns → n ≡ get_or ns i n → numbers_behind (take (i + 1) ns) ≡ numbers_behind (take i ns) ++ kind.Fixed mark.Comma ∷ number_of n
unfolding definitions
numbers_more ns i n within is = led_more mark.Comma number_of ns i n within is

pub no_decls_behind : decls_behind [] ≡ []
unfolding definitions
no_decls_behind = refl

pub no_decl : separated mark.Comma (map decl_kinds []) ≡ []
unfolding definitions
no_decl = refl

pub decls_are : (d : RangeDecl) (ds : List RangeDecl) → separated mark.Comma (map decl_kinds (d ∷ ds)) ≡ decl_kinds d ++ decls_behind ds
unfolding definitions
decls_are d ds = ap (λ l. decl_kinds d ++ l) (led_all mark.Comma decl_kinds ds)

pub decls_more : (ds : List RangeDecl) (i : ℕ) (d : RangeDecl) → i < length ds → d ≡ get_or ds i d → decls_behind (take (i + 1) ds) ≡ decls_behind (take i ds) ++ kind.Fixed mark.Comma ∷ decl_kinds d
unfolding definitions
decls_more ds i d within is = led_more mark.Comma decl_kinds ds i d within is

pub no_calls_behind : calls_behind [] ≡ []
unfolding definitions
no_calls_behind = refl

pub no_call : separated mark.Semicolon (map call_kinds (map plain_call [])) ≡ []
unfolding definitions
no_call = refl

pub calls_are : (c : Call) (cs : List Call) → separated mark.Semicolon (map call_kinds (map plain_call (c ∷ cs))) ≡ call_kinds (plain_call c) ++ calls_behind cs
unfolding definitions
calls_are c cs = ap (λ l. call_kinds (plain_call c) ++ l) (led_viewed mark.Semicolon plain_call call_kinds cs)

pub calls_more : (cs : List Call) (i : ℕ) (c : Call) → i < length cs → c ≡ get_or cs i c → calls_behind (take (i + 1) cs) ≡ calls_behind (take i cs) ++ kind.Fixed mark.Semicolon ∷ call_kinds (plain_call c)
unfolding definitions
calls_more cs i c within is = led_more mark.Semicolon (λ (c : Call). call_kinds (plain_call c)) cs i c within is

-- ---- lists of lines
viewed_more : {X Y : Type 0} (f : Y → Kinds) (g : X → Y) (xs : List X) (i : ℕ) (x : X) → i < length xs → x ≡ get_or xs i x → flat_map f (map g (take (i + 1) xs)) ≡ flat_map f (map g (take i xs)) ++ f (g x)
viewed_more f g xs i x within is =
    ap (λ l. flat_map f (map g l)) (take_more xs i x within) ∙ ap (flat_map f) (map-append g (take i xs) (get_or xs i x ∷ []))
    ∙ flat_map-append f (map g (take i xs)) (g (get_or xs i x) ∷ [])
    ∙ ap (λ l. flat_map f (map g (take i xs)) ++ l) (append-nil (f (g (get_or xs i x))) ∙ ap (λ y. f (g y)) (sym is))

pub objects_more : (ds : List ObjectDecl) (i : ℕ) (d : ObjectDecl) → i < length ds → d ≡ get_or ds i d → flat_map object_kinds (take (i + 1) ds) ≡ flat_map object_kinds (take i ds) ++ object_kinds d
objects_more ds i d within is = flat_more object_kinds ds i d within is

pub relations_more : (rs : List RelationDecl) (i : ℕ) (r : RelationDecl) → i < length rs → r ≡ get_or rs i r → flat_map relation_kinds (map plain_relation (take (i + 1) rs)) ≡ flat_map relation_kinds (map plain_relation (take i rs)) ++ relation_kinds (plain_relation r)
relations_more rs i r within is = viewed_more relation_kinds plain_relation rs i r within is

pub transactions_more : (ts : List Transaction) (i : ℕ) (t : Transaction) → i < length ts → t ≡ get_or ts i t → flat_map transaction_kinds (map plain_transaction (take (i + 1) ts)) ≡ flat_map transaction_kinds (map plain_transaction (take i ts)) ++ transaction_kinds (plain_transaction t)
transactions_more ts i t within is = viewed_more transaction_kinds plain_transaction ts i t within is

pub clients_more : (cs : List Client) (i : ℕ) (c : Client) → i < length cs → c ≡ get_or cs i c → flat_map client_kinds (map plain_client (take (i + 1) cs)) ≡ flat_map client_kinds (map plain_client (take i cs)) ++ client_kinds (plain_client c)
clients_more cs i c within is = viewed_more client_kinds plain_client cs i c within is

pub ruleset declaration_steps = (append_assoc, number_is, range_is, decl_is, object_is, relation_is, transaction_is, call_is, client_is, schedule_some, head_is, workload_is, numbers_more, decls_more, calls_more, objects_more, relations_more, transactions_more, clients_more)

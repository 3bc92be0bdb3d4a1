-- Declarations, step by step.
use Rattle.std.proofs.Common.{◌≡◌, ℕ, Bool, true, false, ◌&&◌, ◌||◌, List, [], ◌∷◌, refl, ap, ◌∙◌, sym, pos, negsuc}
use Rattle.std.specs.Prelude.{Some, None, option_map, Ok, Err, if◌then◌else◌}
use Rattle.homeo_syntax.specs.declared.token.Mark.{Mark}
use Rattle.homeo_syntax.specs.declared.token.Mark.TheVariants as mark
use Rattle.homeo_syntax.specs.declared.token.Kind.{Kind}
use Rattle.homeo_syntax.specs.declared.token.Kind.TheVariants as kind
use Rattle.homeo_syntax.specs.declared.token.Token.{Token}
use Rattle.homeo_syntax.specs.declared.token.Version.{Version}
use Rattle.homeo_syntax.specs.declared.token.Version.TheVariants.{First, Second}
use Rattle.homeo_syntax.specs.declared.phrase.Ident.{Ident}
use Rattle.homeo_syntax.specs.declared.phrase.Number.{Number}
use Rattle.homeo_syntax.specs.declared.workload.ObjectDecl.{ObjectDecl}
use Rattle.homeo_syntax.specs.declared.workload.RangeDecl.{RangeDecl}
use Rattle.homeo_syntax.specs.Source as s
use Rattle.homeo_syntax.specs.Grammar.{seq, many, part, as_value}
use Rattle.homeo_syntax.specs.Rules.{Command, Rule, Deep, Tree, rule, lead, closed, limit, ident, number, signed, range, separated, decl, fields, parameters, block, invocation, calls, workload}
use Rattle.homeo_reader.specs.inner.Engine.{Calls, Reading, ◌>>=◌, read, calls_at, empty, exists, begins, first_is}
use Rattle.homeo_reader.specs.inner.Reading.{mark_read, if_marked, on_marked, opt_of, opt_read}
use Rattle.homeo_reader.specs.inner.Commands.{block_read}
use Rattle.homeo_reader.specs.inner.Declarations.{top, signed_read, signed_by, signed_do, range_read, range_do, object_rest, next_object_read, next_object_do, objects_read, after_first, decl_read, decl_do, first_decl_read, first_decl_by, first_decl_do, next_decl_read, next_decl_do, other_decls_read, fields_read, fields_do, relation_rest, next_relation_read, next_relation_do, relations_read, parameters_read, parameters_do, transaction_rest, next_transaction_read, next_transaction_do, transactions_read, first_argument_read, first_argument_by, first_argument_do, next_argument_read, next_argument_do, other_arguments_read, arguments_read, arguments_do, invocation_read, invocation_do, first_invocation_read, first_invocation_by, first_invocation_do, next_invocation_read, next_invocation_do, other_invocations_read, invocations_read, invocations_do, calls_read, calls_do, client_rest, next_client_read, next_client_do, clients_read, next_name_read, next_name_by, next_name_do, names_read, schedule_read, schedule_do, next_weight_read, next_weight_do, other_weights_read, weights_read, weights_do, head_read, head_do, workload_read, workload_do}
use Rattle.homeo_reader.proofs.Flat.{read_then, reads, reads_part, flat, bind_assoc}
use Rattle.homeo_reader.proofs.Lists.{opt_lead, opt_as, mapped}
use Rattle.homeo_reader.proofs.CommandSteps.{begins_same}

signed_kind : (k : Kind) (o : ℕ) (ts : List Token) → signed_read (record { kind = k; offset = o } ∷ ts) ≡ signed_by k (record { kind = k; offset = o }) ts
unfolding signed_read signed_by read_then
signed_kind (kind.Fixed mark.Minus) o ts = reads_part top _ (record { kind = kind.Fixed mark.Minus; offset = o } ∷ ts)
signed_kind (kind.Number (pos n)) o ts = reads_part top _ (record { kind = kind.Number (pos n); offset = o } ∷ ts)
signed_kind (kind.Number (negsuc n)) o ts = reads_part top _ (record { kind = kind.Number (negsuc n); offset = o } ∷ ts)
signed_kind k o ts = reads_part top _ (record { kind = k; offset = o } ∷ ts)

signed_nil : signed_read [] ≡ Err []
unfolding signed_read read
signed_nil = refl

pub signed_reads : (ts : List Token) → signed_read ts ≡ signed_do ts
unfolding signed_do
signed_reads [] = signed_nil
signed_reads (t ∷ ts) = signed_kind t.kind t.offset ts

pub range_reads : (ts : List Token) → range_read ts ≡ range_do ts
unfolding range_read range_do signed_read read_then
range_reads ts = reads_part top _ ts

-- A phrase of a mark and a rest, if it comes next.
lead_rest : {A B : Type 0} → (cs : Calls Deep Tree) (f : A → B) (m : Mark) (h : Rule A) (rest : List Token → Reading B) → exists cs h ≡ true →
    ((r : List Token) → (read cs h r >>= λ x. Ok (f x.0, x.1)) ≡ rest r) → (ts : List Token) →
    opt_read cs (part (as_value f (lead m h))) ts ≡ if_marked m ts (λ r. rest r >>= λ x. Ok (Some x.0, x.1)) (Ok (None, ts))
unfolding read
lead_rest cs f m h rest there same ts =
    opt_as f (first_is (begins cs (lead m h)) ts) (read cs (lead m h) ts) ts
    ∙ ap (λ x. x >>= λ x. Ok (option_map f x.0, x.1)) (opt_lead cs m h there ts)
    ∙ mapped f (mark_read m ts) (read cs h) ts
    ∙ go (mark_read m ts)
  where
    go : (x : Reading (Unit {0})) → on_marked x (λ r. read cs h r >>= λ x. Ok (Some (f x.0), x.1)) (Ok (None, ts))
        ≡ on_marked x (λ r. rest r >>= λ x. Ok (Some x.0, x.1)) (Ok (None, ts))
    go (Ok x) = sym (bind_assoc (read cs h x.1) (λ x. Ok (f x.0, x.1)) (λ x. Ok (Some x.0, x.1))) ∙ ap (λ r. r >>= λ x. Ok (Some x.0, x.1)) (same x.1)
    go (Err e) = refl

abbrev object_body : Rule (Ident × ((Number × Number) × Number))
object_body = seq ident (lead mark.In (seq range (lead mark.Equal signed)))

abbrev object_of : Ident × ((Number × Number) × Number) → ObjectDecl
object_of p = record { name = p.0; lo = p.1.0.0; hi = p.1.0.1; start = p.1.1 }

abbrev transaction_body : Version → Rule (Ident × (List RangeDecl × s.Commands))
transaction_body v = seq ident (lead mark.Open (seq (closed parameters mark.Close) (block v)))

abbrev transaction_of : Ident × (List RangeDecl × s.Commands) → s.Transaction
transaction_of p = record { name = p.0; params = p.1.0; body = p.1.1 }

some_block : (b : Bool) → (((b && true) || true) && true) ≡ true
some_block true = refl
some_block false = refl

abbrev client_body : Rule (Ident × (Number × List s.Call))
client_body = seq ident (lead mark.At (seq number calls))

abbrev client_of : Ident × (Number × List s.Call) → s.Client
client_of p = record { name = p.0; site = p.1.0; calls = p.1.1 }

pub next_object_reads : (ts : List Token) → next_object_read ts ≡ next_object_do ts
unfolding next_object_read next_object_do object_rest range_read signed_read read_then
next_object_reads ts = lead_rest top object_of mark.Object object_body object_rest refl (λ r. flat top object_body r (λ x. Ok (object_of x.0, x.1))) ts

first_and : {X : Type 0} → (b : Bool) (x : Reading X) (others : List Token → Reading (List X)) (ts : List Token) →
    (if b then (x >>= λ x. others x.1 >>= λ y. Ok (x.0 ∷ y.0, y.1)) else Ok ([], ts)) ≡ (opt_of b x ts >>= λ x. after_first others x.0 x.1)
unfolding after_first
first_and true (Ok x) others ts = refl
first_and true (Err e) others ts = refl
first_and false x others ts = refl

-- A list with marks between is the first, if there is one, and then the others.
separated_reads : {X : Type 0} → (m : Mark) (g : Rule X) (full : empty g ≡ false) (ts : List Token) →
    read top (part (separated m (part g))) ts ≡ (opt_read top (part g) ts >>= λ x. after_first (λ r. read top (many (lead m (part g))) r) x.0 x.1)
unfolding read_then
separated_reads m g full ts =
    reads_part top (separated m (part g)) ts
    ∙ ap (λ (b : Bool). if first_is (λ k. (begins top (part g) k && true) || (b && begins top (many (lead m (part g))) k)) ts then
    (read top (part g) ts >>= λ x. read top (many (lead m (part g))) x.1 >>= λ y. Ok (x.0 ∷ y.0, y.1)) else Ok ([], ts)) full
    ∙ ap (λ (b : Bool). if b then (read top (part g) ts >>= λ x. read top (many (lead m (part g))) x.1 >>= λ y. Ok (x.0 ∷ y.0, y.1)) else Ok ([], ts))
    (begins_same (begins top (part g)) (λ k. begins top (many (lead m (part g))) k) ts)
    ∙ first_and (first_is (begins top (part g)) ts) (read top (part g) ts) (λ r. read top (many (lead m (part g))) r) ts

pub decl_reads : (ts : List Token) → decl_read ts ≡ decl_do ts
unfolding decl_read decl_do range_read read_then
decl_reads ts = reads_part top _ ts

first_decl_kind : (k : Kind) (o : ℕ) (ts : List Token) →
    first_decl_read (record { kind = k; offset = o } ∷ ts) ≡ first_decl_by k (record { kind = k; offset = o }) ts
unfolding first_decl_read first_decl_by decl_read
first_decl_kind (kind.Name n) o ts = refl
first_decl_kind (kind.Fixed mark.Assign) o ts = refl
first_decl_kind k o ts = refl

pub first_decl_reads : (ts : List Token) → first_decl_read ts ≡ first_decl_do ts
unfolding first_decl_read first_decl_do
first_decl_reads [] = refl
first_decl_reads (t ∷ ts) = first_decl_kind t.kind t.offset ts

pub next_decl_reads : (ts : List Token) → next_decl_read ts ≡ next_decl_do ts
unfolding next_decl_read next_decl_do decl_read
next_decl_reads ts = opt_lead top mark.Comma decl refl ts

pub fields_reads : (ts : List Token) → fields_read ts ≡ fields_do ts
unfolding fields_read fields_do decl_read other_decls_read read_then
fields_reads ts = reads_part top _ ts

abbrev relation_body : Rule (Ident × (Number × List RangeDecl))
relation_body = seq ident (lead mark.OpenBracket (seq number (lead mark.CloseBracket (lead mark.Open (closed fields mark.Close)))))

abbrev relation_of : Ident × (Number × List RangeDecl) → s.RelationDecl
relation_of p = record { name = p.0; slots = p.1.0; fields = p.1.1 }

pub next_relation_reads : (ts : List Token) → next_relation_read ts ≡ next_relation_do ts
unfolding next_relation_read next_relation_do relation_rest fields_read read_then
next_relation_reads ts =
    lead_rest top relation_of mark.Relation relation_body relation_rest refl (λ r. flat top relation_body r (λ x. Ok (relation_of x.0, x.1))) ts

pub parameters_reads : (ts : List Token) → parameters_read ts ≡ parameters_do ts
unfolding parameters_read parameters_do first_decl_read other_decls_read
parameters_reads ts = separated_reads mark.Comma _ refl ts

pub next_transaction_reads : (v : Version) (ts : List Token) → next_transaction_read v ts ≡ next_transaction_do v ts
unfolding next_transaction_read next_transaction_do transaction_rest parameters_read block_read read_then
next_transaction_reads v ts =
    lead_rest top transaction_of mark.Transaction (transaction_body v) (transaction_rest v) (some_block ((calls_at rule limit).exists (Command v)))
    (λ r. flat top (transaction_body v) r (λ x. Ok (transaction_of x.0, x.1))) ts

pub next_client_reads : (ts : List Token) → next_client_read ts ≡ next_client_do ts
unfolding next_client_read next_client_do client_rest calls_read read_then
next_client_reads ts = lead_rest top client_of mark.Client client_body client_rest refl (λ r. flat top client_body r (λ x. Ok (client_of x.0, x.1))) ts

first_argument_kind : (k : Kind) (o : ℕ) (ts : List Token) →
    first_argument_read (record { kind = k; offset = o } ∷ ts) ≡ first_argument_by k (record { kind = k; offset = o }) ts
unfolding first_argument_read first_argument_by signed_read
first_argument_kind (kind.Fixed mark.Minus) o ts = refl
first_argument_kind (kind.Number (pos n)) o ts = refl
first_argument_kind (kind.Number (negsuc n)) o ts = refl
first_argument_kind k o ts = refl

pub first_argument_reads : (ts : List Token) → first_argument_read ts ≡ first_argument_do ts
unfolding first_argument_read first_argument_do
first_argument_reads [] = refl
first_argument_reads (t ∷ ts) = first_argument_kind t.kind t.offset ts

pub next_argument_reads : (ts : List Token) → next_argument_read ts ≡ next_argument_do ts
unfolding next_argument_read next_argument_do signed_read
next_argument_reads ts = opt_lead top mark.Comma signed refl ts

pub arguments_reads : (ts : List Token) → arguments_read ts ≡ arguments_do ts
unfolding arguments_read arguments_do first_argument_read other_arguments_read
arguments_reads ts = separated_reads mark.Comma _ refl ts

pub invocation_reads : (ts : List Token) → invocation_read ts ≡ invocation_do ts
unfolding invocation_read invocation_do arguments_read read_then
invocation_reads ts = reads_part top _ ts

first_invocation_kind : (k : Kind) (o : ℕ) (ts : List Token) →
    first_invocation_read (record { kind = k; offset = o } ∷ ts) ≡ first_invocation_by k (record { kind = k; offset = o }) ts
unfolding first_invocation_read first_invocation_by invocation_read
first_invocation_kind (kind.Name n) o ts = refl
first_invocation_kind (kind.Fixed mark.Assign) o ts = refl
first_invocation_kind k o ts = refl

pub first_invocation_reads : (ts : List Token) → first_invocation_read ts ≡ first_invocation_do ts
unfolding first_invocation_read first_invocation_do
first_invocation_reads [] = refl
first_invocation_reads (t ∷ ts) = first_invocation_kind t.kind t.offset ts

pub next_invocation_reads : (ts : List Token) → next_invocation_read ts ≡ next_invocation_do ts
unfolding next_invocation_read next_invocation_do invocation_read
next_invocation_reads ts = opt_lead top mark.Semicolon invocation refl ts

pub invocations_reads : (ts : List Token) → invocations_read ts ≡ invocations_do ts
unfolding invocations_read invocations_do first_invocation_read other_invocations_read
invocations_reads ts = separated_reads mark.Semicolon _ refl ts

pub calls_reads : (ts : List Token) → calls_read ts ≡ calls_do ts
unfolding calls_read calls_do invocations_read read_then
calls_reads ts = reads_part top _ ts

next_name_kind : (k : Kind) (o : ℕ) (ts : List Token) →
    next_name_read (record { kind = k; offset = o } ∷ ts) ≡ next_name_by k (record { kind = k; offset = o }) ts
unfolding next_name_read next_name_by read
next_name_kind (kind.Name n) o ts = refl
next_name_kind (kind.Fixed mark.Assign) o ts = refl
next_name_kind k o ts = refl

pub next_name_reads : (ts : List Token) → next_name_read ts ≡ next_name_do ts
unfolding next_name_read next_name_do
next_name_reads [] = refl
next_name_reads (t ∷ ts) = next_name_kind t.kind t.offset ts

pub schedule_reads : (ts : List Token) → schedule_read ts ≡ schedule_do ts
unfolding schedule_read schedule_do names_read read
schedule_reads ts = opt_lead top mark.Schedule (many ident) refl ts

pub next_weight_reads : (ts : List Token) → next_weight_read ts ≡ next_weight_do ts
unfolding next_weight_read next_weight_do read
next_weight_reads ts = opt_lead top mark.Comma number refl ts

pub weights_reads : (v : Version) (ts : List Token) → weights_read v ts ≡ weights_do v ts
unfolding weights_read weights_do other_weights_read read_then
weights_reads First ts = reads_part top _ ts
weights_reads Second ts = reads_part top _ ts

pub head_reads : (v : Version) (ts : List Token) → head_read v ts ≡ head_do v ts
unfolding head_read head_do weights_read read_then
head_reads First ts = reads_part top _ ts
head_reads Second ts = reads_part top _ ts

pub workload_reads : (v : Version) (names : List (List ℕ)) (ts : List Token) → workload_read v names ts ≡ workload_do v names ts
unfolding workload_read workload_do head_read objects_read relations_read transactions_read clients_read schedule_read read_then
workload_reads v names ts = reads top (workload v names) ts

abbrev pub semi_invocation : Rule s.Call
semi_invocation = lead mark.Semicolon invocation

abbrev pub comma_decl : Rule RangeDecl
comma_decl = lead mark.Comma decl

abbrev pub comma_argument : Rule Number
comma_argument = lead mark.Comma signed

abbrev pub comma_weight : Rule Number
comma_weight = lead mark.Comma number

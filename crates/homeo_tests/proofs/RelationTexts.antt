-- Workloads with relations whose faults are known.
use Rattle.std.proofs.Common.{◌≡◌, ℕ, ◌+◌, ℤ, pos, neg_ℤ, List, [], ◌∷◌, map, Option, None, refl}
use Rattle.homeo_syntax.specs.Key.{definitions as syntax_definitions}
use Rattle.homeo_syntax.specs.Source as s
use Rattle.homeo_syntax.specs.SourceView.{commands, exprs, tests}
use Rattle.homeo_syntax.specs.declared.phrase.Compare.TheVariants.{Less}
use Rattle.homeo_syntax.specs.declared.workload.ObjectDecl.{ObjectDecl}
use Rattle.homeo_syntax.specs.declared.workload.RangeDecl.{RangeDecl}
use Rattle.homeo_meaning.specs.Key.{definitions}
use Rattle.homeo_meaning.specs.LForm.{l_form}
use Rattle.homeo_meaning.specs.LowSizes.{prints_in}
use Rattle.homeo_meaning.specs.Schema.{schema_of}
use Rattle.homeo_meaning.specs.declared.call.Purpose.TheVariants.{Steps}
use Rattle.homeo_meaning.specs.declared.rules.Fault.{Fault}
use Rattle.homeo_meaning.specs.declared.rules.Phase.TheVariants as F
use Rattle.homeo_tests.proofs.RuleTexts.{id, num, at, x, call, client, decided, one, parameter}

-- names: 0 x, 2 t, 3 a client, 5 p, 6 unknown, 7 R, 8 f, 9 g, 10 r, 11 S, 12 h, 13 u
abbrev field : ℕ → ℕ → RangeDecl
field n o = parameter n o (pos 0) (pos 9)

abbrev relation : ℕ → ℕ → ℤ → List RangeDecl → s.RelationDecl
relation n o slots fields = record { name = id n o; slots = num slots (o + 1); fields = fields }

abbrev workload : List ObjectDecl → List s.RelationDecl → List s.Transaction → List s.Client → s.Workload
workload objects relations ts cs = record { version = 1; names = []; sites = num (pos 2) 5; objects = objects; relations = relations; transactions = ts; clients = cs; schedule = None; end = 999; weights = [] }

-- an object, a relation with two fields and one with one, a transaction with one parameter and this body, a client
abbrev body : List s.Command → s.Workload
body cs = workload (x ∷ []) (relation 7 15 (pos 2) (field 8 17 ∷ field 9 20 ∷ []) ∷ relation 11 24 (pos 3) (field 12 26 ∷ []) ∷ []) (record { name = id 2 30; params = field 5 31 ∷ []; body = commands cs } ∷ []) (client 3 800 (pos 0) [] ∷ [])

-- no fault
abbrev fine : Option Fault
fine = None

abbrev always : s.Cond
always = tests (s.True ∷ [])

-- a test that names the expression
abbrev positive : s.Expr → s.Cond
positive e = tests (s.Comparison Less (s.Literal (pos 0)) e ∷ [])

abbrev r_f : ℕ → s.Expr
r_f o = s.Row (id 10 o) (id 8 (o + 1))

-- foreach r of R, with the body
abbrev loop : List s.Command → s.Command
loop cs = s.Foreach (id 10 40) (id 7 41) always (commands cs)

abbrev count : ℕ → ℕ → s.Expr
count r q = s.Count (id r 50) (id q 51) always

abbrev named : ℕ → ℕ → s.FieldValue
named n o = record { field = id n o; value = one }

-- insert into R
abbrev insert : List s.FieldValue → ℕ → s.Command
insert fs t = s.Insert (id 7 60) fs (id t 90)

-- ---- names that are declared twice

nothing_wrong : decided Steps (body ([])) ≡ fine
unfolding definitions syntax_definitions
nothing_wrong = refl

-- a relation with an object's name
relation_twice : decided Steps (workload (x ∷ []) (relation 0 15 (pos 2) (field 8 17 ∷ []) ∷ []) [] []) ≡ at F.Duplicate 15
unfolding definitions syntax_definitions
relation_twice = refl

field_twice : decided Steps (workload [] (relation 7 15 (pos 2) (field 8 17 ∷ field 9 20 ∷ field 8 23 ∷ []) ∷ []) [] []) ≡ at F.Duplicate 23
unfolding definitions syntax_definitions
field_twice = refl

-- fields of two relations may have one name, and fields may have the names of others
fields_apart : decided Steps (workload (x ∷ []) (relation 7 15 (pos 2) (field 0 17 ∷ field 7 20 ∷ []) ∷ relation 11 24 (pos 2) (field 0 26 ∷ []) ∷ []) [] []) ≡ fine
unfolding definitions syntax_definitions
fields_apart = refl

inserted_twice : decided Steps (body (insert (named 8 61 ∷ named 8 62 ∷ []) 13 ∷ [])) ≡ at F.Duplicate 62
unfolding definitions syntax_definitions
inserted_twice = refl

-- also where the relation is refused
inserted_twice_nowhere : decided Steps (body (s.Insert (id 6 60) (named 8 61 ∷ named 8 62 ∷ []) (id 13 90) ∷ [])) ≡ at F.Duplicate 62
unfolding definitions syntax_definitions
inserted_twice_nowhere = refl

row_as_object : decided Steps (body (s.Print (count 0 7) ∷ [])) ≡ at F.Duplicate 50
unfolding definitions syntax_definitions
row_as_object = refl

row_as_relation : decided Steps (body (s.Print (count 7 7) ∷ [])) ≡ at F.Duplicate 50
unfolding definitions syntax_definitions
row_as_relation = refl

-- a client that is declared later
row_as_client : decided Steps (body (s.Print (count 3 7) ∷ [])) ≡ at F.Duplicate 50
unfolding definitions syntax_definitions
row_as_client = refl

row_as_parameter : decided Steps (body (s.Delete (id 5 40) (id 7 41) always ∷ [])) ≡ at F.Duplicate 40
unfolding definitions syntax_definitions
row_as_parameter = refl

-- a row variable with the name of one that holds it
row_in_its_own : decided Steps (body (loop (s.Print (count 10 11) ∷ []) ∷ [])) ≡ at F.Duplicate 50
unfolding definitions syntax_definitions
row_in_its_own = refl

row_in_its_test : decided Steps (body (s.Update (id 10 40) (id 7 41) (positive (count 10 7)) (id 8 42) one ∷ [])) ≡ at F.Duplicate 50
unfolding definitions syntax_definitions
row_in_its_test = refl

row_in_its_count : decided Steps (body (s.Print (s.Count (id 10 40) (id 7 41) (positive (count 10 7))) ∷ [])) ≡ at F.Duplicate 50
unfolding definitions syntax_definitions
row_in_its_count = refl

row_as_temporary : decided Steps (body (s.Assign (id 13 40) one ∷ s.Print (count 13 7) ∷ [])) ≡ at F.Duplicate 50
unfolding definitions syntax_definitions
row_as_temporary = refl

row_as_temporary_of_branch : decided Steps (body (s.If always (s.Assign (id 13 40) one) (s.Print (count 13 7)) ∷ [])) ≡ at F.Duplicate 50
unfolding definitions syntax_definitions
row_as_temporary_of_branch = refl

row_as_into : decided Steps (body (insert (named 9 61 ∷ named 8 62 ∷ []) 13 ∷ s.Delete (id 13 95) (id 7 96) always ∷ [])) ≡ at F.Duplicate 95
unfolding definitions syntax_definitions
row_as_into = refl

-- the temporary comes into being at the end of its first assignment
row_as_target : decided Steps (body (s.Assign (id 13 40) (count 13 7) ∷ [])) ≡ fine
unfolding definitions syntax_definitions
row_as_target = refl

row_as_target_again : decided Steps (body (s.Assign (id 13 40) one ∷ s.Assign (id 13 41) (count 13 7) ∷ [])) ≡ at F.Duplicate 50
unfolding definitions syntax_definitions
row_as_target_again = refl

row_before_temporary : decided Steps (body (loop [] ∷ s.Assign (id 10 70) one ∷ s.Print (s.Name (id 10 71)) ∷ [])) ≡ fine
unfolding definitions syntax_definitions
row_before_temporary = refl

rows_in_turn : decided Steps (body (loop [] ∷ loop [] ∷ s.Print (count 10 11) ∷ [])) ≡ fine
unfolding definitions syntax_definitions
rows_in_turn = refl

-- ---- names that are not known

no_relation_to_count : decided Steps (body (s.Print (count 10 6) ∷ [])) ≡ at F.Unknown 51
unfolding definitions syntax_definitions
no_relation_to_count = refl

no_relation_to_sum : decided Steps (body (s.Print (s.Total (id 10 40) (id 8 41) (id 6 42) always) ∷ [])) ≡ at F.Unknown 42
unfolding definitions syntax_definitions
no_relation_to_sum = refl

no_relation_to_visit : decided Steps (body (s.Foreach (id 10 40) (id 6 41) always (commands []) ∷ [])) ≡ at F.Unknown 41
unfolding definitions syntax_definitions
no_relation_to_visit = refl

no_relation_to_fill : decided Steps (body (s.Insert (id 6 60) (named 8 61 ∷ []) (id 13 90) ∷ [])) ≡ at F.Unknown 60
unfolding definitions syntax_definitions
no_relation_to_fill = refl

no_relation_to_delete : decided Steps (body (s.Delete (id 10 40) (id 6 41) always ∷ [])) ≡ at F.Unknown 41
unfolding definitions syntax_definitions
no_relation_to_delete = refl

no_relation_to_update : decided Steps (body (s.Update (id 10 40) (id 6 41) always (id 8 42) one ∷ [])) ≡ at F.Unknown 41
unfolding definitions syntax_definitions
no_relation_to_update = refl

-- a field of what is refused is not looked up
no_relation_to_read : decided Steps (body (s.Print (s.Field (id 6 41) one (id 6 40)) ∷ [])) ≡ at F.Unknown 41
unfolding definitions syntax_definitions
no_relation_to_read = refl

no_relation_to_write : decided Steps (body (s.SetField (id 6 41) one (id 6 40) one ∷ [])) ≡ at F.Unknown 41
unfolding definitions syntax_definitions
no_relation_to_write = refl

no_row_to_read : decided Steps (body (s.Print (s.Row (id 10 41) (id 6 40)) ∷ [])) ≡ at F.Unknown 41
unfolding definitions syntax_definitions
no_row_to_read = refl

no_row_to_write : decided Steps (body (s.SetRow (id 10 41) (id 6 40) one ∷ [])) ≡ at F.Unknown 41
unfolding definitions syntax_definitions
no_row_to_write = refl

-- a field of a row variable whose relation is refused neither
row_of_refused : decided Steps (body (s.Foreach (id 10 50) (id 0 51) always (commands (s.SetRow (id 10 52) (id 6 40) one ∷ [])) ∷ [])) ≡ at F.Kind 51
unfolding definitions syntax_definitions
row_of_refused = refl

sum_of_refused : decided Steps (body (s.Print (s.Total (id 10 40) (id 6 41) (id 0 42) always) ∷ [])) ≡ at F.Kind 42
unfolding definitions syntax_definitions
sum_of_refused = refl

no_field_to_read : decided Steps (body (s.Print (s.Field (id 7 40) one (id 6 41)) ∷ [])) ≡ at F.Unknown 41
unfolding definitions syntax_definitions
no_field_to_read = refl

field_of_another : decided Steps (body (s.Print (s.Field (id 7 40) one (id 12 41)) ∷ [])) ≡ at F.Unknown 41
unfolding definitions syntax_definitions
field_of_another = refl

no_field_to_write : decided Steps (body (s.SetField (id 7 40) one (id 12 41) one ∷ [])) ≡ at F.Unknown 41
unfolding definitions syntax_definitions
no_field_to_write = refl

no_field_of_row : decided Steps (body (loop (s.Print (s.Row (id 10 42) (id 12 43)) ∷ []) ∷ [])) ≡ at F.Unknown 43
unfolding definitions syntax_definitions
no_field_of_row = refl

no_field_of_row_to_write : decided Steps (body (loop (s.SetRow (id 10 42) (id 12 43) one ∷ []) ∷ [])) ≡ at F.Unknown 43
unfolding definitions syntax_definitions
no_field_of_row_to_write = refl

no_field_to_sum : decided Steps (body (s.Print (s.Total (id 10 40) (id 12 41) (id 7 42) always) ∷ [])) ≡ at F.Unknown 41
unfolding definitions syntax_definitions
no_field_to_sum = refl

no_field_to_update : decided Steps (body (s.Update (id 10 40) (id 7 41) always (id 12 42) one ∷ [])) ≡ at F.Unknown 42
unfolding definitions syntax_definitions
no_field_to_update = refl

no_field_to_fill : decided Steps (body (insert (named 8 61 ∷ named 12 62 ∷ []) 13 ∷ [])) ≡ at F.Unknown 62
unfolding definitions syntax_definitions
no_field_to_fill = refl

in_an_index : decided Steps (body (s.Print (s.Field (id 7 40) (s.Name (id 6 41)) (id 8 42)) ∷ [])) ≡ at F.Unknown 41
unfolding definitions syntax_definitions
in_an_index = refl

in_an_index_to_write : decided Steps (body (s.SetField (id 7 40) (s.Name (id 6 41)) (id 8 42) one ∷ [])) ≡ at F.Unknown 41
unfolding definitions syntax_definitions
in_an_index_to_write = refl

in_a_value_to_write : decided Steps (body (s.SetField (id 7 40) one (id 8 41) (s.Name (id 6 42)) ∷ [])) ≡ at F.Unknown 42
unfolding definitions syntax_definitions
in_a_value_to_write = refl

-- the temporary of an insert is known behind it
into_itself : decided Steps (body (insert (named 8 61 ∷ record { field = id 9 62; value = s.Name (id 13 63) } ∷ []) 13 ∷ [])) ≡ at F.Unknown 63
unfolding definitions syntax_definitions
into_itself = refl

into_known : decided Steps (body (insert (named 9 61 ∷ named 8 62 ∷ []) 13 ∷ s.Print (s.Name (id 13 91)) ∷ [])) ≡ fine
unfolding definitions syntax_definitions
into_known = refl

row_after_loop : decided Steps (body (loop [] ∷ s.Print (r_f 70) ∷ [])) ≡ at F.Unknown 70
unfolding definitions syntax_definitions
row_after_loop = refl

row_after_delete : decided Steps (body (s.Delete (id 10 40) (id 7 41) (positive (r_f 42)) ∷ s.Print (r_f 70) ∷ [])) ≡ at F.Unknown 70
unfolding definitions syntax_definitions
row_after_delete = refl

row_after_update : decided Steps (body (s.Update (id 10 40) (id 7 41) (positive (r_f 42)) (id 9 44) (r_f 45) ∷ s.Print (r_f 70) ∷ [])) ≡ at F.Unknown 70
unfolding definitions syntax_definitions
row_after_update = refl

row_after_count : decided Steps (body (s.Print (s.Sum (exprs (s.Count (id 10 40) (id 7 41) (positive (r_f 42)) ∷ r_f 44 ∷ []))) ∷ [])) ≡ at F.Unknown 44
unfolding definitions syntax_definitions
row_after_count = refl

row_after_sum : decided Steps (body (s.Print (s.Sum (exprs (s.Total (id 10 40) (id 8 41) (id 7 42) (positive (r_f 43)) ∷ r_f 45 ∷ []))) ∷ [])) ≡ at F.Unknown 45
unfolding definitions syntax_definitions
row_after_sum = refl

-- the relation of a loop stands outside of its row variable
relation_out_of_row : decided Steps (body (s.Foreach (id 10 40) (id 10 41) always (commands []) ∷ [])) ≡ at F.Unknown 41
unfolding definitions syntax_definitions
relation_out_of_row = refl

of_an_outer_loop : decided Steps (body (loop (s.Foreach (id 13 50) (id 11 51) (positive (r_f 52)) (commands (s.Print (s.Sum (exprs (r_f 54 ∷ s.Row (id 13 56) (id 12 57) ∷ []))) ∷ [])) ∷ []) ∷ [])) ≡ fine
unfolding definitions syntax_definitions
of_an_outer_loop = refl

temporary_of_a_loop : decided Steps (body (loop (s.Assign (id 13 42) (r_f 43) ∷ []) ∷ s.Print (s.Name (id 13 70)) ∷ [])) ≡ fine
unfolding definitions syntax_definitions
temporary_of_a_loop = refl

-- ---- names of another kind

object_to_count : decided Steps (body (s.Print (count 10 0) ∷ [])) ≡ at F.Kind 51
unfolding definitions syntax_definitions
object_to_count = refl

object_to_index : decided Steps (body (s.Print (s.Field (id 0 41) one (id 6 40)) ∷ [])) ≡ at F.Kind 41
unfolding definitions syntax_definitions
object_to_index = refl

parameter_to_visit : decided Steps (body (s.Foreach (id 10 40) (id 5 41) always (commands []) ∷ [])) ≡ at F.Kind 41
unfolding definitions syntax_definitions
parameter_to_visit = refl

temporary_to_delete : decided Steps (body (s.Assign (id 13 40) one ∷ s.Delete (id 10 41) (id 13 42) always ∷ [])) ≡ at F.Kind 42
unfolding definitions syntax_definitions
temporary_to_delete = refl

transaction_to_fill : decided Steps (body (s.Insert (id 2 60) (named 6 61 ∷ []) (id 13 90) ∷ [])) ≡ at F.Kind 60
unfolding definitions syntax_definitions
transaction_to_fill = refl

-- `count` and `sum` hold their relation
row_to_count : decided Steps (body (s.Print (count 10 10) ∷ [])) ≡ at F.Kind 51
unfolding definitions syntax_definitions
row_to_count = refl

row_to_sum : decided Steps (body (s.Print (s.Total (id 10 40) (id 8 41) (id 10 42) always) ∷ [])) ≡ at F.Kind 42
unfolding definitions syntax_definitions
row_to_sum = refl

row_to_visit : decided Steps (body (loop (s.Foreach (id 13 50) (id 10 51) always (commands []) ∷ []) ∷ [])) ≡ at F.Kind 51
unfolding definitions syntax_definitions
row_to_visit = refl

relation_to_read : decided Steps (body (s.Print (s.Read (id 7 40)) ∷ [])) ≡ at F.Kind 40
unfolding definitions syntax_definitions
relation_to_read = refl

relation_to_write : decided Steps (body (s.Write (id 7 40) one ∷ [])) ≡ at F.Kind 40
unfolding definitions syntax_definitions
relation_to_write = refl

relation_as_value : decided Steps (body (s.Print (s.Name (id 7 40)) ∷ [])) ≡ at F.Kind 40
unfolding definitions syntax_definitions
relation_as_value = refl

relation_as_target : decided Steps (body (s.Assign (id 7 40) one ∷ [])) ≡ at F.Kind 40
unfolding definitions syntax_definitions
relation_as_target = refl

relation_to_call : decided Steps (workload [] (relation 7 15 (pos 2) (field 8 17 ∷ []) ∷ []) [] (client 3 800 (pos 0) (call 7 810 ∷ []) ∷ [])) ≡ at F.Kind 810
unfolding definitions syntax_definitions
relation_to_call = refl

row_as_value : decided Steps (body (loop (s.Print (s.Name (id 10 42)) ∷ []) ∷ [])) ≡ at F.Kind 42
unfolding definitions syntax_definitions
row_as_value = refl

row_to_assign : decided Steps (body (loop (s.Assign (id 10 42) one ∷ []) ∷ [])) ≡ at F.Kind 42
unfolding definitions syntax_definitions
row_to_assign = refl

row_to_insert : decided Steps (body (loop (insert (named 8 61 ∷ named 9 62 ∷ []) 10 ∷ []) ∷ [])) ≡ at F.Kind 90
unfolding definitions syntax_definitions
row_to_insert = refl

parameter_to_insert : decided Steps (body (insert (named 8 61 ∷ named 9 62 ∷ []) 5 ∷ [])) ≡ at F.Kind 90
unfolding definitions syntax_definitions
parameter_to_insert = refl

parameter_as_row : decided Steps (body (s.Print (s.Row (id 5 41) (id 6 40)) ∷ [])) ≡ at F.Kind 41
unfolding definitions syntax_definitions
parameter_as_row = refl

temporary_as_row : decided Steps (body (s.Assign (id 13 40) one ∷ s.Print (s.Row (id 13 42) (id 6 41)) ∷ [])) ≡ at F.Kind 42
unfolding definitions syntax_definitions
temporary_as_row = refl

relation_as_row : decided Steps (body (s.SetRow (id 7 42) (id 8 41) one ∷ [])) ≡ at F.Kind 42
unfolding definitions syntax_definitions
relation_as_row = refl

-- ---- counts and bounds of fields

too_few_fields : decided Steps (body (insert (named 9 61 ∷ []) 13 ∷ [])) ≡ at F.Arity 60
unfolding definitions syntax_definitions
too_few_fields = refl

field_before_count : decided Steps (body (insert (named 12 61 ∷ []) 13 ∷ [])) ≡ at F.Unknown 61
unfolding definitions syntax_definitions
field_before_count = refl

refused_not_counted : decided Steps (body (s.Insert (id 0 60) (named 8 61 ∷ []) (id 13 90) ∷ [])) ≡ at F.Kind 60
unfolding definitions syntax_definitions
refused_not_counted = refl

low_field : decided Steps (workload [] (relation 7 15 (pos 2) (parameter 8 17 (neg_ℤ (pos 1000000000001)) (pos 9) ∷ []) ∷ []) [] []) ≡ at F.Bounds 18
unfolding definitions syntax_definitions
low_field = refl

high_field : decided Steps (workload [] (relation 7 15 (pos 2) (field 8 17 ∷ parameter 9 20 (pos 0) (pos 1000000000001) ∷ []) ∷ []) [] []) ≡ at F.Bounds 22
unfolding definitions syntax_definitions
high_field = refl

crossed_field : decided Steps (workload [] (relation 7 15 (pos 2) (parameter 8 17 (pos 5) (pos 4) ∷ []) ∷ []) [] []) ≡ at F.Bounds 18
unfolding definitions syntax_definitions
crossed_field = refl

largest_field : decided Steps (workload [] (relation 7 15 (pos 2) (parameter 8 17 (neg_ℤ (pos 1000000000000)) (pos 1000000000000) ∷ []) ∷ []) [] []) ≡ fine
unfolding definitions syntax_definitions
largest_field = refl

-- ---- how much is declared
-- with 15 fields a slot has 16 objects
abbrev fifteen : List RangeDecl
fifteen = map (λ n. field n 17) (8 ∷ 9 ∷ 10 ∷ 11 ∷ 12 ∷ 13 ∷ 14 ∷ 15 ∷ 16 ∷ 17 ∷ 18 ∷ 19 ∷ 20 ∷ 21 ∷ 22 ∷ [])

no_slots : decided Steps (workload [] (relation 7 15 (pos 0) (field 8 17 ∷ []) ∷ []) [] []) ≡ at F.Limits 16
unfolding definitions syntax_definitions
no_slots = refl

one_slot : decided Steps (workload [] (relation 7 15 (pos 1) (field 8 17 ∷ []) ∷ []) [] []) ≡ fine
unfolding definitions syntax_definitions
one_slot = refl

most_slots : decided Steps (workload [] (relation 7 15 (pos 64) (field 8 17 ∷ []) ∷ []) [] []) ≡ fine
unfolding definitions syntax_definitions
most_slots = refl

many_slots : decided Steps (workload [] (relation 7 15 (pos 65) (field 8 17 ∷ []) ∷ []) [] []) ≡ at F.Limits 16
unfolding definitions syntax_definitions
many_slots = refl

most_objects : decided Steps (workload [] (relation 7 15 (pos 64) fifteen ∷ []) [] []) ≡ fine
unfolding definitions syntax_definitions
most_objects = refl

-- the declaration that passes the limit
many_objects : decided Steps (workload (x ∷ []) (relation 7 15 (pos 64) fifteen ∷ relation 11 24 (pos 1) (field 12 26 ∷ []) ∷ []) [] []) ≡ at F.Limits 15
unfolding definitions syntax_definitions
many_objects = refl

second_relation : decided Steps (workload [] (relation 7 15 (pos 64) fifteen ∷ relation 11 24 (pos 1) (field 12 26 ∷ []) ∷ []) [] []) ≡ at F.Limits 24
unfolding definitions syntax_definitions
second_relation = refl

slots_make_objects : decided Steps (workload [] (relation 7 15 (pos 2000) (field 8 17 ∷ []) ∷ []) [] []) ≡ at F.Limits 15
unfolding definitions syntax_definitions
slots_make_objects = refl

eighteen_digits : decided Steps (workload [] (relation 7 15 (pos 999999999999999999) (field 8 17 ∷ []) ∷ []) [] []) ≡ at F.Limits 15
unfolding definitions syntax_definitions
eighteen_digits = refl

-- ---- sizes
-- a loop over two slots prints for each of them
prints_of_each : prints_in (l_form (schema_of (body [])) [] [] (commands (s.Print one ∷ loop (s.Print one ∷ s.Print one ∷ []) ∷ []))) ≡ 5
unfolding definitions syntax_definitions
prints_of_each = refl

-- Workloads whose faults are known.
use Rattle.std.proofs.Common.{◌≡◌, ℕ, ◌+◌, ℤ, pos, neg_ℤ, List, [], ◌∷◌, Option, Some, None, refl}
use Rattle.std.specs.Prelude.{if◌then◌else◌}
use Rattle.homeo_syntax.specs.Key.{definitions as syntax_definitions}
use Rattle.homeo_syntax.specs.Source as s
use Rattle.homeo_syntax.specs.SourceView.{commands, exprs, tests}
use Rattle.homeo_syntax.specs.declared.phrase.Compare.TheVariants.{Less}
use Rattle.homeo_syntax.specs.declared.phrase.Ident.{Ident}
use Rattle.homeo_syntax.specs.declared.phrase.Number.{Number}
use Rattle.homeo_syntax.specs.declared.workload.ObjectDecl.{ObjectDecl}
use Rattle.homeo_syntax.specs.declared.workload.RangeDecl.{RangeDecl}
use Rattle.homeo_meaning.specs.Key.{definitions}
use Rattle.homeo_meaning.specs.NumberRules.{passes_limit, distinct_after}
use Rattle.homeo_meaning.specs.TransactionRules.{each}
use Rattle.homeo_meaning.specs.LForm.{l_form}
use Rattle.homeo_meaning.specs.LowSizes.{prints_in}
use Rattle.homeo_meaning.specs.Schema.{schema_of}
use Rattle.homeo_meaning.specs.Faults.{faults, comes_before}
use Rattle.homeo_meaning.specs.declared.call.Purpose.{Purpose}
use Rattle.homeo_meaning.specs.declared.call.Purpose.TheVariants.{Steps, Run}
use Rattle.homeo_meaning.specs.GlobalNames.{SitedCall}
use Rattle.homeo_meaning.specs.declared.rules.Fault.{Fault}
use Rattle.homeo_meaning.specs.declared.rules.Phase.{Phase}
use Rattle.homeo_meaning.specs.declared.rules.Phase.TheVariants as F

abbrev pub id : ℕ → ℕ → Ident
id n o = record { name = n; offset = o }

abbrev pub num : ℤ → ℕ → Number
num v o = record { value = v; offset = o }

abbrev pub at : Phase → ℕ → Option Fault
at p o = Some (record { phase = p; offset = o })

-- names: 0 x, 1 y, 2 t, 3 a, 4 b, 5 p, 6 q, 7 R
abbrev pub object : ℕ → ℕ → ℤ → ℤ → ℤ → ObjectDecl
object n o lo hi start = record { name = id n o; lo = num lo (o + 1); hi = num hi (o + 2); start = num start (o + 3) }

abbrev pub x : ObjectDecl
x = object 0 10 (pos 0) (pos 9) (pos 1)

abbrev pub transaction : List s.Command → s.Transaction
transaction cs = record { name = id 2 30; params = []; body = commands cs }

abbrev pub call : ℕ → ℕ → s.Call
call n o = record { name = id n o; args = [] }

abbrev pub client : ℕ → ℕ → ℤ → List s.Call → s.Client
client n o site cs = record { name = id n o; site = num site (o + 1); calls = cs }

abbrev workload : ℤ → List ObjectDecl → List s.Transaction → List s.Client → Option (List Ident) → s.Workload
workload sites objects ts cs order = record { version = 1; names = []; sites = num sites 5; objects = objects; relations = []; transactions = ts; clients = cs; schedule = order; end = 999; weights = [] }

-- one object, one client with one call of a transaction with this body
abbrev body : List s.Command → s.Workload
body cs = workload (pos 2) (x ∷ []) (transaction cs ∷ []) (client 3 800 (pos 0) (call 2 810 ∷ []) ∷ []) (Some (id 3 900 ∷ []))

-- the same with another order
abbrev ordered : Option (List Ident) → s.Workload
ordered order = workload (pos 2) (x ∷ []) (transaction [] ∷ []) (client 3 800 (pos 0) (call 2 810 ∷ []) ∷ []) order

-- of a fault so far and of another one, the one that decides: the earlier, and the first of equals
abbrev pub earlier : Option Fault → Fault → Fault
earlier None g = g
earlier (Some f) g = if comes_before g f then g else f

-- of a list behind it
abbrev pub earliest : Option Fault → List Fault → Option Fault
earliest found [] = found
earliest found (f ∷ fs) = earliest (Some (earlier found f)) fs

abbrev pub decided : Purpose → s.Workload → Option Fault
decided purpose w = earliest None (faults purpose w)

abbrev pub one : s.Expr
one = s.Literal (pos 1)

abbrev read_x : ℕ → s.Expr
read_x o = s.Read (id 0 o)

-- ---- names
fine : decided Steps (body (s.Assign (id 5 40) one ∷ s.Write (id 0 41) (s.Name (id 5 42)) ∷ s.Print (read_x 43) ∷ [])) ≡ None
unfolding definitions syntax_definitions
fine = refl

unknown_object : decided Steps (body (s.Write (id 6 40) one ∷ [])) ≡ at F.Unknown 40
unfolding definitions syntax_definitions
unknown_object = refl

-- t := t + 1 as the first assignment of t
not_yet_assigned : decided Steps (body (s.Assign (id 5 40) (s.Sum (exprs (s.Name (id 5 41) ∷ one ∷ []))) ∷ [])) ≡ at F.Unknown 41
unfolding definitions syntax_definitions
not_yet_assigned = refl

-- a temporary of one branch is known in the other, later in the text
other_branch : decided Steps (body (s.If (tests (s.True ∷ [])) (s.Assign (id 5 40) one) (s.Print (s.Name (id 5 41))) ∷ [])) ≡ None
unfolding definitions syntax_definitions
other_branch = refl

assigned_later : decided Steps (body (s.Print (s.Name (id 5 40)) ∷ s.Assign (id 5 41) one ∷ [])) ≡ at F.Unknown 40
unfolding definitions syntax_definitions
assigned_later = refl

object_as_value : decided Steps (body (s.Print (s.Name (id 0 40)) ∷ [])) ≡ at F.Kind 40
unfolding definitions syntax_definitions
object_as_value = refl

temporary_as_object : decided Steps (body (s.Assign (id 5 40) one ∷ s.Print (s.Read (id 5 41)) ∷ [])) ≡ at F.Kind 41
unfolding definitions syntax_definitions
temporary_as_object = refl

-- an assignment to a client's name makes no temporary
client_as_target : decided Steps (body (s.Assign (id 3 40) one ∷ s.Print (s.Name (id 3 41)) ∷ [])) ≡ at F.Kind 40
unfolding definitions syntax_definitions
client_as_target = refl

-- the earlier phase at the later offset
earlier_phase : decided Steps (body (s.Write (id 2 40) one ∷ s.Print (s.Name (id 6 50)) ∷ [])) ≡ at F.Unknown 50
unfolding definitions syntax_definitions
earlier_phase = refl

in_a_condition : decided Steps (body (s.Block (commands (s.If (tests (s.Not (tests (s.Comparison Less one (s.Neg (s.Name (id 6 45))) ∷ [])) ∷ [])) s.Skip s.Skip ∷ [])) ∷ [])) ≡ at F.Unknown 45
unfolding definitions syntax_definitions
in_a_condition = refl

-- ---- declarations
twice : decided Steps (workload (pos 2) (x ∷ object 0 20 (pos 0) (pos 9) (pos 1) ∷ []) [] [] None) ≡ at F.Duplicate 20
unfolding definitions syntax_definitions
twice = refl

-- a client with an object's name
twice_across : decided Steps (workload (pos 2) (x ∷ []) [] (client 0 800 (pos 0) [] ∷ []) None) ≡ at F.Duplicate 800
unfolding definitions syntax_definitions
twice_across = refl

abbrev with_object : ℤ → ℤ → ℤ → s.Workload
with_object lo hi start = workload (pos 2) (object 0 10 lo hi start ∷ []) [] [] None

largest : decided Steps (with_object (neg_ℤ (pos 1000000000000)) (pos 1000000000000) (pos 0)) ≡ None
unfolding definitions syntax_definitions
largest = refl

too_low : decided Steps (with_object (neg_ℤ (pos 1000000000001)) (pos 0) (pos 0)) ≡ at F.Bounds 11
unfolding definitions syntax_definitions
too_low = refl

too_high : decided Steps (with_object (pos 0) (pos 1000000000001) (pos 0)) ≡ at F.Bounds 12
unfolding definitions syntax_definitions
too_high = refl

crossed : decided Steps (with_object (pos 5) (pos 4) (pos 5)) ≡ at F.Bounds 11
unfolding definitions syntax_definitions
crossed = refl

start_outside : decided Steps (with_object (pos 1) (pos 9) (pos 10)) ≡ at F.Bounds 13
unfolding definitions syntax_definitions
start_outside = refl

no_such_site : decided Steps (workload (pos 2) [] [] (client 3 800 (pos 2) [] ∷ []) None) ≡ at F.Bounds 801
unfolding definitions syntax_definitions
no_such_site = refl

no_sites : decided Steps (workload (pos 0) [] [] [] None) ≡ at F.Limits 5
unfolding definitions syntax_definitions
no_sites = refl

many_sites : decided Steps (workload (pos 17) [] [] (client 3 800 (pos 16) [] ∷ []) None) ≡ at F.Limits 5
unfolding definitions syntax_definitions
many_sites = refl

most_sites : decided Steps (workload (pos 16) [] [] (client 3 800 (pos 15) [] ∷ []) None) ≡ None
unfolding definitions syntax_definitions
most_sites = refl

third_of_two : each (passes_limit 2 (λ (d : Ident). d)) (id 0 1 ∷ id 1 2 ∷ id 2 3 ∷ id 3 4 ∷ []) ≡ record { phase = F.Limits; offset = 3 } ∷ []
unfolding definitions
third_of_two = refl

abbrev sited : ℕ → ℕ → List ℤ → ℤ → SitedCall
sited n o args site = record { name = id n o; args = args; site = site }

-- the same call at another site or with other arguments is another ground call
ground_calls_once : distinct_after [] (sited 2 1 [] (pos 0) ∷ sited 2 2 [] (pos 1) ∷ sited 2 3 [] (pos 0) ∷ sited 3 4 [] (pos 0) ∷ sited 2 5 (pos 7 ∷ []) (pos 0) ∷ sited 2 6 (pos 8 ∷ []) (pos 0) ∷ sited 2 7 (pos 7 ∷ []) (pos 0) ∷ []) ≡ sited 2 1 [] (pos 0) ∷ sited 2 2 [] (pos 1) ∷ sited 3 4 [] (pos 0) ∷ sited 2 5 (pos 7 ∷ []) (pos 0) ∷ sited 2 6 (pos 8 ∷ []) (pos 0) ∷ []
unfolding definitions
ground_calls_once = refl

-- ---- calls and the schedule
unknown_call : decided Steps (workload (pos 2) [] [] (client 3 800 (pos 0) (call 6 810 ∷ []) ∷ []) (Some (id 3 900 ∷ []))) ≡ at F.Unknown 810
unfolding definitions syntax_definitions
unknown_call = refl

call_of_object : decided Steps (workload (pos 2) (x ∷ []) [] (client 3 800 (pos 0) (call 0 810 ∷ []) ∷ []) (Some (id 3 900 ∷ []))) ≡ at F.Kind 810
unfolding definitions syntax_definitions
call_of_object = refl

in_order : decided Steps (ordered (Some (id 3 900 ∷ []))) ≡ None
unfolding definitions syntax_definitions
in_order = refl

no_order : decided Steps (ordered None) ≡ at F.Schedule 999
unfolding definitions syntax_definitions
no_order = refl

no_order_needed : decided Run (ordered None) ≡ None
unfolding definitions syntax_definitions
no_order_needed = refl

-- a schedule that is given is checked for every purpose
too_seldom : decided Run (ordered (Some [])) ≡ at F.Schedule 999
unfolding definitions syntax_definitions
too_seldom = refl

too_often : decided Steps (ordered (Some (id 3 900 ∷ id 3 901 ∷ id 3 902 ∷ []))) ≡ at F.Schedule 901
unfolding definitions syntax_definitions
too_often = refl

order_names_object : decided Steps (ordered (Some (id 0 900 ∷ id 3 901 ∷ []))) ≡ at F.Kind 900
unfolding definitions syntax_definitions
order_names_object = refl

order_names_nothing : decided Steps (ordered (Some (id 0 900 ∷ id 6 901 ∷ []))) ≡ at F.Unknown 901
unfolding definitions syntax_definitions
order_names_nothing = refl

-- ---- sizes and weights
prints_of_both : prints_in (l_form (schema_of (body [])) [] [] (commands (s.Print one ∷ s.If (tests []) (s.Print one) (s.Block (commands (s.Print one ∷ s.Skip ∷ s.Print one ∷ []))) ∷ []))) ≡ 4
unfolding definitions syntax_definitions
prints_of_both = refl

abbrev billion : s.Expr
billion = s.Literal (pos 1000000000)

just_light : decided Steps (body (s.Print (s.Product (exprs (billion ∷ billion ∷ []))) ∷ [])) ≡ None
unfolding definitions syntax_definitions
just_light = refl

heavy : decided Steps (body (s.Print (s.Sum (exprs (s.Product (exprs (billion ∷ billion ∷ [])) ∷ one ∷ []))) ∷ [])) ≡ at F.Weight 810
unfolding definitions syntax_definitions
heavy = refl

-- the greater of both branches
heavy_branch : decided Steps (body (s.If (tests []) (s.Assign (id 5 40) billion) (s.Assign (id 5 41) one) ∷ s.Print (s.Product (exprs (s.Name (id 5 42) ∷ billion ∷ billion ∷ []))) ∷ [])) ≡ at F.Weight 810
unfolding definitions syntax_definitions
heavy_branch = refl

-- a body that is not called is not weighed
not_called : decided Steps (workload (pos 2) [] (transaction (s.Print (s.Product (exprs (billion ∷ billion ∷ billion ∷ []))) ∷ []) ∷ []) [] None) ≡ None
unfolding definitions syntax_definitions
not_called = refl

-- ---- parameters and arguments
abbrev pub parameter : ℕ → ℕ → ℤ → ℤ → RangeDecl
parameter n o lo hi = record { name = id n o; lo = num lo (o + 1); hi = num hi (o + 2) }

-- one object, and one call with these arguments of a transaction with these parameters and this body
abbrev calling : List RangeDecl → List s.Command → List Number → s.Workload
calling ps cs args = workload (pos 2) (x ∷ []) (record { name = id 2 30; params = ps; body = commands cs } ∷ []) (client 3 800 (pos 0) (record { name = id 2 810; args = args } ∷ []) ∷ []) (Some (id 3 900 ∷ []))

abbrev p : RangeDecl
p = parameter 5 40 (pos 0) (pos 9)

as_value : decided Steps (calling (p ∷ []) (s.Print (s.Name (id 5 50)) ∷ []) (num (pos 4) 820 ∷ [])) ≡ None
unfolding definitions syntax_definitions
as_value = refl

as_target : decided Steps (calling (p ∷ []) (s.Assign (id 5 50) one ∷ []) (num (pos 4) 820 ∷ [])) ≡ at F.Kind 50
unfolding definitions syntax_definitions
as_target = refl

as_object : decided Steps (calling (p ∷ []) (s.Print (s.Read (id 5 50)) ∷ []) (num (pos 4) 820 ∷ [])) ≡ at F.Kind 50
unfolding definitions syntax_definitions
as_object = refl

-- a parameter with the name of a client, which is declared later
global_parameter : decided Steps (calling (parameter 3 40 (pos 0) (pos 9) ∷ []) [] (num (pos 4) 820 ∷ [])) ≡ at F.Duplicate 40
unfolding definitions syntax_definitions
global_parameter = refl

two_parameters : decided Steps (calling (p ∷ parameter 5 44 (pos 0) (pos 9) ∷ []) [] (num (pos 4) 820 ∷ num (pos 4) 821 ∷ [])) ≡ at F.Duplicate 44
unfolding definitions syntax_definitions
two_parameters = refl

-- the bounds are compared as they are written, and the least offset decides
crossed_bounds : decided Steps (calling (parameter 5 40 (pos 5) (pos 4) ∷ []) [] (num (pos 6) 820 ∷ [])) ≡ at F.Bounds 41
unfolding definitions syntax_definitions
crossed_bounds = refl

large_bound : decided Steps (calling (parameter 5 40 (pos 0) (pos 1000000000001) ∷ []) [] (num (pos 0) 820 ∷ [])) ≡ at F.Bounds 42
unfolding definitions syntax_definitions
large_bound = refl

argument_too_large : decided Steps (calling (p ∷ []) [] (num (pos 10) 820 ∷ [])) ≡ at F.Bounds 820
unfolding definitions syntax_definitions
argument_too_large = refl

too_few : decided Steps (calling (p ∷ []) [] []) ≡ at F.Arity 810
unfolding definitions syntax_definitions
too_few = refl

-- the number of arguments comes before their bounds
too_many : decided Steps (calling (p ∷ []) [] (num (pos 10) 820 ∷ num (pos 1) 821 ∷ [])) ≡ at F.Arity 810
unfolding definitions syntax_definitions
too_many = refl

abbrev squared : ℤ → s.Workload
squared v = calling (parameter 5 40 (neg_ℤ (pos 1000000001)) (pos 9) ∷ []) (s.Print (s.Product (exprs (s.Name (id 5 50) ∷ s.Name (id 5 51) ∷ []))) ∷ []) (num v 820 ∷ [])

light_argument : decided Steps (squared (neg_ℤ (pos 1000000000))) ≡ None
unfolding definitions syntax_definitions
light_argument = refl

-- the weight is the argument's own, not that of the bounds
heavy_argument : decided Steps (squared (neg_ℤ (pos 1000000001))) ≡ at F.Weight 810
unfolding definitions syntax_definitions
heavy_argument = refl

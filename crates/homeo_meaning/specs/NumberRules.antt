-- The rules of bounds, and of how much may be declared.
use Rattle.std.specs.Prelude.{ℕ, ◌+◌, ◌*◌, nat_le, nat_lt, map, slice_get, ℤ, int_lt, int_le, pos, neg_ℤ, Bool, true, false, not, ◌&&◌, ◌||◌, List, [], ◌∷◌, ◌++◌, length, Option, Some, None, ◌==◌, if◌then◌else◌}
use Rattle.std.specs.Ordering.{int_eq}
use Rattle.std.specs.List.{list_any, list_all, flat_map, sum_by}
use Rattle.homeo_syntax.specs.Source as s
use Rattle.homeo_syntax.specs.declared.phrase.Ident.{Ident}
use Rattle.homeo_syntax.specs.declared.phrase.Number.{Number}
use Rattle.homeo_syntax.specs.declared.workload.RangeDecl.{RangeDecl}
use Rattle.homeo_syntax.specs.declared.workload.ObjectDecl.{ObjectDecl}
use Rattle.homeo_meaning.specs.Key.{definitions}
use Rattle.homeo_meaning.specs.ListRules.{when, fault, number_fault, each}
use Rattle.homeo_meaning.specs.Schema.{nat_of}
use Rattle.homeo_meaning.specs.GlobalNames.{SitedCall, sited_calls}
use Rattle.homeo_meaning.specs.declared.rules.Fault.{Fault}
use Rattle.homeo_meaning.specs.declared.rules.Phase.TheVariants.{Arity, Bounds, Limits}

-- ---- bounds
-- no bound is larger than 10^12, with or without sign
abbrev pub largest_bound : ℤ
largest_bound = pos 1000000000000

abbrev pub too_large : Number → List Fault
unfolding definitions
too_large n = when (int_lt n.value (neg_ℤ largest_bound) || int_lt largest_bound n.value) (number_fault Bounds n)

abbrev pub crossed : Number → Number → List Fault
unfolding definitions
crossed lo hi = when (int_lt hi.value lo.value) (number_fault Bounds lo)

abbrev pub range_faults : Number → Number → List Fault
unfolding definitions
range_faults lo hi = too_large lo ++ too_large hi ++ crossed lo hi

abbrev pub outside : Number → Number → Number → List Fault
unfolding definitions
outside lo hi n = when (int_lt n.value lo.value || int_lt hi.value n.value) (number_fault Bounds n)

abbrev pub object_faults : ObjectDecl → List Fault
unfolding definitions
object_faults d = range_faults d.lo d.hi ++ outside d.lo d.hi d.start

-- of a parameter or a field
abbrev pub range_bounds : RangeDecl → List Fault
unfolding definitions
range_bounds d = range_faults d.lo d.hi

-- where there is an argument, it is within the bounds of its parameter
abbrev pub argument_outside : RangeDecl → Option Number → List Fault
unfolding definitions
argument_outside d None = []
argument_outside d (Some a) = outside d.lo d.hi a

-- of the parameters from number i on
abbrev pub arguments_outside : ℕ → List RangeDecl → List Number → List Fault
unfolding definitions
arguments_outside i [] args = []
arguments_outside i (d ∷ ds) args = argument_outside d (slice_get args i) ++ arguments_outside (i + 1) ds args

-- a client stands at a site that there is
abbrev pub site_faults : Number → Number → List Fault
unfolding definitions
site_faults sites site = when (int_le sites.value site.value) (number_fault Bounds site)

-- ---- weights
-- no weight is larger than 1,000
abbrev pub largest_weight : ℤ
largest_weight = pos 1000

abbrev pub too_heavy : Number → List Fault
unfolding definitions
too_heavy n = when (int_lt largest_weight n.value) (number_fault Bounds n)

abbrev pub is_weightless : Number → Bool
is_weightless n = int_eq n.value (pos 0)

-- where there are weights, there are as many as sites, and one that isn't 0
abbrev pub weight_list_faults : Number → List Number → List Fault
unfolding definitions
weight_list_faults sites [] = []
weight_list_faults sites (n ∷ ns) =
    when (not (int_eq (pos (length (n ∷ ns))) sites.value)) (number_fault Arity n)
    ++ when (list_all is_weightless (n ∷ ns)) (number_fault Bounds n)

abbrev pub site_weight_faults : Number → List Number → List Fault
unfolding definitions
site_weight_faults sites ns = weight_list_faults sites ns ++ flat_map too_heavy ns

-- ---- limits
-- from 1 to 16 sites
abbrev pub site_count_faults : Number → List Fault
unfolding definitions
site_count_faults n = when (int_lt n.value (pos 1) || int_lt (pos 16) n.value) (number_fault Limits n)

-- from 1 to 64 slots
abbrev pub slot_faults : s.RelationDecl → List Fault
unfolding definitions
slot_faults q = when (int_lt q.slots.value (pos 1) || int_lt (pos 64) q.slots.value) (number_fault Limits q.slots)

-- a declaration, and how many objects it makes
pub record Making : Type 0 where
  pub name : Ident
  pub objects : ℕ

abbrev pub object_making : ObjectDecl → Making
object_making d = record { name = d.name; objects = 1 }

-- in each slot one object more than fields
abbrev pub relation_making : s.RelationDecl → Making
unfolding definitions
relation_making q = record { name = q.name; objects = nat_of q.slots.value * (1 + length q.fields) }

abbrev pub makings : s.Workload → List Making
unfolding definitions
makings w = map object_making w.objects ++ map relation_making w.relations

abbrev pub made : List Making → ℕ
unfolding definitions
made ms = sum_by (λ m. m.objects) ms

-- the declaration with which there are more than 1,024 objects
abbrev pub too_many_objects : List Making → Making → List Fault
unfolding definitions
too_many_objects before m = when (nat_le (made before) 1024 && nat_lt 1024 (made before + m.objects)) (fault Limits m.name)

-- the one that comes after as many as there may be
abbrev pub passes_limit : {A : Type 0} → ℕ → (A → Ident) → List A → A → List Fault
unfolding definitions
passes_limit most name before x = when (length before == most) (fault Limits (name x))

abbrev pub same_numbers : List ℤ → List ℤ → Bool
same_numbers [] [] = true
same_numbers (m ∷ ms) (n ∷ ns) = int_eq m n && same_numbers ms ns
same_numbers _ _ = false

-- calls of one name with equal arguments
abbrev pub same_body : SitedCall → SitedCall → Bool
unfolding definitions
same_body u v = (u.name.name == v.name.name) && same_numbers u.args v.args

abbrev pub same_ground : SitedCall → SitedCall → Bool
unfolding definitions
same_ground u v = same_body u v && int_eq u.site v.site

-- those kept, and then each that is the same ground call as none before it
abbrev pub distinct_after : List SitedCall → List SitedCall → List SitedCall
unfolding definitions
distinct_after kept [] = kept
distinct_after kept (u ∷ us) = distinct_after (if list_any (same_ground u) kept then kept else kept ++ u ∷ []) us

-- the first call of each ground call: a transaction, its arguments and a site
abbrev pub ground_calls : s.Workload → List SitedCall
unfolding definitions
ground_calls w = distinct_after [] (sited_calls w)

abbrev pub limit_faults : s.Workload → List Fault
unfolding definitions
limit_faults w =
    site_count_faults w.sites
    ++ flat_map slot_faults w.relations
    ++ each too_many_objects (makings w)
    ++ each (passes_limit 256 (λ (t : s.Transaction). t.name)) w.transactions
    ++ each (passes_limit 64 (λ (c : s.Client). c.name)) w.clients
    ++ each (passes_limit 20000 (λ (c : SitedCall). c.name)) (sited_calls w)
    ++ each (passes_limit 1024 (λ (c : SitedCall). c.name)) (ground_calls w)

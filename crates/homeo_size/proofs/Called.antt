-- What is told of a form is its measure, and a call with many nodes is large.
use Rattle.std.proofs.Common.{◌≡◌, ℕ, zero, suc, ◌+◌, ◌<◌, min, Bool, true, false, ℤ, List, [], ◌∷◌, map, get_or, refl, sym, ap, ◌∙◌, arith}
use Rattle.std.specs.Prelude.{nat_le}
use Rattle.std.proofs.lemmas.Int.{clamps}
use Rattle.std.proofs.lemmas.Bool.Decides.{nat_tests}
use Rattle.homeo_syntax.specs.Low as L
use Rattle.homeo_syntax.specs.Key.{definitions as syntax_definitions}
use Rattle.homeo_syntax.specs.SourceView.{commands, plain_command, plain_transaction}
use Rattle.homeo_syntax.specs.declared.command.Command.{Command}
use Rattle.homeo_syntax.specs.declared.low.Temp.TheVariants.{Named, Fresh}
use Rattle.homeo_syntax.specs.declared.phrase.Number.{Number}
use Rattle.homeo_syntax.specs.declared.workload.RangeDecl.{RangeDecl}
use Rattle.homeo_syntax.specs.declared.workload.Transaction.{Transaction}
use Rattle.homeo_meaning.specs.Key.{definitions as meaning_definitions}
use Rattle.homeo_meaning.specs.Bounds.{Bounds, all_bounds}
use Rattle.homeo_meaning.specs.Schema.{Schema}
use Rattle.homeo_meaning.specs.Context as context
use Rattle.homeo_meaning.specs.Context.{Context, slots, arguments_of}
use Rattle.homeo_meaning.specs.LForm.{l_form}
use Rattle.homeo_meaning.specs.LowMeaning.{TempAt, BaseAt, DeltaAt}
use Rattle.homeo_meaning.specs.LowSizes.{first_extents, call_extent, command_extent, rows, prints_in}
use Rattle.homeo_meaning.specs.LowWeights.{first_weights, weight_at}
use Rattle.homeo_context.specs.declared.arguments.Argument.{Argument}
use Rattle.homeo_size.specs.inner.Key.{definitions}
use Rattle.homeo_size.specs.inner.Laid.{capped_weight}
use Rattle.homeo_size.specs.Measured.{IsMeasure}
use Rattle.homeo_size.specs.inner.Measuring.{measured}
use Rattle.homeo_size.specs.inner.Nodes.{commands_nodes}
use Rattle.homeo_size.specs.inner.Numbers.{weight_cap}
use Rattle.homeo_size.specs.inner.Parts.{single, unwritten}
use Rattle.homeo_size.specs.inner.Prints.{all_prints}
use Rattle.homeo_size.specs.inner.Store.{Store}
use Rattle.homeo_size.specs.inner.Tables.{sizes_with}
use Rattle.homeo_size.specs.declared.extent.Extent.{Extent}
use Rattle.homeo_size.specs.declared.measures.Measure.{Measure}
use Rattle.homeo_size.proofs.Heaviest.{heaviest, light_is}
use Rattle.homeo_size.proofs.NodeLaw.{Same, form_has}
use Rattle.homeo_size.proofs.NodeSizes.{command_size, first_least}
use Rattle.homeo_size.proofs.PrintLaw.{body_prints}
use Rattle.homeo_size.proofs.Told.{Tells, told, told_measure, measured_told}

-- ---- where a call begins
first_object : (sites k : ℕ) (bs : List Bounds) → get_or (map (unwritten sites) (map capped_weight bs)) k (unwritten sites 1) ≡ told (record { size = sites + 2; depth = 2 }) (weight_at bs k)
unfolding definitions meaning_definitions
first_object sites k [] = refl
first_object sites zero (b ∷ bs) = refl
first_object sites (suc k) (b ∷ bs) = first_object sites k bs

first_told : (x : Schema) (sites : ℕ) (objects : List Extent) (absent : Extent) (named fresh : ℕ → Extent) → objects ≡ map (unwritten sites) (map capped_weight (all_bounds x)) → absent ≡ unwritten sites 1 → ((n : ℕ) → named n ≡ single) → ((n : ℕ) → fresh n ≡ single) → Tells (sizes_with objects absent named fresh) (first_extents sites) (first_weights x)
unfolding definitions meaning_definitions
first_told x sites objects absent named fresh o a m f (TempAt (Named n)) = m n
first_told x sites objects absent named fresh o a m f (TempAt (Fresh n)) = f n
first_told x sites objects absent named fresh o a m f (BaseAt k) = (λ i. get_or (o i) k (a i)) ∙ first_object sites k (all_bounds x)
first_told x sites objects absent named fresh o a m f (DeltaAt k j) = refl

light_capped : (n : ℕ) → nat_le (weight_cap n) 1000000000000000000 ≡ nat_le n 1000000000000000000
light_capped n = go (nat_le (weight_cap n) 1000000000000000000) (nat_le n 1000000000000000000) refl refl
  where
    go : (p q : Bool) → nat_le (weight_cap n) 1000000000000000000 ≡ p → nat_le n 1000000000000000000 ≡ q → p ≡ q
    go true true e f = refl
    go true false e f = absurd (grind (arith, nat_tests, clamps))
    go false true e f = absurd (grind (arith, nat_tests, clamps))
    go false false e f = refl

is_measure : (x : Schema) (sites : ℕ) (form : L.Command) (m : Measure) → m ≡ told_measure (command_extent sites form (first_extents sites)) (heaviest form (first_weights x)) (rows form) → IsMeasure x sites form m
unfolding meaning_definitions
is_measure x sites form m h = record {
  size = ap (λ u. u.size) h;
  depth = ap (λ u. u.depth) h;
  light = ap (λ u. nat_le u.weight 1000000000000000000) h ∙ light_capped (heaviest form (first_weights x)) ∙ sym (light_is 1000000000000000000 form (first_weights x));
  rows = ap (λ u. u.rows) h;
}

pub form_measured : (x : Schema) (sites : ℕ) (form : L.Command) (m : Measure) (z : Store) (objects : List Extent) (absent : Extent) (named fresh : ℕ → Extent) → m ≡ measured sites form z → z.sizes ≡ sizes_with objects absent named fresh → objects ≡ map (unwritten sites) (map capped_weight (all_bounds x)) → absent ≡ unwritten sites 1 → ((n : ℕ) → named n ≡ single) → ((n : ℕ) → fresh n ≡ single) → IsMeasure x sites form m
form_measured x sites form m z objects absent named fresh is at o a k f =
    is_measure x sites form m
    (is ∙ measured_told sites form z (first_extents sites) (first_weights x) (λ p. ap (λ s. s p) at ∙ first_told x sites objects absent named fresh o a k f p))

-- ---- a call of a transaction
-- the arguments are those of the parameters
pub call_is : (x : Schema) (t : Transaction) (args : List Number) (params : List RangeDecl) (told values : List ℤ) (bound given : List Argument) (c : Context) → params ≡ t.params.items → told ≡ map (λ a. a.value) args → values ≡ told → given ≡ bound →
    arguments_of (map (λ a. a.name) bound) (map (λ a. a.value) bound) ≡ arguments_of (map (λ p. p.name.name) params) values →
    c ≡ context.context x (map (λ a. a.name) given) (map (λ a. a.value) given) → c ≡ context.context x (map (λ p. p.name.name) t.params.items) (map (λ a. a.value) args)
unfolding meaning_definitions
call_is x t args params told values bound given c p v w g a is =
    is
    ∙ (λ i. context.context x (map (λ a. a.name) (g i)) (map (λ a. a.value) (g i)))
    ∙ ap (λ arguments. record { schema = x; arguments = arguments; rows = (context.context x [] []).rows }) a
    ∙ (λ i. context.context x (map (λ p. p.name.name) (p i)) ((w ∙ v) i))

pub transaction_large : (x : Schema) (t : Transaction) (args : List Number) (cs : List Command) (c : Context) (sites n : ℕ) → cs ≡ t.body.items → c ≡ context.context x (map (λ p. p.name.name) t.params.items) (map (λ a. a.value) args) → n ≡ commands_nodes c (commands (map plain_command cs)) 1 → 200000 < n → 200000 < (call_extent sites (l_form x (map (λ p. p.name.name) t.params.items) (map (λ a. a.value) args) (plain_transaction t).body)).size
unfolding definitions meaning_definitions syntax_definitions
transaction_large x t args cs c sites n b e is big =
    let w : Context = context.context x (map (λ p. p.name.name) t.params.items) (map (λ a. a.value) args) in
    let form : L.Command = l_form x (map (λ p. p.name.name) t.params.items) (map (λ a. a.value) args) (plain_transaction t).body in
    let same : Same c w = record { slots' = λ q. ap (λ z. slots z q) e; arguments' = λ n. ap (λ (z : Context). z.arguments n) e } in
    let nodes = form_has c w same (plain_transaction t).body in
    let counted = is ∙ (λ i. commands_nodes c (commands (map plain_command (b i))) 1) in
    let size = command_size sites form (first_extents sites) (first_least sites) in
    omega (arith, big, counted, nodes, size)

-- the prints of a call, whatever its arguments
pub transaction_prints : (x : Schema) (t : Transaction) (cs : List Command) (c : Context) (names : List ℕ) (values : List ℤ) (n : ℕ) → cs ≡ t.body.items → c ≡ context.context x names values → n ≡ all_prints c (commands (map plain_command cs)) 0 → (args : List ℤ) → n ≡ min 1000001 (prints_in (l_form x (map (λ p. p.name.name) t.params.items) args (plain_transaction t).body))
unfolding syntax_definitions meaning_definitions
transaction_prints x t cs c names values n b e is args =
    let params : List ℕ = map (λ p. p.name.name) t.params.items in
    let slots_are : (q : ℕ) → slots c q ≡ slots (context.context x params args) q = λ q. ap (λ z. slots z q) e in
    is ∙ (λ i. all_prints c (commands (map plain_command (b i))) 0) ∙ body_prints c (context.context x params args) slots_are (plain_transaction t).body

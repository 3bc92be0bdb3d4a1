-- The definitions form by form and along lists, as equations, which code rewrites by.
use Rattle.std.proofs.Common.{◌≡◌, ℕ, ℤ, List, [], ◌∷◌, ◌++◌, length, refl}
use Rattle.homeo_syntax.specs.Key.{definitions as syntax_definitions}
use Rattle.homeo_syntax.specs.Low as L
use Rattle.homeo_syntax.specs.LowView.{low_exprs, low_tests, low_commands}
use Rattle.homeo_syntax.specs.declared.low.SplitName.{SplitName}
use Rattle.homeo_syntax.specs.declared.low.Temp.{Temp}
use Rattle.homeo_syntax.specs.declared.phrase.Compare.{Compare}
use Rattle.homeo_meaning.specs.LowMeaning.{TempAt, location_of}
use Rattle.homeo_size.specs.inner.Key.{definitions}
use Rattle.homeo_size.specs.inner.Measuring.{after, after_all, measured, all_measured}
use Rattle.homeo_size.specs.inner.Parts.{literal, nothing, no_factor, beside, plus, times, around, summed, compared, truth, written, empty, valued, writing, chosen, followed}
use Rattle.homeo_size.specs.inner.Sizing.{Sizes, sized, sum_sized, product_sized, test_sized, tests_sized, cond_sized}
use Rattle.homeo_size.specs.inner.Store.{Store, kept_in, set_entry, back_to, raised, kept_sets, kept_all, left_by}
use Rattle.homeo_size.specs.inner.Tables.{sizes_in, store_in}
use Rattle.homeo_size.specs.declared.extent.Extent.{Extent}
use Rattle.homeo_size.specs.declared.extents.Entry.TheVariants as Entry
use Rattle.homeo_size.specs.declared.extents.Kept.{Kept}
use Rattle.homeo_size.specs.declared.extents.Extents.{Extents}
use Rattle.homeo_size.specs.declared.measures.Measure.{Measure}

-- ---- phrases
pub sized_Literal : (v : Sizes) (n : ℤ) → sized (L.Literal n) v ≡ literal n
unfolding definitions
sized_Literal v n = refl

pub sized_Temp : (v : Sizes) (t : Temp) → sized (L.OfTemp t) v ≡ v (TempAt t)
unfolding definitions
sized_Temp v t = refl

pub sized_Read : (v : Sizes) (x : SplitName) → sized (L.Read x) v ≡ v (location_of x)
unfolding definitions
sized_Read v x = refl

pub sized_Sum : (v : Sizes) (es : L.Exprs) → sized (L.Sum es) v ≡ summed (sum_sized es v nothing)
unfolding definitions
sized_Sum v es = refl

pub sized_Product : (v : Sizes) (es : L.Exprs) → sized (L.Product es) v ≡ around (product_sized es v no_factor)
unfolding definitions
sized_Product v es = refl

pub sized_Neg : (v : Sizes) (e : L.Expr) → sized (L.Neg e) v ≡ around (sized e v)
unfolding definitions
sized_Neg v e = refl

pub test_True : (v : Sizes) → test_sized L.True v ≡ truth
unfolding definitions
test_True v = refl

pub test_Not : (v : Sizes) (c : L.Cond) → test_sized (L.Not c) v ≡ around (cond_sized c v)
unfolding definitions
test_Not v c = refl

pub test_Comparison : (v : Sizes) (op : Compare) (a b : L.Expr) → test_sized (L.Comparison op a b) v ≡ compared (sized a v) (sized b v)
unfolding definitions
test_Comparison v op a b = refl

pub cond_is : (v : Sizes) (c : L.Cond) → cond_sized c v ≡ around (tests_sized c v nothing)
unfolding definitions
cond_is v c = refl

pub ruleset phrases = (sized_Literal, sized_Temp, sized_Read, sized_Sum, sized_Product, sized_Neg, test_True, test_Not, test_Comparison, cond_is)

-- ---- lists
pub sum_end : (v : Sizes) (a : Extent) → sum_sized (low_exprs []) v a ≡ a
unfolding definitions syntax_definitions
sum_end v a = refl

pub sum_more : (v : Sizes) (a : Extent) (e : L.Expr) (es : List L.Expr) → sum_sized (low_exprs (e ∷ es)) v a ≡ sum_sized (low_exprs es) v (plus a (sized e v))
unfolding definitions syntax_definitions
sum_more v a e es = refl

pub product_end : (v : Sizes) (a : Extent) → product_sized (low_exprs []) v a ≡ a
unfolding definitions syntax_definitions
product_end v a = refl

pub product_more : (v : Sizes) (a : Extent) (e : L.Expr) (es : List L.Expr) → product_sized (low_exprs (e ∷ es)) v a ≡ product_sized (low_exprs es) v (times a (sized e v))
unfolding definitions syntax_definitions
product_more v a e es = refl

pub tests_end : (v : Sizes) (a : Extent) → tests_sized (low_tests []) v a ≡ a
unfolding definitions syntax_definitions
tests_end v a = refl

pub tests_more : (v : Sizes) (a : Extent) (t : L.Test) (ts : List L.Test) → tests_sized (low_tests (t ∷ ts)) v a ≡ tests_sized (low_tests ts) v (beside a (test_sized t v))
unfolding definitions syntax_definitions
tests_more v a t ts = refl

pub after_end : (n : ℕ) (z : Store) → after_all n (low_commands []) z ≡ z
unfolding definitions syntax_definitions
after_end n z = refl

pub after_more : (n : ℕ) (z : Store) (c : L.Command) (cs : List L.Command) → after_all n (low_commands (c ∷ cs)) z ≡ after_all n (low_commands cs) (after n c z)
unfolding definitions syntax_definitions
after_more n z c cs = refl

pub measured_end : (n : ℕ) (z : Store) (m : Measure) → all_measured n (low_commands []) z m ≡ m
unfolding definitions syntax_definitions
measured_end n z m = refl

pub measured_more : (n : ℕ) (z : Store) (m : Measure) (c : L.Command) (cs : List L.Command) → all_measured n (low_commands (c ∷ cs)) z m ≡ all_measured n (low_commands cs) (after n c z) (followed m (measured n c z))
unfolding definitions syntax_definitions
measured_more n z m c cs = refl

pub ruleset lists = (sum_end, sum_more, product_end, product_more, tests_end, tests_more, after_end, after_more, measured_end, measured_more)

-- ---- commands
pub after_Skip : (n : ℕ) (z : Store) → after n L.Skip z ≡ z
unfolding definitions
after_Skip n z = refl

pub measured_Skip : (n : ℕ) (z : Store) → measured n L.Skip z ≡ empty
unfolding definitions
measured_Skip n z = refl

pub after_Assign : (n : ℕ) (z : Store) (t : Temp) (e : L.Expr) → after n (L.Assign t e) z ≡ set_entry z (Entry.Temp t) (sized e z.sizes)
unfolding definitions
after_Assign n z t e = refl

pub measured_Assign : (n : ℕ) (z : Store) (t : Temp) (e : L.Expr) → measured n (L.Assign t e) z ≡ valued (sized e z.sizes)
unfolding definitions
measured_Assign n z t e = refl

pub after_Write : (n : ℕ) (z : Store) (x : SplitName) (e : L.Expr) → after n (L.Write x e) z ≡ set_entry z (Entry.Name x) (written n (sized e z.sizes))
unfolding definitions
after_Write n z x e = refl

pub measured_Write : (n : ℕ) (z : Store) (x : SplitName) (e : L.Expr) → measured n (L.Write x e) z ≡ writing n (sized e z.sizes)
unfolding definitions
measured_Write n z x e = refl

pub after_Print : (n : ℕ) (z : Store) (e : L.Expr) → after n (L.Print e) z ≡ z
unfolding definitions
after_Print n z e = refl

pub measured_Print : (n : ℕ) (z : Store) (e : L.Expr) → measured n (L.Print e) z ≡ valued (sized e z.sizes)
unfolding definitions
measured_Print n z e = refl

pub after_Seq : (n : ℕ) (z : Store) (cs : L.Commands) → after n (L.Seq cs) z ≡ after_all n cs z
unfolding definitions
after_Seq n z cs = refl

pub measured_Seq : (n : ℕ) (z : Store) (cs : L.Commands) → measured n (L.Seq cs) z ≡ all_measured n cs z empty
unfolding definitions
measured_Seq n z cs = refl

pub after_If : (n : ℕ) (z : Store) (b : L.Cond) (c d : L.Command) → after n (L.If b c d) z ≡ raised (left_by (length z.log) (after n c z) d) (after n d (back_to (length z.log) (after n c z)))
unfolding definitions
after_If n z b c d = refl

pub measured_If : (n : ℕ) (z : Store) (b : L.Cond) (c d : L.Command) → measured n (L.If b c d) z ≡ chosen (cond_sized b z.sizes) (measured n c z) (measured n d (back_to (length z.log) (after n c z)))
unfolding definitions
measured_If n z b c d = refl

pub ruleset steps = (after_Skip, measured_Skip, after_Assign, measured_Assign, after_Write, measured_Write, after_Print, measured_Print, after_Seq, measured_Seq, after_If, measured_If)

-- ---- what a command sets
pub sets_Skip : (s : Sizes) (ks : List Kept) → kept_sets s L.Skip ks ≡ ks
unfolding definitions
sets_Skip s ks = refl

pub sets_Assign : (s : Sizes) (ks : List Kept) (t : Temp) (e : L.Expr) → kept_sets s (L.Assign t e) ks ≡ ks ++ kept_in s (Entry.Temp t) ∷ []
unfolding definitions
sets_Assign s ks t e = refl

pub sets_Write : (s : Sizes) (ks : List Kept) (x : SplitName) (e : L.Expr) → kept_sets s (L.Write x e) ks ≡ ks ++ kept_in s (Entry.Name x) ∷ []
unfolding definitions
sets_Write s ks x e = refl

pub sets_Print : (s : Sizes) (ks : List Kept) (e : L.Expr) → kept_sets s (L.Print e) ks ≡ ks
unfolding definitions
sets_Print s ks e = refl

pub sets_Seq : (s : Sizes) (ks : List Kept) (cs : L.Commands) → kept_sets s (L.Seq cs) ks ≡ kept_all s cs ks
unfolding definitions
sets_Seq s ks cs = refl

pub sets_If : (s : Sizes) (ks : List Kept) (b : L.Cond) (c d : L.Command) → kept_sets s (L.If b c d) ks ≡ kept_sets s c ks
unfolding definitions
sets_If s ks b c d = refl

pub ruleset sets = (sets_Skip, sets_Assign, sets_Write, sets_Print, sets_Seq, sets_If)

pub kept_end : (s : Sizes) (ks : List Kept) → kept_all s (low_commands []) ks ≡ ks
unfolding definitions syntax_definitions
kept_end s ks = refl

pub kept_more : (s : Sizes) (ks : List Kept) (c : L.Command) (cs : List L.Command) → kept_all s (low_commands (c ∷ cs)) ks ≡ kept_all s (low_commands cs) (kept_sets s c ks)
unfolding definitions syntax_definitions
kept_more s ks c cs = refl

pub ruleset set_lists = (kept_end, kept_more)

-- ---- stores
pub store_sizes : (t : Extents) → (store_in t).sizes ≡ sizes_in t
unfolding definitions
store_sizes t = refl

pub store_log : (t : Extents) → (store_in t).log ≡ t.log.items
unfolding definitions
store_log t = refl

pub ruleset stores = (store_sizes, store_log)

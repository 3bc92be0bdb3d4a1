-- The least slacks of clauses by their terms.
use Rattle.std.specs.Prelude.{◌≡◌, ℤ, Bool, false, ◌||◌, ◌&&◌, Option, Some, None, List, map, int_le, Vec}
use Rattle.std.specs.declared.cmp.Ordering.{Ordering}
use Rattle.std.specs.Ordering.{nat_cmp, int_cmp, ordering_then}
use Rattle.std.specs.Cmp.Lexicographic.{slice_cmp}
use Rattle.std.specs.List.{list_any}
use Rattle.std.specs.BTreeMap.{get_by}
use Rattle.std.specs.BTreeMap.{BTreeMap}
use Rattle.std.specs.declared.alloc.Global.{Global}
use Rattle.homeo_plan.specs.declared.forms.Term.{Term}
use Rattle.homeo_plan.specs.Template.{Clause, same_terms}
use Rattle.homeo_verify.specs.declared.table.TermKey.{TermKey}

abbrev pub term_of : TermKey → Term
term_of t = record { delta = record { object = t.object; site = t.site }; factor = t.factor }

-- keys by object, by site and by factor
abbrev pub key_cmp : TermKey → TermKey → Ordering
key_cmp a b = ordering_then (nat_cmp a.object b.object) (ordering_then (nat_cmp a.site b.site) (int_cmp a.factor b.factor))

-- the least slack by the terms' keys
abbrev pub Slacks : Type 0
Slacks = BTreeMap (Vec TermKey Global) ℤ

-- a slack that was found is at most s
abbrev pub is_at_most : Option ℤ → ℤ → Bool
is_at_most None s = false
is_at_most (Some n) s = int_le n s

-- the least slack at these terms is at most s
abbrev pub is_within : Slacks → List TermKey → ℤ → Bool
is_within m ts s = is_at_most (get_by (λ k. slice_cmp key_cmp ts k.items) m) s

-- a clause has these terms, and a slack of at most s
abbrev pub has_terms : List Term → ℤ → Clause → Bool
has_terms ts s c = same_terms ts c.terms && int_le c.slack s

-- at all terms the least slack is that of the clauses
abbrev pub AreSlacks : Slacks → List Clause → Type 0
AreSlacks m cs = (k : Vec TermKey Global) (s : ℤ) → is_within m k.items s ≡ list_any (has_terms (map term_of k.items) s) cs

-- the same with a clause more
abbrev pub WithSlack : Slacks → Clause → Slacks → Type 0
WithSlack m c n = (k : Vec TermKey Global) (s : ℤ) → is_within n k.items s ≡ (is_within m k.items s || has_terms (map term_of k.items) s c)

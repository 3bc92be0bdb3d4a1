-- The count of the objects against the limit gives the rule of the declaration that passes it.
use Rattle.std.proofs.Common.{◌≡◌, ℕ, ◌+◌, ◌*◌, Bool, true, false, cond, ◌&&◌, List, [], ◌∷◌, ◌++◌, map, length, Option, refl, sym, ap, subst, ◌∙◌, arith}
use Rattle.std.specs.Prelude.{nat_le, nat_lt}
use Rattle.std.proofs.lemmas.Bool.Decides.{nat_tests}
use Rattle.homeo_syntax.specs.Key.{definitions as syntax_definitions}
use Rattle.homeo_syntax.specs.declared.workload.ObjectDecl.{ObjectDecl}
use Rattle.homeo_syntax.specs.declared.workload.RelationDecl.{RelationDecl}
use Rattle.homeo_meaning.specs.declared.rules.Fault.{Fault}
use Rattle.homeo_meaning.specs.Key.{definitions as meaning_definitions}
use Rattle.homeo_meaning.specs.Schema.{nat_of}
use Rattle.homeo_meaning.specs.ListRules.{when, fault, each_from, each}
use Rattle.homeo_meaning.specs.NumberRules.{Making, object_making, made, too_many_objects}
use Rattle.homeo_rules.specs.inner.Deciding.{keep_all}
use Rattle.homeo_meaning.specs.declared.rules.Phase.TheVariants.{Limits}
use Rattle.homeo_meaning.proofs.SoundRelations.{made_more}
use Rattle.homeo_rules.specs.inner.Key.{definitions}
use Rattle.homeo_rules.specs.inner.Counting.{Counted, counted, count_all, making_of}
use Rattle.homeo_rules.proofs.Steps.{keep-none, keep-one, keep_all-append}

-- the count is the sum, or both are past the limit
abbrev Capped : ℕ → ℕ → Type 0
Capped n k = (b : Bool) → nat_le n 1024 ≡ b → cond b (k ≡ n) (nat_le k 1024 ≡ false)

same_test : (n k more : ℕ) → Capped n k → (b : Bool) → nat_le n 1024 ≡ b → (nat_le k 1024 && nat_lt 1024 (k + more)) ≡ (nat_le n 1024 && nat_lt 1024 (n + more))
same_test n k more c true e = ap (λ z. nat_le z 1024 && nat_lt 1024 (z + more)) (c true e)
same_test n k more c false e = ap (λ b. b && nat_lt 1024 (k + more)) (c false e) ∙ sym (ap (λ b. b && nat_lt 1024 (n + more)) e)

past : (n more : ℕ) → nat_le n 1024 ≡ false → nat_le (n + more) 1024 ≡ false
past n more e = grind (arith, nat_tests)

next_case : (n k more : ℕ) → Capped n k → (a : Bool) → nat_le n 1024 ≡ a → Capped (n + more) (cond (nat_le k 1024) (k + more) k)
next_case n k more c true e =
    let same : k ≡ n = c true e in
    let total : cond (nat_le k 1024) (k + more) k ≡ n + more = ap (λ z. cond (nat_le z 1024) (z + more) z) same ∙ ap (λ b. cond b (n + more) n) e in
    λ b h. of_equal b h total
  where
    of_equal : (b : Bool) → nat_le (n + more) 1024 ≡ b → cond (nat_le k 1024) (k + more) k ≡ n + more → cond b (cond (nat_le k 1024) (k + more) k ≡ n + more) (nat_le (cond (nat_le k 1024) (k + more) k) 1024 ≡ false)
    of_equal true h t = t
    of_equal false h t = ap (λ z. nat_le z 1024) t ∙ h
next_case n k more c false e =
    let over : nat_le k 1024 ≡ false = c false e in
    let total : nat_le (cond (nat_le k 1024) (k + more) k) 1024 ≡ false = ap (λ b. nat_le (cond b (k + more) k) 1024) over ∙ over in
    λ b h. of_past b h total
  where
    of_past : (b : Bool) → nat_le (n + more) 1024 ≡ b → nat_le (cond (nat_le k 1024) (k + more) k) 1024 ≡ false → cond b (cond (nat_le k 1024) (k + more) k ≡ n + more) (nat_le (cond (nat_le k 1024) (k + more) k) 1024 ≡ false)
    of_past true h t = let no : nat_le (n + more) 1024 ≡ false = past n more e in cc
    of_past false h t = t

abbrev along : Counted → List Making → Counted
along k [] = k
along k (m ∷ ms) = along (counted k m) ms

pub counts : (before : List Making) (k : Counted) (ms : List Making) → Capped (made before) k.count → (along k ms).best ≡ keep_all k.best (each_from too_many_objects before ms)
unfolding meaning_definitions
counts before k [] c = refl
counts before k (m ∷ ms) c =
    let n : ℕ = made before in
    let next : Capped (made (before ++ m ∷ [])) (counted k m).count = subst (λ z. Capped z (counted k m).count) (sym (made_more before m)) (next_case n k.count m.objects c (nat_le n 1024) refl) in
    counts (before ++ m ∷ []) (counted k m) ms next
    ∙ ap (λ b. keep_all (keep_all k.best (when b (fault Limits m.name))) (each_from too_many_objects (before ++ m ∷ []) ms)) (same_test n k.count m.objects c (nat_le n 1024) refl)
    ∙ sym (keep_all-append k.best (too_many_objects before m) (each_from too_many_objects (before ++ m ∷ []) ms))

along-append : (k : Counted) (ms ns : List Making) → along k (ms ++ ns) ≡ along (along k ms) ns
along-append k [] ns = refl
along-append k (m ∷ ms) ns = along-append (counted k m) ms ns

along-all : {A : Type 0} (making : A → Making) (k : Counted) (xs : List A) → count_all making k xs ≡ along k (map making xs)
along-all making k [] = refl
along-all making k (x ∷ xs) = along-all making (counted k (making x)) xs

-- those of the objects, and then those of the relations
pub objects-counted : (best : Option Fault) (os : List ObjectDecl) (qs : List RelationDecl) → (count_all making_of (count_all object_making (record { count = 0; best = best }) os) qs).best ≡ keep_all best (each too_many_objects (map object_making os ++ map making_of qs))
unfolding meaning_definitions
objects-counted best os qs =
    let start : Counted = record { count = 0; best = best } in
    ap (λ k. k.best) (
    along-all making_of (count_all object_making start os) qs
    ∙ ap (λ k. along k (map making_of qs)) (along-all object_making start os)
    ∙ sym (along-append start (map object_making os) (map making_of qs)))
    ∙ counts [] start (map object_making os ++ map making_of qs) (λ b e. first b e)
  where
    nothing : ℕ
    nothing = 0

    first : (b : Bool) → nat_le 0 1024 ≡ b → cond b (nothing ≡ nothing) (nat_le 0 1024 ≡ false)
    first true e = refl
    first false e = e

pub making-is : (q : RelationDecl) → making_of q ≡ record { name = q.name; objects = nat_of q.slots.value * (1 + length q.fields.items) }
unfolding definitions meaning_definitions syntax_definitions
making-is q = refl

pub ruleset counting = (keep-none, keep-one)

pub ruleset makings = (making-is)

-- The slacks of the tests can be split, also by their shares.
use Rattle.std.proofs.Common.{◌≡◌, ◌≤◌, List, [], ◌∷◌, map, length, ℤ, pos, ◌≤ℤ◌, refl, sym, ap, ◌∙◌, subst, arith}
use Rattle.std.proofs.lemmas.List.{length-map}
use Rattle.homeo_syntax.specs.Listed.{Listed}
use Rattle.homeo_meaning.specs.Key.{definitions as meaning_definitions}
use Rattle.homeo_meaning.specs.Small.{IsSmall}
use Rattle.homeo_plan.specs.Key.{definitions}
use Rattle.homeo_plan.specs.Each.{Each}
use Rattle.homeo_plan.specs.Config.{CanShare, HaveSlack}
use Rattle.homeo_plan.specs.Template.{Clause}
use Rattle.homeo_plan.specs.Limit.{form_limit}
use Rattle.homeo_plan_tests.specs.inner.SlackExample.{slacks, three_and_one}

pub not_negative : (cs : List Clause) (a b : ℤ) → cs ≡ slacks a b → pos 0 ≤ℤ a → pos 0 ≤ℤ b → HaveSlack cs
unfolding definitions meaning_definitions
not_negative cs a b e h k = subst HaveSlack (sym e) (h, (k, tt))

pub small : (cs : List Clause) (a b : ℤ) → cs ≡ slacks a b → IsSmall form_limit a → IsSmall form_limit b → Each (λ c. IsSmall form_limit c.slack) cs
unfolding definitions meaning_definitions
small cs a b e h k = subst (λ ds. Each (λ c. IsSmall form_limit c.slack) ds) (sym e) (h, (k, tt))

can_share : CanShare 2 three_and_one
unfolding definitions meaning_definitions
can_share = record { are = record { count = refl; some = omega arith }; natural = (omega arith, (omega arith, tt)); small = (omega arith, (omega arith, tt)) }

-- two lists of these shares
abbrev Pair : List (Listed ℤ) → Type 0
Pair ls = map (λ l. l.items) ls ≡ three_and_one ∷ three_and_one ∷ []

each_of : (lists : List (List ℤ)) → lists ≡ three_and_one ∷ three_and_one ∷ [] → Each (CanShare 2) lists
unfolding definitions
each_of lists e = subst (Each (CanShare 2)) (sym e) (can_share, (can_share, tt))

items : (ls : List (Listed ℤ)) → Each (CanShare 2) (map (λ l. l.items) ls) → Each (λ l. CanShare 2 l.items) ls
unfolding definitions
items [] h = tt
items (l ∷ ls) h = (h.0, items ls h.1)

pub can_share_each : (ls : List (Listed ℤ)) → Pair ls → Each (λ l. CanShare 2 l.items) ls
can_share_each ls e = items ls (each_of (map (λ l. l.items) ls) e)

pub count : (ls : List (Listed ℤ)) (cs : List Clause) (a b : ℤ) → Pair ls → cs ≡ slacks a b → length ls ≡ length cs
count ls cs a b e h = sym (length-map ls (λ l. l.items)) ∙ ap length e ∙ sym (ap length h)

-- Arguments by the names of the parameters.
use Rattle.std.proofs.Common.{◌≡◌, ℕ, zero, suc, ◌+◌, ◌<◌, ◌≤◌, ◌==◌, min, true, false, cond, ℤ, Option, Some, None, List, [], ◌∷◌, map, take, drop, get_or, length, refl, sym, ap, ◌∙◌, subst, arith, add-one, drop_of_length-le}
use Rattle.std.proofs.Math.Seq.{drop-cons}
use Rattle.std.proofs.lemmas.Bool.Decides.{nat_tests}
use Rattle.std.proofs.lemmas.List.{length-map, take-map}
use Rattle.homeo_syntax.specs.declared.workload.RangeDecl.{RangeDecl}
use Rattle.homeo_context.specs.declared.arguments.Argument.{Argument}
use Rattle.homeo_meaning.specs.Key.{definitions}
use Rattle.homeo_meaning.specs.Context.{arguments_of}

-- ---- as many as there are of both
taken_none : (vs : List ℤ) (i n : ℕ) → arguments_of (take i []) (take i vs) n ≡ None
unfolding definitions
taken_none vs zero n = refl
taken_none vs (suc i) n = refl

taken : (ns : List ℕ) (vs : List ℤ) (i n : ℕ) → min (length ns) (length vs) ≤ i → arguments_of (take i ns) (take i vs) n ≡ arguments_of ns vs n
unfolding definitions
taken [] vs i n h = taken_none vs i n
taken (m ∷ ns) [] zero n h = refl
taken (m ∷ ns) [] (suc i) n h = refl
taken (m ∷ ns) (v ∷ vs) zero n h = absurd (omega arith)
taken (m ∷ ns) (v ∷ vs) (suc i) n h = ap (cond (m == n) (Some v)) (taken ns vs i n (omega arith))

pub bound_all : (ps : List RangeDecl) (vs : List ℤ) (given : List Argument) (i : ℕ) → min (length ps) (length vs) ≤ i → map (λ a. a.name) given ≡ map (λ p. p.name.name) (take i ps) → map (λ a. a.value) given ≡ take i vs → arguments_of (map (λ a. a.name) given) (map (λ a. a.value) given) ≡ arguments_of (map (λ p. p.name.name) ps) vs
bound_all ps vs given i h p q =
    let names : List ℕ = map (λ p. p.name.name) ps in
    let enough : min (length names) (length vs) ≤ i = subst (λ n. min n (length vs) ≤ i) (sym (length-map ps (λ p. p.name.name))) h in
    (λ j. arguments_of (p j) (q j))
    ∙ ap (λ ns. arguments_of ns (take i vs)) (sym (take-map (λ p. p.name.name) i ps))
    ∙ (λ j n. taken names vs i n enough j)

-- ---- one argument after another
abbrev given_to : List Argument → ℕ → Option ℤ
given_to given n = arguments_of (map (λ a. a.name) given) (map (λ a. a.value) given) n

next : (given : List Argument) (i n : ℕ) (none : Argument) → i < length given → given_to (drop i given) n ≡ cond ((get_or given i none).name == n) (Some (get_or given i none).value) (given_to (drop (i + 1) given) n)
unfolding definitions
next given i n none h =
    let front : drop i given ≡ get_or given i none ∷ drop (i + 1) given = rw add-one (drop-cons given i none h) in
    ap (λ l. given_to l n) front

pub found : (given : List Argument) (i n : ℕ) (none : Argument) → i < length given → (get_or given i none).name ≡ n → given_to (drop i given) n ≡ given_to given n → Some (get_or given i none).value ≡ given_to given n
unfolding definitions
found given i n none h same left =
    let e : ((get_or given i none).name == n) ≡ true = grind (arith, nat_tests) in
    sym (next given i n none h ∙ ap (λ b. cond b (Some (get_or given i none).value) (given_to (drop (i + 1) given) n)) e) ∙ left

pub passed : (given : List Argument) (i n : ℕ) (none : Argument) → i < length given → ((get_or given i none).name ≡ n → ⊥) → given_to (drop i given) n ≡ given_to given n → given_to (drop (i + 1) given) n ≡ given_to given n
passed given i n none h other left =
    let e : ((get_or given i none).name == n) ≡ false = grind (arith, nat_tests) in
    sym (next given i n none h ∙ ap (λ b. cond b (Some (get_or given i none).value) (given_to (drop (i + 1) given) n)) e) ∙ left

pub not_given : (given : List Argument) (i n : ℕ) → length given ≤ i → given_to (drop i given) n ≡ given_to given n → None ≡ given_to given n
unfolding definitions
not_given given i n h left = sym (ap (λ l. given_to l n) (drop_of_length-le given h)) ∙ left

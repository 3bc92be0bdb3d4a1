-- All of the tokens of a workload.
use Rattle.std.proofs.Common.{◌≡◌, ℕ, true, List, [], ◌∷◌, length, refl, subst, ap, arith}
use Rattle.std.specs.Prelude.{Ok, Err}
use Rattle.homeo_syntax.specs.declared.token.Token.{Token}
use Rattle.homeo_syntax.specs.declared.token.Version.{Version}
use Rattle.homeo_syntax.specs.declared.token.Version.TheVariants.{First, Second}
use Rattle.homeo_syntax.specs.Source as s
use Rattle.homeo_syntax.specs.Grammar.{Means, IsFault}
use Rattle.homeo_syntax.specs.Rules.{rule, workload, limit, IsWorkload}
use Rattle.homeo_reader.specs.inner.Engine.{calls_at, exists, decides, all_of}
use Rattle.homeo_reader.specs.inner.FirstTokens.{classes}
use Rattle.homeo_reader.specs.inner.Declarations.{workload_read}
use Rattle.homeo_reader.proofs.Complete.{known_at}
use Rattle.homeo_reader.proofs.Decided.{decided}
use Rattle.homeo_reader.proofs.Whole.{Exact, all_exact, one_value}

-- in each version one token decides at each place
pub decided_whole : (v : Version) (names : List (List ℕ)) → decides classes (workload v names) ≡ true
decided_whole First names = refl
decided_whole Second names = refl

there_is : (v : Version) (names : List (List ℕ)) → exists (calls_at rule limit) (workload v names) ≡ true
there_is First names = refl
there_is Second names = refl

workload_exact : (v : Version) (names : List (List ℕ)) (ts : List Token) → Exact (IsWorkload v names) ts (all_of (workload_read v names ts))
unfolding IsWorkload workload_read
workload_exact v names ts = all_exact classes (calls_at rule limit) (Means rule limit) (known_at classes rule decided limit) (workload v names) (decided_whole v names) (there_is v names) ts

pub one_workload : (v : Version) (names : List (List ℕ)) (ts : List Token) (a b : s.Workload) → IsWorkload v names a ts → IsWorkload v names b ts → a ≡ b
unfolding IsWorkload
one_workload v names ts a b p q =
    one_value classes (calls_at rule limit) (Means rule limit) (known_at classes rule decided limit) (workload v names) (decided_whole v names) a b ts p q

-- all tokens are read
pub all_read : (v : Version) (names : List (List ℕ)) (ts rest : List Token) (w : s.Workload) → workload_read v names ts ≡ Ok (w, rest) → length rest ≡ 0 →
    IsWorkload v names w ts
all_read v names ts [] w e h = subst (Exact (IsWorkload v names) ts) (ap all_of e) (workload_exact v names ts)
all_read v names ts (t ∷ rest) w e h = absurd (omega arith)

-- tokens are left over
pub left_over : (v : Version) (names : List (List ℕ)) (ts rest : List Token) (w : s.Workload) → workload_read v names ts ≡ Ok (w, rest) → (length rest ≡ 0 → ⊥) →
    IsFault (IsWorkload v names) ts rest
left_over v names ts [] w e h = absurd (h refl)
left_over v names ts (t ∷ rest) w e h = subst (Exact (IsWorkload v names) ts) (ap all_of e) (workload_exact v names ts)

-- a token is at fault
pub at_fault : (v : Version) (names : List (List ℕ)) (ts fault : List Token) → workload_read v names ts ≡ Err fault → IsFault (IsWorkload v names) ts fault
at_fault v names ts fault e = subst (Exact (IsWorkload v names) ts) (ap all_of e) (workload_exact v names ts)

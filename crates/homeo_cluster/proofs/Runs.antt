-- What each pass gave makes what all gave.
use Rattle.std.proofs.Common.{◌≡◌, ℕ, zero, suc, ◌<◌, List, [], ◌∷◌, map, length, get_or, Ok, refl, sym, ap, ◌∙◌, subst, arith}
use Rattle.std.specs.Prelude.{All, IfOk}
use Rattle.std.specs.declared.result.Result.{Result}
use Rattle.std.proofs.lemmas.List.{length-map}
use Rattle.std.proofs.lemmas.List.Elements.{All-nil, All-cons}
use Rattle.homeo_syntax.specs.declared.list.Memory.{Memory}
use Rattle.homeo_syntax.specs.Source as s
use Rattle.homeo_cluster.specs.Passes.{PassValue, AreFinished, HasAllAnswers}
use Rattle.homeo_cluster.specs.inner.Ran.{HasRun}

abbrev came : PassValue → Result PassValue Memory
came p = Ok p

came_at : (after : List PassValue) (i : ℕ) (e : PassValue) → get_or (map came after) i (came e) ≡ came (get_or after i e)
came_at [] i e = refl
came_at (x ∷ xs) zero e = refl
came_at (x ∷ xs) (suc i) e = came_at xs i e

abbrev EachRan : s.Workload → List PassValue → List PassValue → Type 0
EachRan w before after = (i : ℕ) (e : PassValue) → i < length before → HasRun w (get_or before i e) (get_or after i e)

each_ran : (w : s.Workload) (before after : List PassValue) (results : List (Result PassValue Memory)) → map came after ≡ results
    → ((i : ℕ) (d : Result PassValue Memory) (e : PassValue) → i < length before → IfOk (get_or results i d) (HasRun w (get_or before i e)))
    → EachRan w before after
each_ran w before after results is each i e l =
    subst (λ (r : Result PassValue Memory). IfOk r (HasRun w (get_or before i e))) (ap (λ (rs : List (Result PassValue Memory)). get_or rs i (came e)) (sym is) ∙ came_at after i e) (each i (came e) e l)

-- what all gave: the same passes, finished, with an answer to each call
pub record HaveRun (w : s.Workload) (before after : List PassValue) : Type 0 where
  pub finished : AreFinished before after
  pub answers : All (HasAllAnswers w) after

have_run : (w : s.Workload) (before after : List PassValue) → length after ≡ length before → EachRan w before after → HaveRun w before after
have_run w [] [] long each = record {
  finished = record { same = refl; left = All-nil (λ (p : PassValue). p.left ≡ 0); logs = λ i e l. (each i e l).log };
  answers = All-nil (HasAllAnswers w);
}
have_run w [] (q ∷ after) long each = absurd (omega (arith, long))
have_run w (p ∷ before) [] long each = absurd (omega (arith, long))
have_run w (p ∷ before) (q ∷ after) long each =
    let rest = have_run w before after (omega (arith, long)) (λ i e l. each (suc i) e (omega (arith, l))) in
    let first : HasRun w p q = each 0 p (omega arith) in record {
      finished = record {
        same = ap (λ (ns : List ℕ). q.client ∷ ns) rest.finished.same ∙ ap (λ (n : ℕ). n ∷ map (λ (x : PassValue). x.client) before) first.client;
        left = All-cons (λ (x : PassValue). x.left ≡ 0) q after first.left rest.finished.left;
        logs = λ i e l. (each i e l).log;
      };
      answers = All-cons (HasAllAnswers w) q after first.answers rest.answers;
    }

pub all_have_run : (w : s.Workload) (before after : List PassValue) (results : List (Result PassValue Memory)) → map came after ≡ results → length results ≡ length before
    → ((i : ℕ) (d : Result PassValue Memory) (e : PassValue) → i < length before → IfOk (get_or results i d) (HasRun w (get_or before i e)))
    → HaveRun w before after
all_have_run w before after results is long each =
    have_run w before after (sym (length-map after came) ∙ ap length is ∙ long) (each_ran w before after results is each)

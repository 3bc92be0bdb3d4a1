-- Sites that wait for their starts.
use Rattle.homeo_core.specs.Key.{definitions}
use Rattle.std.proofs.Common.{◌≡◌, ℕ, zero, suc, true, List, [], ◌∷◌, ◌++◌, map, length, replicate, Option, Some, None, ℤ, refl, sym, ap, subst, ◌∙◌, inl, inr, slice_set}
use Rattle.std.specs.Prelude.{slice_get, slice_index_or}
use mathlib.Core.Logic.{⊎_elim}
use Rattle.std.specs.Prelude.{◌⊎◌}
use Rattle.std.proofs.lemmas.List.{map-append, length-replicate}
use Rattle.homeo_lemmas.proofs.Lists.{length_map}
use Rattle.homeo_syntax.specs.declared.workload.Workload.{Workload}
use Rattle.homeo_site.specs.SiteView.{StartValue}
use Rattle.homeo_history.proofs.Lists.{set_cases}
use Rattle.homeo_core.specs.Starts.{start_after, AreStarts, waits}

pub no_start : (starts : List (Option StartValue)) (n : ℕ) (d : Option StartValue) → slice_get (map waits starts) n ≡ Some true → slice_index_or starts n d ≡ None → ⊥
unfolding definitions
no_start [] n d w e = cc
no_start (None ∷ starts) zero d w e = cc
no_start (Some s ∷ starts) zero d w e = cc
no_start (s ∷ starts) (suc n) d w e = no_start starts n d w e

-- ---- one site after another
pub no_starts : (w : Workload) (round : ℕ) (next : List ℤ) → AreStarts w round next []
unfolding definitions
no_starts w round next i s e = absurd (cc)

at_end : (starts : List (Option StartValue)) (o p : Option StartValue) (i : ℕ) → slice_get (starts ++ o ∷ []) i ≡ Some p → (slice_get starts i ≡ Some p) ⊎ ((i ≡ length starts) × (o ≡ p))
at_end [] o p zero e = inr (refl, cc)
at_end [] o p (suc i) e = absurd (cc)
at_end (s ∷ starts) o p zero e = inl e
at_end (s ∷ starts) o p (suc i) e = ⊎_elim (λ h. inl h) (λ h. inr (ap suc h.0, h.1)) (at_end starts o p i e)

pub starts_more : (w : Workload) (round : ℕ) (next : List ℤ) (starts : List (Option StartValue)) (s : StartValue) → AreStarts w round next starts → s ≡ start_after w round next (length starts) → AreStarts w round next (starts ++ Some s ∷ [])
unfolding definitions
starts_more w round next starts s all is i t e =
    ⊎_elim (λ h. all i t h) (λ h. last h.0 h.1) (at_end starts (Some s) (Some t) i e)
  where
    last : i ≡ length starts → Some s ≡ Some t → t ≡ start_after w round next i
    last q p = let same : s ≡ t = cc in subst (λ n. t ≡ start_after w round next n) (sym q) (sym same ∙ is)

pub waiting_more : (starts : List (Option StartValue)) (s : StartValue) (n : ℕ) → map waits starts ≡ replicate n true → map waits (starts ++ Some s ∷ []) ≡ replicate (suc n) true
unfolding definitions
waiting_more starts s n e = map-append waits starts (Some s ∷ []) ∙ ap (λ l. l ++ true ∷ []) e ∙ one_more n
  where
    one_more : (n : ℕ) → replicate n true ++ true ∷ [] ≡ replicate (suc n) true
    one_more zero = refl
    one_more (suc n) = ap (λ l. true ∷ l) (one_more n)

pub waiting_count : (starts : List (Option StartValue)) (n : ℕ) → map waits starts ≡ replicate n true → length starts ≡ n
waiting_count starts n e = sym (length_map waits starts) ∙ ap length e ∙ length_replicate n
  where
    length_replicate : (n : ℕ) → length (replicate n true) ≡ n
    length_replicate zero = refl
    length_replicate (suc n) = ap suc (length_replicate n)

pub as_many : {X Y A B : Type 0} (f : X → A) (g : Y → B) (xs : List X) (ys : List Y) (n : ℕ) (a : A) (b : B) → map f xs ≡ replicate n a → map g ys ≡ replicate n b → length xs ≡ length ys
as_many f g xs ys n a b p q = count f xs n a p ∙ sym (count g ys n b q)
  where
    count : {X A : Type 0} (f : X → A) (xs : List X) (n : ℕ) (a : A) → map f xs ≡ replicate n a → length xs ≡ n
    count f xs n a p = sym (length_map f xs) ∙ ap length p ∙ length-replicate n a

-- ---- a start that is given to its site
pub start_there : (starts : List (Option StartValue)) (n : ℕ) (d : Option StartValue) (s : StartValue) → slice_get (map waits starts) n ≡ Some true → slice_index_or starts n d ≡ Some s → slice_get starts n ≡ Some (Some s)
unfolding definitions
start_there [] n d s w e = absurd (cc)
start_there (o ∷ starts) zero d s w e = ap Some e
start_there (o ∷ starts) (suc n) d s w e = start_there starts n d s w e

pub starts_less : (w : Workload) (round : ℕ) (next : List ℤ) (starts : List (Option StartValue)) (n : ℕ) (o : Option StartValue) → o ≡ None → AreStarts w round next starts → AreStarts w round next (slice_set starts n o)
unfolding definitions
starts_less w round next starts n o none all i s e =
    ⊎_elim (λ h. absurd (gone (sym none ∙ h.1))) (λ h. all i s h) (set_cases starts n i o (Some s) e)
  where
    gone : None ≡ Some s → ⊥
    gone q = cc

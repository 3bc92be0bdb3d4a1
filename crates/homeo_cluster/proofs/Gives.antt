-- From lists of entries to lists of answers.
use Rattle.homeo_history.specs.Key.{definitions as history_definitions}
use Rattle.homeo_site.specs.Key.{definitions as site_definitions}
use Rattle.std.proofs.Common.{◌≡◌, ℕ, cond, [], ◌∷◌, ◌++◌, map, refl, sym, ap, subst, ◌∙◌, eq-eqb}
use Rattle.std.proofs.lemmas.List.{append-nil, map-append}
use mathlib.Core.Logic.{dite}
use native.Mathlib.Decide.{ℕ_discrete}
use Rattle.homeo_notes.specs.Lines.{Held, Entry, list_at}
use Rattle.homeo_syntax.specs.Source as s
use Rattle.homeo_history.specs.Legal.{IsClientAt}
use Rattle.homeo_assembly.specs.Key.{definitions}
use Rattle.homeo_history.specs.Answers.{Answer, answers_to}
use Rattle.homeo_assembly.specs.Events.{Gives, Agree}
use Rattle.homeo_assembly.specs.Written.{written, read}
use Rattle.homeo_core.proofs.OneAnswer.{not_to}
use Rattle.homeo_assembly.proofs.Reading.{read_written}
use Rattle.homeo_cluster.specs.inner.Grows.{Grew}
use Rattle.homeo_cluster.specs.inner.Cells.{answers_at}
use Rattle.homeo_cluster.proofs.Grows.{grew_same, grew_list_other}

pub own_to : (client : ℕ) (a : Answer) → a.client ≡ client → answers_to client (a ∷ []) ≡ a ∷ []
unfolding definitions history_definitions site_definitions
own_to client a e = ap (λ b. cond b (a ∷ []) []) (eq-eqb a.client client e)

-- the list of one line got the answer, which is its client's: so the client's answers did
pub gives_one : (h h' : Held) (line : ℕ) (a : Answer) → Grew h h' line (written a) → answers_at h' a.client line ≡ answers_at h a.client line ++ answers_to a.client (a ∷ [])
gives_one h h' line a g =
    ap (map (read a.client)) (grew_same h h' line line (written a) g refl)
    ∙ map-append (read a.client) (list_at h line) (written a ∷ [])
    ∙ ap (λ x. answers_at h a.client line ++ x ∷ []) (read_written a.client a refl)
    ∙ ap (λ xs. answers_at h a.client line ++ xs) (sym (own_to a.client a refl))

-- and the other clients of the site have what they had
pub gives : (w : s.Workload) (site : ℕ) (h h' : Held) (line : ℕ → ℕ) (a : Answer)
    → ((c d : ℕ) → IsClientAt w site c → IsClientAt w site d → line c ≡ line d → c ≡ d) → IsClientAt w site a.client
    → Grew h h' (line a.client) (written a) → Gives w site a (λ c. answers_at h c (line c)) (λ c. answers_at h' c (line c))
unfolding definitions history_definitions site_definitions
gives w site h h' line a apart own g = λ c at. dite (ℕ_discrete c a.client)
    (λ same. subst (λ n. answers_at h' n (line n) ≡ answers_at h n (line n) ++ answers_to n (a ∷ [])) (sym same) (gives_one h h' (line a.client) a g))
    (λ other.
    ap (map (read c)) (grew_list_other h h' (line a.client) (line c) (written a) g (λ e. other (apart c a.client at own e)))
    ∙ sym (append-nil (answers_at h c (line c)))
    ∙ ap (λ xs. answers_at h c (line c) ++ xs) (sym (not_to c a (λ e. other (sym e)))))

-- a list of another line stays
pub agrees : (w : s.Workload) (site : ℕ) (h h' : Held) (line : ℕ → ℕ) (grown : ℕ) (e : Entry)
    → ((c : ℕ) → IsClientAt w site c → line c ≡ grown → ⊥)
    → Grew h h' grown e → Agree w site (λ c. answers_at h c (line c)) (λ c. answers_at h' c (line c))
unfolding definitions history_definitions site_definitions
agrees w site h h' line grown e apart g = λ c at. ap (map (read c)) (grew_list_other h h' grown (line c) e g (apart c at))

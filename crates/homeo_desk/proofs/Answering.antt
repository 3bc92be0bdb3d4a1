-- The answers that a node gives when it closes its round are to its own calls that were made so, in order.
use Rattle.homeo_core.specs.Key.{definitions as core_definitions}
use Rattle.homeo_history.specs.Key.{definitions as history_definitions}
use Rattle.homeo_nodes.specs.Key.{definitions}
use Rattle.std.proofs.Common.{◌≡◌, ℕ, suc, ◌<◌, List, [], ◌∷◌, ◌++◌, map, length, ℤ, Bool, true, false, cond, eqb, Option, Some, None, refl, sym, ap, ◌∙◌}
use Rattle.std.proofs.lemmas.List.{map-append}
use Rattle.homeo_syntax.specs.Source as s
use Rattle.homeo_meaning.specs.declared.call.CallId.{CallId}
use Rattle.homeo_plan.specs.declared.treaty.Broken.{Broken}
use Rattle.homeo_plan.specs.Planned.{sites_of}
use Rattle.homeo_history.specs.Answers as h
use Rattle.homeo_core.specs.Events.{closing_on}
use Rattle.homeo_nodes.specs.declared.breach.Breach.{Breach}
use Rattle.homeo_nodes.specs.Brief.{Brief, briefly_by, briefly, briefly_all, brief_at, brief_end, site_at}
use Rattle.homeo_nodes.specs.Laws.{calls_of}
use Rattle.homeo_nodes.specs.Making.{Called}
use Rattle.homeo_nodes.specs.Nodes.{Said, Journal, called, carried, next_of, newest, whole_of, own_answer, own_calls, answers_then}
use Rattle.homeo_nodes.proofs.Brief.{brief_closes}
use Rattle.homeo_nodes.proofs.Carrying.{calls_of_append, own_of}
use Rattle.homeo_site.specs.SiteState.{step_finding, step_prints}

-- the call that closes a round
own_one : (w : s.Workload) (i round site : ℕ) (call : CallId) (database : List ℤ) (broken : Broken) →
    map h.called (own_answer i round (Some (closing_on w database site call broken))) ≡ calls_of i (called site call ∷ [])
unfolding definitions core_definitions history_definitions
own_one w i round site call database broken = go (eqb site i)
  where
    go : (t : Bool) → map h.called (cond t (h.closing_answer round (closing_on w database site call broken) ∷ []) []) ≡
        map (λ (c : Called). c.call) (cond t (called site call ∷ []) [])
    go true = refl
    go false = refl

-- a call that is carried
one_by : (w : s.Workload) (i : ℕ) (b : Brief) (c : Called) (o : Option Broken) → map h.called (briefly_by w i b c o).answers ≡ calls_of i (c ∷ [])
unfolding definitions history_definitions
one_by w i b c None = go (eqb c.site i)
  where
    go : (t : Bool) → map h.called (cond t (h.local_answer b.round i (record { call = c.call; prints = step_prints w (site_at b c.site) c.call }) ∷ []) []) ≡
        map (λ (d : Called). d.call) (cond t (c ∷ []) [])
    go true = refl
    go false = refl
one_by w i b c (Some broken) = own_one w i b.round c.site c.call _ broken

all_by : (w : s.Workload) (i : ℕ) (calls : List Called) (b : Brief) → map h.called (briefly_all w i calls b).answers ≡ calls_of i calls
unfolding definitions
all_by w i [] b = refl
all_by w i (c ∷ calls) b =
    map-append h.called (briefly w i c b).answers (briefly_all w i calls (briefly w i c b).brief).answers
    ∙ ap (λ cs. cs ++ map h.called (briefly_all w i calls (briefly w i c b).brief).answers) (one_by w i b c (step_finding w (site_at b c.site) c.call))
    ∙ ap (λ cs. calls_of i (c ∷ []) ++ cs) (all_by w i calls (briefly w i c b).brief)
    ∙ sym (calls_of_append i (c ∷ []) calls)

pub answers_own : (w : s.Workload) (u : Breach) (states : List Said) (j : Journal) → length states ≡ sites_of w → j.site.number < sites_of w →
    map h.called (answers_then w u states j) ≡ own_calls u states j.site.number
unfolding definitions
answers_own w u states j long own =
    let i : ℕ = j.site.number in
    let first : List h.Answer = own_answer i j.site.round (newest w u states j).closing in
    let more : List h.Answer = (brief_end w u states j).answers in
    ap (map h.called) (brief_closes w u states j long own).answers
    ∙ map-append h.called first more
    ∙ ap (λ cs. cs ++ map h.called more) (own_one w i j.site.round u.site u.call (whole_of states j) u.broken)
    ∙ ap (λ cs. calls_of i (called u.site u.call ∷ []) ++ cs) (all_by w i (carried w u states) (brief_at w (suc j.site.round) (next_of w u states j)))
    ∙ sym (calls_of_append i (called u.site u.call ∷ []) (carried w u states))
    ∙ own_of w u i states

-- The calls that states carry, site after site.
use Rattle.homeo_plan.specs.Key.{definitions as plan_definitions}
use Rattle.homeo_nodes.specs.Key.{definitions}
use Rattle.std.proofs.Common.{◌≡◌, ℕ, zero, suc, ◌+◌, ◌<◌, ◌≤◌, ◌%◌, List, [], ◌∷◌, ◌++◌, map, length, take, drop, get_or, sym, ap, ◌∙◌, append_assoc, arith}
use Rattle.std.proofs.lemmas.List.{append-nil, map-append, length-map}
use Rattle.homeo_lemmas.proofs.Lists.{drop_past, map_take_more, map_take}
use Rattle.homeo_syntax.specs.Source as source
use Rattle.homeo_build.proofs.FewSites.{sites_few}
use Rattle.homeo_meaning.specs.Acceptance.{IsAccepted}
use Rattle.homeo_meaning.specs.declared.call.CallId.{CallId}
use Rattle.homeo_plan.specs.Planned.{sites_of}
use Rattle.homeo_nodes.specs.declared.breach.Breach.{Breach}
use Rattle.homeo_nodes.specs.Making as n
use Rattle.homeo_nodes.specs.Nodes.{called, calls_at, calls_from, carried}
use Rattle.homeo_carry.specs.CarryView.{plain_said}
use Rattle.homeo_carry.specs.declared.calls.Called.{Called}
use Rattle.homeo_carry.specs.declared.said.Said.{Said}
use Rattle.homeo_carry.specs.inner.Carrying.{plain_called}

-- ---- those of one site
pub call_next : (site i : ℕ) (call : CallId) (said : List CallId) (before now next : List Called) → i < length said → call ≡ get_or said i call → next ≡ now ++ record { site = site; call = call } ∷ [] → map plain_called now ≡ map plain_called before ++ map (called site) (take i said) → map plain_called next ≡ map plain_called before ++ map (called site) (take (i + 1) said)
call_next site i call said before now next lt is push so =
    ap (map plain_called) push
    ∙ map-append plain_called now (record { site = site; call = call } ∷ [])
    ∙ ap (λ cs. cs ++ called site call ∷ []) so
    ∙ append_assoc (map plain_called before) (map (called site) (take i said)) (called site call ∷ [])
    ∙ ap (λ cs. map plain_called before ++ cs) (sym (map_take_more (called site) said i call lt is))

-- ---- those of the sites from one on
drop_here : (states : List Said) (site : ℕ) (s : Said) → site < length states → s ≡ get_or states site s → drop site (map plain_said states) ≡ plain_said s ∷ drop (suc site) (map plain_said states)
drop_here [] site s lt is = absurd (omega (arith, lt))
drop_here (t ∷ states) zero s lt is = ap (λ (z : Said). plain_said z ∷ map plain_said states) (sym is)
drop_here (t ∷ states) (suc site) s lt is = drop_here states site s (omega (arith, lt)) is

pub site_next : (u : Breach) (states : List Said) (site : ℕ) (s : Said) (now next all : List n.Called) → site < length states → s ≡ get_or states site s → next ≡ now ++ map (called site) (calls_at u site (plain_said s)) → now ++ calls_from u site (drop site (map plain_said states)) ≡ all → next ++ calls_from u (site + 1) (drop (site + 1) (map plain_said states)) ≡ all
site_next u states site s now next all lt is push so =
    let rest = drop (suc site) (map plain_said states) in
    let mine = map (called site) (calls_at u site (plain_said s)) in
    ap (λ k. next ++ calls_from u k (drop k (map plain_said states))) (let e : site + 1 ≡ suc site = omega arith in e)
    ∙ ap (λ cs. cs ++ calls_from u (suc site) rest) push
    ∙ append_assoc now mine (calls_from u (suc site) rest)
    ∙ ap (λ ss. now ++ calls_from u site ss) (sym (drop_here states site s lt is))
    ∙ so

pub sites_done : (u : Breach) (states : List Said) (site : ℕ) (now all : List n.Called) → length states ≤ site → now ++ calls_from u site (drop site (map plain_said states)) ≡ all → now ≡ all
sites_done u states site now all le so =
    sym (append-nil now)
    ∙ ap (λ ss. now ++ calls_from u site ss) (sym (drop_past (map plain_said states) site (let e = length-map states plain_said in omega (arith, e, le))))
    ∙ so

-- ---- those of all sites
pub from_arbiter : (w : source.Workload) (u : Breach) (states : List Said) (first : ℕ) (none some all : List Called) (before : List Said) → first ≡ u.round % sites_of w → none ≡ [] → before ≡ take first states → map plain_called some ≡ map plain_called none ++ calls_from u first (drop first (map plain_said states)) → map plain_called all ≡ map plain_called some ++ calls_from u 0 (drop 0 (map plain_said before)) → map plain_called all ≡ carried w u (map plain_said states)
unfolding definitions
from_arbiter w u states first none some all before is empty taken one two =
    two
    ∙ ap (λ cs. cs ++ calls_from u 0 (map plain_said before)) (one ∙ ap (λ cs. map plain_called cs ++ calls_from u first (drop first (map plain_said states))) empty)
    ∙ ap (λ ss. calls_from u first (drop first (map plain_said states)) ++ calls_from u 0 ss) (ap (map plain_said) taken ∙ map_take plain_said first states)
    ∙ ap (λ k. calls_from u k (drop k (map plain_said states)) ++ calls_from u 0 (take k (map plain_said states))) is

-- ---- the arbiter
pub some_site : (w : source.Workload) (count : ℕ) → IsAccepted w → count ≡ sites_of w → 0 < count
unfolding plan_definitions
some_site w count accepted is = let some = (sites_few w accepted).some in omega (arith, some, is)

-- What each node keeps, from what holds of nodes and packets.
use Rattle.homeo_nodes.specs.Key.{definitions}
use Rattle.std.proofs.Common.{◌≡◌, ℕ, List, [], ◌∷◌, length, Option, Some, None, refl, sym, subst}
use Rattle.std.specs.Prelude.{slice_get, All, IfSome}
use Rattle.std.proofs.lemmas.List.Elements.{All-cons, All-nil}
use mathlib.Core.Logic.{⊎_elim}
use Rattle.homeo_lemmas.proofs.Places.{All-get}
use Rattle.homeo_syntax.specs.Source as s
use Rattle.homeo_meaning.specs.declared.call.CallId.{CallId}
use Rattle.homeo_meaning.specs.Acceptance.{IsAccepted}
use Rattle.homeo_plan.specs.Planned.{sites_of}
use Rattle.homeo_history.specs.Legal.{IsCallAt}
use Rattle.homeo_site.specs.SiteState.{SiteHolds}
use Rattle.homeo_site.proofs.LocalSteps.{own_within}
use Rattle.homeo_nodes.specs.declared.breach.Breach.{Breach}
use Rattle.homeo_nodes.specs.declared.breach.Mode.{Mode}
use Rattle.homeo_nodes.specs.declared.breach.Mode.TheVariants.{Running, Waiting, Stopped}
use Rattle.homeo_nodes.specs.Holding.{IsModeOf, NodeHolds, NodesHold}
use Rattle.homeo_nodes.specs.Nodes.{Packet, Want, Stop, Past, Node, reached}
use Rattle.homeo_nodes.proofs.Carrying.{AreAt}
use Rattle.homeo_nodes.proofs.Settling.{Holds}
use Rattle.homeo_nodes.proofs.Sending.{Sent}
use Rattle.homeo_nodes.proofs.Standing.{reached_holds}
use Rattle.homeo_nodes.proofs.Talking.{Hears}

all_at : (w : s.Workload) (i : ℕ) (calls : List CallId) → AreAt w i calls → All (IsCallAt w i) calls
all_at w i [] at = All-nil (IsCallAt w i)
all_at w i (c ∷ calls) at = All-cons (IsCallAt w i) c calls at.0 (all_at w i calls at.1)

module _ (w : s.Workload) (ns : List Node) (ps : List Packet) (accepted : IsAccepted w) (holds : Holds w ns ps) (i : ℕ) (n : Node) (here : slice_get ns i ≡ Some n) where
  hears : Hears w ps i n
  hears = holds.talk.nodes i n here

  site_holds : SiteHolds w n.journal.site
  site_holds =
      ⊎_elim (λ a. All-get (SiteHolds w) holds.joint.sites i n.journal.site holds.course.joined.holds a.up.site) (λ b. b.site) (holds.course.near i n here)

  wanted : (b : Breach) → Sent ps (Want b) → IsCallAt w b.site b.call
  wanted b sent = (holds.talk.packets (Want b) sent).0

  mode_of : (mode : Mode) → n.mode ≡ mode → IsModeOf w mode
  mode_of Running e = tt
  mode_of (Waiting b) e = wanted b (hears.waiting b e)
  mode_of (Stopped b) e = wanted b (holds.talk.packets (Stop b) (hears.stopped b e).0).0

  past_of : (past : Option Past) → n.past ≡ past → IfSome past (λ p. length p.states ≡ sites_of w)
  past_of None e = tt
  past_of (Some p) e = (hears.turned p e).count

  pub node_holds : NodeHolds w n
  node_holds = record {
    site = site_holds;
    within = own_within w n.journal.site accepted site_holds;
    mode = mode_of n.mode refl;
    states = hears.count;
    past = past_of n.past refl;
    calls = subst (λ k. All (IsCallAt w k) n.queue) (sym hears.numbered) (all_at w i n.queue hears.queue.at_site);
    few = hears.queue.few;
  }

pub nodes_hold : NodesHold
unfolding definitions
nodes_hold w events i n accepted here =
    node_holds w (reached w events).nodes (reached w events).packets accepted (reached_holds w events accepted) i n here

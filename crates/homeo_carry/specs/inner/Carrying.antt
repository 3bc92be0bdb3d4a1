-- Rounds that calls lead to, as they lie in memory.
use Rattle.std.specs.Prelude.{◌≡◌, ℕ, suc, ◌+◌, ◌<◌, ◌^◌, List, map, length, take, ℤ, Some, slice_get, All, FitsSigned}
use Rattle.std.specs.Int.{w64}
use Rattle.homeo_syntax.specs.Source as s
use Rattle.homeo_syntax.specs.SourceView.{plain_workload}
use Rattle.homeo_syntax.specs.declared.workload.Workload.{Workload}
use Rattle.homeo_meaning.specs.Bounds.{IsWithin}
use Rattle.homeo_meaning.specs.Schema.{schema_of}
use Rattle.homeo_meaning.specs.Serial.{call_outcome}
use Rattle.homeo_plan.specs.declared.treaty.Broken.{Broken}
use Rattle.homeo_plan.specs.Planned.{sites_of}
use Rattle.homeo_core.specs.Events.{closing_on}
use Rattle.homeo_history.specs.Legal.{IsCallAt}
use Rattle.homeo_site.specs.BareView.{BareValue}
use Rattle.homeo_site.specs.SiteState.{begun}
use Rattle.homeo_nodes.specs.declared.breach.Breach.{Breach}
use Rattle.homeo_nodes.specs.Brief.{Brief, Answered, brief_at, site_at, briefly_all}
use Rattle.homeo_nodes.specs.Making as n
use Rattle.homeo_nodes.specs.Nodes.{folded, own_answer}
use Rattle.homeo_carry.specs.declared.answers.Answers.{Answers}
use Rattle.homeo_carry.specs.declared.calls.Called.{Called}
use Rattle.homeo_carry.specs.declared.carrying.Rounds.{Rounds}
use Rattle.homeo_carry.specs.declared.said.Said.{Said}
use Rattle.homeo_carry.specs.inner.Answering.{AreMore}

abbrev pub plain_called : Called → n.Called
plain_called c = record { site = c.site; call = c.call }

-- ---- sums
abbrev pub deltas_in : List BareValue → List (List ℤ)
deltas_in sites = map (λ s. s.state.deltas) sites

abbrev pub deltas_said : List Said → List (List ℤ)
deltas_said states = map (λ s. s.deltas.items) states

-- each sum on the way is a number of 64 bits
abbrev pub FoldsFit : List ℤ → List (List ℤ) → Type 0
FoldsFit base deltas = (k : ℕ) → All (FitsSigned w64) (folded base (take k deltas))

-- ---- rounds
abbrev pub brief_of : Rounds → Brief
brief_of x = record { round = x.round; base = x.base.items; deltas = deltas_in x.sites.items }

-- each is the site of its number, as it begins the round
abbrev pub AreBegun : Workload → ℕ → List ℤ → List BareValue → Type 0
AreBegun work round base sites =
    (i : ℕ) (s : BareValue) → slice_get sites i ≡ Some s → s ≡ record { work = work; state = begun i round base }

-- each is the site of its number, in the round, and the base is within bounds
pub record IsOf (work : Workload) (x : Rounds) : Type 0 where
  pub count : length x.sites.items ≡ sites_of (plain_workload work)
  pub within : IsWithin (schema_of (plain_workload work)) x.base.items
  pub sites : (i : ℕ) (s : BareValue) → slice_get x.sites.items i ≡ Some s → s ≡ record { work = work; state = site_at (brief_of x) i }

-- the rounds are these, and with the answers the node has given more
pub record IsNext (before : Answers) (a : Answered) (x : Rounds) : Type 0 where
  pub brief : brief_of x ≡ a.brief
  pub answers : AreMore before x.answers a.answers

-- ---- calls
abbrev pub breach_at : Rounds → Called → Broken → Breach
breach_at x c broken = record { round = x.round; site = c.site; call = c.call; broken = broken }

-- the call closes its round on this database, and the next one begins
abbrev pub closed_by : s.Workload → ℕ → Breach → List ℤ → Answered
closed_by w own u whole = record {
  brief = brief_at w (suc u.round) (call_outcome w u.call whole).database;
  answers = own_answer own u.round (Some (closing_on w whole u.site u.call u.broken));
}

-- the call is one of a client of its site, each sum of the base with the first deltas is within bounds, and the next round has a number
pub record CanMake (w : s.Workload) (b : Brief) (c : n.Called) : Type 0 where
  pub call : IsCallAt w c.site c.call
  pub sums : (k : ℕ) → IsWithin (schema_of w) (folded b.base (take k b.deltas))
  pub round : b.round + 1 < 2 ^ 64

-- each of the calls, after those before it
abbrev pub CanMakeAll : s.Workload → ℕ → List n.Called → Brief → Type 0
CanMakeAll w own calls b =
    (k : ℕ) (c : n.Called) → slice_get calls k ≡ Some c → CanMake w (briefly_all w own (take k calls) b).brief c

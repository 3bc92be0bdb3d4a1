-- Nodes of one workload, one of each site, that take lines (this project's rule).
use Rattle.std.proofs.Common.{inl, inr}
use Rattle.std.specs.Prelude.{◌≡◌, ℕ, List, [], ◌∷◌, ◌++◌, map, Option, Some, None, IfSome, slice_get, slice_set}
use Rattle.std.specs.List.{range_with_len}
use Rattle.homeo_syntax.specs.SourceView.{plain_workload}
use Rattle.homeo_syntax.specs.declared.workload.Workload.{Workload}
use Rattle.homeo_meaning.specs.declared.call.CallId.{CallId}
use Rattle.homeo_plan.specs.Planned.{sites_of}
use Rattle.homeo_nodes.specs.Nodes as n
use Rattle.homeo_nodes.specs.Nodes.{of_past}
use Rattle.homeo_desk.specs.declared.output.Output.{Output}
use Rattle.homeo_desk.specs.DeskView.{DeskValue}
use Rattle.homeo_desk.specs.Outputs.{AreIn, packets_of, answers_of}
use Rattle.homeo_desk.specs.Runs.{Told, first_told}
use Rattle.homeo_lines.specs.Lines as l
use Rattle.homeo_lines.specs.Read.{IsReadAs, no_line}
use Rattle.homeo_process.specs.Driven.{Driven, before_all, sender}
use Rattle.homeo_process.specs.Taking.{Asks, Takes, Serves, Does, IsTaken, long, no_json, json}

-- ---- what a line gives
-- the outputs of a node, by what it does with a line
abbrev pub asked_outputs :
    (d : Driven) (desk : DeskValue) (call : CallId) (from : Option (List ℕ)) (number : Option ℕ) (after : Driven) (written : List ℕ) →
    Asks d desk call from number after written → List Output
asked_outputs d desk call from None after written fails = []
asked_outputs d desk call None (Some number) after written fails = []
asked_outputs d desk call (Some caller) (Some number) after written answers = answers.outputs

abbrev pub sent_outputs :
    (site : Option ℕ) (d : Driven) (desk : DeskValue) (packets : List n.Packet) (from : Option (List ℕ)) (number : Option ℕ) (after : Driven) (written : List ℕ) →
    Takes site d desk packets from number after written → List Output
sent_outputs None d desk packets from number after written fails = []
sent_outputs (Some site) d desk packets from number after written moves = moves.outputs

abbrev pub served_outputs :
    (d : Driven) (desk : DeskValue) (message : l.Message) (from : Option (List ℕ)) (number : Option ℕ) (after : Driven) (written : List ℕ) →
    Serves d desk message from number after written → List Output
served_outputs d desk (l.Init node nodes state) from number after written fails = []
served_outputs d desk (l.Call call) from number after written (inl own) = asked_outputs d desk call from number after written own.1
served_outputs d desk (l.Call call) from number after written (inr other) = []
served_outputs d desk (l.Came packet) from number after written takes =
    sent_outputs (sender d.names from) d desk (packet ∷ []) from number after written takes
served_outputs d desk (l.HasLeft past) from number after written takes =
    sent_outputs (sender d.names from) d desk (of_past (Some past)) from number after written takes
served_outputs d desk l.Tick from number after written moves = moves.0.outputs
served_outputs d desk l.Snapshot from number after written shows = []
served_outputs d desk l.Status from number after written tells = []
served_outputs d desk (l.Wrong code) from number after written fails = []

-- a node that hasn't begun gives none
abbrev pub done_outputs : (d : Driven) (desk : Option DeskValue) (x : l.Line) (after : Driven) (written : List ℕ) → Does d desk x after written → List Output
done_outputs d None x after written waits = []
done_outputs d (Some desk) x after written serves = served_outputs d desk x.message x.from x.number after written serves

abbrev pub outputs_of : (d : Driven) (line : List ℕ) (after : Driven) (written : List ℕ) → IsTaken d line after written → List Output
outputs_of d line after written (long is_long fails) = []
outputs_of d line after written (no_json few no_value does) = done_outputs d d.desk no_line after written does
outputs_of d line after written (json few x read does) = done_outputs d d.desk x after written does

-- ---- what a line means
-- how a round was closed is its stop and what all sites said
abbrev pub packets_meant : l.Message → List n.Packet
packets_meant (l.Init node nodes state) = []
packets_meant (l.Call call) = []
packets_meant (l.Came packet) = packet ∷ []
packets_meant (l.HasLeft past) = of_past (Some past)
packets_meant l.Tick = []
packets_meant l.Snapshot = []
packets_meant l.Status = []
packets_meant (l.Wrong code) = []

-- ---- the nodes of all sites
-- a site's node, and the desk that it has, or that the one before it had last, with all that was answered there
pub record Place : Type 0 where
  pub node : Driven
  pub told : Told

-- the places in the order of their sites, and each packet that was ever let out
pub record Cluster : Type 0 where
  pub places : List Place
  pub packets : List n.Packet

abbrev pub first_place : Workload → ℕ → Place
first_place work site = record { node = before_all work; told = first_told work site }

abbrev pub first_cluster : Workload → Cluster
first_cluster work = record { places = map (first_place work) (range_with_len 0 (sites_of (plain_workload work))); packets = [] }

abbrev pub last_desk : DeskValue → Option DeskValue → DeskValue
last_desk last None = last
last_desk last (Some desk) = desk

-- ---- what happens to them
-- A site's node takes a line. Each packet that the line means was let out. Where the node begins it has the desk of its place: so with no
-- state it begins only where that is still the first one, and else with a state that the desk has shown.
pub record TakesLine (x y : Cluster) : Type 0 where
  pub site : ℕ
  pub old : Place
  pub here : slice_get x.places site ≡ Some old
  pub line : List ℕ
  pub after : Driven
  pub written : List ℕ
  pub taken : IsTaken old.node line after written
  pub came : (m : l.Line) → IsReadAs (plain_workload old.node.work) line m → AreIn (packets_meant m.message) x.packets
  pub begins : old.node.desk ≡ None → IfSome after.desk (λ desk. desk ≡ old.told.desk)
  pub then : y ≡ record {
    places = slice_set x.places site (record {
      node = after;
      told = record {
        desk = last_desk old.told.desk after.desk;
        given = old.told.given ++ answers_of (outputs_of old.node line after written taken);
      };
    });
    packets = x.packets ++ packets_of (outputs_of old.node line after written taken);
  }

-- A site's node ends, and another is in its stead: one that hasn't begun, or one that has come to the same desk, by whatever lines it took
-- again and with all that it gave by them dropped.
pub record Restarts (x y : Cluster) : Type 0 where
  pub site : ℕ
  pub old : Place
  pub here : slice_get x.places site ≡ Some old
  pub node : Driven
  pub work : node.work ≡ old.node.work
  pub has : IfSome node.desk (λ desk. desk ≡ old.told.desk)
  pub then : y ≡ record {
    places = slice_set x.places site (record { node = node; told = old.told });
    packets = x.packets;
  }

pub data HaveRun (work : Workload) : Cluster → Type 0 where
  begin : HaveRun work (first_cluster work)
  takes : (x y : Cluster) → HaveRun work x → TakesLine x y → HaveRun work y
  restarts : (x y : Cluster) → HaveRun work x → Restarts x y → HaveRun work y

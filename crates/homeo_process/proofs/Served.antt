-- What a node that has begun does with a message, put together.
use Rattle.std.proofs.Common.{◌≡◌, ℕ, true, List, [], ◌++◌, Option, None, Some, is_some, refl, sym, subst, true≢false, ◌∙◌}
use Rattle.homeo_syntax.specs.SourceView.{plain_workload}
use Rattle.homeo_nodes.specs.Nodes as n
use Rattle.homeo_desk.specs.DeskView as d
use Rattle.homeo_desk.specs.DeskView.{DeskValue, desk_of}
use Rattle.homeo_desk.specs.Moves.{IsMove}
use Rattle.homeo_desk.specs.declared.output.Output.{Output}
use Rattle.homeo_desk.specs.declared.state.DeskState.{DeskState}
use Rattle.homeo_lines.specs.Lines as l
use Rattle.homeo_lines.specs.LineView.{plain_state}
use Rattle.homeo_lines.specs.Read.{malformed}
use Rattle.homeo_process.specs.Driven.{Voice, line_to}
use Rattle.homeo_process.specs.Taking.{Complains, Fails, Moves, Takes}
use Rattle.homeo_process.specs.inner.Voices.{Appends, IsTold, IsServed, begun}
use Rattle.homeo_process.proofs.Begun.{desk_is, can_begin}

-- ---- what is appended
pub appends_as : (P Q : List ℕ → Type 0) (old new : List ℕ) → ((written : List ℕ) → P written → Q written) → Appends P old new → Appends Q old new
appends_as P Q old new f a = record { written = a.written; are = a.are; is = f a.written a.is }

-- ---- what is malformed
pub fails : (v : Voice) (desk : DeskValue) (from : Option (List ℕ)) (number : Option ℕ) (code : ℕ) (old new : List ℕ) → code ≡ malformed →
    Appends (Complains v from number code) old new → Appends (λ written. Fails (begun v desk) from number malformed (begun v desk) written) old new
fails v desk from number code old new is said = record {
  written = said.written;
  are = said.are;
  is = record { same = refl; complains = subst (λ k. Complains v from number k said.written) is said.is };
}

-- ---- packets
module _ (v : Voice) (old new : DeskValue) (packets : List n.Packet) (before outputs : List Output) where
  pub moved : (from : Option (List ℕ)) (number : Option ℕ) (written : List ℕ) → before ≡ [] → IsMove [] packets old new before outputs → IsTold v outputs from number written →
      Moves (begun v old) old packets from number (begun v new) written
  moved from number written nothing move told = record {
    new = new;
    outputs = outputs;
    complaint = told.complaint;
    move = subst (λ x. IsMove [] packets old new x outputs) nothing move;
    complains = told.complains;
    then = refl;
    wrote = told.wrote;
  }

  pub takes : (from : Option (List ℕ)) (number : Option ℕ) (written : List ℕ) (place : Option ℕ) → is_some place ≡ true → before ≡ [] → IsMove [] packets old new before outputs →
      IsTold v outputs from number written → Takes place (begun v old) old packets from number (begun v new) written
  takes from number written None there nothing move told = absurd (true≢false (sym there))
  takes from number written (Some site) there nothing move told = moved from number written nothing move told

-- ---- its state
pub shows : (v : Voice) (desk : DeskValue) (state : DeskState) (from : Option (List ℕ)) (number : Option ℕ) (old new : List ℕ) → desk_of desk.work state ≡ desk →
    d.CanBegin (plain_workload desk.work) state → new ≡ old ++ line_to v from (l.SnapshotOk number (plain_state state)) → IsServed v desk l.Snapshot from number desk old new
shows v desk state from number old new is can are = record {
  written = line_to v from (l.SnapshotOk number (plain_state state));
  are = are;
  is = record {
    state = plain_state state;
    is_desk = sym (desk_is desk.work state) ∙ is;
    can_begin = can_begin (plain_workload desk.work) state can;
    same = refl;
    wrote = refl;
  };
}

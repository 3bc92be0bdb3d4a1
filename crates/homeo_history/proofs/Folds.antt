-- What is left of replays: folds within bounds, and rounds that are serial.
use Rattle.homeo_history.specs.Key.{definitions}
use Rattle.std.proofs.Common.{List, [], ◌∷◌, Option, Some, None, ℤ, sym, subst}
use Rattle.std.specs.Prelude.{IfSome}
use Rattle.std.proofs.lemmas.List.Elements.{All-head, All-tail}
use Rattle.homeo_syntax.specs.Source as s
use Rattle.homeo_meaning.specs.Acceptance.{IsAccepted}
use Rattle.homeo_meaning.specs.Bounds.{IsWithin}
use Rattle.homeo_meaning.specs.Schema.{schema_of}
use Rattle.homeo_meaning.specs.Serial.{Outcome}
use Rattle.homeo_history.specs.History.{Closing, Round}
use Rattle.homeo_history.specs.Legal.{IsCallAt, IsAtSites, ClosesWith, base_or}
use Rattle.homeo_history.specs.Replayed.{IsReplayed, fold_of}
use Rattle.homeo_history.specs.Laws.{HasSegments, FoldWithin, ReplaysAreSerial}
use Rattle.homeo_history.proofs.CallRuns.{call_runs}
use Rattle.homeo_history.proofs.Choices.{some_choice, some_choice_fits}
use Rattle.homeo_history.proofs.Merges.{merge_law, round_within}

pub fold_within : FoldWithin
unfolding definitions
fold_within w r accepted within segments =
    round_within w r accepted within segments (some_choice r.segments) (some_choice_fits r.segments)

has_segments : (w : s.Workload) (r : Round) → IsAtSites w r → IsReplayed w r → HasSegments w r
has_segments w r at h = record { at_sites = at.segments; replayed = h.segments }

next_within : (w : s.Workload) (r : Round) (next : List ℤ) → IsAccepted w → IsWithin (schema_of w) r.base → IsAtSites w r → IsReplayed w r → ClosesWith w (fold_of w r) r.closing next → IsWithin (schema_of w) next
unfolding definitions
next_within w r next accepted within at h closes = go r.closing at.closing closes
  where
    there : IsWithin (schema_of w) (fold_of w r)
    there = fold_within w r accepted within (has_segments w r at h)

    go : (o : Option Closing) → IfSome o (λ c. IsCallAt w c.site c.entry.call) → ClosesWith w (fold_of w r) o next → IsWithin (schema_of w) next
    go None a e = subst (IsWithin (schema_of w)) (sym e) there
    go (Some c) a e =
        let r' = call_runs w c.entry.call (fold_of w r) a.exists there in
        subst (λ (z : Outcome). IsWithin (schema_of w) z.database) e r'.within

pub replays_are_serial : ReplaysAreSerial
unfolding definitions
replays_are_serial w [] last accepted within at h folded = tt
replays_are_serial w (r ∷ rounds) last accepted within at h folded =
    let here = All-head (IsAtSites w) r rounds at in
    let kept = All-head (IsReplayed w) r rounds h in (
      record {
        after = fold_of w r;
        merges = merge_law w r accepted within (has_segments w r here kept);
        closes = folded.0;
      },
      replays_are_serial w rounds last accepted (next_within w r (base_or rounds last) accepted within here kept folded.0) (All-tail (IsAtSites w) r rounds at) (All-tail (IsReplayed w) r rounds h) folded.1,
    )

-- Sites in one round stand at it, and gathered values are numbers of 64 bits.
use Rattle.homeo_meaning.specs.Key.{definitions as meaning_definitions}
use Rattle.homeo_core.specs.Key.{definitions}
use Rattle.std.proofs.Common.{List, length, get_or, ℤ, pos, subst, arith, FitsSigned}
use Rattle.std.specs.Int.{w64}
use Rattle.std.specs.Prelude.{All}
use Rattle.std.proofs.lemmas.Int.{fits_signed_from_abs}
use Rattle.std.proofs.lemmas.List.{get_or_default}
use Rattle.homeo_syntax.specs.Source as s
use Rattle.homeo_meaning.specs.Acceptance.{IsAccepted}
use Rattle.homeo_meaning.specs.Bounds.{IsWithin}
use Rattle.homeo_meaning.specs.Schema.{schema_of}
use Rattle.homeo_meaning.specs.Serial.{values_of}
use Rattle.homeo_meaning.proofs.Within.{all_within}
use Rattle.homeo_plan.proofs.GroundNumbers.{values_small}
use Rattle.homeo_site.specs.SiteState.{SiteState}
use Rattle.homeo_core.specs.Joined.{BookState, AreJoined}
use Rattle.homeo_core.specs.SiteLists.{AreAt}

pub at_round : (w : s.Workload) (start : List ℤ) (b : BookState) (sites : List SiteState) → AreJoined w start b sites → AreAt (length b.closed) b.base sites
unfolding definitions
at_round w start b sites joined i x e =
    let at = joined.round.each i x e in record { numbered = at.numbered; in_round = at.round; on_base = at.base }

pub all_fit : (w : s.Workload) (values : List ℤ) → IsAccepted w → IsWithin (schema_of w) values → All (FitsSigned w64) values
unfolding meaning_definitions
all_fit w values accepted within k d lt =
    let small = values_small w accepted (values_of values) (all_within (schema_of w) values within) k in
    subst (FitsSigned w64) (get_or_default values k (pos 0) d lt) (fits_signed_from_abs w64 (get_or values k (pos 0)) (omega (arith, small)))

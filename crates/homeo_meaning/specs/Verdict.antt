-- Which texts are accepted, and how the others are refused.
use Rattle.std.specs.Prelude.{◌≡◌, ◌⊎◌, ◌≤◌, ◌<◌, ℕ, List, [], length}
use Rattle.homeo_syntax.specs.declared.workload.Refusal.{Refusal}
use Rattle.homeo_syntax.specs.Source as s
use Rattle.homeo_syntax.specs.Reads.{Reads, IsUnread}
use Rattle.homeo_meaning.specs.Key.{definitions}
use Rattle.homeo_meaning.specs.Faults.{faults, IsRefusedBy}
use Rattle.homeo_meaning.specs.declared.call.Purpose.{Purpose}

-- the most bytes that a text may have
abbrev pub text_limit : ℕ
text_limit = 1048576

-- the text is accepted for this purpose, as this workload
pub record Accepts (text : List ℕ) (purpose : Purpose) (w : s.Workload) : Type 0 where
  pub short : length text ≤ text_limit
  pub reads : Reads text w
  pub sound : faults purpose w ≡ []

-- the text has more bytes than it may
pub record IsTooLong (text : List ℕ) (r : Refusal) : Type 0 where
  pub long : text_limit < length text
  pub code : r.code ≡ 2
  pub offset : r.offset ≡ text_limit

-- the text reads as a workload that breaks a rule, and this refusal is that of the fault that decides
pub record BreaksRule (text : List ℕ) (purpose : Purpose) (r : Refusal) : Type 0 where
  pub workload : s.Workload
  pub reads : Reads text workload
  pub refused : IsRefusedBy purpose workload r

-- the text is refused for this purpose: it is too long, or else it reads as no workload, or as one that breaks a rule
abbrev pub IsRefused : List ℕ → Purpose → Refusal → Type 0
unfolding definitions
IsRefused text purpose r =
    IsTooLong text r ⊎ ((length text ≤ text_limit) × (IsUnread text r ⊎ BreaksRule text purpose r))

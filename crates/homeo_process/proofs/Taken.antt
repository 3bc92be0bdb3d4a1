-- What a node does with a line, put together.
use Rattle.std.proofs.Common.{◌≡◌, ◌⊎◌, ◌≤◌, ℕ, Bool, true, false, List, length, Option, None, Some, refl, sym, subst, ◌∙◌, inl, inr, true≢false}
use Rattle.std.specs.Str.{is_utf8}
use Rattle.std.proofs.lemmas.Str.{IsUtf8-from_is_utf8, is_utf8-from_IsUtf8}
use Rattle.serde_json.specs.Data.{Data}
use Rattle.serde_json.specs.Read.{read}
use Rattle.homeo_certificate.specs.Text.{IsJsonOf}
use Rattle.homeo_syntax.specs.SourceView.{plain_workload}
use Rattle.homeo_lines.specs.Lines as l
use Rattle.homeo_lines.specs.Read.{IsReadAs, IsNoJson, line_of, no_line}
use Rattle.homeo_process.specs.Driven.{Driven}
use Rattle.homeo_process.specs.Taking.{IsTaken, Does, line_limit, json, no_json}
use Rattle.homeo_process.specs.inner.Shells.{Took}
use Rattle.homeo_process.specs.inner.Voices.{Appends}

-- ---- bytes are JSON or not
abbrev HasJson : List ℕ → Type 0
HasJson bytes = (value : Data) × IsJsonOf bytes value

by_reading : (bytes : List ℕ) (utf8 : Bool) → is_utf8 bytes ≡ utf8 → (value : Option Data) → read bytes ≡ value → HasJson bytes ⊎ IsNoJson bytes
by_reading bytes false utf8 value reads = inr (λ d h. true≢false (sym (is_utf8-from_IsUtf8 bytes h.utf8) ∙ utf8))
by_reading bytes true utf8 None reads = inr (λ d h. let both = sym h.reads ∙ reads in cc)
by_reading bytes true utf8 (Some value) reads = inl (value, record { utf8 = IsUtf8-from_is_utf8 bytes utf8; reads = reads })

json_or_not : (bytes : List ℕ) → HasJson bytes ⊎ IsNoJson bytes
json_or_not bytes = by_reading bytes (is_utf8 bytes) refl (read bytes) refl

-- ---- a line
module _ (d after : Driven) (bytes : List ℕ) (x : l.Line) (short : length bytes ≤ line_limit) (means : (y : l.Line) → IsReadAs (plain_workload d.work) bytes y → x ≡ y)
    (none : IsNoJson bytes → x ≡ no_line) where
  is_taken : (written : List ℕ) → Does d d.desk x after written → HasJson bytes ⊎ IsNoJson bytes → IsTaken d bytes after written
  is_taken written does (inl h) =
      let meant : IsReadAs (plain_workload d.work) bytes (line_of (plain_workload d.work) h.0) = record { value = h.0; json = h.1; meant = refl } in
      json short (line_of (plain_workload d.work) h.0) meant (subst (λ y. Does d d.desk y after written) (means _ meant) does)
  is_taken written does (inr nothing) = no_json short nothing (subst (λ y. Does d d.desk y after written) (none nothing) does)

  pub took : (old new : List ℕ) → Appends (Does d d.desk x after) old new → Took d bytes after old new
  took old new a = record { written = a.written; are = a.are; taken = is_taken a.written a.is (json_or_not bytes) }

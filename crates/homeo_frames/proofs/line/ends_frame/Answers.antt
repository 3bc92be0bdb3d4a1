use Rattle.std.proofs.Common.{◌∙◌, ap, sym, refl, ◌≡◌, ◌==◌, Bool, true, false, ℕ}
use Rattle.std.proofs.lemmas.Bool.{eqb-true}
use Rattle.homeo_reader.specs.Lines.{newline, is_end}
use Rattle.homeo_frames.proofs.EndLines.{goes_on_byte, goes_on_line, ends_line, in_end, line_at}
use Rattle.homeo_frames.proofs.line.ends_frame.Goals as goal

no_newline : (b : ℕ) → (b ≡ newline → ⊥) → (b == newline) ≡ false
no_newline b other = go (b == newline) refl
  where
    go : (x : Bool) → (b == newline) ≡ x → x ≡ false
    go true e = absurd (other (eqb-true b newline e))
    go false e = refl

pub returns-then-byte-ne-NEWLINE-clause-goes_on : goal.returns-then-byte-ne-NEWLINE-clause-goes_on
returns-then-byte-ne-NEWLINE-clause-goes_on c = λ e o. goes_on_byte c.args.rest.now c.args.byte (no_newline c.args.byte c.if-byte-ne-NEWLINE.true) o

pub returns-clause-ends : goal.returns-clause-ends
returns-clause-ends c = λ e o. ends_line c.args.rest.now c.args.byte c.if-byte-ne-NEWLINE.false (ap is_end (sym (line_at c.args.rest.now c.last_line_at.result c.last_line_at.ensures.line)) ∙ sym c.is_end.ensures ∙ e) o

pub returns-clause-in_end : goal.returns-clause-in_end
returns-clause-in_end c = λ e. in_end c.args.rest.now c.args.byte c.if-byte-ne-NEWLINE.false (ap is_end (sym (line_at c.args.rest.now c.last_line_at.result c.last_line_at.ensures.line)) ∙ sym c.is_end.ensures ∙ e)

pub returns-clause-goes_on : goal.returns-clause-goes_on
returns-clause-goes_on c = λ e o. goes_on_line c.args.rest.now c.args.byte c.if-byte-ne-NEWLINE.false (ap is_end (sym (line_at c.args.rest.now c.last_line_at.result c.last_line_at.ensures.line)) ∙ sym c.is_end.ensures ∙ e) o

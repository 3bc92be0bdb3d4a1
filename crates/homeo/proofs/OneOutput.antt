-- Words have one output on the same bytes.
use Rattle.std.proofs.Common.{◌≡◌, ◌∙◌, refl, ℕ, List, [], Some, sym, ap, subst}
use Rattle.homeo_syntax.specs.Source as s
use Rattle.homeo_accept.proofs.Decided.{one_accepted}
use Rattle.homeo_forecast.specs.Text.{IsForecastText}
use Rattle.homeo_forecast.proofs.OneText.{one_forecast_text}
use Rattle.homeo_history.specs.Key.{definitions as history_definitions}
use Rattle.homeo_history.proofs.OneHistories.{one_history}
use Rattle.homeo_meaning.specs.declared.call.Purpose.{Purpose}
use Rattle.homeo_meaning.specs.declared.call.Purpose.TheVariants as purpose
use Rattle.homeo_meaning.specs.Initial.{initial}
use Rattle.homeo_meaning.specs.Verdict.{Accepts}
use Rattle.homeo_order.specs.Order.{scheduled_calls}
use Rattle.homeo_print.specs.Tables.{tables_text}
use Rattle.homeo_print.specs.Treaties.{treaty_text}
use Rattle.homeo_report.specs.Report.{report}
use Rattle.homeo_session.specs.Streams.{IsServed}
use Rattle.homeo_session.proofs.Streaming.{one_served}
use Rattle.homeo_words.specs.Command.{Say}
use Rattle.homeo_words.specs.declared.command.Command.{Command}
use Rattle.homeo_words.specs.declared.command.Command.TheVariants as c
use Rattle.homeo_words.proofs.OneCommand.{one_command}
use Rattle.homeo_certificate.proofs.OneVerdict.{one_verdict}
use Rattle.homeo_commands.specs.Certified.{unended, verdict_text, IsCertificateLine, IsVerdictLine}
use Rattle.homeo.specs.Laws.{OneOutput}
use Rattle.homeo_commands.specs.Made.{IsMade, IsScheduledReport, OfStream, OfText}
use Rattle.homeo_commands.specs.Wired.{IsWireReport}
use Rattle.homeo_commands.proofs.Decided.{told_is_given}

-- the schedule determines the history, and so the report
one_report : (w : s.Workload) (output output' : List ℕ) → IsScheduledReport w output → IsScheduledReport w output' → output ≡ output'
unfolding history_definitions
one_report w output output' r r' =
    let same : r.made.history ≡ r'.made.history =
    one_history w (initial w) _ r.made.history r'.made.history (scheduled_calls w) r.made.full r'.made.full r.follows r'.follows in
    r.made.reported ∙ ap (report w) same ∙ sym r'.made.reported

-- a workload has one output where each of its outputs is the same, and so has the text that reads as it
one_of_text : (p : Purpose) (bytes output output' : List ℕ) (Output : s.Workload → List ℕ → Type 0)
    → ((w : s.Workload) → Output w output → Output w output' → output ≡ output')
    → OfText p (Some bytes) (Some []) (λ w. Output w output) → OfText p (Some bytes) (Some []) (λ w. Output w output') → output ≡ output'
one_of_text p bytes output output' Output one o o' =
    let text : o'.text ≡ o.text = sym (told_is_given (Some bytes) (Some []) bytes o'.text refl o'.read) ∙ told_is_given (Some bytes) (Some []) bytes o.text refl o.read in
    let same : o'.workload ≡ o.workload = one_accepted o.text p p o'.workload o.workload (subst (λ x. Accepts x p o'.workload) text o'.accepted) o.accepted in
    one o.workload o.holds (subst (λ (w : s.Workload). Output w output') same o'.holds)

-- so have the bytes of a stream
one_of_stream : (bytes output output' : List ℕ) → OfStream (Some bytes) (Some []) (λ given. IsServed given output) → OfStream (Some bytes) (Some []) (λ given. IsServed given output') → output ≡ output'
one_of_stream bytes output output' o o' =
    let same : o'.bytes ≡ o.bytes = sym (told_is_given (Some bytes) (Some []) bytes o'.bytes refl o'.read) ∙ told_is_given (Some bytes) (Some []) bytes o.bytes refl o.read in
    one_served o.bytes output output' o.holds (subst (λ x. IsServed x output') same o'.holds)

-- bytes have one verdict, and a verdict one line
one_verdict_line : (bytes output output' : List ℕ) → OfStream (Some bytes) (Some []) (λ given. IsVerdictLine given output) → OfStream (Some bytes) (Some []) (λ given. IsVerdictLine given output') → output ≡ output'
one_verdict_line bytes output output' o o' =
    let same : o'.bytes ≡ o.bytes = sym (told_is_given (Some bytes) (Some []) bytes o'.bytes refl o'.read) ∙ told_is_given (Some bytes) (Some []) bytes o.bytes refl o.read in
    let line = o.holds in
    let line' = subst (λ x. IsVerdictLine x output') same o'.holds in
    line.line ∙ ap verdict_text (one_verdict (unended o.bytes) line.verdict line'.verdict line.on_bytes line'.on_bytes) ∙ sym line'.line

one_made : (command : Command) (bytes output output' : List ℕ) → (command ≡ c.Run → ⊥) → IsMade command (Some bytes) (Some []) output → IsMade command (Some bytes) (Some []) output' → output ≡ output'
one_made c.Steps bytes output output' other o o' = one_of_text purpose.Steps bytes output output' (λ w x. IsScheduledReport w x) (λ w r r'. one_report w output output' r r') o o'
one_made c.Run bytes output output' other o o' = absurd (other refl)
one_made c.Tables bytes output output' other o o' = one_of_text purpose.Tables bytes output output' (λ w x. x ≡ tables_text w) (λ w is is'. is ∙ sym is') o o'
one_made c.Treaty bytes output output' other o o' = one_of_text purpose.Treaty bytes output output' (λ w x. x ≡ treaty_text w) (λ w is is'. is ∙ sym is') o o'
one_made c.Serve bytes output output' other o o' = one_of_stream bytes output output' o o'
one_made c.Forecast bytes output output' other o o' =
    one_of_text purpose.Steps bytes output output' (λ w x. IsForecastText w (initial w) (scheduled_calls w) x)
    (λ w is is'. one_forecast_text w (initial w) (scheduled_calls w) output output' is is') o o'
one_made c.Certify bytes output output' other o o' = one_of_text purpose.Treaty bytes output output' (λ w x. IsCertificateLine w x) (λ w is is'. is.line ∙ sym is'.line) o o'
one_made c.Verify bytes output output' other o o' = one_verdict_line bytes output output' o o'
one_made (c.Wire number) bytes output output' other o o' = one_of_text purpose.Run bytes output output' (λ w x. IsWireReport w number x) (λ w r r'. r.reported ∙ sym r'.reported) o o'
one_made (c.Load number calls) bytes output output' other o o' = o.determined ∙ sym o'.determined

pub one_output : OneOutput
one_output words bytes output output' other (command, said, made) (command', said', made') =
    let same : command' ≡ command = one_command words command' command said' said in
    one_made command bytes output output' (λ is. other (subst (Say words) is said)) made
    (subst (λ (d : Command). IsMade d (Some bytes) (Some []) output') same made')

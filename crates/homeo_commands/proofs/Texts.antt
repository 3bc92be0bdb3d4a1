-- What holds of a text and its workload under a command holds of the command.
use Rattle.std.proofs.Common.{◌≡◌, ◌≢◌, ◌+◌, ◌∙◌, ℕ, List, refl, sym, subst, arith, inr}
use Rattle.std.specs.declared.option.Option.{Option}
use Rattle.homeo_syntax.specs.declared.workload.Refusal.{Refusal}
use Rattle.homeo_syntax.specs.Source as s
use Rattle.homeo_meaning.specs.declared.call.Purpose.{Purpose}
use Rattle.homeo_meaning.specs.Verdict.{Accepts, text_limit}
use Rattle.homeo_words.specs.declared.command.Command.{Command}
use Rattle.homeo_words.specs.declared.command.Command.TheVariants as c
use Rattle.homeo_commands.specs.Reading.{most_read}
use Rattle.homeo_commands.specs.Made.{IsMade, IsRefusal, IsRefusedUnder, OfText}
use Rattle.homeo_commands.specs.inner.Texts.{Excludes, IsOnText, Makes, purpose_of}
use Rattle.homeo_commands.proofs.Decided.{told_is_given}

-- the commands but three read a text
pub on_text : (command : Command) → command ≢ c.Serve → command ≢ c.Verify → ((number calls : ℕ) → command ≢ c.Load number calls) → IsOnText command
on_text c.Steps no_serve no_verify no_load = tt
on_text c.Run no_serve no_verify no_load = tt
on_text c.Tables no_serve no_verify no_load = tt
on_text c.Treaty no_serve no_verify no_load = tt
on_text c.Serve no_serve no_verify no_load = absurd (no_serve refl)
on_text c.Forecast no_serve no_verify no_load = tt
on_text c.Certify no_serve no_verify no_load = tt
on_text c.Verify no_serve no_verify no_load = absurd (no_verify refl)
on_text (c.Wire number) no_serve no_verify no_load = tt
on_text (c.Load number calls) no_serve no_verify no_load = absurd (no_load number calls refl)

pub read_text : (command : Command) → IsOnText command → most_read command ≡ text_limit + 1
read_text c.Steps on = refl
read_text c.Run on = refl
read_text c.Tables on = refl
read_text c.Treaty on = refl
read_text c.Serve on = absurd on
read_text c.Forecast on = refl
read_text c.Certify on = refl
read_text c.Verify on = absurd on
read_text (c.Wire number) on = refl
read_text (c.Load number calls) on = absurd on

pub reads_some : (command : Command) → IsOnText command → most_read command ≡ 0 → ⊥
reads_some command on nothing =
    let some : text_limit + 1 ≡ 0 = sym (read_text command on) ∙ nothing in
    omega (arith, some)

made_of_text : (command : Command) (left left' : Option (List ℕ)) (output : List ℕ) → IsOnText command
    → OfText (purpose_of command) left left' (λ w. Makes command w output) → IsMade command left left' output
made_of_text c.Steps left left' output on o = o
made_of_text c.Run left left' output on o = o
made_of_text c.Tables left left' output on o = o
made_of_text c.Treaty left left' output on o = o
made_of_text c.Serve left left' output on o = absurd on
made_of_text c.Forecast left left' output on o = o
made_of_text c.Certify left left' output on o = o
made_of_text c.Verify left left' output on o = absurd on
made_of_text (c.Wire number) left left' output on o = o
made_of_text (c.Load number calls) left left' output on o = absurd on

excluded_as_text : (command : Command) (text : List ℕ) (w : s.Workload) (r : Refusal) → Accepts text (purpose_of command) w → Excludes command w r → IsRefusal command text r
excluded_as_text c.Steps text w r accepted excluded = absurd excluded
excluded_as_text c.Run text w r accepted excluded = absurd excluded
excluded_as_text c.Tables text w r accepted excluded = absurd excluded
excluded_as_text c.Treaty text w r accepted excluded = absurd excluded
excluded_as_text c.Serve text w r accepted excluded = absurd excluded
excluded_as_text c.Forecast text w r accepted excluded = absurd excluded
excluded_as_text c.Certify text w r accepted excluded = inr (record { workload = w; accepted = accepted; uncertified = excluded })
excluded_as_text c.Verify text w r accepted excluded = absurd excluded
excluded_as_text (c.Wire number) text w r accepted excluded = inr (record { workload = w; accepted = accepted; excess_is = excluded })
excluded_as_text (c.Load number calls) text w r accepted excluded = absurd excluded

-- ---- of a text that was read, and its workload
pub made_of_workload : (command : Command) (left left' : Option (List ℕ)) (p : Purpose) (w : s.Workload) (output : List ℕ) → IsOnText command → p ≡ purpose_of command
    → OfText p left left' (λ v. v ≡ w) → Makes command w output → IsMade command left left' output
made_of_workload command left left' p w output on is o makes =
    made_of_text command left left' output on
    (subst (λ q. OfText q left left' (λ v. Makes command v output)) is (record {
      text = o.text;
      read = o.read;
      workload = o.workload;
      accepted = o.accepted;
      holds = subst (λ v. Makes command v output) (sym o.holds) makes;
    }))

pub refuses_workload : (command : Command) (left left' : Option (List ℕ)) (p : Purpose) (w : s.Workload) (r : Refusal) → IsOnText command → p ≡ purpose_of command
    → OfText p left left' (λ v. v ≡ w) → Excludes command w r → IsRefusedUnder command left r
refuses_workload command left left' p w r on is o excluded = (
  reads_some command on,
  λ bytes told.
      let same : bytes ≡ o.text = told_is_given left left' bytes o.text told o.read in
      let here = subst (λ q. Accepts o.text q o.workload) is o.accepted in
      excluded_as_text command bytes w r (subst (λ v. Accepts bytes (purpose_of command) v) o.holds (subst (λ b. Accepts b (purpose_of command) o.workload) (sym same) here)) excluded,
)

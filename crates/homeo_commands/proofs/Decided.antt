-- What a source told is what it gave, and what is refused under a command neither is made an output of nor can be done.
use Rattle.std.proofs.Common.{◌≡◌, ◌≤◌, ◌+◌, ◌∙◌, ◌++◌, ℕ, List, Some, None, length, refl, sym, ap, subst, arith, append-nil, length-append, inl, inr}
use Rattle.std.specs.Prelude.{◌⊎◌}
use Rattle.std.specs.declared.option.Option.{Option}
use Rattle.std.proofs.lemmas.Option.{slice_get_within}
use Rattle.homeo_io.specs.Moved.{Gave, GaveAll}
use Rattle.homeo_syntax.specs.declared.workload.Refusal.{Refusal}
use Rattle.homeo_syntax.specs.Source as s
use Rattle.homeo_accept.proofs.Decided.{accepted_not_refused, one_accepted}
use Rattle.homeo_wire.specs.Drive.{calls_in}
use Rattle.homeo_wire.specs.Key.{definitions as wire_definitions}
use Rattle.homeo_meaning.specs.declared.call.Purpose.{Purpose}
use Rattle.homeo_meaning.specs.declared.call.Purpose.TheVariants as purpose
use Rattle.homeo_meaning.specs.Key.{definitions as meaning_definitions}
use Rattle.homeo_session.specs.Streams.{IsServed, Stops}
use Rattle.homeo_session.proofs.Streaming.{not_both}
use Rattle.homeo_words.specs.declared.command.Command.{Command}
use Rattle.homeo_words.specs.declared.command.Command.TheVariants as c
use Rattle.homeo_meaning.specs.Verdict.{Accepts, IsRefused, text_limit}
use Rattle.homeo_commands.specs.Certified.{certificate_limit, first_certificate, unended, IsCertificateLine, IsUncertified, IsUnverified, IsVerdictLine}
use Rattle.homeo_commands.specs.Made.{CanBeDone, HasLongCertificate, IsMade, IsRefusal, IsRefusedUnder, OfStream, OfText, TellsCertified, TellsFewCalls, TellsText}
use Rattle.homeo_commands.specs.Wired.{HasExcess, IsExcess, IsWireReport}

-- ---- what was told and what was given
-- a source that told its bytes gave them
pub told_is_given : (old new : Option (List ℕ)) (text bytes : List ℕ) → old ≡ Some text → GaveAll old new bytes → text ≡ bytes
told_is_given None new text bytes e g = absurd (cc)
told_is_given (Some xs) None text bytes e g = absurd g.gave
told_is_given (Some xs) (Some ys) text bytes e g =
    let same : xs ≡ text = cc in
    sym same ∙ g.gave ∙ ap (λ l. bytes ++ l) g.at_end ∙ append-nil bytes

pub told_is_long : (old new : Option (List ℕ)) (text : List ℕ) (n : ℕ) → old ≡ Some text → Gave old new n → n ≤ length text
told_is_long None new text n e g = absurd (cc)
told_is_long (Some xs) None text n e g = absurd g.2
told_is_long (Some xs) (Some ys) text n e g =
    let same : xs ≡ text = cc in
    omega (arith, ap length same, ap length g.2, length-append g.0 ys, g.1)

-- a source that gave more than the limit told a text that is too long
pub refuses_long : (old new : Option (List ℕ)) (text : List ℕ) (p : Purpose) (r : Refusal) → old ≡ Some text → Gave old new (text_limit + 1)
    → r ≡ record { code = 2; offset = text_limit } → IsRefused text p r
unfolding meaning_definitions
refuses_long old new text p r e g is = inl (record { long = omega (arith, told_is_long old new text (text_limit + 1) e g); code = ap (λ x. x.code) is; offset = ap (λ x. x.offset) is })

-- ---- texts
-- of an accepted text this holds, as of its workload
pub of_text : (p : Purpose) (old new : Option (List ℕ)) (Holds : s.Workload → Type 0) (w : s.Workload) → OfText p old new (λ v. v ≡ w) → Holds w → OfText p old new Holds
of_text p old new Holds w o holds = record {
  text = o.text;
  read = o.read;
  workload = o.workload;
  accepted = o.accepted;
  holds = subst Holds (sym o.holds) holds;
}

text_not_refused : (p : Purpose) (old new : Option (List ℕ)) (Holds : s.Workload → Type 0) (text : List ℕ) (r : Refusal) → OfText p old new Holds → old ≡ Some text → IsRefused text p r → ⊥
text_not_refused p old new Holds text r o told refused =
    let same : text ≡ o.text = told_is_given old new text o.text told o.read in
    accepted_not_refused o.text p o.workload r o.accepted (subst (λ x. IsRefused x p r) same refused)

text_doable : (p : Purpose) (left : Option (List ℕ)) (r : Refusal) → TellsText p left → ((text : List ℕ) → left ≡ Some text → IsRefused text p r) → ⊥
text_doable p left r (text, w, told, accepted) refused = accepted_not_refused text p w r accepted (refused text told)

-- ---- streams
stream_not_refused : (old new : Option (List ℕ)) (output bytes out : List ℕ) (r : Refusal) → OfStream old new (λ given. IsServed given output) → old ≡ Some bytes → Stops bytes out r → ⊥
stream_not_refused old new output bytes out r o told stops =
    let same : bytes ≡ o.bytes = told_is_given old new bytes o.bytes told o.read in
    not_both o.bytes output out r o.holds (subst (λ x. Stops x out r) same stops)

-- ---- texts with too many calls
-- a workload with few calls has none that is too many
few_not_many : (w : s.Workload) (r : Refusal) → length (calls_in w) ≤ 200 → IsExcess w r → ⊥
unfolding wire_definitions
few_not_many w r few many = let lt = slice_get_within (calls_in w) 200 many.call many.past in omega (arith, few, lt)

text_not_many : (old new : Option (List ℕ)) (number : ℕ) (output text : List ℕ) (r : Refusal) → OfText purpose.Run old new (λ w. IsWireReport w number output) → old ≡ Some text → HasExcess text r → ⊥
text_not_many old new number output text r o told many =
    let same : text ≡ o.text = told_is_given old new text o.text told o.read in
    let is : many.workload ≡ o.workload = one_accepted o.text purpose.Run purpose.Run many.workload o.workload (subst (λ x. Accepts x purpose.Run many.workload) same many.accepted) o.accepted in
    few_not_many o.workload r o.holds.few (subst (λ (w : s.Workload). IsExcess w r) is many.excess_is)

few_not_refused : (left : Option (List ℕ)) (r : Refusal) → TellsFewCalls left → ((text : List ℕ) → left ≡ Some text → IsRefused text purpose.Run r ⊎ HasExcess text r) → ⊥
few_not_refused left r (text, w, told, accepted, few) refused = by (refused text told)
  where
    by : IsRefused text purpose.Run r ⊎ HasExcess text r → ⊥
    by (inl rule) = accepted_not_refused text purpose.Run w r accepted rule
    by (inr many) =
        let is : many.workload ≡ w = one_accepted text purpose.Run purpose.Run many.workload w many.accepted accepted in
        few_not_many w r few (subst (λ (v : s.Workload). IsExcess v r) is many.excess_is)

-- ---- certificates
-- a certificate that is short enough isn't too long
short_not_long : (w : s.Workload) (r : Refusal) → length (first_certificate w) ≤ certificate_limit → IsUncertified w r → ⊥
short_not_long w r short long = let above = long.long in omega (arith, short, above)

certificate_not_long : (old new : Option (List ℕ)) (output text : List ℕ) (r : Refusal) → OfText purpose.Treaty old new (λ w. IsCertificateLine w output) → old ≡ Some text → HasLongCertificate text r → ⊥
certificate_not_long old new output text r o told long =
    let same : text ≡ o.text = told_is_given old new text o.text told o.read in
    let is : long.workload ≡ o.workload = one_accepted o.text purpose.Treaty purpose.Treaty long.workload o.workload (subst (λ x. Accepts x purpose.Treaty long.workload) same long.accepted) o.accepted in
    short_not_long o.workload r o.holds.short (subst (λ (w : s.Workload). IsUncertified w r) is long.uncertified)

certified_not_refused : (left : Option (List ℕ)) (r : Refusal) → TellsCertified left → ((text : List ℕ) → left ≡ Some text → IsRefused text purpose.Treaty r ⊎ HasLongCertificate text r) → ⊥
certified_not_refused left r (text, w, told, accepted, short) refused = by (refused text told)
  where
    by : IsRefused text purpose.Treaty r ⊎ HasLongCertificate text r → ⊥
    by (inl rule) = accepted_not_refused text purpose.Treaty w r accepted rule
    by (inr long) =
        let is : long.workload ≡ w = one_accepted text purpose.Treaty purpose.Treaty long.workload w long.accepted accepted in
        short_not_long w r short (subst (λ (v : s.Workload). IsUncertified v r) is long.uncertified)

few_not_long : (bytes : List ℕ) (r : Refusal) → length (unended bytes) ≤ certificate_limit → IsUnverified bytes r → ⊥
few_not_long bytes r short long = let above = long.long in omega (arith, short, above)

verdict_not_long : (old new : Option (List ℕ)) (output bytes : List ℕ) (r : Refusal) → OfStream old new (λ given. IsVerdictLine given output) → old ≡ Some bytes → IsUnverified bytes r → ⊥
verdict_not_long old new output bytes r o told long =
    let same : bytes ≡ o.bytes = told_is_given old new bytes o.bytes told o.read in
    few_not_long o.bytes r o.holds.short (subst (λ x. IsUnverified x r) same long)

-- ---- commands
-- where the output was made, no refused bytes were told
pub made_not_refused : (command : Command) (old new : Option (List ℕ)) (output bytes : List ℕ) (r : Refusal) → IsMade command old new output → old ≡ Some bytes → IsRefusal command bytes r → ⊥
made_not_refused c.Steps old new output bytes r made told refused = text_not_refused purpose.Steps old new _ bytes r made told refused
made_not_refused c.Run old new output bytes r made told refused = text_not_refused purpose.Run old new _ bytes r made told refused
made_not_refused c.Tables old new output bytes r made told refused = text_not_refused purpose.Tables old new _ bytes r made told refused
made_not_refused c.Treaty old new output bytes r made told refused = text_not_refused purpose.Treaty old new _ bytes r made told refused
made_not_refused c.Serve old new output bytes r made told (out, stops) = stream_not_refused old new output bytes out r made told stops
made_not_refused c.Forecast old new output bytes r made told refused = text_not_refused purpose.Steps old new _ bytes r made told refused
made_not_refused c.Certify old new output bytes r made told (inl rule) = text_not_refused purpose.Treaty old new _ bytes r made told rule
made_not_refused c.Certify old new output bytes r made told (inr long) = certificate_not_long old new output bytes r made told long
made_not_refused c.Verify old new output bytes r made told refused = verdict_not_long old new output bytes r made told refused
made_not_refused (c.Wire number) old new output bytes r made told (inl rule) = text_not_refused purpose.Run old new _ bytes r made told rule
made_not_refused (c.Wire number) old new output bytes r made told (inr many) = text_not_many old new number output bytes r made told many
made_not_refused (c.Load number calls) old new output bytes r made told refused = refused

-- what can be done isn't refused
pub doable_not_refused : (command : Command) (left : Option (List ℕ)) (r : Refusal) → CanBeDone command left → IsRefusedUnder command left r → ⊥
doable_not_refused c.Steps left r can refused = text_doable purpose.Steps left r can refused.1
doable_not_refused c.Run left r can refused = text_doable purpose.Run left r can refused.1
doable_not_refused c.Tables left r can refused = text_doable purpose.Tables left r can refused.1
doable_not_refused c.Treaty left r can refused = text_doable purpose.Treaty left r can refused.1
doable_not_refused c.Serve left r (bytes, told, none) refused = let stops = refused.1 bytes told in none stops.0 r stops.1
doable_not_refused c.Forecast left r can refused = text_doable purpose.Steps left r can refused.1
doable_not_refused c.Certify left r can refused = certified_not_refused left r can refused.1
doable_not_refused c.Verify left r (bytes, told, short) refused = few_not_long bytes r short (refused.1 bytes told)
doable_not_refused (c.Wire number) left r can refused = few_not_refused left r can refused.1
doable_not_refused (c.Load number calls) left r can refused = refused.0 refl

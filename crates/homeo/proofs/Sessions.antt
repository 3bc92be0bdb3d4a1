-- What serving a stream says of the command.
use Rattle.std.proofs.Common.{◌≡◌, ◌∙◌, ◌++◌, ℕ, List, ◌∷◌, None, Some, sym, ap, subst, append_assoc, append-nil, inl, inr}
use Rattle.std.specs.declared.option.Option.{Option}
use Rattle.std.specs.Io.KnownBytes.{Consumes}
use Rattle.homeo_io.specs.Moved.{TookExactly}
use Rattle.homeo_syntax.specs.declared.workload.Refusal.{Refusal}
use Rattle.homeo_session.specs.Streams.{IsStopped, EndRefuses, Stops}
use Rattle.homeo_words.specs.declared.command.Command.TheVariants as c
use Rattle.homeo_commands.specs.Reading.{most_read}
use Rattle.homeo_commands.specs.Made.{CanBeDone, IsMade, IsRefusal, IsRefusedUnder}
use Rattle.homeo_commands.specs.Served.{StopsRead, ServedAll, ServedTo}
use Rattle.homeo.specs.Serving.{Serves}
use Rattle.homeo.specs.declared.status.Status.{Status as AnyStatus}
use Rattle.homeo.specs.declared.status.Status.TheVariants as Status
use Rattle.homeo_commands.proofs.Decided.{doable_not_refused, made_not_refused}

-- a stop of the first bytes is one of all
stop_more : (bytes more out : List ℕ) (r : Refusal) → IsStopped bytes out r → IsStopped (bytes ++ more) out r
stop_more bytes more out r h = record {
  before = h.before;
  byte = h.byte;
  after = h.after ++ more;
  are = ap (λ l. l ++ more) h.are ∙ append_assoc h.before (h.byte ∷ h.after) more;
  state = h.state;
  goes_on = h.goes_on;
  decides = h.decides;
}

-- what stops the bytes that were read stops those that the source told
stops_told : (left left' : Option (List ℕ)) (told bytes out : List ℕ) (r : Refusal) → left ≡ Some told → Consumes left left' bytes → StopsRead left' bytes out r → Stops told out r
stops_told None left' told bytes out r e gave stops = absurd (cc)
stops_told (Some xs) None told bytes out r e gave stops = absurd gave
stops_told (Some xs) (Some ys) told bytes out r e gave (inl stop) =
    let same : xs ≡ told = cc in
    inl (subst (λ l. IsStopped l out r) (sym gave ∙ same) (stop_more bytes ys out r stop))
stops_told (Some xs) (Some ys) told bytes out r e gave (inr (at_end, nothing, end)) =
    let same : xs ≡ told = cc in
    inr (nothing, subst (λ l. EndRefuses l r) (sym (append-nil bytes) ∙ ap (λ l. bytes ++ l) (sym at_end) ∙ sym gave ∙ same) end)

-- the source's stream is refused so
pub refused_under : (left left' taken taken' : Option (List ℕ)) (r : Refusal) → ServedTo r left left' taken taken' → IsRefusedUnder c.Serve left r
refused_under left left' taken taken' r (bytes, out, gave, stops, took) = (λ e. cc, λ told is. (out, stops_told left left' told bytes out r is gave stops))

-- and isn't one that can be done
pub stopped_not_doable : (left left' taken taken' : Option (List ℕ)) (r : Refusal) → ServedTo r left left' taken taken' → CanBeDone c.Serve left → ⊥
stopped_not_doable left left' taken taken' r to can = doable_not_refused c.Serve left r can (refused_under left left' taken taken' r to)

-- what was served to its end is the output
pub made_all : (left left' taken taken' : Option (List ℕ)) → ServedAll left left' taken taken' → (output : List ℕ) × IsMade c.Serve left left' output × TookExactly taken taken' output
made_all left left' taken taken' (bytes, out, gave, served, took) = (out, record { bytes = bytes; read = gave; holds = served }, took)

pub served_not_refused : (left left' taken taken' : Option (List ℕ)) (bytes : List ℕ) (r : Refusal) → ServedAll left left' taken taken' → left ≡ Some bytes → IsRefusal c.Serve bytes r → ⊥
served_not_refused left left' taken taken' bytes r all told refused =
    let made = made_all left left' taken taken' all in
    made_not_refused c.Serve left left' made.0 bytes r made.1 told refused

-- ---- by the status

pub serves_as : (result status : AnyStatus) (left left' taken taken' : Option (List ℕ)) → result ≡ status → Serves status left left' taken taken' → Serves result left left' taken taken'
serves_as result status left left' taken taken' is served = subst (λ s. Serves s left left' taken taken') (sym is) served

-- a session reads something
pub reads_some : most_read c.Serve ≡ 0 → ⊥
reads_some e = cc

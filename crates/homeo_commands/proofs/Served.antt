-- What serving keeps from piece to piece.
use Rattle.std.proofs.Common.{◌≡◌, ◌∙◌, ◌⊎◌, ◌+◌, ◌-◌, ◌<◌, ◌≤◌, ℕ, false, List, [], ◌∷◌, ◌++◌, length, refl, sym, ap, subst, arith, append-nil, length-append, inl, inr, None, Some}
use Rattle.std.specs.declared.option.Option.{Option}
use Rattle.std.specs.Io.KnownBytes.{Consumes, Appends}
use Rattle.std.proofs.KnownBytes.{Consumes-trans}
use Rattle.homeo_io.specs.Moved.{GaveAtMost}
use Rattle.homeo_syntax.specs.declared.workload.Refusal.{Refusal}
use Rattle.homeo_session.proofs.Streaming.{fronts, behind, stops_there}
use Rattle.homeo_session.proofs.Taking.{nothing_taken}
use Rattle.homeo_session.specs.Streams.{State, SessionValue, begun, IsAfter, IsStopped, stream_limit}
use Rattle.homeo_commands.specs.Reading.{piece_limit}
use Rattle.homeo_commands.specs.Served.{AnswersEarly}

pub record HasServed {S O : Type 0} (left : S → Option (List ℕ)) (faults : S → ℕ) (taken : O → Option (List ℕ)) (failed : O → ℕ)
    (s0 s : S) (o0 o : O) (session : SessionValue) : Type 0 where
  pub bytes : List ℕ
  pub sent : List ℕ
  pub goes_on : IsAfter bytes sent session.state
  pub usable : session.spent ≡ false
  pub gave : Consumes (left s0) (left s) bytes
  pub took : Appends (taken o0) (taken o) sent
  pub read_faults : faults s0 ≤ faults s
  pub write_faults : failed o0 ≤ failed o

-- all that was read was answered
pub whole_early : (bytes out : List ℕ) (s : State) → IsAfter bytes out s → AnswersEarly bytes out
whole_early bytes out s h = record { early = bytes; late = []; are = sym (append-nil bytes); few = omega arith; state = s; goes_on = h }

-- all but the last piece was
pub piece_early : (bytes piece out : List ℕ) (s : State) → IsAfter bytes out s → length piece ≤ piece_limit → AnswersEarly (bytes ++ piece) out
piece_early bytes piece out s h few = record { early = bytes; late = piece; are = refl; few = few; state = s; goes_on = h }

-- ---- reads
-- the measure of the loop falls
pub falls :
    (bytes sent piece out : List ℕ) (s t : State) → IsAfter bytes sent s → IsAfter (bytes ++ piece) out t → 0 < length piece →
    stream_limit - t.count < stream_limit - s.count
falls bytes sent piece out s t h k some =
    let old = h.counted in
    let new = k.counted in
    let all = k.within in
    omega (arith, length-append bytes piece)

-- ---- a stop within a piece
pub stop_late : (bytes sent piece out : List ℕ) (s : State) (r : Refusal) → IsAfter bytes sent s → length piece ≤ piece_limit → IsStopped (bytes ++ piece) out r → AnswersEarly (bytes ++ piece) out
stop_late bytes sent piece out s r h few k = record {
  early = k.before;
  late = k.byte ∷ k.after;
  are = k.are;
  few = late_few (fronts k.before bytes (k.byte ∷ k.after) piece (sym k.are));
  state = k.state;
  goes_on = k.goes_on;
}
  where
    sizes : length bytes + length piece ≡ length k.before + length (k.byte ∷ k.after)
    sizes = sym (length-append bytes piece) ∙ ap length k.are ∙ length-append k.before (k.byte ∷ k.after)

    late_few : ((z : List ℕ) × (bytes ≡ k.before ++ z)) ⊎ ((z : List ℕ) × (k.before ≡ bytes ++ z)) → length (k.byte ∷ k.after) ≤ piece_limit
    late_few (inr (z, is)) = let same = sizes in omega (arith, ap length is, length-append bytes z)
    late_few (inl ([], is)) = let same = sizes in omega (arith, ap length is, length-append k.before [])
    late_few (inl (c ∷ z, is)) =
        let byte : k.byte ≡ c = behind k.before z k.after piece k.byte c (sym k.are ∙ ap (λ l. l ++ piece) is) in
        absurd (stops_there k.before z out sent k.byte k.state s r k.goes_on k.decides
        (subst (λ b. IsAfter (k.before ++ b ∷ z) sent s) (sym byte) (subst (λ l. IsAfter l sent s) is h)))

-- ---- what the end answers
pub begins_early : AnswersEarly [] []
begins_early = whole_early [] [] begun nothing_taken

-- what was answered of a piece, whether it stopped the session or not
pub owed :
    (bytes sent piece out : List ℕ) (s t : State) (o : Option Refusal) → IsAfter bytes sent s → length piece ≤ piece_limit →
    (o ≡ None → IsAfter (bytes ++ piece) out t) → ((r : Refusal) → o ≡ Some r → IsStopped (bytes ++ piece) out r) → AnswersEarly (bytes ++ piece) out
owed bytes sent piece out s t None h few goes_on stops = whole_early (bytes ++ piece) out t (goes_on refl)
owed bytes sent piece out s t (Some r) h few goes_on stops = stop_late bytes sent piece out s r h few (stops r refl)

-- ---- what was read
pub read_before : (left left' : Option (List ℕ)) (bytes out : List ℕ) (s : State) → IsAfter bytes out s → Consumes left left' bytes → GaveAtMost left left' (stream_limit + piece_limit)
read_before left left' bytes out s h gave = (bytes, (let within = h.within in omega arith), gave)

pub read_piece :
    (left mid left' : Option (List ℕ)) (bytes piece out : List ℕ) (s : State) → IsAfter bytes out s → Consumes left mid bytes → Consumes mid left' piece → length piece ≤ piece_limit →
    GaveAtMost left left' (stream_limit + piece_limit)
read_piece left mid left' bytes piece out s h gave next few =
    (bytes ++ piece, (let within = h.within in omega (arith, length-append bytes piece)), Consumes-trans left mid left' bytes piece gave next)

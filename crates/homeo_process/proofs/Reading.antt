-- What a run keeps from piece to piece.
use Rattle.std.proofs.Common.{◌≡◌, ◌∙◌, ◌+◌, ◌≤◌, ℕ, false, List, [], ◌++◌, length, take, refl, sym, ap, subst, arith, append-nil, length-append}
use Rattle.std.specs.declared.option.Option.{Option}
use Rattle.std.specs.Io.KnownBytes.{Consumes, Appends}
use Rattle.std.proofs.KnownBytes.{Consumes-trans, Appends-trans}
use Rattle.std.proofs.Math.Seq.{take-append-add}
use Rattle.homeo_io.specs.Moved.{TookExactly, TookPrefix}
use Rattle.homeo_process.specs.Serving.{IsEarly, WroteAll, WroteEarly, WroteSome, piece_limit}
use Rattle.homeo_process.specs.Streams.{IsSoFar}
use Rattle.homeo_process.specs.declared.process.Ending.{Ending}
use Rattle.homeo_process.specs.declared.process.Ending.TheVariants as e
use Rattle.homeo_process.specs.inner.Endings.{Wrote}
use Rattle.homeo_process.specs.inner.Feeds.{FeedValue, has_begun, IsAfter}
use Rattle.homeo_process.proofs.Feeding.{so_far, gives}

pub record HasRead {S O : Type 0} (left : S → Option (List ℕ)) (taken : O → Option (List ℕ)) (failed : O → ℕ) (s0 s : S) (o0 o : O) (feed : FeedValue) (answers : List ℕ) : Type 0 where
  pub bytes : List ℕ
  pub given : List ℕ
  pub after : IsAfter bytes given feed
  pub none : answers ≡ []
  pub gave : Consumes (left s0) (left s) bytes
  pub took : TookExactly (taken o0) (taken o) given
  pub quiet : has_begun feed ≡ false → o ≡ o0
  pub faults : failed o0 ≤ failed o

pub after_so_far : (bytes given : List ℕ) (f : FeedValue) → IsAfter bytes given f → IsSoFar bytes
after_so_far bytes given f h = so_far bytes given f.text f.lines h

-- all that was read was taken, or all but the last piece
pub whole_early : (bytes given : List ℕ) (f : FeedValue) → IsAfter bytes given f → IsEarly bytes
whole_early bytes given f h = record { early = bytes; late = []; are = sym (append-nil bytes); few = omega arith; so_far = after_so_far bytes given f h }

pub piece_early : (bytes given piece : List ℕ) (f : FeedValue) → IsAfter bytes given f → length piece ≤ piece_limit → IsEarly (bytes ++ piece)
piece_early bytes given piece f h few = record { early = bytes; late = piece; are = refl; few = few; so_far = after_so_far bytes given f h }

-- ---- what was written
pub wrote_all : (a b c d : Option (List ℕ)) (bytes given : List ℕ) (f : FeedValue) → IsAfter bytes given f → Consumes a b bytes → TookExactly c d given → WroteAll a b c d
wrote_all a b c d bytes given f h gave took = (bytes, gave, given, gives bytes given f.text f.lines h, took)

pub wrote_early : (a b c d : Option (List ℕ)) (bytes given piece : List ℕ) (f : FeedValue) → IsAfter bytes given f → Consumes a b (bytes ++ piece) → length piece ≤ piece_limit →
    TookExactly c d given → WroteEarly a b c d
wrote_early a b c d bytes given piece f h gave few took = record {
  early = bytes;
  late = piece;
  gave = gave;
  few = few;
  written = given;
  gives = gives bytes given f.text f.lines h;
  took = took;
}

-- a part of what is given by a piece
pub wrote_some : (a b c d e : Option (List ℕ)) (bytes given more answers : List ℕ) (f : FeedValue) → IsAfter bytes (given ++ more) f → Consumes a b bytes → TookExactly c d given →
    answers ≡ more → TookPrefix d e answers → WroteSome a b c e
wrote_some a b c d e bytes given more answers f h gave took same (n, few, part) =
    let all : Appends c e (given ++ take n more) = Appends-trans c d e given (take n more) took (subst (λ l. Appends d e (take n l)) same part) in (
      bytes,
      gave,
      given ++ more,
      gives bytes (given ++ more) f.text f.lines h,
      (length given + n, omega (arith, length-append given more, ap length same), subst (Appends c e) (sym (take-append-add given more n)) all),
    )

-- where the source has ended
pub wrote_at_end : (ending : Ending) (a b c d : Option (List ℕ)) (bytes given : List ℕ) (f : FeedValue) → IsAfter bytes given f → Consumes a b bytes → TookExactly c d given →
    (ending ≡ e.ReadFault → ⊥) × (ending ≡ e.WriteFault → ⊥) → Wrote ending a b c d
wrote_at_end e.Done a b c d bytes given f h gave took other = wrote_all a b c d bytes given f h gave took
wrote_at_end (e.Refused r) a b c d bytes given f h gave took other =
    wrote_early a b c d bytes given [] f h (subst (Consumes a b) (sym (append-nil bytes)) gave) (omega arith) took
wrote_at_end e.Memory a b c d bytes given f h gave took other =
    wrote_early a b c d bytes given [] f h (subst (Consumes a b) (sym (append-nil bytes)) gave) (omega arith) took
wrote_at_end e.ReadFault a b c d bytes given f h gave took other = absurd (other.0 refl)
wrote_at_end e.WriteFault a b c d bytes given f h gave took other = absurd (other.1 refl)

-- A pass after an answer, over plain data.
use Rattle.std.proofs.Common.{◌≡◌, ℕ, suc, ◌+◌, List, [], ◌∷◌, ◌++◌, length, map, refl, sym, ap, subst, ◌∙◌, arith}
use Rattle.std.specs.List.{range_with_len}
use Rattle.std.proofs.lemmas.List.{map-append, length_push}
use Rattle.std.proofs.lemmas.List.Elements.{All-push}
use Rattle.homeo_lemmas.proofs.Lists.{range_more}
use Rattle.homeo_notes.specs.Lines.{Held, HasSeen, list_at}
use Rattle.homeo_syntax.specs.Source as s
use Rattle.homeo_history.specs.Legal.{call_count}
use Rattle.homeo_cluster.specs.Passes.{IsPass}
use Rattle.homeo_history.specs.Answers.{Answer}
use Rattle.homeo_assembly.specs.Written.{written}
use Rattle.homeo_cluster.specs.inner.Grows.{Grew}
use Rattle.homeo_cluster.specs.Places.{asked_line, done_line}
use Rattle.homeo_cluster.proofs.Grows.{grew_same, grew_owner_same}

numbered_more : (log : List Answer) (a : Answer) → a.seq ≡ suc (length log) → map (λ x. x.seq) log ≡ range_with_len 1 (length log) → map (λ x. x.seq) (log ++ a ∷ []) ≡ range_with_len 1 (length (log ++ a ∷ []))
numbered_more log a seq e =
    let number : a.seq ≡ 1 + length log = omega (arith, seq) in
    let long : length (log ++ a ∷ []) ≡ length log + 1 = length_push log a in
    let many : suc (length log) ≡ length (log ++ a ∷ []) = omega (arith, long) in
    map-append (λ (x : Answer). x.seq) log (a ∷ [])
    ∙ ap (λ ns. ns ++ a.seq ∷ []) e
    ∙ ap (λ n. range_with_len 1 (length log) ++ n ∷ []) number
    ∙ sym (range_more 1 (length log))
    ∙ ap (range_with_len 1) many

pub pass_more : (w : s.Workload) (client left left' : ℕ) (log log' : List Answer) (h h' : Held) (a : Answer)
    → IsPass w record { client = client; left = left; log = log; held = h }
    → left' + 1 ≡ left → log' ≡ log ++ a ∷ [] → a.client ≡ client → a.seq ≡ suc (length log)
    → Grew h h' (asked_line client) (written a) → HasSeen h' (done_line w client) (list_at h' (asked_line client))
    → IsPass w record { client = client; left = left'; log = log'; held = h' }
pass_more w client left left' log log' h h' a is fewer items own seq g seen =
    let long : length (log ++ a ∷ []) ≡ length log + 1 = length_push log a in
    let all : length log + left ≡ call_count w client = is.logged.all in
    subst (λ l. IsPass w record { client = client; left = left'; log = l; held = h' }) (sym items) record {
      logged = record {
        there = is.logged.there;
        all = omega (arith, long, all, fewer);
        own = All-push (λ (x : Answer). x.client ≡ client) log a is.logged.own own;
        numbered = numbered_more log a seq is.logged.numbered;
      };
      holds = record {
        owns = grew_owner_same h h' (asked_line client) (asked_line client) (written a) g refl;
        asked = grew_same h h' (asked_line client) (asked_line client) (written a) g refl ∙ (ap (λ xs. xs ++ written a ∷ []) is.holds.asked ∙ sym (map-append written log (a ∷ [])));
        seen = seen;
      };
    }

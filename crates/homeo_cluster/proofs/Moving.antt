-- While the entries of one site go over into the book, over plain data.
use Rattle.homeo_history.specs.Key.{definitions as history_definitions}
use Rattle.std.proofs.Common.{◌≡◌, ◌≢◌, ℕ, suc, ◌+◌, ◌<◌, ◌≤◌, [], ◌∷◌, ◌++◌, length, map, take, drop, eqb, Some, refl, sym, ap, subst, ◌∙◌, arith}
use Rattle.std.specs.Prelude.{slice_get}
use Rattle.std.proofs.lemmas.List.{map-append, length-map, length-append, take-append-drop}
use Rattle.std.proofs.lemmas.List.Elements.{filter-append}
use mathlib.Core.Logic.{dite}
use native.Mathlib.Decide.{ℕ_discrete}
use Rattle.homeo_lemmas.proofs.Places.{All-get}
use Rattle.homeo_notes.specs.Lines.{Held, Entry, HasSeen, list_at, seen_at}
use Rattle.homeo_syntax.specs.Source as s
use Rattle.homeo_history.specs.History.{Entry as Made}
use Rattle.homeo_history.specs.Legal.{call_count, IsClientAt, IsCallAt}
use Rattle.homeo_site.specs.SiteState.{SiteState}
use Rattle.homeo_assembly.specs.Key.{definitions}
use Rattle.homeo_history.specs.Answers.{Answer, local_answer, answers_to}
use Rattle.homeo_assembly.specs.Facts.{SiteFacts}
use Rattle.homeo_assembly.specs.Written.{written, read}
use Rattle.homeo_history.proofs.Exists.{client_lt}
use Rattle.homeo_history.proofs.ClientAnswers.{client_at}
use Rattle.homeo_assembly.proofs.MovedEntries.{moving}
use Rattle.homeo_notes.proofs.Prefixes.{prefix_self}
use Rattle.homeo_cluster.specs.Key.{places}
use Rattle.homeo_cluster.specs.inner.Grows.{Grew}
use Rattle.homeo_cluster.specs.Places.{kept_line, done_line, shut_line, at_line, bases_line}
use Rattle.homeo_cluster.specs.inner.Cells.{HoldsAt, KeepsFor, site_lists, answers_at}
use Rattle.homeo_cluster.specs.inner.Moves.{KeepsEach, KeepsOthers, ArePairs, IsMoving, AreShort}
use Rattle.homeo_cluster.proofs.Apart.{AreApart, apart}
use Rattle.homeo_cluster.proofs.Grows.{grew_same, grew_owner_same, grew_owner_other, grew_list_other, grew_seen}
use Rattle.homeo_cluster.proofs.Renewals.{moved_more, holds_shut}

-- the book's lines are apart
kept_apart : (w : s.Workload) (c d : ℕ) → kept_line w c ≡ kept_line w d → c ≡ d
unfolding places
kept_apart w c d e = omega (arith, e)

pub bases_apart : (w : s.Workload) (c : ℕ) → c < length w.clients → bases_line w ≡ kept_line w c → ⊥
unfolding places
bases_apart w c lt e = omega (arith, lt, e)

-- the book's holder after the list `kept` of one client grew
pub keeps_kept : (w : s.Workload) (client : ℕ) (h h' : Held) (e : Entry) → KeepsEach w h → client < length w.clients
    → Grew h h' (kept_line w client) e → HasSeen h' (shut_line w client) (list_at h' (kept_line w client)) → KeepsEach w h'
keeps_kept w client h h' e is own g seen =
    let other : bases_line w ≢ kept_line w client = bases_apart w client own in record {
      owns = grew_owner_other h h' (kept_line w client) (bases_line w) e g other is.owns;
      each = λ c lt. let was : KeepsFor w h c = is.each c lt in dite (ℕ_discrete c client)
          (λ same. record {
            owns = grew_owner_same h h' (kept_line w client) (kept_line w c) e g (ap (kept_line w) same);
            seen = subst (λ n. HasSeen h' (shut_line w n) (list_at h' (kept_line w n))) (sym same) seen;
          })
          (λ apart. let line : kept_line w c ≢ kept_line w client = (λ q. apart (kept_apart w c client q)) in record {
            owns = grew_owner_other h h' (kept_line w client) (kept_line w c) e g line was.owns;
            seen = subst (HasSeen h' (shut_line w c)) (sym (grew_list_other h h' (kept_line w client) (kept_line w c) e g line)) (grew_seen h h' (kept_line w client) (shut_line w c) e (list_at h (kept_line w c)) g was.seen);
          });
    }

-- and what it keeps of others
pub others_kept : (w : s.Workload) (site client : ℕ) (b0 b b' : Held) (e : Entry) → KeepsOthers w site b0 b → IsClientAt w site client
    → Grew b b' (kept_line w client) e → HasSeen b' (shut_line w client) (list_at b' (kept_line w client)) → KeepsOthers w site b0 b'
others_kept w site client b0 b b' e is own g seen =
    let there : client < length w.clients = client_lt w site client own in record {
      book = keeps_kept w client b b' e is.book there g seen;
      bases = grew_list_other b b' (kept_line w client) (bases_line w) e g (bases_apart w client there) ∙ is.bases;
      others = λ c away. grew_list_other b b' (kept_line w client) (kept_line w c) e g (λ q. away (subst (IsClientAt w site) (sym (kept_apart w c client q)) own)) ∙ is.others c away;
      seen = λ i. grew_seen b b' (kept_line w client) i e (seen_at b0 i) g (is.seen i);
    }

-- a pair after both of its lists got one entry
pub pairs_more : (w : s.Workload) (site client : ℕ) (h h' b b' : Held) (e : Entry) → ArePairs w site h b → IsClientAt w site client
    → Grew h h' (shut_line w client) e → Grew b b' (kept_line w client) e → ArePairs w site h' b'
pairs_more w site client h h' b b' e is own g f =
    let lines : AreApart w site = apart w site in
    λ c here. dite (ℕ_discrete c client)
    (λ same. subst (λ m. answers_at h' m (shut_line w m) ≡ answers_at b' m (kept_line w m)) (sym same)
    (ap (map (read client)) (grew_same h h' (shut_line w client) (shut_line w client) e g refl)
    ∙ map-append (read client) (list_at h (shut_line w client)) (e ∷ [])
    ∙ ap (λ xs. xs ++ read client e ∷ []) (is client own)
    ∙ sym (map-append (read client) (list_at b (kept_line w client)) (e ∷ []))
    ∙ sym (ap (map (read client)) (grew_same b b' (kept_line w client) (kept_line w client) e f refl))))
    (λ other. ap (map (read c)) (grew_list_other h h' (shut_line w client) (shut_line w c) e g (λ q. other (lines.shut c client here own q)))
    ∙ is c here ∙ sym (ap (map (read c)) (grew_list_other b b' (kept_line w client) (kept_line w c) e f (λ q. other (kept_apart w c client q)))))

-- one entry more
pub moving_more : (w : s.Workload) (x : SiteState) (h0 b0 h h' b b' : Held) (k : ℕ) (e : Made)
    → SiteFacts w x (site_lists w x.number h0) → IsClientAt w x.number e.call.client → slice_get x.segment k ≡ Some e
    → Grew h h' (shut_line w e.call.client) (written (local_answer x.round x.number e)) → Grew b b' (kept_line w e.call.client) (written (local_answer x.round x.number e))
    → HasSeen h' (kept_line w e.call.client) (list_at h' (shut_line w e.call.client)) → HasSeen b' (shut_line w e.call.client) (list_at b' (kept_line w e.call.client))
    → IsMoving w x k h0 b0 h b → IsMoving w x (suc k) h0 b0 h' b'
moving_more w x h0 b0 h h' b b' k e facts own at g f seen_h seen_b is =
    let n = x.number in
    let d = e.call.client in
    let entry : Entry = written (local_answer x.round x.number e) in
    let lines : AreApart w n = apart w n in record {
      moved = moved_more w x h0 h h' k e facts own at is.moved g;
      at = grew_list_other h h' (shut_line w d) (at_line w n) entry g (lines.at_shut d own) ∙ is.at;
      done = λ c here. grew_list_other h h' (shut_line w d) (done_line w c) entry g (lines.mixed c d here own) ∙ is.done c here;
      holds = holds_shut w n d h h' entry is.holds own g seen_h;
      pairs = pairs_more w n d h h' b b' entry is.pairs own g f;
      keeps = others_kept w n d b0 b b' entry is.keeps own f seen_b;
    }

-- none so far
pub moving_none : (w : s.Workload) (x : SiteState) (h b : Held) → SiteFacts w x (site_lists w x.number h) → HoldsAt w x.number h → KeepsEach w b
    → ArePairs w x.number h b → IsMoving w x 0 h b h b
unfolding definitions
moving_none w x h b facts holds book pairs = record {
  moved = (moving w x (site_lists w x.number h) facts).none;
  at = refl;
  done = λ c own. refl;
  holds = holds;
  pairs = pairs;
  keeps = record { book = book; bases = refl; others = λ c away. refl; seen = λ i. prefix_self (seen_at b i) };
}

-- what has gone over so far is no longer than all that was done
moved_short : (w : s.Workload) (x : SiteState) (k : ℕ) (h0 b0 h b : Held) (client : ℕ) → SiteFacts w x (site_lists w x.number h0) → IsMoving w x k h0 b0 h b
    → IsClientAt w x.number client → length (list_at b (kept_line w client)) ≤ length (list_at h0 (done_line w client))
unfolding definitions history_definitions
moved_short w x k h0 b0 h b client facts is own =
    let f : Made → Answer = local_answer x.round x.number in
    let first : length (list_at b (kept_line w client)) ≡ length (list_at h (shut_line w client)) =
    sym (length-map (list_at b (kept_line w client)) (read client)) ∙ ap length (sym (is.pairs client own)) ∙ length-map (list_at h (shut_line w client)) (read client) in
    let now : length (list_at h (shut_line w client)) ≡ length ((site_lists w x.number h0).shut client ++ answers_to client (map f (take k x.segment))) =
    sym (length-map (list_at h (shut_line w client)) (read client)) ∙ ap length (is.moved client own) in
    let all : length (list_at h0 (done_line w client)) ≡ length ((site_lists w x.number h0).shut client ++ answers_to client (map f x.segment)) =
    sym (length-map (list_at h0 (done_line w client)) (read client)) ∙ ap length (facts.serves client own).answered in
    let parts : length (answers_to client (map f x.segment)) ≡ length (answers_to client (map f (take k x.segment))) + length (answers_to client (map f (drop k x.segment))) =
    ap (λ es. length (answers_to client (map f es))) (sym (take-append-drop k x.segment))
    ∙ ap (λ given. length (answers_to client given)) (map-append f (take k x.segment) (drop k x.segment))
    ∙ ap length (filter-append (λ (a : Answer). eqb a.client client) (map f (take k x.segment)) (map f (drop k x.segment)))
    ∙ length-append (answers_to client (map f (take k x.segment))) (answers_to client (map f (drop k x.segment))) in
    let one = length-append ((site_lists w x.number h0).shut client) (answers_to client (map f (take k x.segment))) in
    let two = length-append ((site_lists w x.number h0).shut client) (answers_to client (map f x.segment)) in
    omega (arith, first, now, all, parts, one, two)

pub moving_room : (w : s.Workload) (x : SiteState) (k : ℕ) (h0 b0 h b : Held) (client : ℕ) → SiteFacts w x (site_lists w x.number h0) → AreShort w x.number h0
    → IsMoving w x k h0 b0 h b → IsClientAt w x.number client → length (list_at b (kept_line w client)) ≤ call_count w client
moving_room w x k h0 b0 h b client facts short is own =
    let a = moved_short w x k h0 b0 h b client facts is own in
    let b = short client own in
    omega (arith, a, b)

-- an entry of the segment is of a client of the site
pub own_entry : (w : s.Workload) (x : SiteState) (h : Held) (k : ℕ) (e : Made) → SiteFacts w x (site_lists w x.number h) → slice_get x.segment k ≡ Some e → IsClientAt w x.number e.call.client
own_entry w x h k e facts at = client_at w e.call x.number (All-get (λ (m : Made). IsCallAt w x.number m.call) x.segment k e facts.holds.calls at).at_site

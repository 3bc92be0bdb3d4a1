-- A site in the next round: its entries and the closing answer have gone over, and it has the next base, over plain data.
use Rattle.homeo_assembly.specs.Key.{definitions}
use Rattle.std.proofs.Common.{◌≡◌, ◌≢◌, ℕ, List, [], ◌∷◌, ◌++◌, map, length, refl, sym, ap, subst, ◌∙◌}
use Rattle.std.specs.Prelude.{ℤ}
use Rattle.homeo_notes.specs.Lines.{Held, Entry, HasSeen, list_at}
use Rattle.homeo_syntax.specs.Source as s
use Rattle.homeo_history.specs.Answers.{Answer, answers_to}
use Rattle.homeo_history.specs.Legal.{IsClientAt}
use Rattle.homeo_site.specs.SiteState.{SiteState}
use Rattle.homeo_assembly.specs.Events.{IsNext, Renews}
use Rattle.homeo_assembly.specs.Facts.{SiteFacts}
use Rattle.homeo_assembly.specs.Written.{read}
use Rattle.homeo_assembly.proofs.MovedEntries.{moving}
use Rattle.homeo_cluster.specs.inner.Cells.{HoldsAt, HoldsFor, KeepsFor, site_lists, answers_at}
use Rattle.homeo_cluster.specs.Places.{asked_line, kept_line, done_line, shut_line, at_line, bases_line}
use Rattle.homeo_cluster.specs.inner.Grows.{Grew, Rose}
use Rattle.homeo_cluster.specs.inner.Moves.{KeepsEach, KeepsOthers, ArePairs, IsMoving}
use Rattle.homeo_cluster.specs.inner.Renewed.{IsGiven}
use Rattle.homeo_cluster.proofs.Apart.{AreApart, apart}
use Rattle.homeo_cluster.proofs.Giving.{others_then}
use Rattle.homeo_cluster.proofs.Grows.{rose_list, rose_owner, rose_seen, grew_same, grew_owner_same, grew_owner_other, grew_list_other, grew_seen}

-- the book's holder after it learnt something
pub rose_each : (w : s.Workload) (b b' : Held) → KeepsEach w b → Rose b b' → KeepsEach w b'
rose_each w b b' is r = record {
  owns = rose_owner b b' (bases_line w) r is.owns;
  each = λ c lt. let was : KeepsFor w b c = is.each c lt in record {
    owns = rose_owner b b' (kept_line w c) r was.owns;
    seen = subst (HasSeen b' (shut_line w c)) (sym (rose_list b b' (kept_line w c) r)) (rose_seen b b' (shut_line w c) (list_at b (kept_line w c)) r was.seen);
  };
}

pub rose_others : (w : s.Workload) (site : ℕ) (b b' : Held) → KeepsEach w b → Rose b b' → KeepsOthers w site b b'
rose_others w site b b' is r = record {
  book = rose_each w b b' is r;
  bases = rose_list b b' (bases_line w) r;
  others = λ c away. rose_list b b' (kept_line w c) r;
  seen = r.seen;
}

-- the site's holder after its list of bases grew
pub holds_at_more : (w : s.Workload) (site : ℕ) (h h' : Held) (e : Entry) → HoldsAt w site h → Grew h h' (at_line w site) e
    → HasSeen h' (bases_line w) (list_at h' (at_line w site)) → HoldsAt w site h'
holds_at_more w site h h' e is g seen =
    let lines : AreApart w site = apart w site in record {
      owns = grew_owner_same h h' (at_line w site) (at_line w site) e g refl;
      seen = seen;
      each = λ c at.
          let was : HoldsFor w h c = is.each c at in
          let done_other : done_line w c ≢ at_line w site = (λ q. lines.at_done c at (sym q)) in
          let shut_other : shut_line w c ≢ at_line w site = (λ q. lines.at_shut c at (sym q)) in record {
            owns_done = grew_owner_other h h' (at_line w site) (done_line w c) e g done_other was.owns_done;
            owns_shut = grew_owner_other h h' (at_line w site) (shut_line w c) e g shut_other was.owns_shut;
            seen_asked = subst (HasSeen h' (asked_line c)) (sym (grew_list_other h h' (at_line w site) (done_line w c) e g done_other)) (grew_seen h h' (at_line w site) (asked_line c) e (list_at h (done_line w c)) g was.seen_asked);
            seen_kept = subst (HasSeen h' (kept_line w c)) (sym (grew_list_other h h' (at_line w site) (shut_line w c) e g shut_other)) (grew_seen h h' (at_line w site) (kept_line w c) e (list_at h (shut_line w c)) g was.seen_kept);
          };
    }

module _ (w : s.Workload) (x : SiteState) (next : List ℤ) (a : Answer) (h0 h1 h2 h3 b0 b1 b2 b3 : Held)
    (facts : SiteFacts w x (site_lists w x.number h0)) (is_next : IsNext w x.number a (site_lists w x.number h0).done)
    (moved : IsMoving w x (length x.segment) h0 b0 h1 b1) (given : IsGiven w x.number a h1 b1 h2 b2)
    (grew : Grew h2 h3 (at_line w x.number) next) (rose : Rose b2 b3)
    (seen : HasSeen h3 (bases_line w) (list_at h3 (at_line w x.number))) where
  lines : AreApart w x.number
  lines = apart w x.number

  done_is : (client : ℕ) → IsClientAt w x.number client → answers_at h3 client (done_line w client) ≡ answers_at h0 client (done_line w client) ++ answers_to client (a ∷ [])
  unfolding definitions
  done_is client at =
      ap (map (read client)) (grew_list_other h2 h3 (at_line w x.number) (done_line w client) next grew (λ q. lines.at_done client at (sym q)))
      ∙ given.done client at
      ∙ ap (λ es. map (read client) es ++ answers_to client (a ∷ [])) (moved.done client at)

  shut_is : (client : ℕ) → IsClientAt w x.number client → answers_at h3 client (shut_line w client) ≡ answers_at h1 client (shut_line w client) ++ answers_to client (a ∷ [])
  unfolding definitions
  shut_is client at =
      ap (map (read client)) (grew_list_other h2 h3 (at_line w x.number) (shut_line w client) next grew (λ q. lines.at_shut client at (sym q)))
      ∙ given.shut client at

  pub renews : Renews w next x a (site_lists w x.number h0) (site_lists w x.number h3)
  unfolding definitions
  renews =
      let m = moving w x (site_lists w x.number h0) facts in record {
        next = is_next;
        at =
            grew_same h2 h3 (at_line w x.number) (at_line w x.number) next grew refl
            ∙ ap (λ xs. xs ++ next ∷ []) (given.at ∙ moved.at);
        done = done_is;
        shut = m.closing a (site_lists w x.number h1).shut (site_lists w x.number h3).shut (site_lists w x.number h3).done
            (m.all (site_lists w x.number h1).shut moved.moved) shut_is done_is;
      }

  pub holds : HoldsAt w x.number h3
  holds = holds_at_more w x.number h2 h3 next given.holds grew seen

  pub pairs : ArePairs w x.number h3 b3
  pairs client at =
      ap (map (read client)) (grew_list_other h2 h3 (at_line w x.number) (shut_line w client) next grew (λ q. lines.at_shut client at (sym q)))
      ∙ given.pairs client at ∙ sym (ap (map (read client)) (rose_list b2 b3 (kept_line w client) rose))

  pub keeps : KeepsOthers w x.number b0 b3
  keeps =
      others_then w x.number b0 b2 b3 (others_then w x.number b0 b1 b2 moved.keeps given.keeps) (rose_others w x.number b2 b3 given.keeps.book rose)

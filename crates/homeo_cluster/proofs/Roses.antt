-- What the types keep stays where a holder has learnt something.
use Rattle.homeo_assembly.specs.Key.{definitions}
use Rattle.std.proofs.Common.{◌≡◌, ℕ, List, [], map, sym, ap, subst, ◌∙◌}
use Rattle.std.specs.Prelude.{ℤ}
use Rattle.homeo_notes.specs.Lines.{Held, HasSeen, list_at}
use Rattle.homeo_syntax.specs.Source as s
use Rattle.homeo_cluster.specs.Passes.{IsPass}
use Rattle.homeo_history.specs.History.{Round}
use Rattle.homeo_history.specs.Answers.{Answer}
use Rattle.homeo_assembly.specs.Facts.{SiteFacts, BookFacts}
use Rattle.homeo_assembly.specs.Written.{read}
use Rattle.homeo_assembly.proofs.Reading.{read_back}
use Rattle.homeo_site.specs.SiteView.{SiteValue}
use Rattle.homeo_cluster.specs.inner.Grows.{Rose}
use Rattle.homeo_cluster.specs.Places.{asked_line, kept_line, done_line, shut_line, at_line, bases_line}
use Rattle.homeo_cluster.specs.inner.Cells.{IsCell, HoldsAt, HoldsFor, site_lists, IsBook, KeepsFor, book_lists, answers_at}
use Rattle.homeo_cluster.proofs.Grows.{rose_list, rose_owner, rose_seen}

pub same_lists : (w : s.Workload) (site : ℕ) (h h' : Held) → Rose h h' → site_lists w site h' ≡ site_lists w site h
same_lists w site h h' r = ap (λ o. site_lists w site record { owned = o; seen = [] }) r.owned

pub same_book_lists : (w : s.Workload) (h h' : Held) → Rose h h' → book_lists w h' ≡ book_lists w h
same_book_lists w h h' r = ap (λ o. book_lists w record { owned = o; seen = [] }) r.owned

-- a holder that has seen the list of one line at another
seen_of : (h h' : Held) (line at : ℕ) → Rose h h' → HasSeen h at (list_at h line) → HasSeen h' at (list_at h' line)
seen_of h h' line at r s = subst (HasSeen h' at) (sym (rose_list h h' line r)) (rose_seen h h' at (list_at h line) r s)

pub rose_holds : (w : s.Workload) (site : ℕ) (h h' : Held) → HoldsAt w site h → Rose h h' → HoldsAt w site h'
rose_holds w site h h' is r = record {
  owns = rose_owner h h' (at_line w site) r is.owns;
  seen = seen_of h h' (at_line w site) (bases_line w) r is.seen;
  each = λ c at. let was : HoldsFor w h c = is.each c at in record {
    owns_done = rose_owner h h' (done_line w c) r was.owns_done;
    owns_shut = rose_owner h h' (shut_line w c) r was.owns_shut;
    seen_asked = seen_of h h' (done_line w c) (asked_line c) r was.seen_asked;
    seen_kept = seen_of h h' (shut_line w c) (kept_line w c) r was.seen_kept;
  };
}

pub rose_cell : (w : s.Workload) (v : SiteValue) (h h' : Held) → IsCell w record { site = v; held = h } → Rose h h' → IsCell w record { site = v; held = h' }
rose_cell w v h h' is r = record {
  work = is.work;
  number = is.number;
  facts = subst (SiteFacts w v.state) (sym (same_lists w v.state.number h h' r)) is.facts;
  holds = rose_holds w v.state.number h h' is.holds r;
}

pub rose_book : (w : s.Workload) (closed : List Round) (base : List ℤ) (h h' : Held) → IsBook w record { closed = closed; base = base; held = h } → Rose h h' → IsBook w record { closed = closed; base = base; held = h' }
rose_book w closed base h h' is r = record {
  facts = subst (BookFacts w record { closed = closed; base = base }) (sym (same_book_lists w h h' r)) is.facts;
  holds = record {
    owns = rose_owner h h' (bases_line w) r is.holds.owns;
    seen = λ site lt. seen_of h h' (bases_line w) (at_line w site) r (is.holds.seen site lt);
    each = λ c lt. let was : KeepsFor w h c = is.holds.each c lt in record {
      owns = rose_owner h h' (kept_line w c) r was.owns;
      seen = seen_of h h' (kept_line w c) (shut_line w c) r was.seen;
    };
  };
}

pub rose_pass : (w : s.Workload) (client left : ℕ) (log : List Answer) (h h' : Held) → IsPass w record { client = client; left = left; log = log; held = h } → Rose h h' → IsPass w record { client = client; left = left; log = log; held = h' }
rose_pass w client left log h h' is r = record {
  logged = is.logged;
  holds = record {
    owns = rose_owner h h' (asked_line client) r is.holds.owns;
    asked = rose_list h h' (asked_line client) r ∙ is.holds.asked;
    seen = seen_of h h' (asked_line client) (done_line w client) r is.holds.seen;
  };
}

-- equal entries are equal answers
pub log_is_done : (w : s.Workload) (client left : ℕ) (log : List Answer) (h k : Held) → IsPass w record { client = client; left = left; log = log; held = h }
    → list_at k (done_line w client) ≡ list_at h (asked_line client) → log ≡ answers_at k client (done_line w client)
unfolding definitions
log_is_done w client left log h k is e = sym (ap (map (read client)) (e ∙ is.holds.asked) ∙ read_back client log is.logged.own)

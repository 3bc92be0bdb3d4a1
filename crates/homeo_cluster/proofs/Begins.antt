-- The first passes, sites and book.
use Rattle.homeo_site.specs.Key.{definitions as site_definitions}
use Rattle.homeo_assembly.specs.Key.{definitions}
use Rattle.std.proofs.Common.{◌≡◌, ◌≢◌, ℕ, zero, suc, ◌+◌, ◌^◌, ◌<◌, ◌≤◌, List, [], ◌∷◌, ◌++◌, map, length, Some, None, ℤ, refl, sym, ap, subst, ◌∙◌, ◌⊎◌, inl, inr, ⊎_elim, arith, length-append}
use Rattle.std.specs.Prelude.{slice_get}
use Rattle.std.proofs.lemmas.List.{get_or-replicate}
use Rattle.std.proofs.lemmas.List.Elements.{All-nil, All-push}
use mathlib.Core.Logic.{dite}
use native.Mathlib.Decide.{ℕ_discrete}
use Rattle.std.specs.declared.option.Option.{Option}
use Rattle.homeo_notes.specs.Lines.{Held, Entry, Entries, or_empty, owned_at, list_at, seen_at, Owns, IsOwner, HasSeen, TellsOf, with_list, owner_of_all, after_telling, only_lines, without_lines}
use Rattle.homeo_notes.proofs.Lists.{get_or-put_same, get_or-put_other}
use Rattle.homeo_notes.proofs.Prefixes.{prefix_nil, prefix_trans}
use Rattle.homeo_notes.proofs.Deals.{owned_only, owned_above, owned_below}
use Rattle.homeo_syntax.specs.Source as s
use Rattle.homeo_syntax.specs.SourceView.{plain_workload}
use Rattle.homeo_syntax.specs.declared.workload.Workload.{Workload}
use Rattle.homeo_meaning.specs.Acceptance.{IsAccepted}
use Rattle.homeo_meaning.specs.Initial.{initial}
use Rattle.homeo_plan.specs.Planned.{sites_of}
use Rattle.homeo_history.specs.Answers.{Answer}
use Rattle.homeo_history.specs.History.{Round}
use Rattle.homeo_history.specs.Legal.{IsClientAt, call_count}
use Rattle.homeo_site.specs.SiteState.{SiteState, begun}
use Rattle.homeo_site.specs.SiteView.{StartValue, SiteValue}
use Rattle.homeo_core.specs.Joined.{BookState}
use Rattle.homeo_assembly.specs.Facts.{SiteLists, SiteFacts, Serves}
use Rattle.homeo_assembly.specs.Events.{no_answers}
use Rattle.homeo_assembly.specs.Laws.{SiteStart, BookStart}
use Rattle.homeo_assembly.specs.Written.{read}
use Rattle.homeo_cluster.specs.Places.{asked_line, kept_line, done_line, shut_line, at_line, bases_line, line_count}
use Rattle.homeo_cluster.specs.inner.Cells.{site_lists, IsCell, IsBook}
use Rattle.homeo_cluster.specs.Passes.{PassValue, IsPass}
use Rattle.homeo_cluster.specs.inner.Begun.{AreLeft, IsRest, IsFirst, AreFirst, first_line}
use Rattle.homeo_cluster.proofs.LinesInOrder.{first_next, at_after_first, at_before_bases, kept_before_first, kept_before_bases, kept_after_asked, first_after_asked, bases_is_last, bases_after_asked, shut_after_done, among}

-- ---- a line that is owned
pub owned_list : (h : Held) (i : ℕ) (xs : Entries) → Owns h i xs → list_at h i ≡ xs
owned_list h i xs e = ap or_empty e

pub owned_owner : (h : Held) (i : ℕ) (xs : Entries) → Owns h i xs → IsOwner h i
owned_owner h i xs e = e ∙ ap Some (sym (ap or_empty e))

seen_none : (h k : Held) (i j : ℕ) → Owns k j [] → HasSeen h i (list_at k j)
seen_none h k i j e = subst (HasSeen h i) (sym (ap or_empty e)) (prefix_nil _)

-- an empty list has room
pub some_room : (h : Held) (i : ℕ) → Owns h i [] → length (list_at h i) < 2 ^ 63
some_room h i e = let none : length (list_at h i) ≡ 0 = ap length (owned_list h i [] e) in omega (arith, none)

-- ---- the lines that are left
pub all_left : (lines end : ℕ) (h : Held) → h ≡ owner_of_all lines → lines ≡ end → AreLeft 0 end h
all_left lines end h is same line l u =
    let empties : Option Entries = Some [] in
    let within : line < lines = omega (arith, same, u) in
    ap (λ (k : Held). owned_at k line) is ∙ get_or-replicate lines line empties None within

pub owners_left : (first end i : ℕ) (h : Held) → AreLeft first end h → first ≤ i → i < end → IsOwner h i
owners_left first end i h left l u = owned_owner h i [] (left i l u)

pub less_left : (first end : ℕ) (h k : Held) → k ≡ without_lines first (first + 1) h → AreLeft first end h → AreLeft (first + 1) end k
less_left first end h k is left line l u = ap (λ (x : Held). owned_at x line) is ∙ owned_above first (first + 1) line h l ∙ left line (omega (arith, l)) u

-- ---- a pass
pub first_pass_is : (w : s.Workload) (client left end : ℕ) (log : List Answer) (rest h : Held) → log ≡ [] → left ≡ call_count w client → h ≡ only_lines client (client + 1) rest → client < length w.clients → client < end → AreLeft client end rest
    → IsPass w record { client = client; left = left; log = log; held = h }
first_pass_is w client left end log rest h none all is there within free =
    let mine : Owns h client [] = ap (λ (k : Held). owned_at k client) is ∙ owned_only client (client + 1) client rest (omega arith) (omega arith) ∙ free client (omega arith) within in
    subst (λ (xs : List Answer). IsPass w record { client = client; left = left; log = xs; held = h }) (sym none) record {
      logged = record { there = there; all = omega (arith, all); own = All-nil (λ (a : Answer). a.client ≡ client); numbered = refl };
      holds = record { owns = owned_owner h client [] mine; asked = owned_list h client [] mine; seen = seen_none h h (done_line w client) client mine };
    }

pub no_passes : (passes : List PassValue) → passes ≡ [] → AreFirst 0 passes
no_passes passes is = subst (AreFirst 0) (sym is) record {
  count = refl;
  clients = λ i p e. absurd (cc (e));
  logs = All-nil (λ (p : PassValue). p.log ≡ []);
}

pub one_pass_more : (n : ℕ) (before after : List PassValue) (p : PassValue) → after ≡ before ++ p ∷ [] → AreFirst n before → p.client ≡ n → p.log ≡ [] → AreFirst (n + 1) after
one_pass_more n before after p is all own none = subst (AreFirst (n + 1)) (sym is) record {
  count = let longer = length-append before (p ∷ []) in let count = all.count in omega (arith, longer, count);
  clients = λ i q e. ⊎_elim (λ was. all.clients i q was) (λ (last : (p ≡ q) × (i ≡ length before)). ap (λ (x : PassValue). x.client) (sym last.0) ∙ own ∙ sym all.count ∙ sym last.1) (at_end before p q i e);
  logs = All-push (λ (x : PassValue). x.log ≡ []) before p all.logs none;
}
  where
    at_end : (xs : List PassValue) (p q : PassValue) (i : ℕ) → slice_get (xs ++ p ∷ []) i ≡ Some q → (slice_get xs i ≡ Some q) ⊎ ((p ≡ q) × (i ≡ length xs))
    at_end [] p q zero e = inr (cc (e), refl)
    at_end [] p q (suc i) e = absurd (cc (e))
    at_end (x ∷ xs) p q zero e = inl e
    at_end (x ∷ xs) p q (suc i) e = ⊎_elim (λ h. inl h) (λ (h : (p ≡ q) × (i ≡ length xs)). inr (h.0, ap suc h.1)) (at_end xs p q i e)

-- ---- a list that is written
written_same : (h k : Held) (line : ℕ) (e : Entry) → k ≡ with_list h line (list_at h line ++ e ∷ []) → Owns h line [] → Owns k line (e ∷ [])
written_same h k line e is none =
    ap (λ (x : Held). owned_at x line) is ∙ get_or-put_same None h.owned line (Some (list_at h line ++ e ∷ []))
    ∙ ap (λ (xs : Entries). Some (xs ++ e ∷ [])) (ap or_empty none)

written_other : (h k : Held) (line i : ℕ) (xs ys : Entries) → k ≡ with_list h line xs → i ≢ line → Owns h i ys → Owns k i ys
written_other h k line i xs ys is ne own = ap (λ (x : Held). owned_at x i) is ∙ get_or-put_other None h.owned line i (Some xs) ne ∙ own

pub base_written : (w : s.Workload) (base : Entry) (h k : Held) → k ≡ with_list h (bases_line w) (list_at h (bases_line w) ++ base ∷ []) → AreLeft (length w.clients) (line_count w) h → IsRest w base 0 k
base_written w base h k is left =
    let last = bases_is_last w in
    let apart : (i : ℕ) → i < bases_line w → i ≢ bases_line w = λ i l e. absurd (omega (arith, l, e)) in
    record {
      kept = λ client l.
          let after = kept_after_asked w client in
          let within = kept_before_bases w client l in
          written_other h k (bases_line w) (kept_line w client) _ [] is (apart (kept_line w client) within) (left (kept_line w client) after (omega (arith, within, last)));
      left = λ line l u.
          let after = first_after_asked w 0 in
          written_other h k (bases_line w) line _ [] is (apart line u) (left line (omega (arith, l, after)) (omega (arith, u, last)));
      bases = written_same h k (bases_line w) base is (left (bases_line w) (bases_after_asked w) (omega (arith, last)));
      seen = λ site l. absurd (omega (arith, l));
    }

-- ---- a site
-- h is what is left before, h1 once the base is written, h2 once the lines are dealt, h3 once it was told; k and k1 are the new
-- holder before and after it was told
module _ (w : s.Workload) (base : Entry) (site : ℕ) (h h1 h2 h3 k k1 : Held)
    (lt : site < sites_of w) (rest : IsRest w base site h)
    (is1 : h1 ≡ with_list h (at_line w site) (list_at h (at_line w site) ++ base ∷ []))
    (is2 : h2 ≡ without_lines (first_line w site) (at_line w site + 1) h1)
    (is : k ≡ only_lines (first_line w site) (at_line w site + 1) h1)
    (is3 : h3 ≡ after_telling k h2)
    (tells : (i : ℕ) → TellsOf k h2 i)
    (is4 : k1 ≡ after_telling h3 k)
    (tells_back : (i : ℕ) → TellsOf h3 k i)
  where
    at_left : Owns h (at_line w site) []
    at_left = rest.left (at_line w site) (at_after_first w site) (at_before_bases w site lt)

    at_written : Owns h1 (at_line w site) (base ∷ [])
    at_written = written_same h h1 (at_line w site) base is1 at_left

    stays : (i : ℕ) (xs : Entries) → i ≢ at_line w site → Owns h i xs → Owns h1 i xs
    stays i xs ne own = written_other h h1 (at_line w site) i _ xs is1 ne own

    -- what is not dealt is left
    below_left : (i : ℕ) (xs : Entries) → i < first_line w site → Owns h i xs → Owns h3 i xs
    below_left i xs l own =
        let after = at_after_first w site in
        ap (λ (x : Held). owned_at x i) is3 ∙ ap (λ (x : Held). owned_at x i) is2
        ∙ owned_below (first_line w site) (at_line w site + 1) i h1 l ∙ stays i xs (λ e. absurd (omega (arith, after, l, e))) own

    above_left : (i : ℕ) (xs : Entries) → at_line w site < i → Owns h i xs → Owns h3 i xs
    above_left i xs l own =
        ap (λ (x : Held). owned_at x i) is3 ∙ ap (λ (x : Held). owned_at x i) is2
        ∙ owned_above (first_line w site) (at_line w site + 1) i h1 (omega (arith, l)) ∙ stays i xs (λ e. absurd (omega (arith, l, e))) own

    -- what is dealt is the new holder's
    dealt : (i : ℕ) (xs : Entries) → first_line w site ≤ i → i ≤ at_line w site → Owns h1 i xs → Owns k i xs
    dealt i xs l u own = ap (λ (x : Held). owned_at x i) is ∙ owned_only (first_line w site) (at_line w site + 1) i h1 l (omega (arith, u)) ∙ own

    still : (i : ℕ) (xs : Entries) → Owns k i xs → Owns k1 i xs
    still i xs own = ap (λ (x : Held). owned_at x i) is4 ∙ own

    at_dealt : Owns k (at_line w site) (base ∷ [])
    at_dealt = dealt (at_line w site) (base ∷ []) (at_after_first w site) (omega arith) at_written

    bases_left : Owns h3 (bases_line w) (base ∷ [])
    bases_left = above_left (bases_line w) (base ∷ []) (at_before_bases w site lt) rest.bases

    -- what was seen is still seen
    seen_before : (i : ℕ) (xs : Entries) → HasSeen h i xs → HasSeen h3 i xs
    seen_before i xs saw =
        let saw1 : HasSeen h1 i xs = subst (λ (x : Held). HasSeen x i xs) (sym is1) saw in
        let saw2 : HasSeen h2 i xs = subst (λ (x : Held). HasSeen x i xs) (sym is2) saw1 in
        subst (λ (x : Held). HasSeen x i xs) (sym is3) (prefix_trans xs (seen_at h2 i) (seen_at (after_telling k h2) i) saw2 (tells i).0)

    seen_new : HasSeen h3 (at_line w site) (base ∷ [])
    seen_new = subst (λ (x : Held). HasSeen x (at_line w site) (base ∷ [])) (sym is3)
        (subst (HasSeen (after_telling k h2) (at_line w site)) (ap or_empty at_dealt) (tells (at_line w site)).2)

    seen_last : (j : ℕ) → j < site + 1 → j ≢ site → j < site
    seen_last j l ne = omega (arith, l, ne)

    pub rest_less : IsRest w base (site + 1) h3
    rest_less = record {
      kept = λ client l. below_left (kept_line w client) [] (kept_before_first w site client l) (rest.kept client l);
      left = λ line l u.
          let next = first_next w site in
          let after = at_after_first w site in
          above_left line [] (omega (arith, l, next)) (rest.left line (omega (arith, l, next, after)) u);
      bases = bases_left;
      seen = λ j l. dite (ℕ_discrete j site)
          (λ same. subst (λ n. HasSeen h3 (at_line w n) (base ∷ [])) (sym same) seen_new)
          (λ ne. seen_before (at_line w j) (base ∷ []) (rest.seen j (seen_last j l ne)));
    }

    own_line : (i : ℕ) → first_line w site ≤ i → i < at_line w site → Owns k1 i []
    own_line i l u =
        let last = at_before_bases w site lt in
        still i [] (dealt i [] l (omega (arith, u)) (stays i [] (λ e. absurd (omega (arith, u, e))) (rest.left i l (omega (arith, u, last)))))

    pub site_first : IsFirst w base site k1
    site_first = record {
      at = still (at_line w site) (base ∷ []) at_dealt;
      seen = subst (λ (x : Held). HasSeen x (bases_line w) (base ∷ [])) (sym is4)
          (subst (HasSeen (after_telling h3 k) (bases_line w)) (ap or_empty bases_left) (tells_back (bases_line w)).2);
      done = λ client own.
          let place = among w site client own in
          let next = shut_after_done w client in
          let last = place.last in
          own_line (done_line w client) place.first (omega (arith, next, last));
      shut = λ client own.
          let place = among w site client own in
          let next = shut_after_done w client in
          let first = place.first in
          own_line (shut_line w client) (omega (arith, next, first)) place.last;
    }

-- what is left and what the new holder has, where it was told on, and its old state stands for that in between
pub site_dealt : (w : s.Workload) (base : Entry) (site : ℕ) (h h1 h2 h3 h4 k k0 k1 : Held) → site < sites_of w → IsRest w base site h
    → h1 ≡ with_list h (at_line w site) (list_at h (at_line w site) ++ base ∷ [])
    → h2 ≡ without_lines (first_line w site) (at_line w site + 1) h1
    → k ≡ only_lines (first_line w site) (at_line w site + 1) h1
    → h3 ≡ after_telling k h2 → ((i : ℕ) → TellsOf k h2 i) → k0 ≡ k
    → k1 ≡ after_telling h3 k0 → ((i : ℕ) → TellsOf h3 k0 i) → h4 ≡ h3
    → IsRest w base (site + 1) h4 × IsFirst w base site k1
site_dealt w base site h h1 h2 h3 h4 k k0 k1 lt rest is1 is2 is is3 tells same is4 tells_back last =
    let back : k1 ≡ after_telling h3 k = is4 ∙ ap (after_telling h3) same in
    let told : (i : ℕ) → TellsOf h3 k i = λ i. subst (λ (x : Held). TellsOf h3 x i) same (tells_back i) in (
      subst (IsRest w base (site + 1)) (sym last) (rest_less w base site h h1 h2 h3 k k1 lt rest is1 is2 is is3 tells back told),
      site_first w base site h h1 h2 h3 k k1 lt rest is1 is2 is is3 tells back told,
    )

-- each line to be dealt is owned
pub owners_dealt : (w : s.Workload) (base : Entry) (site i : ℕ) (h h1 : Held) → site < sites_of w → IsRest w base site h → h1 ≡ with_list h (at_line w site) (list_at h (at_line w site) ++ base ∷ []) → first_line w site ≤ i → i < at_line w site + 1 → IsOwner h1 i
owners_dealt w base site i h h1 lt rest is l u =
    let last = at_before_bases w site lt in
    let first = at_after_first w site in
    dite (ℕ_discrete i (at_line w site))
    (λ same. subst (IsOwner h1) (sym same) (owned_owner h1 (at_line w site) (base ∷ []) (written_same h h1 (at_line w site) base is (rest.left (at_line w site) first last))))
    (λ ne. owned_owner h1 i [] (written_other h h1 (at_line w site) i _ [] is ne (rest.left i l (omega (arith, u, last)))))

-- ---- a site's type holds
same_facts : (w : s.Workload) (x : SiteState) (l m : SiteLists) → m.at ≡ l.at
    → ((client : ℕ) → IsClientAt w x.number client → m.done client ≡ l.done client)
    → ((client : ℕ) → IsClientAt w x.number client → m.shut client ≡ l.shut client)
    → SiteFacts w x l → SiteFacts w x m
same_facts w x l m at done shut f = record {
  holds = f.holds;
  rounds = ap length at ∙ f.rounds;
  base = subst (λ (xs : List (List ℤ)). slice_get xs x.round ≡ Some x.base) (sym at) f.base;
  serves = λ client own.
      subst (λ (xs : List Answer). Serves x xs (m.shut client) client) (sym (done client own))
      (subst (λ (xs : List Answer). Serves x (l.done client) xs client) (sym (shut client own)) (f.serves client own));
}

first_cell : SiteStart → (w : s.Workload) (work : Workload) (site : ℕ) (h : Held) → IsAccepted w → plain_workload work ≡ w → site < sites_of w → IsFirst w (initial w) site h
    → IsCell w record { site = record { work = work; state = begun site 0 (initial w); spare = 0 }; held = h }
unfolding definitions site_definitions
first_cell law w work site h accepted same lt first =
    let at = owned_list h (at_line w site) (initial w ∷ []) first.at in
    record {
      work = same;
      number = lt;
      facts = same_facts w (begun site 0 (initial w)) (record { at = initial w ∷ []; done = no_answers; shut = no_answers }) (site_lists w site h) at
          (λ client own. ap (map (read client)) (owned_list h (done_line w client) [] (first.done client own)))
          (λ client own. ap (map (read client)) (owned_list h (shut_line w client) [] (first.shut client own)))
          (law w site accepted lt);
      holds = record {
        owns = owned_owner h (at_line w site) (initial w ∷ []) first.at;
        seen = subst (HasSeen h (bases_line w)) (sym at) first.seen;
        each = λ client own. record {
          owns_done = owned_owner h (done_line w client) [] (first.done client own);
          owns_shut = owned_owner h (shut_line w client) [] (first.shut client own);
          seen_asked = seen_none h h (asked_line client) (done_line w client) (first.done client own);
          seen_kept = seen_none h h (kept_line w client) (shut_line w client) (first.shut client own);
        };
      };
    }

abbrev begun_as : StartValue → SiteValue
begun_as start = record { work = start.work; state = begun start.number start.round start.base; spare = 0 }

pub first_cell_is : SiteStart → (w : s.Workload) (work : Workload) (site : ℕ) (base : List ℤ) (start : StartValue) (v : SiteValue) (h : Held) → IsAccepted w → plain_workload work ≡ w → site < sites_of w
    → v ≡ begun_as start → start ≡ record { work = work; number = site; round = 0; base = base } → base ≡ initial w → IsFirst w (initial w) site h
    → IsCell w record { site = v; held = h }
first_cell_is law w work site base start v h accepted same lt is starts on first =
    let all : v ≡ begun_as record { work = work; number = site; round = 0; base = initial w } = is ∙ ap begun_as starts ∙ ap (λ (b : List ℤ). begun_as record { work = work; number = site; round = 0; base = b }) on in
    subst (λ (x : SiteValue). IsCell w record { site = x; held = h }) (sym all) (first_cell law w work site h accepted same lt first)

-- ---- the book's type holds
pub first_book_is : BookStart → (w : s.Workload) (closed : List Round) (base : List ℤ) (h : Held) → IsAccepted w → closed ≡ [] → base ≡ initial w → IsRest w (initial w) (sites_of w) h
    → IsBook w record { closed = closed; base = base; held = h }
unfolding definitions
first_book_is law w closed base h accepted none is rest =
    let bases = owned_list h (bases_line w) (initial w ∷ []) rest.bases in
    let f = law w accepted in
    subst (λ (x : BookState). IsBook w record { closed = x.closed; base = x.base; held = h }) (λ i. record { closed = sym none i; base = sym is i }) record {
      facts = record {
        holds = f.holds;
        bases = bases ∙ f.bases;
        kept = λ client l. ap (map (read client)) (owned_list h (kept_line w client) [] (rest.kept client l)) ∙ f.kept client l;
      };
      holds = record {
        owns = owned_owner h (bases_line w) (initial w ∷ []) rest.bases;
        seen = λ site l. subst (HasSeen h (at_line w site)) (sym bases) (rest.seen site l);
        each = λ client l. record {
          owns = owned_owner h (kept_line w client) [] (rest.kept client l);
          seen = seen_none h h (shut_line w client) (kept_line w client) (rest.kept client l);
        };
      };
    }

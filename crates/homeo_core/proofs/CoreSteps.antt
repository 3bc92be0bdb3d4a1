-- A core after a client's next call.
use Rattle.homeo_history.specs.Key.{definitions as history_definitions}
use Rattle.homeo_site.specs.Key.{definitions as site_definitions}
use Rattle.homeo_core.specs.Key.{definitions}
use Rattle.std.proofs.Common.{◌≡◌, ℕ, suc, ◌+◌, ◌<◌, ◌≤◌, List, [], ◌∷◌, ◌++◌, length, take, drop, ℤ, Option, Some, None, refl, sym, ap, subst, ◌∙◌, arith, slice_set}
use Rattle.std.specs.Prelude.{slice_get, slice_index_or}
use Rattle.homeo_syntax.specs.Source as s
use Rattle.homeo_syntax.specs.SourceView.{plain_workload}
use Rattle.homeo_meaning.specs.declared.call.CallId.{CallId}
use Rattle.homeo_meaning.specs.Acceptance.{IsAccepted}
use Rattle.homeo_plan.specs.declared.treaty.Broken.{Broken}
use Rattle.homeo_plan.specs.Planned.{template_at, policy}
use Rattle.homeo_plan.proofs.Findings.{finding_law}
use Rattle.homeo_history.specs.Answers.{Answer}
use Rattle.homeo_history.specs.Legal.{IsClientAt, IsCallAt, call_count, calls_of, IsInOrder, IsLegalFrom}
use Rattle.homeo_history.proofs.Exists.{is_call_at}
use Rattle.homeo_site.specs.SiteState.{SiteState, KeepsCall, step_values, step_finding}
use Rattle.homeo_core.specs.CoreView.{CoreValue, CoreHolds, core_history, start_of, next_call, book_after, sites_after, answer_to, IsCallMade, IsStep, GoesOnBy}
use Rattle.homeo_core.specs.Events.{OneMore, IsAfter}
use Rattle.homeo_core.specs.Joined.{BookState, AreJoined, rounds_of, history_of}
use Rattle.homeo_core.specs.Books.{book_of}
use Rattle.homeo_core.specs.SiteLists.{states}
use Rattle.homeo_core.specs.declared.steps.Core.TheInside.{Inside}
use Rattle.homeo_core.proofs.ClosingCalls.{core_cleanup}
use Rattle.homeo_core.proofs.Following.{follows_local, follows_cleanup}
use Rattle.homeo_core.proofs.Joining.{joining}
use Rattle.homeo_core.proofs.LocalCalls.{core_local}
use Rattle.homeo_core.proofs.Ordered.{core_order}

keeps_where_none : (w : s.Workload) (x : SiteState) (call : CallId) → step_finding w x call ≡ None → KeepsCall w x call
unfolding site_definitions history_definitions
keeps_where_none w x call e = (finding_law (template_at w x.base) (policy w x.base) x.number (step_values w x call)).none e

module _ (w : s.Workload) (start : List ℤ) (b : BookState) (sites : List SiteState) (home : ℕ) (call : CallId) (accepted : IsAccepted w) (joined : AreJoined w start b sites) (at : IsCallAt w home call) where
  pub record Goes (a : Answer) (b' : BookState) (sites' : List SiteState) : Type 0 where
    pub after : IsAfter w start a b b' sites sites'
    pub follows : GoesOnBy w (history_of b sites) call (history_of b' sites')
    pub client : a.client ≡ call.client
    pub seq : a.seq ≡ call.seq

  goes : (x : SiteState) → slice_get sites home ≡ Some x → (o : Option Broken) → step_finding w x call ≡ o → Goes (answer_to w b sites home x call o) (book_after w b sites home call o) (sites_after w b sites home x call o)
  unfolding definitions history_definitions site_definitions
  goes x here None e = record {
    after = core_local w start b sites home x call accepted joined here at (keeps_where_none w x call e);
    follows = λ calls. follows_local w start b sites home x call calls joined here at;
    client = refl;
    seq = refl;
  }
  goes x here (Some broken) e = record {
    after = core_cleanup w start b sites home call broken accepted joined (record { site = x; here = here; at_site = at; breaks = e });
    follows = λ calls. follows_cleanup w b sites home call broken calls;
    client = refl;
    seq = refl;
  }

  pub made_goes : (a : Answer) (b' : BookState) (sites' : List SiteState) → IsCallMade w b sites home call a b' sites' → Goes a b' sites'
  made_goes a b' sites' m =
      subst (λ v. Goes v b' sites') (sym m.answer)
      (subst (λ v. Goes (answer_to w b sites home m.site call (step_finding w m.site call)) v sites') (sym m.rounds)
      (subst (Goes (answer_to w b sites home m.site call (step_finding w m.site call)) (book_after w b sites home call (step_finding w m.site call))) (sym m.states)
      (goes m.site m.here (step_finding w m.site call) refl)))

-- ---- the whole core
abbrev pub core_of : Inside → CoreValue
core_of f = record { work = f.compiled.value; book = book_of f.closed.items f.base.items; sites = states f.sites.items; counts = f.counts.items }

pub record IsStepped (x : CoreValue) (client : ℕ) (a : Answer) (x' : CoreValue) : Type 0 where
  pub holds : CoreHolds x'
  pub answered : OneMore a (rounds_of x.book x.sites) (rounds_of x'.book x'.sites)
  pub follows : GoesOnBy (plain_workload x.work) (core_history x) (next_call x client) (core_history x')
  pub legal : IsLegalFrom (plain_workload x.work) (start_of x.book) x'.counts (core_history x')
  pub start : start_of x'.book ≡ start_of x.book

next_call_at : (x : CoreValue) (client home : ℕ) → IsClientAt (plain_workload x.work) home client → slice_index_or x.counts client 0 < call_count (plain_workload x.work) client → IsCallAt (plain_workload x.work) home (next_call x client)
unfolding definitions
next_call_at x client home at left = is_call_at (plain_workload x.work) home (next_call x client) at (omega arith) (omega (arith, left))

abbrev counted : CoreValue → ℕ → BookState → List SiteState → CoreValue
unfolding definitions
counted x client b' sites' = record { work = x.work; book = b'; sites = sites'; counts = slice_set x.counts client (suc (slice_index_or x.counts client 0)) }

stepped : (x : CoreValue) (client home : ℕ) (a : Answer) (b' : BookState) (sites' : List SiteState) → CoreHolds x → client < length x.counts → IsClientAt (plain_workload x.work) home client → slice_index_or x.counts client 0 < call_count (plain_workload x.work) client → IsCallMade (plain_workload x.work) x.book x.sites home (next_call x client) a b' sites' → IsStepped x client a (counted x client b' sites')
unfolding definitions
stepped x client home a b' sites' holds lt at left made =
    let w : s.Workload = plain_workload x.work in
    let call : CallId = next_call x client in
    let n : ℕ = slice_index_or x.counts client 0 in
    let g = made_goes w (start_of x.book) x.book x.sites home call holds.accepted holds.joined (next_call_at x client home at left) a b' sites' made in
    let client_is : a.client ≡ client = g.client in
    let seq_is : a.seq ≡ suc n = g.seq in
    let seq_next : a.seq ≡ suc (slice_index_or x.counts a.client 0) = seq_is ∙ ap (λ c. suc (slice_index_or x.counts c 0)) (sym client_is) in
    let few : a.seq ≤ call_count w a.client = subst (λ c. a.seq ≤ call_count w c) (sym client_is) (omega (arith, seq_is, left)) in
    let in_order : IsInOrder w (slice_set x.counts a.client a.seq) (calls_of (rounds_of b' sites')) = core_order w x.counts a (rounds_of x.book x.sites) (rounds_of b' sites') holds.ordered g.after.answer (subst (λ c. c < length x.counts) (sym client_is) lt) seq_next few in
    let ordered : IsInOrder w (slice_set x.counts client (suc n)) (calls_of (rounds_of b' sites')) = subst (λ c. IsInOrder w (slice_set x.counts c (suc n)) (calls_of (rounds_of b' sites'))) client_is (subst (λ m. IsInOrder w (slice_set x.counts a.client m) (calls_of (rounds_of b' sites'))) seq_is in_order) in
    record {
      holds = record {
        accepted = holds.accepted;
        joined = subst (λ d. AreJoined w d b' sites') (sym g.after.joined.book.starts) g.after.joined;
        ordered = ordered;
      };
      answered = g.after.answer;
      follows = g.follows;
      legal = joining w (start_of x.book) b' sites' (slice_set x.counts client (suc n)) holds.accepted g.after.joined ordered;
      start = g.after.joined.book.starts;
    }

pub is_legal : (x : CoreValue) → CoreHolds x → IsLegalFrom (plain_workload x.work) (start_of x.book) x.counts (core_history x)
unfolding definitions
is_legal x holds = joining (plain_workload x.work) (start_of x.book) x.book x.sites x.counts holds.accepted holds.joined holds.ordered

-- ---- a vector's items written as a slice
pub whole_slice : {X : Type 0} (len : ℕ) (old new : List X) → length new ≡ length old → length old ≡ len → take len (new ++ drop (length new) old) ≡ new
whole_slice len old new same count = subst (λ n. take n (new ++ drop (length new) old) ≡ new) (same ∙ count) (go new old same)
  where
    go : {X : Type 0} (new old : List X) → length new ≡ length old → take (length new) (new ++ drop (length new) old) ≡ new
    go [] old e = refl
    go (x ∷ new) [] e = absurd (omega (arith, e))
    go (x ∷ new) (y ∷ old) e = ap (λ l. x ∷ l) (go new old (omega (arith, e)))

-- ---- a step as the code makes it
pub record IsNext (x : CoreValue) (client home last : ℕ) : Type 0 where
  pub lt : client < length x.counts
  pub last_is : last ≡ slice_index_or x.counts client 0
  pub at : IsClientAt (plain_workload x.work) home client
  pub left : slice_index_or x.counts client 0 < call_count (plain_workload x.work) client

next_seq : (x : CoreValue) (client home last : ℕ) → IsNext x client home last → suc (slice_index_or x.counts client 0) ≡ last + 1
next_seq x client home last n = let e = n.last_is in omega (arith, e)

pub can_call : (x : CoreValue) (client home last : ℕ) → IsNext x client home last → IsCallAt (plain_workload x.work) home (record { client = client; seq = last + 1 })
unfolding definitions
can_call x client home last n = subst (λ m. IsCallAt (plain_workload x.work) home (record { client = client; seq = m })) (next_seq x client home last n) (next_call_at x client home n.at n.left)

pub taken : (x : CoreValue) (client home last : ℕ) (a : Answer) (b' : BookState) (sites' now : List SiteState) → CoreHolds x → IsNext x client home last → now ≡ sites' → IsCallMade (plain_workload x.work) x.book x.sites home (record { client = client; seq = last + 1 }) a b' sites' → let x' : CoreValue = record { work = x.work; book = b'; sites = now; counts = slice_set x.counts client (last + 1) } in IsStepped x client a x' × IsStep x client a x'
unfolding definitions
taken x client home last a b' sites' now holds n same made =
    let next : suc (slice_index_or x.counts client 0) ≡ last + 1 = next_seq x client home last n in
    let new : counted x client b' sites' ≡ record { work = x.work; book = b'; sites = now; counts = slice_set x.counts client (last + 1) } =
    (λ j. record { work = x.work; book = b'; sites = sym same j; counts = slice_set x.counts client (next j) }) in
    let made' : IsCallMade (plain_workload x.work) x.book x.sites home (next_call x client) a b' sites' = subst (λ m. IsCallMade (plain_workload x.work) x.book x.sites home (record { client = client; seq = m }) a b' sites') (sym next) made in
    let step : IsStep x client a (counted x client b' sites') = record { home = home; at_home = n.at; made = made'; work = refl; counts = refl } in (
      subst (IsStepped x client a) new (stepped x client home a b' sites' holds n.lt n.at n.left made'),
      subst (IsStep x client a) new step,
    )

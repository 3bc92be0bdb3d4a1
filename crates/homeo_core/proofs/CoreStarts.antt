-- A core before any call.
use Rattle.homeo_history.specs.Key.{definitions as history_definitions}
use Rattle.homeo_site.specs.Key.{definitions as site_definitions}
use Rattle.homeo_core.specs.Key.{definitions}
use Rattle.std.proofs.Common.{◌≡◌, ℕ, zero, suc, ◌+◌, ◌<◌, ◌≤◌, List, [], ◌∷◌, ◌++◌, map, length, replicate, ℤ, Some, refl, sym, ap, subst, ◌∙◌, arith}
use Rattle.std.specs.Prelude.{slice_get, slice_index_or, IsSome, sum}
use Rattle.std.specs.List.{range_with_len, flat_map}
use Rattle.std.proofs.lemmas.List.{length-map, map-append, length-replicate}
use Rattle.std.proofs.lemmas.List.Elements.{All-nil}
use Rattle.std.proofs.lemmas.List.Sums.{sum_by-cons}
use Rattle.std.proofs.lemmas.List.FromFn.{length-range_with_len}
use Rattle.homeo_lemmas.proofs.Lists.{range_more}
use Rattle.homeo_syntax.specs.Source as s
use Rattle.homeo_syntax.specs.SourceView.{plain_workload}
use Rattle.homeo_syntax.specs.declared.workload.Workload.{Workload}
use Rattle.homeo_meaning.specs.Acceptance.{IsAccepted}
use Rattle.homeo_meaning.specs.Bounds.{IsWithin}
use Rattle.homeo_meaning.specs.Schema.{schema_of}
use Rattle.homeo_plan.specs.Planned.{sites_of}
use Rattle.homeo_history.specs.Follows.{Follows}
use Rattle.homeo_history.specs.History.{Entry, Round}
use Rattle.homeo_history.specs.Legal.{IsAtSites, call_count, calls_of, numbers_of}
use Rattle.homeo_history.specs.Replayed.{IsReplayed}
use Rattle.homeo_history.proofs.Lists.{get_map_back, all_from_get}
use Rattle.homeo_site.specs.SiteState.{SiteState, SiteHolds, begun}
use Rattle.homeo_site.specs.SiteView.{SiteValue}
use Rattle.homeo_site.proofs.SitesHold.{begun_holds}
use Rattle.homeo_core.specs.CoreView.{CoreHolds, begun_sites, core_at, core_history}
use Rattle.homeo_core.specs.Joined.{BookState, IsInRound, rounds_of}
use Rattle.homeo_core.specs.SiteLists.{AreOf}

-- ---- the sites
pub begun_more : (n : ℕ) (base : List ℤ) → begun_sites (suc n) base ≡ begun_sites n base ++ begun n 0 base ∷ []
unfolding definitions
begun_more n base =
    let here : 0 + n ≡ n = omega arith in
    ap (map (λ i. begun i 0 base)) (range_more 0 n)
    ∙ map-append (λ i. begun i 0 base) (range_with_len 0 n) ((0 + n) ∷ [])
    ∙ ap (λ m. begun_sites n base ++ begun m 0 base ∷ []) here

record InRange (a n i j : ℕ) : Type 0 where
  pub is : j ≡ a + i
  pub lt : i < n

range_at : (a n i j : ℕ) → slice_get (range_with_len a n) i ≡ Some j → InRange a n i j
range_at a zero i j e = absurd (cc)
range_at a (suc n) zero j e = let same : a ≡ j = cc in record { is = omega (arith, same); lt = omega arith }
range_at a (suc n) (suc i) j e = let h = range_at (a + 1) n i j e in record { is = omega (arith, h.is); lt = omega (arith, h.lt) }

record IsBegun (count : ℕ) (base : List ℤ) (i : ℕ) (x : SiteState) : Type 0 where
  pub is : begun i 0 base ≡ x
  pub lt : i < count

begun_at : (count : ℕ) (base : List ℤ) (i : ℕ) (x : SiteState) → slice_get (begun_sites count base) i ≡ Some x → IsBegun count base i x
unfolding definitions
begun_at count base i x e =
    let was = get_map_back (λ j. begun j 0 base) (range_with_len 0 count) i x e in
    let h = range_at 0 count i was.0 was.1.0 in
    let same : was.0 ≡ i = omega (arith, h.is) in
    record { is = ap (λ j. begun j 0 base) (sym same) ∙ was.1.1; lt = h.lt }

-- ---- no calls
pub no_entries : (base : List ℤ) (ns : List ℕ) → flat_map (λ (es : List Entry). es) (map (λ (x : SiteState). x.segment) (map (λ i. begun i 0 base) ns)) ≡ []
unfolding site_definitions
no_entries base [] = refl
no_entries base (n ∷ ns) = no_entries base ns

no_calls : (base : List ℤ) (count : ℕ) → calls_of (rounds_of (record { closed = []; base = base }) (begun_sites count base)) ≡ []
unfolding definitions history_definitions
no_calls base count = ap (λ (es : List Entry). map (λ (e : Entry). e.call) ((es ++ []) ++ [])) (no_entries base (range_with_len 0 count))

abbrev zeros : ℕ → List ℕ
zeros n = replicate n 0

zeros_at : (n client : ℕ) → slice_index_or (zeros n) client 0 ≡ 0
zeros_at zero client = refl
zeros_at (suc n) zero = refl
zeros_at (suc n) (suc client) = zeros_at n client

pub core_begins : (work : Workload) (base : List ℤ) → IsAccepted (plain_workload work) → IsWithin (schema_of (plain_workload work)) base → CoreHolds (core_at work base)
unfolding definitions history_definitions site_definitions
core_begins work base accepted within =
    let w : s.Workload = plain_workload work in
    let b : BookState = record { closed = []; base = base } in
    record {
      accepted = accepted;
      joined = record {
        book = record {
          starts = refl;
          within = within;
          segments = All-nil (λ (r : Round). length r.segments ≡ sites_of w);
          closed = All-nil (λ (r : Round). IsSome r.closing);
          at_sites = All-nil (IsAtSites w);
          serial = tt;
          replayed = All-nil (IsReplayed w);
        };
        holds = all_from_get (SiteHolds w) (begun_sites (sites_of w) base) (λ i x e. let h = begun_at (sites_of w) base i x e in
            subst (SiteHolds w) h.is (begun_holds w i 0 base accepted h.lt within));
        round = record {
          count = length-map (range_with_len 0 (sites_of w)) (λ i. begun i 0 base) ∙ length-range_with_len 0 (sites_of w);
          each = λ i x e. let h = begun_at (sites_of w) base i x e in subst (IsInRound b i) h.is (in_first i);
        };
      };
      ordered = record {
        clients = length-replicate (length w.clients) 0;
        exist = λ client. subst (λ n. n ≤ call_count w client) (sym (zeros_at (length w.clients) client)) (omega arith);
        numbers = λ client. ap (numbers_of client) (no_calls base (sites_of w)) ∙ ap (range_with_len 1) (sym (zeros_at (length w.clients) client));
      };
    }
  where
    in_first : (i : ℕ) → IsInRound (record { closed = []; base = base }) i (begun i 0 base)
    in_first i = record { numbered = refl; round = refl; base = refl }

pub none_of : (w : Workload) → AreOf w []
unfolding definitions
none_of w = All-nil (λ (s : SiteValue). s.work ≡ w)

-- ---- the list of no calls is followed
pub no_length : (base : List ℤ) (ns : List ℕ) → sum (map length (map (λ (x : SiteState). x.segment) (map (λ i. begun i 0 base) ns))) ≡ 0
unfolding site_definitions
no_length base [] = refl
no_length base (n ∷ ns) =
    let rest = no_length base ns in
    let more = sum_by-cons (λ x. x) 0 (map length (map (λ (x : SiteState). x.segment) (map (λ i. begun i 0 base) ns))) in
    omega (arith, rest, more)

pub follows_none : (w : Workload) (base : List ℤ) → Follows (plain_workload w) (core_history (core_at w base)) []
unfolding definitions history_definitions
follows_none w base =
    ([], [], refl, record { before = []; cut = refl; whole = sym (no_length base (range_with_len 0 (sites_of (plain_workload w)))); by_sites = refl }, refl)

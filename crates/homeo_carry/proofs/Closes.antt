-- The end of a round.
use Rattle.homeo_nodes.specs.Key.{definitions}
use Rattle.std.proofs.Common.{◌≡◌, ℕ, zero, suc, ◌+◌, ◌<◌, ◌^◌, List, [], ◌∷◌, ◌++◌, map, length, take, drop, ℤ, Some, sym, ap, subst, ◌∙◌, arith, slice_index_or}
use Rattle.std.specs.Prelude.{slice_get}
use Rattle.std.proofs.lemmas.List.{take-append-drop, length-map, length-take-le}
use Rattle.std.proofs.lemmas.Simd.{map-map}
use Rattle.std.proofs.lemmas.Option.{slice_get_within}
use Rattle.homeo_syntax.specs.Listed.{Listed}
use Rattle.homeo_syntax.specs.Source as source
use Rattle.homeo_syntax.specs.SourceView.{plain_workload}
use Rattle.homeo_syntax.specs.declared.workload.Workload.{Workload}
use Rattle.homeo_meaning.specs.Acceptance.{IsAccepted}
use Rattle.homeo_meaning.specs.Bounds.{IsWithin}
use Rattle.homeo_meaning.specs.Schema.{schema_of}
use Rattle.homeo_plan.specs.Planned.{sites_of}
use Rattle.homeo_history.specs.HistoryView.{plain_answer}
use Rattle.homeo_history.specs.Legal.{IsCallAt}
use Rattle.homeo_site.specs.BareView.{BareValue}
use Rattle.homeo_site.specs.SiteState.{SiteState}
use Rattle.homeo_nodes.specs.declared.breach.Breach.{Breach}
use Rattle.homeo_nodes.specs.Brief.{Brief, Answered, brief_at, site_at, briefly_all, brief_end, IsBrief}
use Rattle.homeo_nodes.specs.Coming.{CanClose}
use Rattle.homeo_nodes.specs.Making.{Called, AreCalls}
use Rattle.homeo_nodes.specs.Nodes as n
use Rattle.homeo_nodes.specs.Nodes.{folded, deltas_of, carried, next_of, newest, closed, own_answer, answers_then}
use Rattle.homeo_nodes.proofs.Brief.{brief_is, brief_within}
use Rattle.homeo_carry.specs.CarryView.{plain_said, journal_of, without_segment, IsClosed}
use Rattle.homeo_carry.specs.declared.answers.Answers.{Answers}
use Rattle.homeo_carry.specs.declared.carrying.Rounds.{Rounds}
use Rattle.homeo_carry.specs.declared.closing.Closed.{Closed}
use Rattle.homeo_carry.specs.declared.said.Said.{Said}
use Rattle.homeo_carry.specs.inner.Carrying.{brief_of, deltas_said, closed_by, FoldsFit, IsOf, IsNext, CanMakeAll}
use Rattle.homeo_carry.proofs.AllCalls.{round_after}
use Rattle.homeo_carry.proofs.SumLists.{sums_fit, whole_within}

pub said_deltas : (states : List Said) → deltas_said states ≡ deltas_of (map plain_said states)
said_deltas states = sym (map-map (λ (said : n.Said). said.deltas) plain_said states)

call_at : (w : source.Workload) (calls : List Called) (k : ℕ) (c : Called) → AreCalls w calls → slice_get calls k ≡ Some c → IsCallAt w c.site c.call
call_at w [] k c are e = absurd (cc)
call_at w (d ∷ calls) zero c are e = let same : d ≡ c = cc in subst (λ (z : Called). IsCallAt w z.site z.call) same are.0
call_at w (d ∷ calls) (suc k) c are e = call_at w calls k c are.1 e

module _ (work : Workload) (u : Breach) (states : List Said) (x : SiteState) where
  abbrev w : source.Workload
  w = plain_workload work

  abbrev said : List n.Said
  said = map plain_said states

  abbrev j : n.Journal
  j = journal_of x

  -- ---- what all sites said fits
  module _ (accepted : IsAccepted w) (can : CanClose w j u said) (base : List ℤ) (on : base ≡ x.base) where
    sums : (k : ℕ) → IsWithin (schema_of w) (folded base (take k (deltas_said states)))
    sums k =
        subst (IsWithin (schema_of w)) (ap (λ b. folded b (take k (deltas_of said))) (sym on) ∙ ap (λ ds. folded base (take k ds)) (sym (said_deltas states))) (can.sums k)

    pub said_fit : FoldsFit base (deltas_said states)
    said_fit = sums_fit w base (deltas_said states) accepted sums

    pub said_within : (whole : List ℤ) → whole ≡ folded base (deltas_said states) → IsWithin (schema_of w) whole
    said_within whole is =
        subst (IsWithin (schema_of w)) (sym is) (whole_within w base (deltas_said states) sums)

  module _ (long : length states ≡ sites_of w) (lt : x.number < sites_of w) where
    all_said : length said ≡ sites_of w
    all_said = length-map states plain_said ∙ long

    abbrev start : Brief
    start = brief_at w (suc x.round) (next_of w u said j)

    -- ---- the calls can be made
    module _ (accepted : IsAccepted w) (can : CanClose w j u said) (few : length (carried w u said) < 2 ^ 63) (early : x.round < 2 ^ 62) where
      round_small : (k : ℕ) (c : Called) → slice_get (carried w u said) k ≡ Some c → (briefly_all w x.number (take k (carried w u said)) start).brief.round + 1 < 2 ^ 64
      unfolding definitions
      round_small k c e =
          let below : k < length (carried w u said) = slice_get_within (carried w u said) k c e in
          let taken : length (take k (carried w u said)) ≡ k = length-take-le k (carried w u said) (omega (arith, below)) in
          let led = round_after w x.number (take k (carried w u said)) start in
          omega (arith, below, taken, led, few, early)

      pub can_make_all : CanMakeAll w x.number (carried w u said) start
      unfolding definitions
      can_make_all k c e = record {
        call = call_at w (carried w u said) k c can.calls e;
        sums = λ m. brief_within w u said j (take k (carried w u said)) (drop k (carried w u said)) m accepted all_said lt can (sym (take-append-drop k (carried w u said)));
        round = round_small k c e;
      }

    -- ---- the node goes on
    abbrev first : Answered
    first = record { brief = start; answers = own_answer x.number x.round (newest w u said j).closing }

    abbrev end : Answered
    end = brief_end w u said j

    first_is : (here : Breach) (whole : List ℤ) → here ≡ record { round = x.round; site = u.site; call = u.call; broken = u.broken } → whole ≡ folded x.base (deltas_said states) → closed_by w x.number here whole ≡ first
    unfolding definitions
    first_is here whole is sum =
        ap (λ b. closed_by w x.number b whole) is
        ∙ ap (closed_by w x.number (record { round = x.round; site = u.site; call = u.call; broken = u.broken })) (sum ∙ ap (folded x.base) (said_deltas states))

    end_is : (b : Brief) → b ≡ start → briefly_all w x.number (carried w u said) b ≡ end
    unfolding definitions
    end_is b e = ap (briefly_all w x.number (carried w u said)) e

    brief : IsBrief w u said j
    brief = brief_is w u said j all_said lt

    site_then : (b : Brief) (i : ℕ) → b ≡ end.brief → i ≡ x.number → site_at b i ≡ without_segment (closed w u said j).site
    site_then b i e f =
        ap (λ n. site_at b n) f ∙ ap (λ c. site_at c x.number) e
        ∙ ap (λ n. record { number = n; round = end.brief.round; base = end.brief.base; deltas = slice_index_or end.brief.deltas x.number []; segment = [] }) (sym brief.number)
        ∙ ap (λ r. record { number = (closed w u said j).site.number; round = r; base = end.brief.base; deltas = slice_index_or end.brief.deltas x.number []; segment = [] }) (sym brief.round)
        ∙ ap (λ v. record { number = (closed w u said j).site.number; round = (closed w u said j).site.round; base = v; deltas = slice_index_or end.brief.deltas x.number []; segment = [] }) (sym brief.base)
        ∙ ap (λ ds. record { number = (closed w u said j).site.number; round = (closed w u said j).site.round; base = (closed w u said j).site.base; deltas = ds; segment = [] }) (sym brief.deltas)

    module _ (none : Answers) (own : none.own ≡ x.number) (empty : map plain_answer none.given.items ≡ []) (here : Breach) (whole : List ℤ) (is : here ≡ record { round = x.round; site = u.site; call = u.call; broken = u.broken }) (sum : whole ≡ folded x.base (deltas_said states)) (next : Rounds) (begins : IsNext none (closed_by w none.own here whole) next) where
      goes_on : IsNext none first next
      goes_on =
          subst (λ a. IsNext none a next) (ap (λ i. closed_by w i here whole) own ∙ first_is here whole is sum) begins

      pub next_brief : brief_of next ≡ start
      next_brief = goes_on.brief

      pub next_own : next.answers.own ≡ x.number
      next_own = goes_on.answers.own ∙ own

      pub makes : (v : Workload) (calls : List Called) → v ≡ work → calls ≡ carried w u said → CanMakeAll w x.number (carried w u said) start → CanMakeAll (plain_workload v) next.answers.own calls (brief_of next)
      makes v calls same are can =
          subst (λ y. CanMakeAll (plain_workload y) next.answers.own calls (brief_of next)) (sym same) (subst (λ i. CanMakeAll w i calls (brief_of next)) (sym next_own) (subst (λ cs. CanMakeAll w x.number cs (brief_of next)) (sym are) (subst (CanMakeAll w x.number (carried w u said)) (sym next_brief) can)))

      module _ (calls : List Called) (are : calls ≡ carried w u said) (made : Rounds) (more : IsNext next.answers (briefly_all w next.answers.own calls (brief_of next)) made) where
        ends : IsNext next.answers end made
        ends =
            subst (λ a. IsNext next.answers a made) (ap (λ i. briefly_all w i calls (brief_of next)) next_own ∙ ap (λ cs. briefly_all w x.number cs (brief_of next)) are ∙ end_is (brief_of next) next_brief) more

        pub made_own : made.answers.own ≡ x.number
        made_own = ends.answers.own ∙ next_own

        answers_are : map plain_answer made.answers.given.items ≡ answers_then w u said j
        answers_are =
            ends.answers.given
            ∙ ap (λ rs. rs ++ end.answers) (goes_on.answers.given ∙ ap (λ rs. rs ++ first.answers) empty)
            ∙ sym brief.answers

        module _ (holds : IsOf work made) where
          pub is_closed : (y : Closed) → slice_get made.sites.items made.answers.own ≡ Some y.site → y.answers ≡ made.answers.given → IsClosed work u said x y
          is_closed y site answers =
              let at : y.site ≡ record { work = work; state = site_at (brief_of made) made.answers.own } = holds.sites made.answers.own y.site site in
              record {
                work_is = ap (λ (z : BareValue). z.work) at;
                state = ap (λ (z : BareValue). z.state) at ∙ site_then (brief_of made) made.answers.own ends.brief made_own;
                answers = ap (λ (rs : Listed _). map plain_answer rs.items) answers ∙ answers_are;
              }

-- A list of calls is followed by one legal history from a database.
use Rattle.homeo_history.specs.Key.{definitions}
use Rattle.std.proofs.Common.{◌≡◌, ⊎_elim, ℕ, suc, List, [], ◌∷◌, length, Some, ℤ, refl, sym, ap, ap₂, ◌∙◌, subst, arith}
use Rattle.std.specs.Prelude.{All, unwrap_or}
use Rattle.std.proofs.lemmas.List.Elements.{All-head, All-tail}
use Rattle.homeo_lemmas.proofs.Options.{if_some}
use Rattle.homeo_syntax.specs.Source as s
use Rattle.homeo_meaning.specs.declared.call.CallId.{CallId}
use Rattle.homeo_meaning.specs.Serial.{Outcome, call_outcome, serial}
use Rattle.homeo_plan.specs.declared.treaty.Broken.{Broken}
use Rattle.homeo_plan.specs.Local.{no_deltas}
use Rattle.homeo_plan.specs.Planned.{sites_of, template_at, policy}
use Rattle.homeo_plan.specs.Treaty.{Treaty, finding}
use Rattle.homeo_plan.proofs.Findings.{finding_law}
use Rattle.homeo_history.specs.History.{Entry, Closing, Round}
use Rattle.homeo_history.specs.Merge.{segment_of, interleave, FitsSegments}
use Rattle.homeo_history.specs.Legal.{first_base, OnlyLastIsOpen, IsAtSites, HasMerges, ClosesWith, base_or, RunsTo, AreSerial}
use Rattle.homeo_history.specs.Replayed.{deltas_after, end_of, site_end, Breaks, IsReplayed}
use Rattle.homeo_history.specs.Follows.{site_or_zero, FollowsRounds}
use Rattle.homeo_history.specs.Laws.{OneHistory}
use Rattle.homeo_history.proofs.Steps.{StepsRounds, to_steps}
use Rattle.homeo_history.proofs.OneRound.{Fits, Onward, Ended, SameRound, Left, same_round}

-- what legality says of rounds, from any of them on
record Good (w : s.Workload) (rounds : List Round) (last : List ℤ) : Type 0 where
  sizes : All (λ r. length r.segments ≡ sites_of w) rounds
  at_sites : All (IsAtSites w) rounds
  serial : AreSerial w rounds last
  replayed : All (IsReplayed w) rounds

good_rest : (w : s.Workload) (r : Round) (rounds : List Round) (last : List ℤ) → Good w (r ∷ rounds) last → Good w rounds last
unfolding definitions
good_rest w r rounds last g =
    record {
      sizes = All-tail (λ r. length r.segments ≡ sites_of w) r rounds g.sizes;
      at_sites = All-tail (IsAtSites w) r rounds g.at_sites;
      serial = g.serial.1;
      replayed = All-tail (IsReplayed w) r rounds g.replayed;
    }

record GoodOne (w : s.Workload) (r : Round) (next : List ℤ) : Type 0 where
  sizes : length r.segments ≡ sites_of w
  at_sites : IsAtSites w r
  runs : RunsTo w r next
  replayed : IsReplayed w r

good_one : (w : s.Workload) (r : Round) (rounds : List Round) (last : List ℤ) → Good w (r ∷ rounds) last → GoodOne w r (base_or rounds last)
unfolding definitions
good_one w r rounds last g =
    record {
      sizes = All-head (λ r. length r.segments ≡ sites_of w) r rounds g.sizes;
      at_sites = All-head (IsAtSites w) r rounds g.at_sites;
      runs = g.serial.0;
      replayed = All-head (IsReplayed w) r rounds g.replayed;
    }

-- ---- one round
not_broken : (w : s.Workload) (r : Round) (c : Closing) → Breaks w r c → Treaty (template_at w r.base) (policy w r.base) c.site (deltas_after w r.base c.entry.call (site_end w r c.site)) → ⊥
unfolding definitions
not_broken w r c b t =
    (finding_law (template_at w r.base) (policy w r.base) c.site (deltas_after w r.base c.entry.call (site_end w r c.site))).some c.broken b t

left_of : (w : s.Workload) (r : Round) (next : List ℤ) → GoodOne w r next → Left w r.base (λ i. no_deltas) (segment_of r.segments) r.closing
unfolding definitions
left_of w r next g =
    record {
      keeps = g.replayed.segments;
      breaks = λ c is. not_broken w r c (if_some (Breaks w r) r.closing c g.replayed.closing is);
      placed = λ c is. ap (λ o. unwrap_or o 0) (if_some _ r.closing c g.at_sites.closing is).at_site;
    }

lists_same : (xs ys : List (List Entry)) → length xs ≡ length ys → ((i : ℕ) → segment_of xs i ≡ segment_of ys i) → xs ≡ ys
unfolding definitions
lists_same [] [] e h = refl
lists_same [] (y ∷ ys) e h = absurd (omega (arith, e))
lists_same (x ∷ xs) [] e h = absurd (omega (arith, e))
lists_same (x ∷ xs) (y ∷ ys) e h = ap₂ ◌∷◌ (h 0) (lists_same xs ys (omega (arith, e)) (λ i. h (suc i)))

same_segments : (w : s.Workload) (r r' : Round) (next next' : List ℤ) → GoodOne w r next → GoodOne w r' next' → ((i : ℕ) → segment_of r.segments i ≡ segment_of r'.segments i) → r.segments ≡ r'.segments
same_segments w r r' next next' g g' h = lists_same r.segments r'.segments (g.sizes ∙ sym g'.sizes) h

same_after : (w : s.Workload) (r r' : Round) (e e' : List ℤ) (choice : List ℕ) → r.base ≡ r'.base → r.segments ≡ r'.segments → Fits (segment_of r.segments) choice → HasMerges w r e → HasMerges w r' e' → e ≡ e'
unfolding definitions
same_after w r r' e e' choice eb es fits m m' =
    sym (m.database choice fits) ∙ ap₂ (λ b segments. (serial w b (interleave segments choice)).database) eb es
    ∙ m'.database choice (subst (λ segments. FitsSegments segments choice) es fits)

some_is : (a b : Broken) → Some a ≡ Some b → a ≡ b
some_is a b e = cc

-- ---- all rounds
record Same (rounds rounds' : List Round) (last last' : List ℤ) : Type 0 where
  rounds_same : rounds ≡ rounds'
  last_same : last ≡ last'

module _ (w : s.Workload) (r r' : Round) (rounds rounds' : List Round) (last last' : List ℤ) (g : GoodOne w r (base_or rounds last)) (g' : GoodOne w r' (base_or rounds' last')) (eb : r.base ≡ r'.base) (m : SameRound w (segment_of r.segments) (segment_of r'.segments) r.closing r'.closing rounds rounds') where
  es : r.segments ≡ r'.segments
  es = same_segments w r r' (base_or rounds last) (base_or rounds' last') g g' m.same

  before : g.runs.after ≡ g'.runs.after
  before = same_after w r r' g.runs.after g'.runs.after m.choice eb es m.fits g.runs.merges g'.runs.merges

  ended : Ended r.closing r'.closing rounds rounds' → Same (r ∷ rounds) (r' ∷ rounds') last last'
  unfolding definitions
  ended d =
      let ec = d.is ∙ sym d.is' in
      let er : r ≡ r' = λ i. record { base = eb i; segments = es i; closing = ec i } in
      let n : base_or rounds last ≡ g.runs.after = subst (λ o. ClosesWith w g.runs.after o (base_or rounds last)) d.is g.runs.closes in
      let n' : base_or rounds' last' ≡ g'.runs.after = subst (λ o. ClosesWith w g'.runs.after o (base_or rounds' last')) d.is' g'.runs.closes in
      record {
        rounds_same = ap₂ ◌∷◌ er (d.none ∙ sym d.none');
        last_same = ap (λ q. base_or q last) (sym d.none) ∙ n ∙ before ∙ sym n' ∙ ap (λ q. base_or q last') d.none';
      }

  -- both go on
  record Next (o : Onward w r.closing r'.closing rounds rounds') : Type 0 where
    round : r ≡ r'
    base : base_or rounds last ≡ base_or rounds' last'

  next : (o : Onward w r.closing r'.closing rounds rounds') → Next o
  unfolding definitions
  next o =
      record { round = λ i. record { base = eb i; segments = es i; closing = (o.is ∙ ap Some closing ∙ sym o.is') i }; base = ap (λ (z : Outcome). z.database) out }
    where
      outcome : call_outcome w o.c.entry.call g.runs.after ≡ record { prints = o.c.entry.prints; database = base_or rounds last }
      outcome = subst (λ q. ClosesWith w g.runs.after q (base_or rounds last)) o.is g.runs.closes

      outcome' : call_outcome w o.c'.entry.call g'.runs.after ≡ record { prints = o.c'.entry.prints; database = base_or rounds' last' }
      outcome' = subst (λ q. ClosesWith w g'.runs.after q (base_or rounds' last')) o.is' g'.runs.closes

      gives : Outcome
      gives = record { prints = o.c.entry.prints; database = base_or rounds last }

      gives' : Outcome
      gives' = record { prints = o.c'.entry.prints; database = base_or rounds' last' }

      out : gives ≡ gives'
      out = sym outcome ∙ ap₂ (call_outcome w) o.call before ∙ outcome'

      site : o.c.site ≡ o.c'.site
      site =
          sym ((left_of w r (base_or rounds last) g).placed o.c o.is) ∙ ap (site_or_zero w) o.call
          ∙ (left_of w r' (base_or rounds' last') g').placed o.c' o.is'

      broken : o.c.broken ≡ o.c'.broken
      broken =
          some_is _ _
          (sym (if_some (Breaks w r) r.closing o.c g.replayed.closing o.is)
          ∙ (λ i. finding (template_at w (eb i)) (policy w (eb i)) (site i) (deltas_after w (eb i) (o.call i) (end_of w (eb i) (segment_of (es i) (site i)) no_deltas)))
          ∙ if_some (Breaks w r') r'.closing o.c' g'.replayed.closing o.is')

      closing : o.c ≡ o.c'
      closing =
          let p : o.c.entry.prints ≡ o.c'.entry.prints = ap (λ (z : Outcome). z.prints) out in
          λ i. record { site = site i; entry = record { call = o.call i; prints = p i }; broken = broken i }

  onward : ((calls : List CallId) → first_base rounds ≡ first_base rounds' → StepsRounds w rounds calls → StepsRounds w rounds' calls → Same rounds rounds' last last') → Onward w r.closing r'.closing rounds rounds' → Same (r ∷ rounds) (r' ∷ rounds') last last'
  unfolding definitions
  onward ih o =
      let n = next o in
      let base : o.r.base ≡ o.r'.base = ap (λ q. base_or q last) (sym o.more) ∙ n.base ∙ ap (λ q. base_or q last') o.more' in
      let first : first_base rounds ≡ first_base rounds' = ap first_base o.more ∙ ap Some base ∙ sym (ap first_base o.more') in
      let rest = ih o.calls first (subst (λ q. StepsRounds w q o.calls) (sym o.more) o.steps) (subst (λ q. StepsRounds w q o.calls) (sym o.more') o.steps') in
      record { rounds_same = ap₂ ◌∷◌ n.round rest.rounds_same; last_same = rest.last_same }

base_is : (a b : List ℤ) → Some a ≡ Some b → a ≡ b
base_is a b e = cc

same_rounds : (w : s.Workload) (rounds rounds' : List Round) (last last' : List ℤ) (calls : List CallId) → Good w rounds last → Good w rounds' last' → first_base rounds ≡ first_base rounds' → StepsRounds w rounds calls → StepsRounds w rounds' calls → Same rounds rounds' last last'
unfolding definitions
same_rounds w [] rounds' last last' calls g g' e f f' = absurd f
same_rounds w (r ∷ rounds) [] last last' calls g g' e f f' = absurd f'
same_rounds w (r ∷ rounds) (r' ∷ rounds') last last' calls g g' e f f' =
    ⊎_elim (ended w r r' rounds rounds' last last' one one' eb m) (onward w r r' rounds rounds' last last' one one' eb m (λ more first h h'. same_rounds w rounds rounds' last last' more (good_rest w r rounds last g) (good_rest w r' rounds' last' g') first h h')) m.onward
  where
    eb : r.base ≡ r'.base
    eb = base_is _ _ e

    one : GoodOne w r (base_or rounds last)
    one = good_one w r rounds last g

    one' : GoodOne w r' (base_or rounds' last')
    one' = good_one w r' rounds' last' g'

    m : SameRound w (segment_of r.segments) (segment_of r'.segments) r.closing r'.closing rounds rounds'
    m =
        same_round w r.base calls (λ i. no_deltas) (segment_of r.segments) (segment_of r'.segments) r.closing r'.closing rounds rounds' (left_of w r (base_or rounds last) one) (subst (λ b. Left w b (λ i. no_deltas) (segment_of r'.segments) r'.closing) (sym eb) (left_of w r' (base_or rounds' last') one')) f f'

steps_rounds : (w : s.Workload) (rounds : List Round) (calls : List CallId) → OnlyLastIsOpen rounds → FollowsRounds w rounds calls → StepsRounds w rounds calls
unfolding definitions
steps_rounds w [] calls h f = absurd h
steps_rounds w (r ∷ rounds) calls h f = to_steps w r rounds calls h f

pub one_history : OneHistory
unfolding definitions
one_history w start counts h h' calls l l' f f' =
    let good : Good w h.rounds h.last = record { sizes = l.framed.segments; at_sites = l.at_sites; serial = l.serial; replayed = l.replayed } in
    let good' : Good w h'.rounds h'.last = record { sizes = l'.framed.segments; at_sites = l'.at_sites; serial = l'.serial; replayed = l'.replayed } in
    let same = same_rounds w h.rounds h'.rounds h.last h'.last calls good good' (l.framed.starts ∙ sym l'.framed.starts) (steps_rounds w h.rounds calls l.framed.closed f) (steps_rounds w h'.rounds calls l'.framed.closed f') in
    λ i. record { rounds = same.rounds_same i; last = same.last_same i }

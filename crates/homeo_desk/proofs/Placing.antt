-- Calls that a site makes alone, numbered in each round.
use Rattle.homeo_core.specs.Key.{definitions as core_definitions}
use Rattle.homeo_history.specs.Key.{definitions as history_definitions}
use Rattle.homeo_nodes.specs.Key.{definitions}
use Rattle.std.proofs.Common.{◌≡◌, ℕ, suc, ◌≤◌, List, [], ◌∷◌, ◌++◌, map, length, ◌<◌, Bool, true, false, cond, eqb, Option, Some, None, refl, sym, ap, subst, ◌∙◌, ⊎_elim, arith}
use Rattle.std.specs.Prelude.{All}
use Rattle.std.proofs.lemmas.List.{map-append}
use Rattle.std.proofs.lemmas.List.Elements.{All-cons, All-nil}
use Rattle.homeo_syntax.specs.Source as s
use Rattle.homeo_plan.specs.declared.treaty.Broken.{Broken}
use Rattle.homeo_plan.specs.Planned.{sites_of}
use Rattle.homeo_history.specs.Answers as h
use Rattle.homeo_history.specs.History.{Closing, Entry}
use Rattle.homeo_site.specs.SiteState.{step_finding, step_prints}
use Rattle.homeo_nodes.specs.declared.breach.Breach.{Breach}
use Rattle.homeo_nodes.specs.Brief.{Brief, briefly_by, briefly, briefly_all, brief_at, brief_end, site_at}
use Rattle.homeo_nodes.specs.Making.{Called}
use Rattle.homeo_nodes.specs.Nodes.{Said, Journal, carried, next_of, newest, own_answer, answers_then, closed}
use Rattle.homeo_nodes.proofs.Brief.{brief_closes}
use Rattle.std.proofs.lemmas.Bool.{cases_eq, eq-eqb, ne_eqb, cond-true, cond-false}
use Rattle.homeo_desk.specs.declared.output.Path.{Path}
use Rattle.homeo_desk.specs.declared.output.Path.TheVariants as path
use Rattle.homeo_desk.specs.declared.places.Places.{Places}
use Rattle.homeo_desk.specs.DeskView.{Reply}
use Rattle.homeo_desk.specs.Outputs.{Given, AreTold, none, told, replies_of}
use Rattle.homeo_desk.specs.Places.{made_in, one_more, IsPlaced, counted, ArePlaced}
use Rattle.homeo_desk.specs.inner.Keeping.{ArePut, put}

-- ---- counts
here : (round made : ℕ) → made_in round made round ≡ made
here round made = cond-true (eqb round round) made 0 (eq-eqb round round refl)

-- by way of a round between
in_later : (round made mid now : ℕ) → round ≤ mid → mid ≤ now → made_in mid (made_in round made mid) now ≡ made_in round made now
in_later round made mid now le more = ⊎_elim same other (cases_eq mid now)
  where
    same : mid ≡ now → made_in mid (made_in round made mid) now ≡ made_in round made now
    same e = cond-true (eqb mid now) (made_in round made mid) 0 (eq-eqb mid now e) ∙ ap (made_in round made) e

    other : (mid ≡ now → ⊥) → made_in mid (made_in round made mid) now ≡ made_in round made now
    other differ =
        cond-false (eqb mid now) (made_in round made mid) 0 (ne_eqb mid now differ)
        ∙ sym (cond-false (eqb round now) made 0 (ne_eqb round now (λ e. differ (omega arith))))

-- ---- replies, put together
pub placed_nothing : (round made : ℕ) → ArePlaced round made [] round made
placed_nothing round made = (omega arith, sym (here round made))

pub placed_earlier : (round made mid last count : ℕ) (rs : List Reply) → round ≤ mid → ArePlaced mid (made_in round made mid) rs last count →
    ArePlaced round made rs last count
placed_earlier round made mid last count [] le placed = let up = placed.0 in (omega arith, placed.1 ∙ in_later round made mid last le up)
placed_earlier round made mid last count (r ∷ rs) le placed =
    let up = placed.0 in
    let same = in_later round made mid r.round le up in
    (omega arith, subst (IsPlaced r.path) same placed.1, subst (λ m. ArePlaced r.round (counted r.path m) rs last count) same placed.2)

pub placed_then : (round made mid so_many last count : ℕ) (rs qs : List Reply) → ArePlaced round made rs mid so_many → ArePlaced mid so_many qs last count →
    ArePlaced round made (rs ++ qs) last count
placed_then round made mid so_many last count [] qs first more =
    placed_earlier round made mid last count qs first.0 (subst (λ m. ArePlaced mid m qs last count) first.1 more)
placed_then round made mid so_many last count (r ∷ rs) qs first more =
    (first.0, first.1, placed_then r.round (counted r.path (made_in round made r.round)) mid so_many last count rs qs first.2 more)

pub put_then : (p q end : Places) (rs qs : List Reply) → ArePut p rs q → ArePut q qs end → ArePut p (rs ++ qs) end
put_then p q end [] qs first more = subst (λ z. ArePut z qs end) first more
put_then p q end (r ∷ rs) qs first more = (first.0, put_then (put r.path r.round p) q end rs qs first.1 more)

-- ---- rounds that rise from one to another
abbrev pub Rises : ℕ → List ℕ → ℕ → Type 0
Rises first [] last = first ≤ last
Rises first (round ∷ rounds) last = (first ≤ round) × Rises round rounds last

abbrev pub rounds_of : List h.Answer → List ℕ
rounds_of answers = map (λ (b : h.Answer). b.round) answers

rises_earlier : (first mid last : ℕ) (rounds : List ℕ) → first ≤ mid → Rises mid rounds last → Rises first rounds last
rises_earlier first mid last [] le up = omega arith
rises_earlier first mid last (round ∷ rounds) le up = let more = up.0 in (omega arith, up.1)

rises_then : (first mid last : ℕ) (xs ys : List ℕ) → Rises first xs mid → Rises mid ys last → Rises first (xs ++ ys) last
rises_then first mid last [] ys le up = rises_earlier first mid last ys le up
rises_then first mid last (round ∷ xs) ys up more = (up.0, rises_then round mid last xs ys up.1 more)

pub rises_up : (first last : ℕ) (rounds : List ℕ) → Rises first rounds last → first ≤ last
rises_up first last [] le = le
rises_up first last (round ∷ rounds) up = let le = up.0 in let more = rises_up round last rounds up.1 in omega arith

pub rises_within : (first last : ℕ) (answers : List h.Answer) → Rises first (rounds_of answers) last → All (λ (b : h.Answer). b.round ≤ last) answers
rises_within first last [] le = All-nil (λ (b : h.Answer). b.round ≤ last)
rises_within first last (b ∷ answers) up =
    All-cons (λ (b : h.Answer). b.round ≤ last) b answers (rises_up b.round last (rounds_of answers) up.1) (rises_within b.round last answers up.1)

told_rounds : (given : List Given) (answers : List h.Answer) → AreTold given answers → map (λ (r : Reply). r.round) (replies_of given) ≡ rounds_of answers
told_rounds given answers none = refl
told_rounds given answers (told g b gs bs says more) = ap (λ r. r ∷ map (λ (r : Reply). r.round) (replies_of gs)) says.round ∙ ap (λ rs. b.round ∷ rs) (told_rounds gs bs more)

-- ---- what is kept, for a node in a round that is no earlier
put_here : (p : Path) (round : ℕ) (places : Places) → made_in (put p round places).round (put p round places).made round ≡ counted p (made_in places.round places.made round)
put_here (path.Local place) round places = here round (one_more (made_in places.round places.made round))
put_here (path.Closing broken) round places = refl

pub put_within : (p : Path) (round last : ℕ) (places : Places) → places.round ≤ last → round ≤ last → (put p round places).round ≤ last
put_within (path.Local place) round last places le more = more
put_within (path.Closing broken) round last places le more = le

put_placed : (first last : ℕ) (p q : Places) (rs : List Reply) → p.round ≤ first → Rises first (map (λ (r : Reply). r.round) rs) last → ArePut p rs q →
    ArePlaced first (made_in p.round p.made first) rs last (made_in q.round q.made last)
put_placed first last p q [] le up same =
    (up, ap (λ (z : Places). made_in z.round z.made last) same ∙ sym (in_later p.round p.made first last le up))
put_placed first last p q (r ∷ rs) le up are =
    let more = up.0 in
    let same = in_later p.round p.made first r.round le more in
    let next : Places = put r.path r.round p in
    let rest : ArePlaced r.round (made_in next.round next.made r.round) rs last (made_in q.round q.made last) =
    put_placed r.round last next q rs (put_within r.path r.round r.round p (omega arith) (omega arith)) up.1 are.1 in (
      more,
      subst (IsPlaced r.path) (sym same) are.0,
      subst (λ m. ArePlaced r.round m rs last (made_in q.round q.made last)) (put_here r.path r.round p ∙ ap (counted r.path) (sym same)) rest,
    )

pub told_placed : (first last : ℕ) (p q : Places) (given : List Given) (answers : List h.Answer) → p.round ≤ first → Rises first (rounds_of answers) last →
    AreTold given answers → ArePut p (replies_of given) q → ArePlaced first (made_in p.round p.made first) (replies_of given) last (made_in q.round q.made last)
told_placed first last p q given answers le up tells are =
    put_placed first last p q (replies_of given) le (subst (λ rs. Rises first rs last) (sym (told_rounds given answers tells)) up) are

pub nothing_placed : (given : List Given) → AreTold given [] → (round made : ℕ) → ArePlaced round made (replies_of given) round made
nothing_placed given none round made = placed_nothing round made

-- ---- the answers that a node gives when it closes its round
own_rises : (i round last : ℕ) (c : Closing) → round ≤ last → Rises round (rounds_of (own_answer i round (Some c))) last
unfolding definitions history_definitions
own_rises i round last c le = go (eqb c.site i)
  where
    go : (t : Bool) → Rises round (rounds_of (cond t (h.closing_answer round c ∷ []) [])) last
    go true = (omega arith, le)
    go false = le

one_rises : (w : s.Workload) (i : ℕ) (b : Brief) (c : Called) (o : Option Broken) → Rises b.round (rounds_of (briefly_by w i b c o).answers) (briefly_by w i b c o).brief.round
unfolding definitions history_definitions
one_rises w i b c None = go (record { call = c.call; prints = step_prints w (site_at b c.site) c.call }) (eqb c.site i)
  where
    go : (e : Entry) (t : Bool) → Rises b.round (rounds_of (cond t (h.local_answer b.round i e ∷ []) [])) b.round
    go e true = (omega arith, omega arith)
    go e false = omega arith
one_rises w i b c (Some broken) = own_rises i b.round (suc b.round) _ (omega arith)

all_rise : (w : s.Workload) (i : ℕ) (calls : List Called) (b : Brief) → Rises b.round (rounds_of (briefly_all w i calls b).answers) (briefly_all w i calls b).brief.round
unfolding definitions
all_rise w i [] b = omega arith
all_rise w i (c ∷ calls) b =
    let one = briefly w i c b in
    let more = briefly_all w i calls one.brief in
    subst (λ rs. Rises b.round rs more.brief.round) (sym (map-append (λ (b : h.Answer). b.round) one.answers more.answers))
    (rises_then b.round one.brief.round more.brief.round (rounds_of one.answers) (rounds_of more.answers) (one_rises w i b c (step_finding w (site_at b c.site) c.call)) (all_rise w i calls one.brief))

pub closing_rises : (w : s.Workload) (u : Breach) (states : List Said) (j : Journal) → length states ≡ sites_of w → j.site.number < sites_of w →
    Rises j.site.round (rounds_of (answers_then w u states j)) (closed w u states j).site.round
unfolding definitions
closing_rises w u states j long own =
    let i : ℕ = j.site.number in
    let is = brief_closes w u states j long own in
    let end = brief_end w u states j in
    let first : List h.Answer = own_answer i j.site.round (newest w u states j).closing in
    subst (λ last. Rises j.site.round (rounds_of (answers_then w u states j)) last) (sym is.round)
    (subst (λ answers. Rises j.site.round (rounds_of answers) end.brief.round) (sym is.answers)
    (subst (λ rs. Rises j.site.round rs end.brief.round) (sym (map-append (λ (b : h.Answer). b.round) first end.answers))
    (rises_then j.site.round (suc j.site.round) end.brief.round (rounds_of first) (rounds_of end.answers) (own_rises i j.site.round (suc j.site.round) _ (omega arith))
    (all_rise w i (carried w u states) (brief_at w (suc j.site.round) (next_of w u states j))))))

-- Calls one after another.
use Rattle.homeo_nodes.specs.Key.{definitions}
use Rattle.std.proofs.Common.{◌≡◌, ℕ, suc, ◌+◌, ◌<◌, ◌≤◌, List, [], ◌∷◌, ◌++◌, map, length, take, get_or, Option, Some, None, refl, sym, ap, subst, ◌∙◌, append_assoc, arith}
use Rattle.std.proofs.lemmas.List.{append-nil, take-map}
use Rattle.homeo_lemmas.proofs.Lists.{map_take_more}
use Rattle.homeo_lemmas.proofs.Places.{get_map, get_read}
use Rattle.homeo_syntax.specs.Source as source
use Rattle.homeo_plan.specs.declared.treaty.Broken.{Broken}
use Rattle.homeo_history.specs.Answers.{Answer}
use Rattle.homeo_site.specs.SiteState.{step_finding}
use Rattle.homeo_nodes.specs.Brief.{Brief, Answered, site_at, briefly_by, briefly, briefly_all}
use Rattle.homeo_nodes.specs.Making as n
use Rattle.homeo_carry.specs.declared.answers.Answers.{Answers}
use Rattle.homeo_carry.specs.declared.calls.Called.{Called}
use Rattle.homeo_carry.specs.declared.carrying.Rounds.{Rounds}
use Rattle.homeo_carry.specs.inner.Answering.{AreMore}
use Rattle.homeo_carry.specs.inner.Carrying.{plain_called, brief_of, IsNext, CanMake, CanMakeAll}

-- ---- one more call
abbrev then_one : source.Workload → ℕ → n.Called → Answered → Answered
then_one w own c a = record {
  brief = (briefly w own c a.brief).brief;
  answers = a.answers ++ (briefly w own c a.brief).answers;
}

all_push : (w : source.Workload) (own : ℕ) (cs : List n.Called) (c : n.Called) (b : Brief) → briefly_all w own (cs ++ c ∷ []) b ≡ then_one w own c (briefly_all w own cs b)
unfolding definitions
all_push w own [] c b = ap (λ rs. record { brief = (briefly w own c b).brief; answers = rs }) (append-nil (briefly w own c b).answers)
all_push w own (d ∷ cs) c b =
    let one : Answered = briefly w own d b in
    let most : Answered = briefly_all w own cs one.brief in
    ap (λ (a : Answered). record { brief = a.brief; answers = one.answers ++ a.answers }) (all_push w own cs c one.brief)
    ∙ ap (λ rs. record { brief = (briefly w own c most.brief).brief; answers = rs }) (sym (append_assoc one.answers most.answers (briefly w own c most.brief).answers))

more_then : (a b c : Answers) (xs ys : List Answer) → AreMore a b xs → AreMore b c ys → AreMore a c (xs ++ ys)
more_then a b c xs ys ab bc = record {
  own = bc.own ∙ ab.own;
  given = bc.given ∙ ap (λ zs. zs ++ ys) ab.given ∙ append_assoc _ xs ys;
}

next_then : (w : source.Workload) (before : Answers) (a : Answered) (c : n.Called) (x y : Rounds) → IsNext before a x → IsNext x.answers (briefly w x.answers.own c (brief_of x)) y → IsNext before (then_one w before.own c a) y
next_then w before a c x y all one =
    let one' : IsNext x.answers (briefly w before.own c a.brief) y = subst (λ b. IsNext x.answers (briefly w before.own c b) y) all.brief (subst (λ i. IsNext x.answers (briefly w i c (brief_of x)) y) all.answers.own one) in
    record { brief = one'.brief; answers = more_then before x.answers y.answers a.answers (briefly w before.own c a.brief).answers all.answers one'.answers }

pub all_next : (w : source.Workload) (before : Answers) (b : Brief) (calls : List Called) (i : ℕ) (c : Called) (x y : Rounds) → i < length calls → c ≡ get_or calls i c → IsNext before (briefly_all w before.own (map plain_called (take i calls)) b) x → IsNext x.answers (briefly w x.answers.own (plain_called c) (brief_of x)) y → IsNext before (briefly_all w before.own (map plain_called (take (i + 1) calls)) b) y
all_next w before b calls i c x y lt is all one =
    subst (λ a. IsNext before a y) (sym (ap (λ cs. briefly_all w before.own cs b) (map_take_more plain_called calls i c lt is) ∙ all_push w before.own (map plain_called (take i calls)) (plain_called c) b)) (next_then w before (briefly_all w before.own (map plain_called (take i calls)) b) (plain_called c) x y all one)

pub none_next : (w : source.Workload) (x : Rounds) → IsNext x.answers (briefly_all w x.answers.own [] (brief_of x)) x
unfolding definitions
none_next w x = record { brief = refl; answers = record { own = refl; given = sym (append-nil _) } }

-- ---- calls that can be made
pub can_make : (w : source.Workload) (before : Answers) (b : Brief) (calls : List Called) (i : ℕ) (c : Called) (x : Rounds) → i < length calls → c ≡ get_or calls i c → IsNext before (briefly_all w before.own (map plain_called (take i calls)) b) x → CanMakeAll w before.own (map plain_called calls) b → CanMake w (brief_of x) (plain_called c)
can_make w before b calls i c x lt is all can =
    subst (λ y. CanMake w y (plain_called c)) (ap (λ cs. (briefly_all w before.own cs b).brief) (take-map plain_called i calls) ∙ sym all.brief) (can i (plain_called c) (get_map plain_called calls i c (get_read calls i c lt is)))

-- ---- how far they lead
round_by : (w : source.Workload) (own : ℕ) (b : Brief) (c : n.Called) (o : Option Broken) → (briefly_by w own b c o).brief.round ≤ suc b.round
unfolding definitions
round_by w own b c None = omega arith
round_by w own b c (Some broken) = omega arith

pub round_after : (w : source.Workload) (own : ℕ) (cs : List n.Called) (b : Brief) → (briefly_all w own cs b).brief.round ≤ b.round + length cs
unfolding definitions
round_after w own [] b = omega arith
round_after w own (c ∷ cs) b =
    let one = round_by w own b c (step_finding w (site_at b c.site) c.call) in
    let all = round_after w own cs (briefly w own c b).brief in
    omega (arith, one, all)

-- A site keeps what it keeps: with a local call, in the next round, and at the start.
use Rattle.homeo_history.specs.Key.{definitions as history_definitions}
use Rattle.homeo_site.specs.Key.{definitions as site_definitions}
use Rattle.homeo_assembly.specs.Key.{definitions}
use Rattle.std.proofs.Common.{◌≡◌, suc, ◌+◌, List, [], ◌∷◌, ◌++◌, map, length, Some, refl, sym, ap, subst, ◌∙◌, arith, append_assoc}
use Rattle.std.specs.Prelude.{slice_get}
use Rattle.std.proofs.lemmas.List.{append-nil, length_push}
use Rattle.homeo_meaning.specs.Initial.{initial}
use Rattle.homeo_meaning.proofs.Sound.{sound}
use Rattle.homeo_history.specs.Answers.{Answer, local_answer, answers_to}
use Rattle.homeo_history.specs.History.{Entry}
use Rattle.homeo_history.proofs.Lists.{get_end}
use Rattle.homeo_site.specs.SiteState.{local_entry}
use Rattle.homeo_site.proofs.SitesHold.{begun_holds, local_holds}
use Rattle.homeo_core.proofs.OneAnswer.{one_more_entry}
use Rattle.homeo_assembly.specs.Laws.{LocalEvent, SiteRenewal, SiteStart}
use Rattle.homeo_assembly.proofs.NumberedAnswers.{numbered_more}

-- ---- a local call
pub local_event : LocalEvent
unfolding definitions history_definitions site_definitions
local_event w x call l l' accepted facts at keeps new =
    let entry : Entry = local_entry w x call in
    let a : Answer = local_answer x.round x.number entry in
    let answered : List Entry → List Answer = map (local_answer x.round x.number) in
    record {
      holds = local_holds w x call accepted facts.holds at keeps;
      rounds = ap length new.at ∙ facts.rounds;
      base = subst (λ xs. slice_get xs x.round ≡ Some x.base) (sym new.at) facts.base;
      serves = λ client own. let old = facts.serves client own in record {
        answered =
            new.done client own
            ∙ ap (λ xs. xs ++ answers_to client (a ∷ [])) old.answered
            ∙ append_assoc (l.shut client) (answers_to client (answered x.segment)) (answers_to client (a ∷ []))
            ∙ ap (λ xs. l.shut client ++ xs) (sym (one_more_entry client x.round x.number x.segment entry))
            ∙ ap (λ xs. xs ++ answers_to client (answered (x.segment ++ entry ∷ []))) (sym (new.shut client own));
        numbered = numbered_more w x.number client a l.done (l'.done client) own new.next (new.done client own) old.numbered;
      };
    }

-- ---- the next round
pub site_renewal : SiteRenewal
unfolding definitions history_definitions site_definitions
site_renewal w base x a l l' accepted within facts new =
    let long : length (l.at ++ base ∷ []) ≡ length l.at + 1 = length_push l.at base in
    let now : length l'.at ≡ length (l.at ++ base ∷ []) = ap length new.at in
    let old : length l.at ≡ suc x.round = facts.rounds in
    let last : slice_get (l.at ++ base ∷ []) (suc x.round) ≡ Some base =
    subst (λ n. slice_get (l.at ++ base ∷ []) n ≡ Some base) old (get_end l.at base) in
    record {
      holds = begun_holds w x.number (suc x.round) base accepted facts.holds.site within;
      rounds = omega (arith, long, now, old);
      base = subst (λ xs. slice_get xs (suc x.round) ≡ Some base) (sym new.at) last;
      serves = λ client own. let was = facts.serves client own in record {
        answered = sym (new.shut client own) ∙ sym (append-nil (l'.shut client));
        numbered = numbered_more w x.number client a l.done (l'.done client) own new.next (new.done client own) was.numbered;
      };
    }

-- ---- the start
pub site_start : SiteStart
unfolding definitions history_definitions site_definitions
site_start w site accepted lt = record {
  holds = begun_holds w site 0 (initial w) accepted lt (sound w accepted).starts;
  rounds = refl;
  base = refl;
  serves = λ client own. record { answered = refl; numbered = refl };
}

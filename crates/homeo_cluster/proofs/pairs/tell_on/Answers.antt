use Rattle.std.proofs.Common.{sym, ap, subst}
use Rattle.homeo_notes.specs.Lines.{Held, HasSeen, list_at, seen_at}
use Rattle.homeo_cluster.proofs.pairs.tell_on.Goals as goal

pub returns-clause-rose : goal.returns-clause-rose
returns-clause-rose g c = record {
  owned = ap (λ (h : Held). h.owned) c.tell.ensures.to;
  seen = λ i. subst (λ (h : Held). HasSeen h i (seen_at c.args.to.now i)) (sym c.tell.ensures.to) (c.tell.ensures.prefixes i).0;
}

pub returns-clause-told : goal.returns-clause-told
returns-clause-told g c i = subst (λ (h : Held). HasSeen h i (list_at c.args.from.now i)) (sym c.tell.ensures.to) (c.tell.ensures.prefixes i).2

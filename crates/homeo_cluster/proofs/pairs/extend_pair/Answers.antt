use Rattle.std.proofs.Common.{◌≡◌, ◌++◌, ◌∷◌, [], sym, ap, ◌∙◌, subst, refl}
use Rattle.homeo_notes.specs.Lines.{Held, HasSeen, list_at}
use Rattle.homeo_cluster.specs.inner.Grows.{Rose, Grew}
use Rattle.homeo_cluster.proofs.Grows.{rose_list, grew_same, grew_by_extend, rose_grew_rose}
use Rattle.homeo_cluster.proofs.pairs.extend_pair.Goals as goal
use Rattle.homeo_cluster.proofs.pairs.extend_pair.Goals.{After-tell_on-2}
use Rattle.homeo_cluster.proofs.pairs.extend_pair.Given.{Over}

left_grew : (g : Over) (c : After-tell_on-2 g) → Grew c.args.left.now c.tell_on-2.new.to c.args.one (c.args.head.now ++ c.args.body.now)
left_grew g c = rose_grew_rose c.args.left.now c.meet_pair.new.left c.extend.new.holder c.tell_on-2.new.to c.args.one _ c.meet_pair.ensures.left (grew_by_extend _ _ c.args.one _ c.extend.ensures.appended)
    (subst (λ (h : Held). Rose h c.tell_on-2.new.to) c.tell_on.ensures.from c.tell_on-2.ensures.rose)

right_grew : (g : Over) (c : After-tell_on-2 g) → Grew c.args.right.now c.tell_on.new.to c.args.other (c.args.head.now ++ c.args.body.now)
right_grew g c = rose_grew_rose c.args.right.now c.meet_pair.new.right c.extend-2.new.holder c.tell_on.new.to c.args.other _ c.meet_pair.ensures.right (grew_by_extend _ _ c.args.other _ c.extend-2.ensures.appended) c.tell_on.ensures.rose

same_lists : (g : Over) (c : After-tell_on-2 g) → list_at c.tell_on.new.to c.args.other ≡ list_at c.tell_on-2.new.to c.args.one
same_lists g c = grew_same _ _ c.args.other c.args.other _ (right_grew g c) refl ∙ (ap (λ xs. xs ++ (c.args.head.now ++ c.args.body.now) ∷ []) (sym c.meet_pair.ensures.equal) ∙ sym (grew_same _ _ c.args.one c.args.one _ (left_grew g c) refl))

pub returns-clause-left : goal.returns-clause-left
returns-clause-left g c = left_grew g c

pub returns-clause-right : goal.returns-clause-right
returns-clause-right g c = subst (λ (h : Held). Grew c.args.right.now h c.args.other (c.args.head.now ++ c.args.body.now)) (sym c.tell_on-2.ensures.from) (right_grew g c)

pub returns-clause-left_seen : goal.returns-clause-left_seen
returns-clause-left_seen g c = subst (HasSeen c.tell_on-2.new.to c.args.other) (same_lists g c) (c.tell_on-2.ensures.told c.args.other)

pub returns-clause-right_seen : goal.returns-clause-right_seen
returns-clause-right_seen g c =
    let rose = subst (λ (h : Held). Rose h c.tell_on-2.new.to) c.tell_on.ensures.from c.tell_on-2.ensures.rose in
    let at = subst (HasSeen c.tell_on.new.to c.args.one) (sym (rose_list c.extend.new.holder c.tell_on-2.new.to c.args.one rose) ∙ sym (same_lists g c)) (c.tell_on.ensures.told c.args.one) in
    subst (λ (h : Held). HasSeen h c.args.one (list_at h c.args.other)) (sym c.tell_on-2.ensures.from) at

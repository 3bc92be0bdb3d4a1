use Rattle.std.proofs.Common.{◌≡◌, ◌++◌, sym, ap, ◌∙◌, subst, refl}
use Rattle.homeo_notes.specs.Lines.{Held, HasSeen, list_at, seen_at}
use Rattle.homeo_notes.proofs.Prefixes.{prefix_self}
use Rattle.homeo_cluster.specs.inner.Grows.{Rose, Grew}
use Rattle.homeo_cluster.proofs.Grows.{rose_list, grew_same, grew_by_extend, rose_grew_rose}
use Rattle.homeo_cluster.proofs.pairs.follow_pair.Goals as goal
use Rattle.homeo_cluster.proofs.pairs.follow_pair.Goals.{After-tell_on-2}
use Rattle.homeo_cluster.proofs.pairs.follow_pair.Given.{Over}

still : (h : Held) → Rose h h
still h = record { owned = refl; seen = λ i. prefix_self (seen_at h i) }

left_rose : (g : Over) (c : After-tell_on-2 g) → Rose c.extend.new.holder c.tell_on-2.new.to
left_rose g c = subst (λ (h : Held). Rose h c.tell_on-2.new.to) c.tell_on.ensures.from c.tell_on-2.ensures.rose

left_grew : (g : Over) (c : After-tell_on-2 g) → Grew c.args.left.now c.tell_on-2.new.to c.args.one (c.args.head.now ++ c.args.body.now)
left_grew g c = rose_grew_rose c.args.left.now c.args.left.now c.extend.new.holder c.tell_on-2.new.to c.args.one _ (still c.args.left.now) (grew_by_extend _ _ c.args.one _ c.extend.ensures.appended) (left_rose g c)

same_lists : (g : Over) (c : After-tell_on-2 g) → list_at c.tell_on.new.to c.args.other ≡ list_at c.tell_on-2.new.to c.args.one
same_lists g c = rose_list c.args.right.now c.tell_on.new.to c.args.other c.tell_on.ensures.rose ∙ (c.requires.ahead ∙ sym (grew_same _ _ c.args.one c.args.one _ (left_grew g c) refl))

pub returns-clause-left : goal.returns-clause-left
returns-clause-left g c = left_grew g c

pub returns-clause-right : goal.returns-clause-right
returns-clause-right g c = subst (λ (h : Held). Rose c.args.right.now h) (sym c.tell_on-2.ensures.from) c.tell_on.ensures.rose

pub returns-clause-equal : goal.returns-clause-equal
returns-clause-equal g c = sym (ap (λ (h : Held). list_at h c.args.other) c.tell_on-2.ensures.from ∙ same_lists g c)

pub returns-clause-left_seen : goal.returns-clause-left_seen
returns-clause-left_seen g c = subst (HasSeen c.tell_on-2.new.to c.args.other) (same_lists g c) (c.tell_on-2.ensures.told c.args.other)

pub returns-clause-right_seen : goal.returns-clause-right_seen
returns-clause-right_seen g c =
    let at = subst (HasSeen c.tell_on.new.to c.args.one) (sym (rose_list c.extend.new.holder c.tell_on-2.new.to c.args.one (left_rose g c)) ∙ sym (same_lists g c)) (c.tell_on.ensures.told c.args.one) in
    subst (λ (h : Held). HasSeen h c.args.one (list_at h c.args.other)) (sym c.tell_on-2.ensures.from) at

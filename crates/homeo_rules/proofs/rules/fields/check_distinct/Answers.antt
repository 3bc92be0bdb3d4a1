-- One more name is put to those so far.
use Rattle.std.proofs.Common.{◌≡◌, ℕ, ◌+◌, ◌==◌, ◌||◌, Bool, List, [], ◌∷◌, ◌++◌, take, drop, sym, ap, ◌∙◌}
use Rattle.std.proofs.lemmas.List.{take_more, drop_more}
use Rattle.std.proofs.lemmas.List.Folds.{list_any_more}
use Rattle.std.specs.List.{list_any}
use Rattle.homeo_syntax.specs.declared.command.FieldValue.{FieldValue}
use Rattle.homeo_rules.specs.inner.Deciding.{keep_all}
use Rattle.homeo_meaning.specs.NameRules.{when, fault}
use Rattle.homeo_meaning.specs.declared.rules.Phase.TheVariants.{Duplicate}
use Rattle.homeo_rules.specs.inner.Listwise.{along_each}
use Rattle.homeo_rules.specs.inner.Relations.{named_twice}
use Rattle.homeo_rules.proofs.rules.fields.check_distinct.Goals as goal

pub loop-f-preserved : goal.loop-f-preserved
loop-f-preserved c =
    let fs : List FieldValue = c.args.fields.now in
    let i : ℕ = c.loop-f.f-index in
    let f : FieldValue = c.f-item.result in
    let taken : take (i + 1) fs ≡ take i fs ++ f ∷ [] = take_more fs i f c.loop-f-test.true ∙ ap (λ (g : FieldValue). take i fs ++ g ∷ []) (sym c.f-item.is) in
    let left : drop i fs ≡ f ∷ drop (i + 1) fs = drop_more fs i f c.loop-f-test.true ∙ ap (λ (g : FieldValue). g ∷ drop (i + 1) fs) (sym c.f-item.is) in
    let kept : c.in_ok-best.best ≡ keep_all c.loop-f.best (named_twice (take i fs) f) = c.in_ok-best.ensures.best ∙ ap (λ (b : Bool). keep_all c.loop-f.best (when b (fault Duplicate f.field))) (c.loop-f.invariant.names f.field.name) in
    record {
      names = λ n. c.in_ok-best.ensures.names n ∙ ap (λ (b : Bool). b || (f.field.name == n)) (c.loop-f.invariant.names n)
          ∙ ap (λ (g : FieldValue). list_any (λ e. e.field.name == n) (take i fs) || (g.field.name == n)) c.f-item.is
          ∙ sym (list_any_more (λ (e : FieldValue). e.field.name == n) fs i f c.loop-f-test.true);
      so_far = (λ j. along_each named_twice (taken j) (kept j) (drop (i + 1) fs))
          ∙ ap (along_each named_twice (take i fs) c.loop-f.best) (sym left)
          ∙ c.loop-f.invariant.so_far;
    }

-- The comparison that holds in its place.
use Rattle.std.proofs.Common.{◌≡◌, Bool, List, [], ◌∷◌, pos, cond, Result, refl, sym, ap, ◌∙◌, subst}
use Rattle.std.specs.List.{flat_map}
use Rattle.homeo_syntax.specs.declared.phrase.Compare.{Compare}
use Rattle.homeo_meaning.specs.Key.{definitions as meaning_definitions}
use Rattle.homeo_certificate.specs.Key.{definitions}
use Rattle.homeo_certificate.specs.Kept.{Atom, atom, kept_false}
use Rattle.homeo_certificate.specs.Followed.{Rules, atom_faults}
use Rattle.homeo_verify.specs.declared.conditions.Compared.{Compared}
use Rattle.homeo_verify.specs.declared.stop.Stop.{Stop}
use Rattle.homeo_verify.specs.inner.RulesView.{plain_rules}
use Rattle.homeo_verify.specs.inner.Stops.{Finds}
use Rattle.homeo_verify.proofs.rules.Rules.keep_false.Goals as goal

-- what keeps forms apart, where one is less or where it isn't
abbrev apart : Compared → Bool → List Atom
apart x less = cond less (atom x.left x.right (pos 1)) (atom x.right x.left (pos 1)) ∷ []

-- what is found of a comparison by another name of its operator
kept_by :
    {A : Type 0} (s : Rules) (x : Compared) (o : Compare) (r : Result A Stop) (l : List Atom) → x.op ≡ o → l ≡ kept_false o x.left x.right →
    Finds (flat_map (atom_faults s) l) r → Finds (flat_map (atom_faults s) (kept_false x.op x.left x.right)) r
kept_by s x o r l op same h = subst (λ k. Finds (flat_map (atom_faults s) k) r) (same ∙ sym (ap (λ p. kept_false p x.left x.right) op)) h

pub returns-in-Less : goal.returns-in-Less
unfolding definitions
returns-in-Less c = kept_by (plain_rules c.args.self.now) c.args.c.now _ c.keep_true.result _ c.in-Less.is refl c.keep_true.ensures

pub returns-in-LessEqual : goal.returns-in-LessEqual
unfolding definitions
returns-in-LessEqual c =
    kept_by (plain_rules c.args.self.now) c.args.c.now _ c.keep_true-in-LessEqual.result _ c.in-LessEqual.is refl c.keep_true-in-LessEqual.ensures

pub returns-then-is_true : goal.returns-then-is_true
unfolding definitions meaning_definitions
returns-then-is_true c =
    kept_by (plain_rules c.args.self.now) c.args.c.now _ c.keep_true-then-is_true.result _ c.in-Equal.is
    (ap (apart c.args.c.now) (sym c.if-is_true.true ∙ c.is_true.ensures)) c.keep_true-then-is_true.ensures

pub returns-else-is_true : goal.returns-else-is_true
unfolding definitions meaning_definitions
returns-else-is_true c =
    kept_by (plain_rules c.args.self.now) c.args.c.now _ c.keep_true-else-is_true.result _ c.in-Equal.is
    (ap (apart c.args.c.now) (sym c.if-is_true.false ∙ c.is_true.ensures)) c.keep_true-else-is_true.ensures

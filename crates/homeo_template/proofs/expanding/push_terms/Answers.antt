-- One site more.
use Rattle.std.proofs.Common.{◌++◌, ◌∷◌, [], ap, ◌∙◌, arith}
use Rattle.homeo_plan.specs.Key.{definitions}
use Rattle.homeo_plan.specs.declared.forms.Term.{Term}
use Rattle.homeo_template.proofs.AtSites.{terms_begin, terms_next, terms_end}
use Rattle.homeo_template.proofs.expanding.push_terms.Goals as goal

pub loop-site-init : goal.loop-site-init
loop-site-init c =
    record {
      terms = terms_begin c.args.term.delta.object c.args.term.factor c.args.sites c.args.terms.now.items _ c.in_ok-reserve.ensures.items;
      room = omega (arith, c.in_ok-reserve.ensures.ok);
    }

pub loop-site-preserved : goal.loop-site-preserved
unfolding definitions
loop-site-preserved c =
    let out = c.loop-site.terms.items in
    record {
      terms =
          terms_next c.args.term.delta.object c.args.term.factor c.args.sites out c.loop-site.site c.push_reserved.new.self.items c.loop-site-test.true
          (c.push_reserved.ensures.items ∙ ap (λ (t : Term). out ++ t ∷ []) c.at_site.ensures)
          ∙ c.loop-site.invariant.terms;
      room = omega (arith, c.push_reserved.ensures.len, c.push_reserved.ensures.capacity, c.loop-site.invariant.room, c.loop-site-test.true);
    }

pub returns : goal.returns
returns c =
    terms_end c.args.term.delta.object c.args.term.factor c.args.sites c.loop-site.terms.items c.loop-site.site c.loop-site-test.false
    ∙ c.loop-site.invariant.terms

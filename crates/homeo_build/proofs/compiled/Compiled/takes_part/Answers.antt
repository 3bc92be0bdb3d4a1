use Rattle.std.proofs.Common.{Bool, true, false, map, Vec, Global, get_or, pos, sym, ap, ◌∙◌, subst}
use Rattle.homeo_syntax.specs.SourceView.{plain_workload}
use Rattle.homeo_syntax.specs.declared.workload.Workload.{Workload}
use Rattle.homeo_plan.specs.PlanView.{plain_clause}
use Rattle.homeo_plan.specs.declared.forms.Term.{Term}
use Rattle.homeo_build.specs.Written.{AreWritten}
use Rattle.homeo_build.proofs.WrittenDeltas.{row_there, row_tells, on_written, on_here, on_elsewhere, none_take, some_at, part_taken, no_part}
use Rattle.homeo_build.proofs.compiled.Compiled.takes_part.Goals as goal
use Rattle.homeo_build.proofs.compiled.Compiled.takes_part.Goals.{else-term-site-via-then-term-site+else-item_or, else-term-site-via-else-term-site}

-- a term that isn't there
none : Term
none = record { delta = record { object = 0; site = 0 }; factor = pos 0 }

pub bounds-rows-site : goal.bounds-rows-site
bounds-rows-site c =
    row_there (plain_workload c.args.self.now) (λ row. row.items) c.self.inside.written.items c.as_slice-rows.result.now c.args.site
    (subst (λ (v : Workload). AreWritten (plain_workload v) (map (λ (row : Vec Bool Global). row.items) c.self.inside.written.items)) c.self.view_is c.self.invariant.2) c.as_slice-rows.ensures.value c.requires

pub returns-then-item_or : goal.returns-then-item_or
unfolding none
returns-then-item_or c =
    let w = plain_workload c.args.self.now in
    let t : Term = get_or c.as_slice-term-items.result.now c.loop-term.term-index none in
    let written = subst (λ (v : Workload). AreWritten (plain_workload v) (map (λ (row : Vec Bool Global). row.items) c.self.inside.written.items)) c.self.view_is c.self.invariant.2 in
    let told = row_tells w (λ row. row.items) c.self.inside.written.items c.as_slice-rows.result.now c.args.site written c.as_slice-rows.ensures.value c.requires
    c.index-rows-site.result t.delta.object c.index-rows-site.is in
    let value = sym c.if-item_or.true ∙ c.item_or.ensures ∙ ap (λ r. get_or r t.delta.object false) c.as_slice-row.ensures.value ∙ told in
    part_taken w c.args.site (plain_clause c.args.clause.now) c.as_slice-term-items.result.now c.as_slice-term-items.ensures
    (some_at (on_written w c.args.site) c.as_slice-term-items.result.now c.loop-term.term-index none c.loop-term-test.true
    (on_here w c.args.site t true c.if-term-site.true value))

pub loop-term-preserved : goal.loop-term-preserved
unfolding none
loop-term-preserved c =
    let w = plain_workload c.args.self.now in
    let t : Term = get_or c.as_slice-term-items.result.now c.loop-term.term-index none in
    let written = subst (λ (v : Workload). AreWritten (plain_workload v) (map (λ (row : Vec Bool Global). row.items) c.self.inside.written.items)) c.self.view_is c.self.invariant.2 in
    let told = row_tells w (λ row. row.items) c.self.inside.written.items c.as_slice-rows.result.now c.args.site written c.as_slice-rows.ensures.value c.requires
    c.index-rows-site.result t.delta.object c.index-rows-site.is in
    none_take (on_written w c.args.site) c.as_slice-term-items.result.now c.loop-term.term-index none c.loop-term-test.true c.loop-term.invariant
    (elim c.else-term-site.branch [
      | else-term-site-via-then-term-site+else-item_or v ↦
          on_here w c.args.site t false v.if-term-site.true (sym v.if-item_or.false ∙ v.item_or.ensures ∙ ap (λ r. get_or r t.delta.object false) c.as_slice-row.ensures.value ∙ told)
      | else-term-site-via-else-term-site v ↦ on_elsewhere w c.args.site t v.if-term-site.false
    ])

pub returns : goal.returns
returns c = no_part (plain_workload c.args.self.now) c.args.site c.loop-term.term-index (plain_clause c.args.clause.now) c.as_slice-term-items.result.now c.as_slice-term-items.ensures c.loop-term-test.false c.loop-term.invariant

use Rattle.std.proofs.Common.{◌++◌, append-nil, sym, ap, ◌∙◌}
use Rattle.homeo_syntax.specs.SourceView.{plain_workload}
use Rattle.homeo_meaning.specs.Ground.{plain_ground}
use Rattle.homeo_print.specs.Calls.{call_text}
use Rattle.homeo_print.proofs.CallNames.{ground_text_of}
use Rattle.homeo_print.proofs.calls.print_call.Goals as goal

pub returns-in_ok-push_call-in-Some : goal.returns-in_ok-push_call-in-Some
returns-in_ok-push_call-in-Some c = record {
  text = c.in_ok-push_call-in-Some.ensures
      ∙ ap (λ args. c.args.out.now.items ++ call_text (plain_workload c.args.w.now) c.in-Some.transaction.now.name args) c.as_slice.ensures
      ∙ ap (λ l. c.args.out.now.items ++ l) (sym (ground_text_of c.args.w.now (plain_ground c.args.call.now) _ c.in-Some.ensures));
}

pub returns-in-None : goal.returns-in-None
returns-in-None c =
    let e = ground_text_of c.args.w.now (plain_ground c.args.call.now) _ c.in-None.ensures in
    record { text = cc (append-nil c.args.out.now.items) }

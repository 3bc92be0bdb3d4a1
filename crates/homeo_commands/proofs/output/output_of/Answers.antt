use Rattle.std.proofs.Common.{sym, subst}
use Rattle.std.proofs.lemmas.Result.{IfOk-weaker}
use Rattle.homeo_io.specs.Moved.{GaveAtMost}
use Rattle.homeo_syntax.specs.SourceView.{plain_workload}
use Rattle.homeo_commands.proofs.Texts.{made_of_workload, on_text, read_text, reads_some, refuses_workload}
use Rattle.homeo_commands.proofs.output.output_of.Goals as goal

pub returns-in_ok-w-in_default : goal.returns-in_ok-w-in_default
returns-in_ok-w-in_default g c =
    let command = c.args.command in
    let w = plain_workload c.in_ok-w-in_default.w in
    let on = on_text command c.in_default.not-Serve c.in_default.not-Verify c.in_default.not-Load in
    let read = c.in_ok-w-in_default.ensures.read in
    record {
      made = IfOk-weaker c.made_of.result _ _ (λ bytes makes. made_of_workload command _ _ _ w bytes.items on c.purpose_of.ensures read makes) c.made_of.ensures.made;
      no_usage = c.made_of.ensures.no_other.0;
      refused = λ r is. refuses_workload command _ _ _ w r on c.purpose_of.ensures read (c.made_of.ensures.refused r is);
      fault = λ is. absurd (c.made_of.ensures.no_other.1 is);
      gave = subst (GaveAtMost _ _) (sym (read_text command on)) c.in_ok-w-in_default.ensures.gave;
      unread = λ nothing. absurd (reads_some command on nothing);
      no_fault = λ nothing. c.made_of.ensures.no_other.1;
    }

-- Each kind of command that a residual has.
use Rattle.std.proofs.Common.{sym, ap, ◌∙◌, subst, inl, inr}
use Rattle.std.proofs.lemmas.Result.{on_ok_weaker}
use Rattle.homeo_syntax.specs.LowView.{plain_lcommand}
use Rattle.homeo_syntax.proofs.LowViews.{low_Assign, low_Write, low_Print}
use Rattle.homeo_atoms.specs.inner.Following.{Followed}
use Rattle.homeo_form.specs.Standing.{forms_of}
use Rattle.homeo_atoms.proofs.Needing.{assign_can, write_can, print_can, no_skip, no_seq, no_if}
use Rattle.homeo_atoms.proofs.following.Following.follow.Goals as goal

pub assign-requires : goal.assign-requires
assign-requires c =
    assign_can (forms_of c.args.self.now.standing) c.args.command.now c.in-Assign.target c.in-Assign.value c.in-Assign.is c.requires.small

pub write-requires : goal.write-requires
write-requires c =
    write_can (forms_of c.args.self.now.standing) c.args.command.now c.in-Write.target c.in-Write.value c.in-Write.is c.requires.small

pub print-requires : goal.print-requires
print-requires c =
    print_can (forms_of c.args.self.now.standing) c.args.command.now c.in-Print.value c.in-Print.is c.requires.small

pub returns-in-Assign : goal.returns-in-Assign
returns-in-Assign c =
    on_ok_weaker c.assign.result
    (λ h. subst (Followed c.args.self.now c.assign.new.self) (sym (ap plain_lcommand c.in-Assign.is ∙ low_Assign c.in-Assign.target c.in-Assign.value)) h)
    c.assign.ensures

pub returns-in-Write : goal.returns-in-Write
returns-in-Write c =
    on_ok_weaker c.write.result
    (λ h. subst (Followed c.args.self.now c.write.new.self) (sym (ap plain_lcommand c.in-Write.is ∙ low_Write c.in-Write.target c.in-Write.value)) h)
    c.write.ensures

pub returns-in-Print : goal.returns-in-Print
returns-in-Print c =
    on_ok_weaker c.print.result
    (λ h. subst (Followed c.args.self.now c.print.new.self) (sym (ap plain_lcommand c.in-Print.is ∙ low_Print c.in-Print.value)) h)
    c.print.ensures

pub unreachable-requires : goal.unreachable-requires
unreachable-requires c =
    let x = c.args.command.now in
    let h = c.requires.straight in
    elim c.in-Skip.is [ inl p ↦ no_skip x h p | inr q ↦ elim q [ inl r ↦ no_seq x h r.0 r.1 | inr r ↦ no_if x h r.0 r.1 r.2 r.3 ] ]

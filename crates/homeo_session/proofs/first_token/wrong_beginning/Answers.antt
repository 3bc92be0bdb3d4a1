use Rattle.std.proofs.Common.{◌≡◌, ◌∙◌, ◌-◌, ◌∷◌, ℕ, List, length, take, drop, Ok, Some, sym, ap, subst, arith}
use Rattle.std.proofs.lemmas.List.{take_rest}
use Rattle.std.specs.List.{prefix_len}
use Rattle.homeo_syntax.specs.declared.workload.Refusal.{Refusal}
use Rattle.homeo_syntax.specs.Lexemes.{is_space}
use Rattle.homeo_syntax.specs.Tokens.{Scanned, scanned_from}
use Rattle.homeo_reader.specs.Stands.{EndsLexeme}
use Rattle.homeo_session.proofs.FirstTokens.{Starts, first_here, right_token, wrong_token}
use Rattle.homeo_session.proofs.first_token.wrong_beginning.Goals as goal

-- the token behind the spaces
behind :
    (frame : List ℕ) (n spaces : ℕ) (first : Scanned) (others : List Scanned) → spaces ≡ prefix_len is_space frame → scanned_from 0 n frame ≡ Ok (first ∷ others) →
    Starts (take (length frame - spaces) (drop spaces frame)) n spaces first
behind frame n spaces first others is begins =
    subst (λ l. Starts l n spaces first) (sym (take_rest frame spaces))
    (subst (λ k. Starts (drop k frame) n k first) (sym is) (first_here frame n first others begins))

same_some : (r q : Refusal) → Some r ≡ Some q → r ≡ q
same_some r q e = cc

pub overflow_add-result : goal.overflow_add-result
overflow_add-result c = let a = c.requires in let b = c.spaces-spaces.ensures.within in omega arith

pub returns-then-begins_right-clause-right : goal.returns-then-begins_right-clause-right
returns-then-begins_right-clause-right c = λ first others begins none.
    let t = behind c.args.frame.now c.args.before c.spaces-spaces.result first others c.spaces-spaces.ensures.count begins in
    subst (λ (f : Scanned). EndsLexeme f.lexeme) (sym t.is) (right_token t.lexeme.0 (sym (c.begins_right.ensures t.lexeme t.found_there) ∙ c.if-begins_right.true))

pub returns-clause-wrong : goal.returns-clause-wrong
returns-clause-wrong c = λ first others r begins some.
    let t = behind c.args.frame.now c.args.before c.spaces-spaces.result first others c.spaces-spaces.ensures.count begins in
    let wrong = wrong_token t.lexeme.0 (sym (c.begins_right.ensures t.lexeme t.found_there) ∙ c.if-begins_right.false) in (
      λ ends. wrong (subst (λ (f : Scanned). EndsLexeme f.lexeme) t.is ends),
      sym (same_some _ r some) ∙ ap (λ (f : Scanned). let x : Refusal = record { code = 15; offset = f.offset } in x) (sym t.is),
    )

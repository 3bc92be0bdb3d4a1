-- Each turn reads a lexeme.
use Rattle.std.proofs.Common.{◌≤◌, ◌+◌, [], ◌∷◌, ◌++◌, length, sym, ap, ◌∙◌, arith, rules, length-drop, drop}
use Rattle.std.specs.Prelude.{Some, None}
use Rattle.homeo_syntax.specs.Tokens.{scanned_from, unversioned, in_version, names_of}
use Rattle.homeo_syntax.proofs.Spelling.{version_kept}
use Rattle.homeo_tokens.specs.inner.Numbers.{version_by}
use Rattle.homeo_tokens.specs.Views.{plain_lexeme}
use Rattle.homeo_tokens.proofs.Front.{in_front_all, nothing_in_front}
use Rattle.homeo_tokens.proofs.Growing.{as_scanned, version-is}
use Rattle.homeo_tokens.proofs.Steps.{rest_of_text, lexeme_sized, space_step, token_step, no_step, end_step, front_push, front_none}
use Rattle.homeo_tokens.proofs.scanner.scan.Goals as goal

pub text-init : goal.text-init
text-init c = record {
  within = omega arith;
  few = search rules;
  names = c.new-numbering.ensures.few;
  read = record { front = []; rest = nothing_in_front (unversioned c.args.text.now); numbers = c.new-numbering.ensures.numbers };
}

pub text-preserved-then-is_space : goal.text-preserved-then-is_space
text-preserved-then-is_space c =
    let so_far = c.text.invariant in
    record {
      within = omega arith;
      few = omega (arith, so_far.few);
      names = so_far.names;
      read = record {
        front = so_far.read.front;
        rest = ap (in_front_all so_far.read.front) (sym (space_step c.args.text.now c.text.at c.text-test.true c.if-is_space.ensures)) ∙ so_far.read.rest;
        numbers = so_far.read.numbers;
      };
    }

pub overflow_add-at-in-Some : goal.overflow_add-at-in-Some
overflow_add-at-in-Some c =
    let z = lexeme_sized (drop c.text.at c.args.text.now) (plain_lexeme c.in-Some.lexeme, c.in-Some.len) (rest_of_text c.args.text.now c.text.at (Some (plain_lexeme c.in-Some.lexeme, c.in-Some.len)) c.in-Some.ensures) in
    let room : c.text.at + c.in-Some.len ≤ length c.args.text.now = omega (arith, z.1, length-drop c.text.at c.args.text.now) in
    search rules

pub text-preserved : goal.text-preserved
text-preserved c =
    let z = lexeme_sized (drop c.text.at c.args.text.now) (plain_lexeme c.in-Some.lexeme, c.in-Some.len) (rest_of_text c.args.text.now c.text.at (Some (plain_lexeme c.in-Some.lexeme, c.in-Some.len)) c.in-Some.ensures) in
    let so_far = c.text.invariant in
    let put = c.in_ok-put-in-Some.ensures in
    let behind = scanned_from 0 (c.text.at + c.in-Some.len) (drop (c.text.at + c.in-Some.len) c.args.text.now) in
    record {
      within = omega (arith, z.1, length-drop c.text.at c.args.text.now);
      few = omega (arith, z.0, put.more, so_far.few);
      names = put.few;
      read = record {
        front = so_far.read.front ++ record { lexeme = plain_lexeme c.in-Some.lexeme; offset = c.text.at } ∷ [];
        rest = sym (front_push so_far.read.front (record { lexeme = plain_lexeme c.in-Some.lexeme; offset = c.text.at }) behind)
            ∙ ap (in_front_all so_far.read.front) (sym (token_step c.args.text.now c.text.at (plain_lexeme c.in-Some.lexeme) c.in-Some.len c.text-test.true c.if-is_space.ensures (rest_of_text c.args.text.now c.text.at (Some (plain_lexeme c.in-Some.lexeme, c.in-Some.len)) c.in-Some.ensures)))
            ∙ so_far.read.rest;
        numbers = put.numbers so_far.read.front so_far.read.numbers;
      };
    }

pub text-smaller : goal.text-smaller
text-smaller c =
    let z = lexeme_sized (drop c.text.at c.args.text.now) (plain_lexeme c.in-Some.lexeme, c.in-Some.len) (rest_of_text c.args.text.now c.text.at (Some (plain_lexeme c.in-Some.lexeme, c.in-Some.len)) c.in-Some.ensures) in
    let some = z.0 in
    omega arith

pub returns-in-None-clause-stops : goal.returns-in-None-clause-stops
returns-in-None-clause-stops c =
    let read = c.text.invariant.read in
    sym read.rest ∙ ap (in_front_all read.front) (no_step c.args.text.now c.text.at c.text-test.true c.if-is_space.ensures (rest_of_text c.args.text.now c.text.at None c.in-None.ensures))

pub returns-clause-tokens : goal.returns-clause-tokens
returns-clause-tokens c =
    let read = c.text.invariant.read in
    let made = c.in_ok-numbered.ensures in
    let all = sym read.rest ∙ ap (in_front_all read.front) (end_step c.args.text.now c.text.at c.text.invariant.within c.text-test.false) ∙ front_none read.front in
    record {
      scanned = in_version read.front;
      lexemes = as_scanned c.args.text.now read.front all;
      version = made.version ∙ ap version_by read.numbers.tokens ∙ version-is (names_of (in_version read.front)) read.front ∙ sym (version_kept read.front);
      names = made.names ∙ read.numbers.names;
      tokens = made.tokens ∙ read.numbers.tokens;
    }

use Rattle.std.proofs.Common.{◌≡◌, ◌≢◌, ◌∙◌, true, Some, None, codes, sym, ap}
use Rattle.std.proofs.lemmas.Slice.Eq.{bytes_eq-Decides}
use Rattle.clap.specs.Words.{found_of, subcommand_rows_of}
use Rattle.homeo_words.proofs.Found.{all_taken, name_of_rows, value_is, some_name, plain_words, load_found, load_said, wire_found, wire_said}
use Rattle.homeo_words.proofs.reading.Said.found_in.Goals as goal

pub returns-in_err-name : goal.returns-in_err-name
returns-in_err-name c = λ words command said same.
    let m = c.args.matches.now in
    absurd (some_name words (subcommand_rows_of m) same (all_taken words command said) (c.in_err-name.ensures.name ∙ sym (name_of_rows m)))

pub returns-in_err-number : goal.returns-in_err-number
returns-in_err-number c = λ words command said same.
    let m = c.args.matches.now in
    let found = subcommand_rows_of m in
    let is_load : c.in_ok-name.name.now ≡ codes "load" = (bytes_eq-Decides _ _).0 (sym c.eq.ensures ∙ c.if-eq.true) in
    let load = load_found words found same c.in_ok-name.name.now (c.in_ok-name.ensures.name ∙ sym (name_of_rows m)) (all_taken words command said) is_load in
    let none : None ≡ Some load.number =
    value_is found (found_of c.in_ok-name.arguments.now) (codes "NUMBER") load.number None (sym c.in_ok-name.ensures.rows) c.in_err-number.ensures load.number_found in
    cc

pub returns-in_err-calls : goal.returns-in_err-calls
returns-in_err-calls c = λ words command said same.
    let m = c.args.matches.now in
    let found = subcommand_rows_of m in
    let is_load : c.in_ok-name.name.now ≡ codes "load" = (bytes_eq-Decides _ _).0 (sym c.eq.ensures ∙ c.if-eq.true) in
    let load = load_found words found same c.in_ok-name.name.now (c.in_ok-name.ensures.name ∙ sym (name_of_rows m)) (all_taken words command said) is_load in
    let none : None ≡ Some load.calls =
    value_is found (found_of c.in_ok-name.arguments.now) (codes "CALLS") load.calls None (sym c.in_ok-name.ensures.rows) c.in_err-calls.ensures load.calls_found in
    cc

pub returns-in_ok-calls : goal.returns-in_ok-calls
returns-in_ok-calls c = λ words command said same.
    let m = c.args.matches.now in
    let found = subcommand_rows_of m in
    let is_load : c.in_ok-name.name.now ≡ codes "load" = (bytes_eq-Decides _ _).0 (sym c.eq.ensures ∙ c.if-eq.true) in
    let load = load_found words found same c.in_ok-name.name.now (c.in_ok-name.ensures.name ∙ sym (name_of_rows m)) (all_taken words command said) is_load in
    let number : Some c.in_ok-number.number.now ≡ Some load.number =
    value_is found (found_of c.in_ok-name.arguments.now) (codes "NUMBER") load.number _ (sym c.in_ok-name.ensures.rows) c.in_ok-number.ensures load.number_found in
    let calls : Some c.in_ok-calls.calls.now ≡ Some load.calls =
    value_is found (found_of c.in_ok-name.arguments.now) (codes "CALLS") load.calls _ (sym c.in_ok-name.ensures.rows) c.in_ok-calls.ensures load.calls_found in
    load_said words found same c.in_ok-name.name.now (c.in_ok-name.ensures.name ∙ sym (name_of_rows m)) load c.in_ok-number.number.now c.in_ok-calls.calls.now number calls

pub returns-in_err-number-2 : goal.returns-in_err-number-2
returns-in_err-number-2 c = λ words command said same.
    let m = c.args.matches.now in
    let found = subcommand_rows_of m in
    let is_wire : c.in_ok-name.name.now ≡ codes "wire" = (bytes_eq-Decides _ _).0 (sym c.eq-else-eq.ensures ∙ c.if-eq-2.true) in
    let wire = wire_found words found same c.in_ok-name.name.now (c.in_ok-name.ensures.name ∙ sym (name_of_rows m)) (all_taken words command said) is_wire in
    let none : None ≡ Some wire.number =
    value_is found (found_of c.in_ok-name.arguments.now) (codes "NUMBER") wire.number None (sym c.in_ok-name.ensures.rows) c.in_err-number-2.ensures wire.number_found in
    cc

pub returns-in_ok-number-2 : goal.returns-in_ok-number-2
returns-in_ok-number-2 c = λ words command said same.
    let m = c.args.matches.now in
    let found = subcommand_rows_of m in
    let is_wire : c.in_ok-name.name.now ≡ codes "wire" = (bytes_eq-Decides _ _).0 (sym c.eq-else-eq.ensures ∙ c.if-eq-2.true) in
    let wire = wire_found words found same c.in_ok-name.name.now (c.in_ok-name.ensures.name ∙ sym (name_of_rows m)) (all_taken words command said) is_wire in
    let number : Some c.in_ok-number-2.number.now ≡ Some wire.number =
    value_is found (found_of c.in_ok-name.arguments.now) (codes "NUMBER") wire.number _ (sym c.in_ok-name.ensures.rows) c.in_ok-number-2.ensures wire.number_found in
    wire_said words found same c.in_ok-name.name.now (c.in_ok-name.ensures.name ∙ sym (name_of_rows m)) wire c.in_ok-number-2.number.now number

pub returns-else-eq-2 : goal.returns-else-eq-2
returns-else-eq-2 c = λ words command said same.
    let m = c.args.matches.now in
    let found = subcommand_rows_of m in
    let other : c.in_ok-name.name.now ≢ codes "load" = λ e.
    let is : c.eq.result ≡ true = c.eq.ensures ∙ (bytes_eq-Decides _ _).1 e in
    let not = c.if-eq.false in
    cc in
    let other_too : c.in_ok-name.name.now ≢ codes "wire" = λ e.
    let is : c.eq-else-eq.result ≡ true = c.eq-else-eq.ensures ∙ (bytes_eq-Decides _ _).1 e in
    let not = c.if-eq-2.false in
    cc in
    ap Some (plain_words words found same c.in_ok-name.name.now (c.in_ok-name.ensures.name ∙ sym (name_of_rows m)) (all_taken words command said) other other_too)

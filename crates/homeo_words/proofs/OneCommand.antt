-- Words are one command at most.
use Rattle.std.proofs.Common.{◌≡◌, ◌∙◌, ◌==◌, ℕ, cond, List, [], get_or, sym, ap}
use Rattle.homeo_syntax.specs.Lexemes.{number_value}
use Rattle.homeo_words.specs.declared.command.Command.{Command}
use Rattle.homeo_words.specs.declared.command.Command.TheVariants.{Steps, Run, Tables, Treaty, Serve, Forecast, Certify, Verify, Wire, Load}
use Rattle.homeo_words.specs.Command.{Say}

abbrev load_of : List (List ℕ) → Command
load_of words = Load (number_value (get_or words 1 [])) (number_value (get_or words 2 []))

abbrev wire_of : List (List ℕ) → Command
wire_of words = Wire (number_value (get_or words 1 []))

-- a command by the first two letters of its first word
abbrev by_letters : List (List ℕ) → Command
by_letters words =
    let word = get_or words 0 [] in
    let first = get_or word 0 0 in
    let second = get_or word 1 0 in
    cond (first == 115) (cond (second == 116) Steps Serve) (cond (first == 114) Run (cond (first == 102) Forecast (cond (first == 99) Certify
    (cond (first == 118) Verify (cond (first == 108) (load_of words) (cond (first == 119) (wire_of words) (cond (second == 97) Tables Treaty)))))))

its_letters : (words : List (List ℕ)) (c : Command) → Say words c → by_letters words ≡ c
its_letters words Steps said = ap by_letters said
its_letters words Run said = ap by_letters said
its_letters words Tables said = ap by_letters said
its_letters words Treaty said = ap by_letters said
its_letters words Serve said = ap by_letters said
its_letters words Forecast said = ap by_letters said
its_letters words Certify said = ap by_letters said
its_letters words Verify said = ap by_letters said
its_letters words (Wire number) said = ap by_letters said.said ∙ (λ t. Wire (said.number_is.value t))
its_letters words (Load number calls) said = ap by_letters said.said ∙ (λ t. Load (said.number_is.value t) (said.calls_are.value t))

pub one_command : (words : List (List ℕ)) (c d : Command) → Say words c → Say words d → c ≡ d
one_command words c d a b = sym (its_letters words c a) ∙ its_letters words d b

-- The command line as `clap` reads it.
use Rattle.std.specs.Prelude.{true, List, [], ◌∷◌, codes}
use Rattle.clap.specs.Words.{App, Rule, Text, new_app, new_rule, with_rule, with_subcommand}
use Rattle.homeo_words.specs.inner.Key.{definitions}

abbrev pub argument : Text → Rule
argument id = record (new_rule id) { required = true }

abbrev pub load : App
load = with_rule (with_rule (new_app (codes "load")) (argument (codes "NUMBER"))) (argument (codes "CALLS"))

abbrev pub wire : App
wire = with_rule (new_app (codes "wire")) (argument (codes "NUMBER"))

-- the words don't include the program's name
abbrev pub empty : App
empty = record { top = record (new_app (codes "homeo")).top { no_binary_name = true }; subs = [] }

abbrev pub with_word : App → Text → App
with_word app word = with_subcommand app (new_app word).top

-- commands of one word each, in their order
abbrev pub with_words : App → List Text → App
unfolding definitions
with_words app [] = app
with_words app (word ∷ words) = with_words (with_word app word) words

abbrev pub plain : List Text
plain = codes "steps" ∷ codes "run" ∷ codes "tables" ∷ codes "treaty" ∷ codes "serve" ∷ codes "forecast" ∷ codes "certify" ∷ codes "verify" ∷ []

-- the same for these words, one command in another
abbrev pub with_plain : App → App
with_plain app = with_word (with_word (with_word (with_word (with_word (with_word (with_word (with_word app (codes "steps")) (codes "run")) (codes "tables")) (codes "treaty")) (codes "serve")) (codes "forecast")) (codes "certify")) (codes "verify")

abbrev pub homeo : App
homeo = with_subcommand (with_subcommand (with_plain empty) wire.top) load.top

-- The laws of outputs.
use Rattle.std.specs.Prelude.{◌≡◌, ℕ, List, [], Some, codes}
use Rattle.homeo_certificate.specs.Laws.{IsSoundText}
use Rattle.homeo_words.specs.Command.{Say}
use Rattle.homeo_words.specs.declared.command.Command.TheVariants.{Run, Certify, Verify}
use Rattle.homeo_commands.specs.Certified.{unended}
use Rattle.homeo_commands.specs.Made.{IsMade}
use Rattle.homeo.specs.Outcome.{IsOutput}

-- the words have one output on these bytes, unless they are `run`, whose threads may make the calls in any order
abbrev pub OneOutput : Type 0
OneOutput =
    (words : List (List ℕ)) (bytes output output' : List ℕ) → (Say words Run → ⊥) → IsOutput words (Some bytes) (Some []) output →
    IsOutput words (Some bytes) (Some []) output' → output ≡ output'

-- of what `certify` made of a text, `verify` says that it is valid
abbrev pub MadeIsValid : Type 0
MadeIsValid =
    (text certificate output : List ℕ) → IsMade Certify (Some text) (Some []) certificate → IsMade Verify (Some certificate) (Some []) output →
    output ≡ codes "valid\n"

-- bytes of which `verify` says that they are valid are a certificate that is sound
abbrev pub ValidIsSound : Type 0
ValidIsSound = (bytes : List ℕ) → IsMade Verify (Some bytes) (Some []) (codes "valid\n") → IsSoundText (unended bytes)

-- The definitions at small texts.
use Rattle.std.proofs.Common.{◌≡◌, [], ◌∷◌, refl}
use Rattle.std.specs.Prelude.{codes, Ok, Err, pos}
use Rattle.homeo_syntax.specs.declared.token.Mark.TheVariants as mark
use Rattle.homeo_syntax.specs.declared.token.Kind.TheVariants as kind
use Rattle.homeo_syntax.specs.Lexemes.{Name, Number, Fixed}
use Rattle.homeo_syntax.specs.Tokens.{scanned_from, scanned_of, names_of, tokens_in}

number_and_name : scanned_of (codes "12ab") ≡ Ok (record { lexeme = Number (pos 12); offset = 0 } ∷ record { lexeme = Name (codes "ab"); offset = 2 } ∷ [])
unfolding scanned_from
number_and_name = refl

longest_symbols : scanned_of (codes "...:= <=end") ≡ Ok (record { lexeme = Fixed mark.Dots; offset = 0 } ∷ record { lexeme = Fixed mark.Dot; offset = 2 } ∷ record { lexeme = Fixed mark.Assign; offset = 3 } ∷ record { lexeme = Fixed mark.LessEqual; offset = 6 } ∷ record { lexeme = Fixed mark.End; offset = 8 } ∷ [])
unfolding scanned_from
longest_symbols = refl

no_symbol : scanned_of (codes "a _a") ≡ Err 2
unfolding scanned_from
no_symbol = refl

long_number : scanned_of (codes "0 1234567890123456789") ≡ Err 2
unfolding scanned_from
long_number = refl

-- words of version 2 are names in version 1
first_version : scanned_of (codes "workload 1 abort") ≡ Ok (record { lexeme = Fixed mark.Workload; offset = 0 } ∷ record { lexeme = Number (pos 1); offset = 9 } ∷ record { lexeme = Name (codes "abort"); offset = 11 } ∷ [])
unfolding scanned_from
first_version = refl

second_version : scanned_of (codes "workload 02 weights") ≡ Ok (record { lexeme = Fixed mark.Workload; offset = 0 } ∷ record { lexeme = Number (pos 2); offset = 9 } ∷ record { lexeme = Fixed mark.Weights; offset = 12 } ∷ [])
unfolding scanned_from
second_version = refl

numbered : tokens_in (codes "b" ∷ codes "a" ∷ []) (record { lexeme = Name (codes "a"); offset = 7 } ∷ record { lexeme = Name (codes "b"); offset = 9 } ∷ []) ≡ record { kind = kind.Name 1; offset = 7 } ∷ record { kind = kind.Name 0; offset = 9 } ∷ []
numbered = refl

first_seen : names_of (record { lexeme = Name (codes "b"); offset = 0 } ∷ record { lexeme = Number (pos 1); offset = 2 } ∷ record { lexeme = Name (codes "a"); offset = 4 } ∷ record { lexeme = Name (codes "b"); offset = 6 } ∷ []) ≡ codes "b" ∷ codes "a" ∷ []
first_seen = refl

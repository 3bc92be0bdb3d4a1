-- How tokens are laid out as text.
use Rattle.std.specs.Prelude.{ℕ, List, [], ◌∷◌, ◌++◌, codes, get_or, decimal, unsigned_abs}
use Rattle.homeo_syntax.specs.declared.token.Mark.{Mark}
use Rattle.homeo_syntax.specs.declared.token.Mark.TheVariants as mark
use Rattle.homeo_syntax.specs.declared.token.Kind.{Kind}
use Rattle.homeo_syntax.specs.declared.token.Kind.TheVariants as kind
use Rattle.homeo_syntax.specs.Marks.{mark_text}
use Rattle.homeo_print_workload.specs.declared.layout.Sort.{Sort}
use Rattle.homeo_print_workload.specs.declared.layout.Sort.TheVariants as sort
use Rattle.homeo_print_workload.specs.declared.layout.Before.{Before}
use Rattle.homeo_print_workload.specs.declared.layout.Before.TheVariants as before
use Rattle.homeo_print_workload.specs.Key.{definitions}

-- ---- one token
-- the bytes of a name, the digits of a number, or the text of a mark
abbrev pub token_text : List (List ℕ) → Kind → List ℕ
unfolding definitions
token_text names (kind.Name n) = get_or names n []
token_text names (kind.Number n) = decimal (unsigned_abs n)
token_text names (kind.Fixed m) = mark_text m

-- ---- the gaps between tokens
abbrev pub mark_sort : Mark → Sort
unfolding definitions
mark_sort mark.Sites = sort.Line
mark_sort mark.Object = sort.Line
mark_sort mark.Relation = sort.Line
mark_sort mark.Transaction = sort.Line
mark_sort mark.Client = sort.Line
mark_sort mark.Schedule = sort.Line
mark_sort mark.End = sort.Line
mark_sort mark.Weights = sort.Line
mark_sort mark.Read = sort.Call
mark_sort mark.Write = sort.Call
mark_sort mark.Print = sort.Call
mark_sort mark.Count = sort.Call
mark_sort mark.Sum = sort.Call
mark_sort mark.Minus = sort.Minus
mark_sort mark.Open = sort.Opening
mark_sort mark.OpenBracket = sort.Opening
mark_sort mark.Close = sort.Closing
mark_sort mark.CloseBracket = sort.Closing
mark_sort mark.Comma = sort.Comma
mark_sort mark.Semicolon = sort.Comma
mark_sort mark.Dots = sort.Dots
mark_sort mark.Dot = sort.Dot
mark_sort m = sort.Word

abbrev pub sort_of : Kind → Sort
unfolding definitions
sort_of (kind.Name n) = sort.Name
sort_of (kind.Number n) = sort.Number
sort_of (kind.Fixed m) = mark_sort m

abbrev space : List ℕ
space = codes " "

-- nothing behind an opening bracket, .. or a sign, and else a space
abbrev pub loose_gap : Before → List ℕ
unfolding definitions
loose_gap before.Tight = []
loose_gap b = space

-- the same, and nothing between a dot and a name
abbrev pub name_gap : Before → List ℕ
unfolding definitions
name_gap before.Dot = []
name_gap b = loose_gap b

-- the same as by itself, and nothing between a name, or a word that parentheses follow, and an opening bracket
abbrev pub opening_gap : Before → List ℕ
unfolding definitions
opening_gap before.Head = []
opening_gap b = loose_gap b

-- nothing, but for two dots that would be read as one token
abbrev pub dot_gap : Before → List ℕ
unfolding definitions
dot_gap before.Dot = space
dot_gap b = []

-- what stands in front of a token
abbrev pub gap : Before → Sort → List ℕ
unfolding definitions
gap b sort.Line = codes "\n"
gap b sort.Word = loose_gap b
gap b sort.Call = loose_gap b
gap b sort.Name = name_gap b
gap b sort.Number = loose_gap b
gap b sort.Minus = loose_gap b
gap b sort.Opening = opening_gap b
gap b sort.Closing = []
gap b sort.Comma = []
gap b sort.Dots = dot_gap b
gap b sort.Dot = dot_gap b

-- a minus behind what can end a number's value stands between two terms, and elsewhere it is a sign
abbrev pub after_minus : Before → Before
unfolding definitions
after_minus before.Head = before.Apart
after_minus before.End = before.Apart
after_minus b = before.Tight

-- what a token leaves for the next one
abbrev pub after : Before → Sort → Before
unfolding definitions
after b sort.Line = before.Apart
after b sort.Word = before.Apart
after b sort.Call = before.Head
after b sort.Name = before.Head
after b sort.Number = before.End
after b sort.Minus = after_minus b
after b sort.Opening = before.Tight
after b sort.Closing = before.End
after b sort.Comma = before.Apart
after b sort.Dots = before.Tight
after b sort.Dot = before.Dot

-- ---- tokens one after another, and a newline behind the last
abbrev pub laid : List (List ℕ) → Before → List Kind → List ℕ
unfolding definitions
laid names b [] = codes "\n"
laid names b (k ∷ ks) = gap b (sort_of k) ++ (token_text names k ++ laid names (after b (sort_of k)) ks)

-- The text of tokens. The first token has nothing in front of it, unless it begins a line.
abbrev pub printed : List (List ℕ) → List Kind → List ℕ
unfolding definitions
printed names ks = laid names before.Tight ks

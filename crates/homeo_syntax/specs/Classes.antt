-- The classes of tokens, as numbers.
use Rattle.std.specs.Prelude.{ℕ}
use Rattle.homeo_syntax.specs.declared.token.Mark.{Mark}
use Rattle.homeo_syntax.specs.declared.token.Mark.TheVariants as mark
use Rattle.homeo_syntax.specs.declared.token.Kind.{Kind}
use Rattle.homeo_syntax.specs.declared.token.Kind.TheVariants as kind

abbrev pub number_of : Mark → ℕ
number_of mark.Assign = 0
number_of mark.Dots = 1
number_of mark.LessEqual = 2
number_of mark.Less = 3
number_of mark.Equal = 4
number_of mark.Plus = 5
number_of mark.Minus = 6
number_of mark.Star = 7
number_of mark.Open = 8
number_of mark.Close = 9
number_of mark.OpenBracket = 10
number_of mark.CloseBracket = 11
number_of mark.OpenBrace = 12
number_of mark.CloseBrace = 13
number_of mark.Comma = 14
number_of mark.Semicolon = 15
number_of mark.Dot = 16
number_of mark.Workload = 17
number_of mark.Sites = 18
number_of mark.Object = 19
number_of mark.In = 20
number_of mark.Relation = 21
number_of mark.Transaction = 22
number_of mark.Client = 23
number_of mark.At = 24
number_of mark.Schedule = 25
number_of mark.End = 26
number_of mark.If = 27
number_of mark.Then = 28
number_of mark.Else = 29
number_of mark.Skip = 30
number_of mark.Write = 31
number_of mark.Read = 32
number_of mark.Print = 33
number_of mark.Foreach = 34
number_of mark.Of = 35
number_of mark.When = 36
number_of mark.Insert = 37
number_of mark.Into = 38
number_of mark.Delete = 39
number_of mark.Update = 40
number_of mark.Set = 41
number_of mark.Count = 42
number_of mark.Sum = 43
number_of mark.Used = 44
number_of mark.And = 45
number_of mark.Not = 46
number_of mark.True = 47
number_of mark.Weights = 48
number_of mark.Abort = 49

-- the class of all names
abbrev pub name_class : ℕ
name_class = 100

-- the class of all numbers
abbrev pub number_class : ℕ
number_class = 101

-- each mark is a class of its own
abbrev pub class_of : Kind → ℕ
class_of (kind.Name n) = name_class
class_of (kind.Number n) = number_class
class_of (kind.Fixed m) = number_of m

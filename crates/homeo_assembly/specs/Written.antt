-- How an answer is written as numbers of 64 bits, and how it is read back (this project's rule).
use Rattle.std.specs.Prelude.{◌≡◌, ℕ, zero, suc, ◌+◌, ◌*◌, ◌/◌, ◌%◌, ℤ, pos, negsuc, ◌+ℤ◌, ◌-ℤ◌, List, [], ◌∷◌, ◌++◌, map, drop, slice_index_or, All}
use Rattle.homeo_history.specs.declared.answer.Path.{Path}
use Rattle.homeo_history.specs.declared.answer.Path.TheVariants.{Local, Cleanup}
use Rattle.homeo_history.specs.Answers.{Answer}
use Rattle.homeo_assembly.specs.Key.{definitions}

-- ---- a number of 128 bits as two of 64: how often 2^64 goes into it, with its sign, and what remains, less 2^63
abbrev pub upper : ℤ → ℤ
unfolding definitions
upper (pos n) = pos (n / 18446744073709551616)
upper (negsuc n) = negsuc (n / 18446744073709551616)

abbrev pub lower : ℤ → ℤ
unfolding definitions
lower (pos n) = pos (n % 18446744073709551616) -ℤ pos 9223372036854775808
lower (negsuc n) = pos (n % 18446744073709551616) -ℤ pos 9223372036854775808

abbrev pub natural : ℤ → ℕ
unfolding definitions
natural (pos n) = n
natural (negsuc n) = 0

abbrev pub from_two : ℤ → ℤ → ℤ
unfolding definitions
from_two (pos q) r = pos (q * 18446744073709551616 + natural (r +ℤ pos 9223372036854775808))
from_two (negsuc q) r = negsuc (q * 18446744073709551616 + natural (r +ℤ pos 9223372036854775808))

abbrev pub two : ℤ → List ℤ
unfolding definitions
two v = upper v ∷ lower v ∷ []

-- ---- an answer: the client is that of the list in which it stands
abbrev pub written_path : Path → List ℤ
unfolding definitions
written_path Local = pos 0 ∷ []
written_path (Cleanup b) = pos 1 ∷ (two (pos b.clause) ++ two b.sum ++ two b.bound)

-- the number of the call, the site and the round, and how it was answered
abbrev pub head_of : ℕ → ℕ → ℕ → Path → List ℤ
unfolding definitions
head_of seq site round path = two (pos seq) ++ two (pos site) ++ two (pos round) ++ written_path path

-- and then the prints
abbrev pub written : Answer → List ℤ
unfolding definitions
written a = head_of a.seq a.site a.round a.path ++ a.prints

-- ---- back again
abbrev pub at : List ℤ → ℕ → ℤ
unfolding definitions
at e i = from_two (slice_index_or e i (pos 0)) (slice_index_or e (i + 1) (pos 0))

abbrev pub read_path : ℤ → List ℤ → Path
unfolding definitions
read_path (pos zero) e = Local
read_path (pos (suc n)) e = Cleanup (record { clause = natural (at e 7); sum = at e 9; bound = at e 11 })
read_path (negsuc n) e = Local

abbrev pub read_prints : ℤ → List ℤ → List ℤ
unfolding definitions
read_prints (pos zero) e = drop 7 e
read_prints (pos (suc n)) e = drop 13 e
read_prints (negsuc n) e = []

abbrev pub read : ℕ → List ℤ → Answer
unfolding definitions
read client e = record {
  client = client;
  seq = natural (at e 0);
  site = natural (at e 2);
  round = natural (at e 4);
  path = read_path (slice_index_or e 6 (pos 0)) e;
  prints = read_prints (slice_index_or e 6 (pos 0)) e;
}

-- a client's answers, as they stand in a list of entries, read back as they were
abbrev pub ReadBack : Type 0
unfolding definitions
ReadBack =
    (client : ℕ) (answers : List Answer) → All (λ a. a.client ≡ client) answers → map (read client) (map written answers) ≡ answers

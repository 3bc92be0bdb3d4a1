-- An answer, written as numbers, reads back as it was.
use Rattle.homeo_assembly.specs.Key.{definitions}
use Rattle.std.proofs.Common.{◌≡◌, ℕ, ◌+◌, ◌*◌, ◌/◌, ◌%◌, ℤ, pos, negsuc, ◌+ℤ◌, ◌-ℤ◌, List, [], ◌∷◌, ◌++◌, map, refl, ap, subst, ◌∙◌, arith}
use Rattle.std.specs.Prelude.{All}
use Rattle.std.proofs.lemmas.Int.{ints}
use Rattle.std.proofs.lemmas.List.Elements.{All-head, All-tail}
use Rattle.homeo_history.specs.Answers.{Answer}
use Rattle.homeo_history.specs.declared.answer.Path.{Path}
use Rattle.homeo_history.specs.declared.answer.Path.TheVariants.{Local, Cleanup}
use Rattle.homeo_assembly.specs.Written.{natural, from_two, upper, lower, head_of, written, read, ReadBack}

-- ---- a number
abbrev natural_from_two : ℕ → ℤ → ℕ
natural_from_two q r = q * 18446744073709551616 + natural r

parts_again : (n : ℕ) → natural_from_two (n / 18446744073709551616) (pos (n % 18446744073709551616)) ≡ n
unfolding definitions
parts_again n = omega arith

shifted_back : (r : ℕ) → (pos r -ℤ pos 9223372036854775808) +ℤ pos 9223372036854775808 ≡ pos r
shifted_back r = omega (arith, ints)

number_parts_again :
    (n : ℕ) →
    natural_from_two (n / 18446744073709551616)
    ((pos (n % 18446744073709551616) -ℤ pos 9223372036854775808) +ℤ pos 9223372036854775808) ≡ n
number_parts_again n = ap (natural_from_two (n / 18446744073709551616)) (shifted_back (n % 18446744073709551616)) ∙ parts_again n

pub number_again : (z : ℤ) → from_two (upper z) (lower z) ≡ z
unfolding definitions
number_again (pos n) = ap pos (number_parts_again n)
number_again (negsuc n) = ap negsuc (number_parts_again n)

pub natural_again : (n : ℕ) → natural (from_two (upper (pos n)) (lower (pos n))) ≡ n
unfolding definitions
natural_again n = ap natural (number_again (pos n))

-- ---- an answer
abbrev made_by : Answer → Path → Answer
made_by a path =
    record { client = a.client; seq = a.seq; site = a.site; round = a.round; path = path; prints = a.prints }

read_as : (path : Path) (a : Answer) → read a.client (head_of a.seq a.site a.round path ++ a.prints) ≡ made_by a path
unfolding definitions
read_as Local a = λ i. record {
  client = a.client;
  seq = natural_again a.seq i;
  site = natural_again a.site i;
  round = natural_again a.round i;
  path = Local;
  prints = a.prints;
}
read_as (Cleanup b) a = λ i. record {
  client = a.client;
  seq = natural_again a.seq i;
  site = natural_again a.site i;
  round = natural_again a.round i;
  path = Cleanup (record { clause = natural_again b.clause i; sum = number_again b.sum i; bound = number_again b.bound i });
  prints = a.prints;
}

pub read_written : (client : ℕ) (a : Answer) → a.client ≡ client → read client (written a) ≡ a
unfolding definitions
read_written client a e = subst (λ c. read c (written a) ≡ a) e (read_as a.path a)

-- ---- a client's answers
pub read_all :
    (client : ℕ) (answers : List Answer) → All (λ a. a.client ≡ client) answers →
    map (read client) (map written answers) ≡ answers
read_all client [] all = refl
read_all client (a ∷ answers) all =
    let IsOwn : Answer → Type 0 = λ x. x.client ≡ client in
    let here : read client (written a) ≡ a = read_written client a (All-head IsOwn a answers all) in
    let rest : map (read client) (map written answers) ≡ answers = read_all client answers (All-tail IsOwn a answers all) in
    λ i. here i ∷ rest i

pub read_back : ReadBack
unfolding definitions
read_back = read_all

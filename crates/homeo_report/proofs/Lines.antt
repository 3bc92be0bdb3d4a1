-- The lines of a report: what is in them, and that they tell entries, headings and the end apart.
use Rattle.std.proofs.Common.{◌≡◌, ℕ, ◌==◌, Bool, true, false, not, ◌&&◌, List, [], ◌∷◌, ◌++◌, ℤ, get_or, codes, decimal, append_assoc, refl, sym, ap, ◌∙◌}
use Rattle.std.specs.Prelude.{slice_get, unwrap_or}
use Rattle.std.specs.Fmt.{signed_decimal}
use Rattle.std.specs.List.{list_all}
use Rattle.homeo_syntax.specs.Source as s
use Rattle.homeo_history.specs.History.{Entry}
use Rattle.homeo_print.specs.Names.{numbers_text}
use Rattle.homeo_report.specs.Report.{client_text, made_text}
use Rattle.homeo_plan.specs.declared.treaty.Broken.{Broken}
use Rattle.homeo_report.proofs.Splits.{cut_same, all_append, one_fails}
use Rattle.homeo_report.proofs.Bytes.{is_not, IsLine, decimal_all, signed_all}
use Rattle.homeo_report.proofs.Words.{PassesNumbers, numbers_no_newline, numbers_no_colon, client_all, made_all, prints_all}

abbrev pub NamesPass : s.Workload → (ℕ → Bool) → Type 0
NamesPass w p = (i : ℕ) → list_all p (unwrap_or (slice_get w.names i) []) ≡ true

-- no name has a newline or a space in it
pub record HasPlainNames (w : s.Workload) : Type 0 where
  pub no_newline : NamesPass w (is_not 10)
  pub no_space : NamesPass w (is_not 32)

-- ---- the lines without their newlines
abbrev pub entry_words : s.Workload → Entry → List ℕ
entry_words w e =
    client_text w e.call ++ codes " " ++ decimal e.call.seq ++ codes " " ++ made_text w e.call ++ codes ":" ++ numbers_text e.prints

abbrev pub closing_words : ℕ → Broken → List ℕ
closing_words site f =
    codes "close " ++ decimal site ++ codes " clause " ++ decimal f.clause ++ codes " sum " ++ signed_decimal f.sum ++ codes " bound " ++ signed_decimal f.bound

abbrev pub round_words : ℕ → List ℕ
round_words n = codes "round " ++ decimal n

abbrev pub site_words : ℕ → List ℕ
site_words i = codes "site " ++ decimal i

-- ---- entries
-- a colon stands in the lines of entries, and in no others
abbrev pub is_entry : List ℕ → Bool
is_entry line = not (list_all (is_not 58) line)

-- a space stands in each line but that of the database
abbrev pub has_space : List ℕ → Bool
has_space line = not (list_all (is_not 32) line)

module _ (w : s.Workload) (names : HasPlainNames w) (e : Entry) where
  -- a test that numbers and names pass, and the marks of entries
  entry_all : (p : ℕ → Bool) → PassesNumbers p → NamesPass w p → p 32 ≡ true → p 44 ≡ true → p 40 ≡ true → p 41 ≡ true → p 58 ≡ true → list_all p (entry_words w e) ≡ true
  entry_all p n known space comma open_mark close_mark colon =
      let gap : list_all p (codes " ") ≡ true = ap (λ b. b && true) space in
      let mark : list_all p (codes ":") ≡ true = ap (λ b. b && true) colon in
      let a : List ℕ = client_text w e.call ++ codes " " in
      let b : List ℕ = a ++ decimal e.call.seq in
      let c : List ℕ = b ++ codes " " in
      let d : List ℕ = c ++ made_text w e.call in
      all_append p (d ++ codes ":") (numbers_text e.prints)
      (all_append p d (codes ":")
      (all_append p c (made_text w e.call)
      (all_append p b (codes " ")
      (all_append p a (decimal e.call.seq)
      (all_append p (client_text w e.call) (codes " ") (client_all w p known e.call) gap)
      (decimal_all p n.digits e.call.seq))
      gap)
      (made_all w p n known space comma open_mark close_mark e.call))
      mark)
      (prints_all w p n known space comma open_mark close_mark e.prints)

  pub entry_is_line : IsLine (entry_words w e)
  entry_is_line = entry_all (is_not 10) numbers_no_newline names.no_newline refl refl refl refl refl

  pub entry_is_entry : is_entry (entry_words w e) ≡ true
  entry_is_entry =
      let before : List ℕ = client_text w e.call ++ codes " " ++ decimal e.call.seq ++ codes " " ++ made_text w e.call in
      ap (λ l. not (list_all (is_not 58) l)) (append_assoc before (codes ":") (numbers_text e.prints))
      ∙ ap not (one_fails (is_not 58) before 58 (numbers_text e.prints) refl)

-- the words behind the client's name
abbrev after_client : s.Workload → Entry → List ℕ
after_client w e = codes " " ++ decimal e.call.seq ++ codes " " ++ made_text w e.call ++ codes ":" ++ numbers_text e.prints

regroup : (x a b c d e f : List ℕ) → x ++ a ++ b ++ c ++ d ++ e ++ f ≡ x ++ (a ++ b ++ c ++ d ++ e ++ f)
regroup [] a b c d e f = refl
regroup (y ∷ x) a b c d e f = ap (λ l. y ∷ l) (regroup x a b c d e f)

client_first : (w : s.Workload) (e : Entry) → entry_words w e ≡ client_text w e.call ++ after_client w e
client_first w e = regroup (client_text w e.call) (codes " ") (decimal e.call.seq) (codes " ") (made_text w e.call) (codes ":") (numbers_text e.prints)

pub entry_has_space : (w : s.Workload) (e : Entry) → has_space (entry_words w e) ≡ true
entry_has_space w e =
    ap has_space (client_first w e) ∙ ap not (one_fails (is_not 32) (client_text w e.call) 32 (decimal e.call.seq ++ codes " " ++ made_text w e.call ++ codes ":" ++ numbers_text e.prints) refl)

-- the line of an entry tells the name of its client
pub client_read : (w : s.Workload) → HasPlainNames w → (e f : Entry) → entry_words w e ≡ entry_words w f → client_text w e.call ≡ client_text w f.call
client_read w names e f same =
    (cut_same (is_not 32) (client_text w e.call) (client_text w f.call) (after_client w e) (after_client w f)
    (client_all w (is_not 32) names.no_space e.call)
    (client_all w (is_not 32) names.no_space f.call)
    refl refl (sym (client_first w e) ∙ same ∙ client_first w f)).0

-- ---- headings
pub round_is_line : (n : ℕ) → IsLine (round_words n)
round_is_line n = all_append (is_not 10) (codes "round ") (decimal n) refl (decimal_all (is_not 10) numbers_no_newline.digits n)

pub site_is_line : (i : ℕ) → IsLine (site_words i)
site_is_line i = all_append (is_not 10) (codes "site ") (decimal i) refl (decimal_all (is_not 10) numbers_no_newline.digits i)

pub no_entry_round : (n : ℕ) → is_entry (round_words n) ≡ false
no_entry_round n = ap not (all_append (is_not 58) (codes "round ") (decimal n) refl (decimal_all (is_not 58) numbers_no_colon.digits n))

pub no_entry_site : (i : ℕ) → is_entry (site_words i) ≡ false
no_entry_site i = ap not (all_append (is_not 58) (codes "site ") (decimal i) refl (decimal_all (is_not 58) numbers_no_colon.digits i))

pub round_has_space : (n : ℕ) → has_space (round_words n) ≡ true
round_has_space n = refl

pub site_has_space : (i : ℕ) → has_space (site_words i) ≡ true
site_has_space i = refl

-- the first byte of the heading of a closing call
abbrev pub is_close : List ℕ → Bool
is_close line = get_or line 0 0 == 99

pub no_close_round : (n : ℕ) → is_close (round_words n) ≡ false
no_close_round n = refl

module _ (site : ℕ) (f : Broken) where
  closing_all : (p : ℕ → Bool) → PassesNumbers p → list_all p (codes "close ") ≡ true → list_all p (codes " clause ") ≡ true → list_all p (codes " sum ") ≡ true → list_all p (codes " bound ") ≡ true → list_all p (closing_words site f) ≡ true
  closing_all p n close clause sum bound =
      let number : (m : ℕ) → list_all p (decimal m) ≡ true = decimal_all p n.digits in
      let signed : (z : ℤ) → list_all p (signed_decimal z) ≡ true = signed_all p n.digits n.minus in
      let a : List ℕ = codes "close " ++ decimal site in
      let b : List ℕ = a ++ codes " clause " in
      let c : List ℕ = b ++ decimal f.clause in
      let d : List ℕ = c ++ codes " sum " in
      let e : List ℕ = d ++ signed_decimal f.sum in
      all_append p (e ++ codes " bound ") (signed_decimal f.bound)
      (all_append p e (codes " bound ")
      (all_append p d (signed_decimal f.sum)
      (all_append p c (codes " sum ")
      (all_append p b (decimal f.clause)
      (all_append p a (codes " clause ") (all_append p (codes "close ") (decimal site) close (number site)) clause)
      (number f.clause))
      sum)
      (signed f.sum))
      bound)
      (signed f.bound)

  pub closing_is_line : IsLine (closing_words site f)
  closing_is_line = closing_all (is_not 10) numbers_no_newline refl refl refl refl

  pub no_entry_closing : is_entry (closing_words site f) ≡ false
  no_entry_closing = ap not (closing_all (is_not 58) numbers_no_colon refl refl refl refl)

  pub closing_has_space : has_space (closing_words site f) ≡ true
  closing_has_space = refl

  pub closing_is_close : is_close (closing_words site f) ≡ true
  closing_is_close = refl

-- The lines behind a text, with some bytes more.
use Rattle.std.proofs.Common.{◌≡◌, ◌≢◌, ◌∙◌, ◌<◌, ◌≤◌, ◌-◌, ℕ, suc, List, [], ◌∷◌, ◌++◌, length, take, drop, get_or, None, Some, Result, OnOk, refl, sym, ap, subst, arith, append_assoc, append-nil, eq-eqb, eqb-true}
use Rattle.std.specs.List.{flat_map}
use Rattle.std.proofs.lemmas.Grind.{flat_map-append}
use Rattle.std.proofs.lemmas.List.{take-append-drop, take_all, get_or-take, length-take-le, length-drop}
use Rattle.std.proofs.lemmas.List.Elements.{All-from_get_or, All-append, All-push, All-nil}
use Rattle.std.proofs.lemmas.Result.{on_ok_weaker}
use Rattle.std.proofs.Math.Seq.{drop-cons}
use Rattle.memchr.specs.Find.{Passes, IsFirstByte, is_byte}
use Rattle.homeo_syntax.specs.declared.workload.Workload.{Workload}
use Rattle.homeo_process.specs.Driven.{Driven, before_all}
use Rattle.homeo_process.specs.Runs.{newline, IsLine, AreLines, HasRun}
use Rattle.homeo_process.specs.Runs.HasRun.{begin, more}
use Rattle.homeo_process.specs.inner.Lines.{LinesValue, no_lines, Keeps, IsAlong, Gains}
use Rattle.homeo_process.specs.inner.Shells.{Took}

-- ---- where a line ends
no_newline : (xs : List ℕ) (n : ℕ) → n ≤ length xs → ((k : ℕ) → k < n → Passes (is_byte newline) xs k → ⊥) → IsLine (take n xs)
no_newline xs n short none = All-from_get_or (λ b. b ≢ newline) (take n xs) 0 (λ i lt is.
    let before : i < n = omega (arith, length-take-le n xs short) in
    none i before (eq-eqb (get_or xs i 0) newline (sym (get_or-take n xs i 0 before) ∙ is)))

pub no_line_ends : (xs : List ℕ) → IsFirstByte (is_byte newline) xs None → IsLine xs
no_line_ends xs none = All-from_get_or (λ b. b ≢ newline) xs 0 (λ i lt is. none i (omega arith) lt (eq-eqb (get_or xs i 0) newline is))

-- bytes are cut at their first newline
pub line_there : (xs line : List ℕ) (n : ℕ) → IsFirstByte (is_byte newline) xs (Some n) → line ≡ take n xs → IsLine line
line_there xs line n (first, here) is =
    subst IsLine (sym is) (no_newline xs n (let h = first.high in omega arith) (λ k lt. first.before k (omega arith) lt))

pub cut_there : (xs line behind : List ℕ) (n : ℕ) → IsFirstByte (is_byte newline) xs (Some n) → line ≡ take n xs → behind ≡ drop n xs →
    xs ≡ line ++ newline ∷ take (length behind - 1) (drop 1 behind)
cut_there xs line behind n (first, here) is rest =
    let byte : get_or xs n 0 ≡ newline = eqb-true (get_or xs n 0) newline here in
    let cut : drop n xs ≡ newline ∷ drop (suc n) xs = drop-cons xs n 0 first.high ∙ ap (λ b. b ∷ drop (suc n) xs) byte in
    let more : take (length behind - 1) (drop 1 behind) ≡ drop (suc n) xs =
    take_all (length behind - 1) (drop 1 behind) (omega (arith, length-drop 1 behind)) ∙ ap (drop 1) (rest ∙ cut) in
    sym (take-append-drop n xs) ∙ ap (λ l. take n xs ++ l) cut ∙ ap (λ l. l ++ newline ∷ drop (suc n) xs) (sym is) ∙ ap (λ l. line ++ newline ∷ l) (sym more)

-- ---- lines
abbrev ended : List ℕ → List ℕ
ended line = line ++ newline ∷ []

nothing : AreLines [] [] []
nothing = record { are = refl; each = All-nil IsLine; goes_on = All-nil (λ b. b ≢ newline) }

goes_on : (bytes rest part : List ℕ) (lines : List (List ℕ)) → AreLines bytes lines rest → IsLine part → AreLines (bytes ++ part) lines (rest ++ part)
goes_on bytes rest part lines h line = record {
  are = ap (λ l. l ++ part) h.are ∙ append_assoc (flat_map ended lines) rest part;
  each = h.each;
  goes_on = All-append (λ b. b ≢ newline) rest part h.goes_on line;
}

one_more : (bytes rest : List ℕ) (lines : List (List ℕ)) → AreLines bytes lines rest → AreLines (bytes ++ newline ∷ []) (lines ++ rest ∷ []) []
one_more bytes rest lines h = record {
  are = ap (λ l. l ++ newline ∷ []) h.are ∙ append_assoc (flat_map ended lines) rest (newline ∷ [])
      ∙ ap (λ l. flat_map ended lines ++ l) (sym (append-nil (ended rest))) ∙ sym (flat_map-append ended lines (rest ∷ []))
      ∙ sym (append-nil (flat_map ended (lines ++ rest ∷ [])));
  each = All-push IsLine lines rest h.each h.goes_on;
  goes_on = All-nil (λ b. b ≢ newline);
}

-- ---- what was taken of a piece, and what that gave
pub record HasTaken (work : Workload) (bytes given piece left : List ℕ) (old new : List ℕ) (l : LinesValue) : Type 0 where
  pub taken : List ℕ
  pub cut : piece ≡ taken ++ left
  pub gains : Gains old new (λ more. IsAlong work (bytes ++ taken) (given ++ more) l)

pub none_taken : (work : Workload) (bytes given piece old : List ℕ) (l : LinesValue) → IsAlong work bytes given l → HasTaken work bytes given piece piece old old l
none_taken work bytes given piece old l h = record {
  taken = [];
  cut = refl;
  gains = (
    [],
    sym (append-nil old),
    subst (λ b. IsAlong work b (given ++ []) l) (sym (append-nil bytes)) (subst (λ g. IsAlong work bytes g l) (sym (append-nil given)) h),
  );
}

pub line_taken : (work : Workload) (bytes given piece left old new : List ℕ) (l : LinesValue) (line behind then : List ℕ) (after : LinesValue) →
    HasTaken work bytes given piece left old new l → left ≡ line ++ newline ∷ behind → IsLine line →
    ((rest : List ℕ) → Keeps l rest → Took l.node (rest ++ line) after.node new then) → Keeps after [] → HasTaken work bytes given piece behind old then after
line_taken work bytes given piece left old new l line behind then after h cut is took keeps =
    let a = h.gains.2 in
    let m = h.gains.0 in
    let t = took a.rest a.keeps in
    let along : IsAlong work ((bytes ++ h.taken) ++ ended line) ((given ++ m) ++ t.written) after = record {
      lines = a.lines ++ (a.rest ++ line) ∷ [];
      rest = [];
      are_lines = subst (λ b. AreLines b (a.lines ++ (a.rest ++ line) ∷ []) []) (append_assoc (bytes ++ h.taken) line (newline ∷ []))
          (one_more ((bytes ++ h.taken) ++ line) (a.rest ++ line) a.lines (goes_on (bytes ++ h.taken) a.rest line a.lines a.are_lines is));
      run = more a.lines l.node (given ++ m) (a.rest ++ line) after.node t.written a.run t.taken;
      keeps = keeps;
    } in record {
      taken = h.taken ++ ended line;
      cut = h.cut ∙ ap (λ x. h.taken ++ x) (cut ∙ sym (append_assoc line (newline ∷ []) behind)) ∙ sym (append_assoc h.taken (ended line) behind);
      gains = (
        m ++ t.written,
        t.are ∙ ap (λ x. x ++ t.written) h.gains.1 ∙ append_assoc old m t.written,
        subst (λ b. IsAlong work b (given ++ (m ++ t.written)) after) (append_assoc bytes h.taken (ended line))
            (subst (λ g. IsAlong work ((bytes ++ h.taken) ++ ended line) g after) (append_assoc given m t.written) along),
      );
    }

pub all_taken : {T E : Type 0} (r : Result T E) (work : Workload) (bytes given piece left old new : List ℕ) (l after : LinesValue) →
    HasTaken work bytes given piece left old new l → IsLine left → after.node ≡ l.node → ((rest : List ℕ) → Keeps l rest → OnOk r (Keeps after (rest ++ left))) →
    OnOk r (Gains old new (λ more. IsAlong work (bytes ++ piece) (given ++ more) after))
all_taken r work bytes given piece left old new l after h is same keeps =
    let a = h.gains.2 in
    let along : Keeps after (a.rest ++ left) → IsAlong work ((bytes ++ h.taken) ++ left) (given ++ h.gains.0) after = λ kept. record {
      lines = a.lines;
      rest = a.rest ++ left;
      are_lines = goes_on (bytes ++ h.taken) a.rest left a.lines a.are_lines is;
      run = subst (λ (d : Driven). HasRun work a.lines d (given ++ h.gains.0)) (sym same) a.run;
      keeps = kept;
    } in
    let whole : (bytes ++ h.taken) ++ left ≡ bytes ++ piece = append_assoc bytes h.taken left ∙ ap (λ x. bytes ++ x) (sym h.cut) in
    on_ok_weaker r (λ kept. (h.gains.0, h.gains.1, subst (λ b. IsAlong work b (given ++ h.gains.0) after) whole (along kept))) (keeps a.rest a.keeps)

-- ---- before any line
pub no_run : (work : Workload) (d : Driven) → d ≡ before_all work → IsAlong work [] [] (no_lines d)
no_run work d first = record {
  lines = [];
  rest = [];
  are_lines = nothing;
  run = subst (λ (x : Driven). HasRun work [] x []) (sym first) begin;
  keeps = refl;
}

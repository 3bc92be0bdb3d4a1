-- The line that a newline ends.
use Rattle.std.proofs.Common.{◌≡◌, ◌∙◌, ◌+◌, ◌-◌, ◌<◌, ◌≤◌, ◌==◌, ℕ, zero, suc, Bool, true, false, ◌&&◌, not, if◌then◌else◌, List, [], ◌∷◌, ◌++◌, length, get_or, drop, take, refl, sym, ap, ap₂, subst, arith, append_assoc, true≢false, length-append, length-drop}
use Rattle.std.proofs.lemmas.Bool.{eqb-true, and_parts, and_right}
use Rattle.std.proofs.lemmas.List.{take_rest, take_at}
use Rattle.homeo_lemmas.proofs.Bools.{and_false}
use Rattle.homeo_reader.specs.Lines.{newline, is_blank, is_end, is_end_word, whole_lines}
use Rattle.homeo_frames.specs.LastLines.{is_one_line, without_last_line}
use Rattle.homeo_frames.specs.Frames.{is_line, IsFrame, IsOpen}
use Rattle.homeo_frames.specs.LastLines.{last_line, EndsInEnd}
use Rattle.homeo_frames.proofs.Cutting.{open_byte, open_line, frame_line}

-- ---- blanks in front
pub end_blank : (line : List ℕ) (at : ℕ) → at < length line → is_blank (get_or line at 0) ≡ true → is_end (drop at line) ≡ is_end (drop (at + 1) line)
end_blank [] at lt h = absurd (omega arith)
end_blank (b ∷ line) zero lt h = go (is_blank b) h
  where
    go : (x : Bool) → x ≡ true → (if x then is_end line else is_end_word (b ∷ line)) ≡ is_end line
    go true e = refl
    go false e = absurd (true≢false (sym e))
end_blank (b ∷ line) (suc at) lt h =
    let same : suc at + 1 ≡ suc (at + 1) = omega arith in
    end_blank line at (omega arith) h ∙ ap (λ n. is_end (drop n (b ∷ line))) (sym same)

pub end_word : (line : List ℕ) (at : ℕ) → at < length line → is_blank (get_or line at 0) ≡ false → is_end (drop at line) ≡ is_end_word (drop at line)
end_word [] at lt h = absurd (omega arith)
end_word (b ∷ line) zero lt h = go (is_blank b) h
  where
    go : (x : Bool) → x ≡ false → (if x then is_end line else is_end_word (b ∷ line)) ≡ is_end_word (b ∷ line)
    go false e = refl
    go true e = absurd (true≢false e)
end_word (b ∷ line) (suc at) lt h = end_word line at (omega arith) h

-- ---- the last line
back : (bytes : List ℕ) (m : ℕ) → m < length bytes → (get_or bytes m 0 == newline) ≡ false → is_line (drop (suc m) bytes) ≡ true → is_line (drop m bytes) ≡ true
back [] m lt other h = absurd (omega arith)
back (b ∷ bytes) zero lt other h = ap₂ (λ x y. not x && y) other h
back (b ∷ bytes) (suc m) lt other h = back bytes m (omega arith) other h

pub whole_last : (bytes : List ℕ) → is_line bytes ≡ true → last_line bytes ≡ bytes
whole_last [] h = refl
whole_last (b ∷ bytes) h = go (is_line (b ∷ bytes)) h
  where
    go : (x : Bool) → x ≡ true → (if x then b ∷ bytes else last_line bytes) ≡ b ∷ bytes
    go true e = refl
    go false e = absurd (true≢false (sym e))

part_last : (b : ℕ) (bytes : List ℕ) → is_line (b ∷ bytes) ≡ false → last_line (b ∷ bytes) ≡ last_line bytes
part_last b bytes h = go (is_line (b ∷ bytes)) h
  where
    go : (x : Bool) → x ≡ false → (if x then b ∷ bytes else last_line bytes) ≡ last_line bytes
    go false e = refl
    go true e = absurd (true≢false e)

not_line : (a x : List ℕ) → is_line (a ++ newline ∷ x) ≡ false
not_line [] x = refl
not_line (b ∷ a) x = and_right (not (b == newline)) (is_line (a ++ newline ∷ x)) (not_line a x)

-- the last line stands behind each newline
skip_line : (a x : List ℕ) → last_line (a ++ newline ∷ x) ≡ last_line x
skip_line [] x = part_last newline x refl
skip_line (b ∷ a) x = part_last b (a ++ newline ∷ x) (not_line (b ∷ a) x) ∙ skip_line a x

pub last_whole : (lines : List (List ℕ)) (part : List ℕ) → is_line part ≡ true → last_line (whole_lines lines ++ part) ≡ part
last_whole [] part h = whole_last part h
last_whole (l ∷ lines) part h =
    ap last_line (append_assoc l (newline ∷ whole_lines lines) part) ∙ skip_line l (whole_lines lines ++ part) ∙ last_whole lines part h

not_line_at : (bytes : List ℕ) (m : ℕ) → m < length bytes → get_or bytes m 0 ≡ newline → is_line bytes ≡ false
not_line_at [] m lt e = absurd (omega arith)
not_line_at (b ∷ bytes) zero lt e = subst (λ c. is_line (c ∷ bytes) ≡ false) (sym e) refl
not_line_at (b ∷ bytes) (suc m) lt e = and_right (not (b == newline)) (is_line bytes) (not_line_at bytes m (omega arith) e)

last_behind : (bytes : List ℕ) (m : ℕ) → m < length bytes → get_or bytes m 0 ≡ newline → is_line (drop (suc m) bytes) ≡ true → last_line bytes ≡ drop (suc m) bytes
last_behind [] m lt e h = absurd (omega arith)
last_behind (b ∷ bytes) zero lt e h = part_last b bytes (subst (λ c. is_line (c ∷ bytes) ≡ false) (sym e) refl) ∙ whole_last bytes h
last_behind (b ∷ bytes) (suc m) lt e h =
    part_last b bytes (not_line_at (b ∷ bytes) (suc m) lt e) ∙ last_behind bytes m (omega arith) e h

pub last_at : (bytes : List ℕ) (at : ℕ) → 0 < at → at ≤ length bytes → get_or bytes (at - 1) 0 ≡ newline → is_line (drop at bytes) ≡ true → last_line bytes ≡ drop at bytes
last_at bytes at some le e h =
    let same : suc (at - 1) ≡ at = omega arith in
    subst (λ n. last_line bytes ≡ drop n bytes) same (last_behind bytes (at - 1) (omega arith) e (subst (λ n. is_line (drop n bytes) ≡ true) (sym same) h))

-- ---- what a byte makes of a frame that hasn't ended
their_last : (r : List ℕ) (o : IsOpen r) → last_line r ≡ o.part
their_last r o = ap last_line o.are ∙ last_whole o.before o.part o.line

pub goes_on_byte : (r : List ℕ) (b : ℕ) → (b == newline) ≡ false → IsOpen r → IsOpen (r ++ b ∷ [])
goes_on_byte r b other o = subst (λ l. IsOpen (l ++ b ∷ [])) (sym o.are) (open_byte o.before o.part b o.others o.line other)

pub goes_on_line : (r : List ℕ) (b : ℕ) → b ≡ newline → is_end (last_line r) ≡ false → IsOpen r → IsOpen (r ++ b ∷ [])
goes_on_line r b is other o =
    subst (λ c. IsOpen (r ++ c ∷ [])) (sym is)
    (subst (λ l. IsOpen (l ++ newline ∷ [])) (sym o.are) (open_line o.before o.part o.others o.line (sym (ap is_end (their_last r o)) ∙ other)))

pub ends_line : (r : List ℕ) (b : ℕ) → b ≡ newline → is_end (last_line r) ≡ true → IsOpen r → IsFrame (r ++ b ∷ [])
ends_line r b is ends o =
    subst (λ c. IsFrame (r ++ c ∷ [])) (sym is)
    (subst (λ l. IsFrame (l ++ newline ∷ [])) (sym o.are) (frame_line o.before o.part o.others o.line (sym (ap is_end (their_last r o)) ∙ ends)))

-- ---- a frame without its last line
-- a line and its newline are one line
one_line : (line : List ℕ) → is_line line ≡ true → is_one_line (line ++ newline ∷ []) ≡ true
one_line [] h = refl
one_line (b ∷ []) h = h
one_line (b ∷ c ∷ line) h =
    let parts = and_parts (not (b == newline)) (is_line (c ∷ line)) h in
    ap (λ x. x && is_one_line ((c ∷ line) ++ newline ∷ [])) parts.0 ∙ one_line (c ∷ line) parts.1

none_without : (b : ℕ) (bytes : List ℕ) → is_one_line (b ∷ bytes) ≡ true → without_last_line (b ∷ bytes) ≡ []
none_without b bytes h = ap (λ x. if x then [] else b ∷ without_last_line bytes) h

last_out : (line : List ℕ) → is_line line ≡ true → without_last_line (line ++ newline ∷ []) ≡ []
last_out [] h = refl
last_out (b ∷ line) h = none_without b (line ++ newline ∷ []) (one_line (b ∷ line) h)

-- a newline stands before other bytes
more_lines : (a : List ℕ) (c : ℕ) (x : List ℕ) → is_one_line (a ++ newline ∷ c ∷ x) ≡ false
more_lines [] c x = refl
more_lines (b ∷ []) c x = and_false (not (b == newline))
more_lines (b ∷ d ∷ a) c x = ap (λ v. not (b == newline) && v) (more_lines (d ∷ a) c x) ∙ and_false (not (b == newline))

line_stays : (a : List ℕ) (c : ℕ) (x : List ℕ) → without_last_line (a ++ newline ∷ c ∷ x) ≡ a ++ newline ∷ without_last_line (c ∷ x)
line_stays [] c x = refl
line_stays (b ∷ a) c x =
    ap (λ v. if v then [] else b ∷ without_last_line (a ++ newline ∷ c ∷ x)) (more_lines (b ∷ a) c x)
    ∙ ap (λ l. b ∷ l) (line_stays a c x)

stays_before : (a x : List ℕ) → 0 < length x → without_last_line (a ++ newline ∷ x) ≡ a ++ newline ∷ without_last_line x
stays_before a [] some = absurd (omega (arith, some))
stays_before a (c ∷ x) some = line_stays a c x

pub lines_before : (lines : List (List ℕ)) (line : List ℕ) → is_line line ≡ true → without_last_line (whole_lines lines ++ (line ++ newline ∷ [])) ≡ whole_lines lines
lines_before [] line h = last_out line h
lines_before (l ∷ lines) line h =
    let rest : List ℕ = whole_lines lines ++ (line ++ newline ∷ []) in
    let some : 0 < length rest = omega (arith, length-append (whole_lines lines) (line ++ newline ∷ []), length-append line (newline ∷ [])) in
    ap without_last_line (append_assoc l (newline ∷ whole_lines lines) (line ++ newline ∷ []))
    ∙ stays_before l rest some ∙ ap (λ x. l ++ newline ∷ x) (lines_before lines line h)

-- ---- all bytes are lines
is_last : (b : ℕ) (bytes : List ℕ) (x : Bool) → is_line (b ∷ bytes) ≡ x → last_line (b ∷ bytes) ≡ (if x then b ∷ bytes else last_line bytes)
is_last b bytes x e = ap (λ v. if v then b ∷ bytes else last_line bytes) e

-- bytes as lines, and the last line
record HasLines (bytes : List ℕ) : Type 0 where
  lines : List (List ℕ)
  are : bytes ≡ whole_lines lines ++ last_line bytes
  part : is_line (last_line bytes) ≡ true

all_lines : (bytes : List ℕ) → HasLines bytes
all_lines [] = record { lines = []; are = refl; part = refl }
all_lines (b ∷ bytes) = go (is_line (b ∷ bytes)) refl (b == newline) refl (all_lines bytes)
  where
    longer : (more : HasLines bytes) (last : List ℕ) → last_line (b ∷ bytes) ≡ last_line bytes → (lines : List (List ℕ)) → bytes ≡ whole_lines lines ++ last_line bytes → is_line (last_line bytes) ≡ true → (b == newline) ≡ false → is_line (b ∷ bytes) ≡ false → HasLines (b ∷ bytes)
    longer more last same [] are part other no_line =
        absurd (true≢false (sym (ap (λ l. is_line l) are ∙ part) ∙ ap (λ v. not v && is_line bytes) (sym other) ∙ no_line))
    longer more last same (l ∷ lines) are part other no_line = record {
      lines = (b ∷ l) ∷ lines;
      are = ap (λ x. b ∷ x) are ∙ ap (λ x. whole_lines ((b ∷ l) ∷ lines) ++ x) (sym same);
      part = ap is_line same ∙ part;
    }

    go : (x : Bool) → is_line (b ∷ bytes) ≡ x → (n : Bool) → (b == newline) ≡ n → HasLines bytes → HasLines (b ∷ bytes)
    go true e n f more = record { lines = []; are = sym (is_last b bytes true e); part = ap is_line (is_last b bytes true e) ∙ e }
    go false e true f more = record {
      lines = [] ∷ more.lines;
      are = ap (λ x. x ∷ bytes) (eqb-true b newline f) ∙ ap (λ x. newline ∷ x) more.are
          ∙ ap (λ x. newline ∷ (whole_lines more.lines ++ x)) (sym (is_last b bytes false e));
      part = ap is_line (is_last b bytes false e) ∙ more.part;
    }
    go false e false f more = longer more [] (is_last b bytes false e) more.lines more.are more.part f e

-- a newline behind a last line that is `end`
pub in_end : (bytes : List ℕ) (b : ℕ) → b ≡ newline → is_end (last_line bytes) ≡ true → EndsInEnd (bytes ++ b ∷ [])
in_end bytes b is ends =
    let l = all_lines bytes in
    subst (λ c. EndsInEnd (bytes ++ c ∷ [])) (sym is) (record {
      before = l.lines;
      last = last_line bytes;
      are = ap (λ x. x ++ newline ∷ []) l.are ∙ append_assoc (whole_lines l.lines) (last_line bytes) (newline ∷ []);
      line = l.part;
      ends = ends;
    })

-- where the last line begins
pub line_at : (bytes : List ℕ) (at : ℕ) → drop at bytes ≡ last_line bytes → take (length bytes - at) (drop at bytes) ≡ last_line bytes
line_at bytes at e = take_rest bytes at ∙ e

-- a frame that ends in `end`, up to the newline and then up to the line
pub before_last :
    (frame : List ℕ) (e : EndsInEnd frame) (at : ℕ) → at ≤ length (take (length frame - 1) frame) → drop at (take (length frame - 1) frame) ≡ last_line (take (length frame - 1) frame) →
    take at (take (length frame - 1) frame) ≡ without_last_line frame
before_last frame e at le there =
    let front : List ℕ = whole_lines e.before in
    let body : List ℕ = front ++ e.last in
    let whole : frame ≡ body ++ newline ∷ [] = e.are ∙ sym (append_assoc front e.last (newline ∷ [])) in
    let size : length body ≡ length frame - 1 = omega (arith, ap length whole, length-append body (newline ∷ [])) in
    let is : take (length frame - 1) frame ≡ body = ap (take (length frame - 1)) whole ∙ take_at body (newline ∷ []) (length frame - 1) size in
    let last : drop at body ≡ e.last = subst (λ l. drop at l ≡ last_line l) is there ∙ last_whole e.before e.last e.line in
    let place : length front ≡ at = omega (arith, ap length last, length-drop at body, length-append front e.last, subst (λ l. at ≤ length l) is le) in
    ap (take at) is ∙ take_at front e.last at place ∙ sym (ap without_last_line e.are ∙ lines_before e.before e.last e.line)

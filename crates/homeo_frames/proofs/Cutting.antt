-- A stream is cut into frames in one way, however it comes.
use Rattle.std.proofs.Common.{◌≡◌, ◌∙◌, ℕ, Bool, true, false, ◌&&◌, not, ◌==◌, List, [], ◌∷◌, ◌++◌, refl, sym, ap, subst, append_assoc, append-nil}
use Rattle.std.specs.List.{concat}
use Rattle.std.proofs.lemmas.Bool.{eqb-true, and_parts}
use Rattle.std.proofs.lemmas.List.Folds.{concat-append}
use Rattle.homeo_reader.specs.Lines.{newline, is_end, whole_lines}
use Rattle.homeo_frames.specs.Frames.{is_line, IsOther, AreOther, IsFrame, IsOpen, AreFrames, IsCut}
use Rattle.homeo_frames.specs.Laws.{OneCut, HasCut, CutsOn}

-- ---- lines
-- a newline stands in no line
no_newline : (line : List ℕ) → is_line (newline ∷ line) ≡ true → ⊥
no_newline line h = cc

-- what begins as one line with its newline does, does so in one way
one_line : (a b x y : List ℕ) → is_line a ≡ true → is_line b ≡ true → a ++ newline ∷ x ≡ b ++ newline ∷ y → (a ≡ b) × (x ≡ y)
one_line [] [] x y h k e = (refl, cc)
one_line [] (b ∷ bs) x y h k e =
    let same : newline ≡ b = cc in
    absurd (no_newline bs (subst (λ c. is_line (c ∷ bs) ≡ true) (sym same) k))
one_line (a ∷ rest) [] x y h k e =
    let same : a ≡ newline = cc in
    absurd (no_newline rest (subst (λ c. is_line (c ∷ rest) ≡ true) same h))
one_line (a ∷ rest) (b ∷ bs) x y h k e =
    let more = one_line rest bs x y (and_parts (not (a == newline)) (is_line rest) h).1 (and_parts (not (b == newline)) (is_line bs) k).1 (cc) in
    let tails : rest ≡ bs = more.0 in
    (cc, more.1)

-- and no part of a line does
no_line : (a b x : List ℕ) → is_line b ≡ true → a ++ newline ∷ x ≡ b → ⊥
no_line [] [] x k e = cc
no_line [] (b ∷ bs) x k e =
    let same : newline ≡ b = cc in
    no_newline bs (subst (λ c. is_line (c ∷ bs) ≡ true) (sym same) k)
no_line (a ∷ rest) [] x k e = cc
no_line (a ∷ rest) (b ∷ bs) x k e = no_line rest bs x (and_parts (not (b == newline)) (is_line bs) k).1 (cc)

-- ---- lines, and then the last of a frame
differs : (line last : List ℕ) → is_end line ≡ false → is_end last ≡ true → line ≡ last → ⊥
differs line last h k e = let same : is_end line ≡ is_end last = ap is_end e in cc

regroup : (line ls last x : List ℕ) → (line ++ newline ∷ ls) ++ last ++ x ≡ line ++ newline ∷ (ls ++ last ++ x)
regroup line ls last x = simp append_assoc

one_front : (ls ms : List (List ℕ)) (a b x y : List ℕ) → AreOther ls → AreOther ms →
    is_line a ≡ true → is_end a ≡ true → is_line b ≡ true → is_end b ≡ true →
    whole_lines ls ++ (a ++ newline ∷ x) ≡ whole_lines ms ++ (b ++ newline ∷ y) → (ls ≡ ms) × (a ≡ b) × (x ≡ y)
one_front [] [] a b x y ls_are ms_are la ea lb eb e =
    let same = one_line a b x y la lb e in
    (refl, same.0, same.1)
one_front [] (m ∷ ms) a b x y ls_are ms_are la ea lb eb e =
    let same = one_line a m x (whole_lines ms ++ (b ++ newline ∷ y)) la ms_are.0.line (e ∙ append_assoc m (newline ∷ whole_lines ms) (b ++ newline ∷ y)) in
    absurd (differs m a ms_are.0.other ea (sym same.0))
one_front (l ∷ ls) [] a b x y ls_are ms_are la ea lb eb e =
    let same = one_line l b (whole_lines ls ++ (a ++ newline ∷ x)) y ls_are.0.line lb (sym (append_assoc l (newline ∷ whole_lines ls) (a ++ newline ∷ x)) ∙ e) in
    absurd (differs l b ls_are.0.other eb same.0)
one_front (l ∷ ls) (m ∷ ms) a b x y ls_are ms_are la ea lb eb e =
    let same = one_line l m (whole_lines ls ++ (a ++ newline ∷ x)) (whole_lines ms ++ (b ++ newline ∷ y)) ls_are.0.line ms_are.0.line
    (sym (append_assoc l (newline ∷ whole_lines ls) (a ++ newline ∷ x)) ∙ e ∙ append_assoc m (newline ∷ whole_lines ms) (b ++ newline ∷ y)) in
    let more = one_front ls ms a b x y ls_are.1 ms_are.1 la ea lb eb same.1 in
    let first : l ≡ m = same.0 in
    let others : ls ≡ ms = more.0 in
    (cc, more.1, more.2)

-- no frame that hasn't ended begins with one that has
not_open : (ls ms : List (List ℕ)) (a p x : List ℕ) → AreOther ls → AreOther ms → is_line a ≡ true → is_end a ≡ true → is_line p ≡ true →
    whole_lines ls ++ (a ++ newline ∷ x) ≡ whole_lines ms ++ p → ⊥
not_open [] [] a p x ls_are ms_are la ea lp e = no_line a p x lp e
not_open [] (m ∷ ms) a p x ls_are ms_are la ea lp e =
    let same = one_line a m x (whole_lines ms ++ p) la ms_are.0.line (e ∙ append_assoc m (newline ∷ whole_lines ms) p) in
    differs m a ms_are.0.other ea (sym same.0)
not_open (l ∷ ls) [] a p x ls_are ms_are la ea lp e =
    no_line l p (whole_lines ls ++ (a ++ newline ∷ x)) lp (sym (append_assoc l (newline ∷ whole_lines ls) (a ++ newline ∷ x)) ∙ e)
not_open (l ∷ ls) (m ∷ ms) a p x ls_are ms_are la ea lp e =
    let same = one_line l m (whole_lines ls ++ (a ++ newline ∷ x)) (whole_lines ms ++ p) ls_are.0.line ms_are.0.line
    (sym (append_assoc l (newline ∷ whole_lines ls) (a ++ newline ∷ x)) ∙ e ∙ append_assoc m (newline ∷ whole_lines ms) p) in
    not_open ls ms a p x ls_are.1 ms_are.1 la ea lp same.1

-- ---- frames
spread : (f x : List ℕ) (frame : IsFrame f) → f ++ x ≡ whole_lines frame.before ++ (frame.last ++ newline ∷ x)
spread f x frame = ap (λ l. l ++ x) frame.are ∙ simp append_assoc

pub one_frame : (f g x y : List ℕ) → IsFrame f → IsFrame g → f ++ x ≡ g ++ y → (f ≡ g) × (x ≡ y)
one_frame f g x y p q e =
    let same = one_front p.before q.before p.last q.last x y p.others q.others p.line p.ends q.line q.ends (sym (spread f x p) ∙ e ∙ spread g y q) in
    let before : p.before ≡ q.before = same.0 in
    let last : p.last ≡ q.last = same.1 in
    (p.are ∙ (ap (λ ls. whole_lines ls ++ (p.last ++ newline ∷ [])) before ∙ ap (λ l. whole_lines q.before ++ (l ++ newline ∷ [])) last) ∙ sym q.are, same.2)

pub frame_not_open : (f r x : List ℕ) → IsFrame f → IsOpen r → f ++ x ≡ r → ⊥
frame_not_open f r x p q e = not_open p.before q.before p.last q.part x p.others q.others p.line p.ends q.line (sym (spread f x p) ∙ e ∙ q.are)

-- ---- cuts
one_row : (fs gs : List (List ℕ)) (r q : List ℕ) → AreFrames fs → AreFrames gs → IsOpen r → IsOpen q →
    concat fs ++ r ≡ concat gs ++ q → (fs ≡ gs) × (r ≡ q)
one_row [] [] r q fs_are gs_are ro qo e = (refl, e)
one_row [] (g ∷ gs) r q fs_are gs_are ro qo e =
    absurd (frame_not_open g r (concat gs ++ q) gs_are.0 ro (sym (e ∙ append_assoc g (concat gs) q)))
one_row (f ∷ fs) [] r q fs_are gs_are ro qo e =
    absurd (frame_not_open f q (concat fs ++ r) fs_are.0 qo (sym (append_assoc f (concat fs) r) ∙ e))
one_row (f ∷ fs) (g ∷ gs) r q fs_are gs_are ro qo e =
    let same = one_frame f g (concat fs ++ r) (concat gs ++ q) fs_are.0 gs_are.0 (sym (append_assoc f (concat fs) r) ∙ e ∙ append_assoc g (concat gs) q) in
    let more = one_row fs gs r q fs_are.1 gs_are.1 ro qo same.1 in
    let first : f ≡ g = same.0 in
    let others : fs ≡ gs = more.0 in
    (cc, more.1)

pub one_cut : OneCut
one_cut bytes frames others rest more c d = one_row frames others rest more c.each d.each c.open_rest d.open_rest (sym c.whole ∙ d.whole)

pub AreFrames-append : (fs gs : List (List ℕ)) → AreFrames fs → AreFrames gs → AreFrames (fs ++ gs)
AreFrames-append [] gs fs_are gs_are = gs_are
AreFrames-append (f ∷ fs) gs fs_are gs_are = (fs_are.0, AreFrames-append fs gs fs_are.1 gs_are)

pub cuts_on : CutsOn
cuts_on bytes piece frames gained rest more c d = record {
  whole = ap (λ l. l ++ piece) c.whole ∙ append_assoc (concat frames) rest piece ∙ ap (λ l. concat frames ++ l) d.whole
      ∙ sym (append_assoc (concat frames) (concat gained) more) ∙ ap (λ l. l ++ more) (sym (concat-append frames gained));
  each = AreFrames-append frames gained c.each d.each;
  open_rest = d.open_rest;
}

-- ---- one byte more
pub lines_push : (ls : List (List ℕ)) (l : List ℕ) → whole_lines (ls ++ l ∷ []) ≡ whole_lines ls ++ (l ++ newline ∷ [])
lines_push [] l = refl
lines_push (m ∷ ls) l = ap (λ x. m ++ newline ∷ x) (lines_push ls l) ∙ sym (append_assoc m (newline ∷ whole_lines ls) (l ++ newline ∷ []))

pub others_push : (ls : List (List ℕ)) (l : List ℕ) → AreOther ls → IsOther l → AreOther (ls ++ l ∷ [])
others_push [] l ls_are is = (is, tt)
others_push (m ∷ ls) l ls_are is = (ls_are.0, others_push ls l ls_are.1 is)

pub line_push : (l : List ℕ) (b : ℕ) → is_line l ≡ true → (b == newline) ≡ false → is_line (l ++ b ∷ []) ≡ true
line_push [] b h other = ap (λ x. not x && true) other
line_push (a ∷ l) b h other = go (not (a == newline)) h (λ k. line_push l b k other)
  where
    go : (x : Bool) → (x && is_line l) ≡ true → (is_line l ≡ true → is_line (l ++ b ∷ []) ≡ true) → (x && is_line (l ++ b ∷ [])) ≡ true
    go true k f = f k
    go false k f = cc

-- a byte that is no newline goes behind the part of a line
pub open_byte : (before : List (List ℕ)) (part : List ℕ) (b : ℕ) → AreOther before → is_line part ≡ true → (b == newline) ≡ false →
    IsOpen ((whole_lines before ++ part) ++ b ∷ [])
open_byte before part b others line other = record {
  before = before;
  part = part ++ b ∷ [];
  are = append_assoc (whole_lines before) part (b ∷ []);
  others = others;
  line = line_push part b line other;
}

-- a newline ends the line: where that isn't `end`, the frame goes on
pub open_line : (before : List (List ℕ)) (part : List ℕ) → AreOther before → is_line part ≡ true → is_end part ≡ false →
    IsOpen ((whole_lines before ++ part) ++ newline ∷ [])
open_line before part others line other = record {
  before = before ++ part ∷ [];
  part = [];
  are = append_assoc (whole_lines before) part (newline ∷ []) ∙ sym (lines_push before part) ∙ sym (append-nil (whole_lines (before ++ part ∷ [])));
  others = others_push before part others (record { line = line; other = other });
  line = refl;
}

-- and where it is, the frame ends
pub frame_line : (before : List (List ℕ)) (part : List ℕ) → AreOther before → is_line part ≡ true → is_end part ≡ true →
    IsFrame ((whole_lines before ++ part) ++ newline ∷ [])
frame_line before part others line ends = record {
  before = before;
  last = part;
  are = append_assoc (whole_lines before) part (newline ∷ []);
  others = others;
  line = line;
  ends = ends;
}

pub nothing_open : IsOpen []
nothing_open = record { before = []; part = []; are = refl; others = tt; line = refl }

pub cut_none : (r : List ℕ) → IsOpen r → IsCut r [] r
cut_none r o = record { whole = refl; each = tt; open_rest = o }

pub cut_one : (f : List ℕ) → IsFrame f → IsCut f (f ∷ []) []
cut_one f p = record { whole = sym (ap (λ l. l ++ []) (append-nil f) ∙ append-nil f); each = (p, tt); open_rest = nothing_open }

-- the cut of what hadn't ended, with one byte more
pub byte_cut : (r : List ℕ) (b : ℕ) → IsOpen r → (frames : List (List ℕ)) × (rest : List ℕ) × IsCut (r ++ b ∷ []) frames rest
byte_cut r b o = go (b == newline) (is_end o.part) refl refl
  where
    go : (nl ends : Bool) → (b == newline) ≡ nl → is_end o.part ≡ ends → (frames : List (List ℕ)) × (rest : List ℕ) × IsCut (r ++ b ∷ []) frames rest
    go false ends h k = ([], r ++ b ∷ [], cut_none (r ++ b ∷ []) (subst (λ l. IsOpen (l ++ b ∷ [])) (sym o.are) (open_byte o.before o.part b o.others o.line h)))
    go true false h k =
        let is : b ≡ newline = eqb-true b newline h in
        ([], r ++ b ∷ [], cut_none (r ++ b ∷ []) (subst (λ l. IsOpen (l ++ b ∷ [])) (sym o.are) (subst (λ c. IsOpen ((whole_lines o.before ++ o.part) ++ c ∷ [])) (sym is) (open_line o.before o.part o.others o.line k))))
    go true true h k =
        let is : b ≡ newline = eqb-true b newline h in
        ((r ++ b ∷ []) ∷ [], [], cut_one (r ++ b ∷ []) (subst (λ l. IsFrame (l ++ b ∷ [])) (sym o.are) (subst (λ c. IsFrame ((whole_lines o.before ++ o.part) ++ c ∷ [])) (sym is) (frame_line o.before o.part o.others o.line k))))

cut_from : (bytes : List ℕ) (done : List ℕ) → ((frames : List (List ℕ)) × (rest : List ℕ) × IsCut done frames rest) →
    (frames : List (List ℕ)) × (rest : List ℕ) × IsCut (done ++ bytes) frames rest
cut_from [] done (frames, rest, c) = (frames, rest, subst (λ l. IsCut l frames rest) (sym (append-nil done)) c)
cut_from (b ∷ bytes) done (frames, rest, c) =
    let one = byte_cut rest b c.open_rest in
    let more = cut_from bytes (done ++ b ∷ []) (frames ++ one.0, one.1, cuts_on done (b ∷ []) frames one.0 rest one.1 c one.2) in
    (more.0, more.1, subst (λ l. IsCut l more.0 more.1) (append_assoc done (b ∷ []) bytes) more.2)

pub has_cut : HasCut
has_cut bytes = cut_from bytes [] ([], [], cut_none [] nothing_open)

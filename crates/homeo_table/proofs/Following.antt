-- One more command in front of those that are left, and one more row.
use Rattle.std.proofs.Common.{◌≡◌, ◌+◌, ◌<◌, List, [], ◌∷◌, ◌++◌, map, reverse, Bor, refl, sym, ap, ap₂, ◌∙◌, arith, lit<, append_assoc, append-nil}
use Rattle.std.proofs.lemmas.List.{reverse-append, map-append, map_push}
use Rattle.std.proofs.lemmas.Simd.{map-map}
use Rattle.homeo_syntax.specs.Key.{definitions as syntax_definitions}
use Rattle.homeo_syntax.specs.declared.low.LCommand.{LCommand}
use Rattle.homeo_syntax.specs.declared.low.SplitName.{SplitName}
use Rattle.homeo_syntax.specs.declared.low.Temp.{Temp}
use Rattle.homeo_syntax.specs.Low.{Expr, Cond, Command, Skip, Assign, Write, Print, Seq, If}
use Rattle.homeo_syntax.specs.LowView.{low_commands, plain_lcommand}
use Rattle.homeo_meaning.specs.LowMeaning.{Location, TempAt, location_of}
use Rattle.homeo_plan.specs.Key.{definitions as plan_definitions}
use Rattle.homeo_plan.specs.Table.{Row, set_before, test_before, otherwise, before, all_before, last_row}
use Rattle.homeo_table.specs.inner.Key.{definitions}
use Rattle.homeo_table.specs.inner.Partings.{left_before}
use Rattle.homeo_table.specs.inner.Makings.{command_before}
use Rattle.homeo_table.specs.inner.Branches.{size, size_all, left_size}

-- ---- commands that are left
pub left-push : (cs : List Command) (c : Command) (rows : List Row) → left_before (cs ++ c ∷ []) rows ≡ before c (left_before cs rows)
unfolding definitions
left-push [] c rows = refl
left-push (d ∷ cs) c rows = left-push cs c (before d rows)

reverse-cons : (cs ds : List Command) (d : Command) → cs ++ reverse (d ∷ ds) ≡ (cs ++ reverse ds) ++ d ∷ []
reverse-cons cs ds d = ap (λ l. cs ++ l) (reverse-append (d ∷ []) ds) ∙ sym (append_assoc cs (reverse ds) (d ∷ []))

pub left-all :
    (cs ds : List Command) (rows : List Row) → left_before (cs ++ reverse ds) rows ≡ all_before (low_commands ds) (left_before cs rows)
unfolding definitions plan_definitions syntax_definitions
left-all cs [] rows = ap (λ l. left_before l rows) (append-nil cs)
left-all cs (d ∷ ds) rows =
    ap (λ l. left_before l rows) (reverse-cons cs ds d) ∙ left-push (cs ++ reverse ds) d rows ∙ ap (before d) (left-all cs ds rows)

-- ---- how many are left
pub size-push : (cs : List Command) (c : Command) → left_size (cs ++ c ∷ []) ≡ size c + left_size cs
unfolding definitions
size-push [] c = refl
size-push (d ∷ cs) c = let ih = size-push cs c in omega (arith, ih)

pub size-all : (cs ds : List Command) → left_size (cs ++ reverse ds) ≡ size_all (low_commands ds) + left_size cs
unfolding definitions syntax_definitions
size-all cs [] = ap left_size (append-nil cs) ∙ omega arith
size-all cs (d ∷ ds) =
    let ih = size-all cs ds in
    let e = ap left_size (reverse-cons cs ds d) ∙ size-push (cs ++ reverse ds) d in
    omega (arith, ih, e)

pub size-some : (c : Command) → 0 < size c
unfolding definitions
size-some Skip = lit< tt
size-some (Assign t e) = lit< tt
size-some (Write x e) = lit< tt
size-some (Print e) = lit< tt
size-some (Seq cs) = omega arith
size-some (If b c d) = omega arith

pub less-before : (k : Command) (cs : List Command) → left_size cs < size k + left_size cs
less-before k cs = omega (arith, size-some k)

pub less-Seq : (k : Command) (ds cs es : List Command) → k ≡ Seq (low_commands ds) → es ≡ cs ++ reverse ds → left_size es < size k + left_size cs
unfolding definitions
less-Seq k ds cs es h f = omega (arith, ap left_size f ∙ size-all cs ds, ap size h)

pub less-If : (k : Command) (b : Cond) (c d : Command) (cs es : List Command) → k ≡ If b c d → es ≡ cs ++ c ∷ [] → left_size es < size k + left_size cs
unfolding definitions
less-If k b c d cs es h f = omega (arith, ap left_size f ∙ size-push cs c, ap size h)

pub less-next : (cs ds es : List Command) (c : Command) → es ≡ cs ++ c ∷ [] → left_size ds < size c + left_size cs → left_size ds < left_size es
less-next cs ds es c h l = let e = ap left_size h ∙ size-push cs c in omega (arith, e)

-- ---- one command, form by form
pub over-Skip : (k : Command) (rows : List Row) → k ≡ Skip → before k rows ≡ rows
unfolding plan_definitions
over-Skip k rows h = ap (λ k. before k rows) h

pub over-Assign :
    (k : Command) (t : Temp) (e : Expr) (p : Location) (rows : List Row) → k ≡ Assign t e → p ≡ TempAt t → before k rows ≡ map (set_before k p e) rows
unfolding plan_definitions
over-Assign k t e p rows h w = ap (λ k. before k rows) h ∙ ap₂ (λ k p. map (set_before k p e) rows) (sym h) (sym w)

pub over-Write :
    (k : Command) (x : SplitName) (e : Expr) (p : Location) (rows : List Row) → k ≡ Write x e → p ≡ location_of x →
    before k rows ≡ map (set_before k p e) rows
unfolding plan_definitions
over-Write k x e p rows h w = ap (λ k. before k rows) h ∙ ap₂ (λ k p. map (set_before k p e) rows) (sym h) (sym w)

pub over-Print : (k : Command) (e : Expr) (rows : List Row) → k ≡ Print e → before k rows ≡ map (command_before k) rows
unfolding plan_definitions command_before
over-Print k e rows h = ap (λ k. before k rows) h ∙ ap (λ k. map (command_before k) rows) (sym h)

pub over-Seq :
    (k : Command) (ds cs es : List Command) (rows : List Row) → k ≡ Seq (low_commands ds) → es ≡ cs ++ reverse ds →
    left_before es rows ≡ before k (left_before cs rows)
unfolding plan_definitions
over-Seq k ds cs es rows h f = ap (λ l. left_before l rows) f ∙ left-all cs ds rows ∙ ap (λ k. before k (left_before cs rows)) (sym h)

-- ---- rows in the making
pub rows-through :
    (m n f : Row → Row) (k : Command) (rows : List Row) → n ≡ (λ r. m (f r)) → before k rows ≡ map f rows → map n rows ≡ map m (before k rows)
rows-through m n f k rows e h = ap (λ n. map n rows) e ∙ sym (map-map m f rows) ∙ ap (map m) (sym h)

pub rows-front :
    (m n f : Row → Row) (cs ds : List Command) (c : Command) (rows : List Row) → n ≡ (λ r. m (f r)) → ds ≡ cs ++ c ∷ [] →
    map n (left_before ds rows) ≡ map m (map f (before c (left_before cs rows)))
rows-front m n f cs ds c rows e h =
    ap₂ map e (ap (λ l. left_before l rows) h ∙ left-push cs c rows) ∙ sym (map-map m f (before c (left_before cs rows)))

pub rows-next : (m : Row → Row) (cs ds : List Command) (c : Command) (rows : List Row) → ds ≡ cs ++ c ∷ [] → map m (before c (left_before cs rows)) ≡ map m (left_before ds rows)
rows-next m cs ds c rows h = ap (map m) (sym (left-push cs c rows) ∙ ap (λ l. left_before l rows) (sym h))

pub rows-end : (m : Row → Row) (cs : List Command) (all : List Row) → cs ≡ [] → m last_row ∷ all ≡ map m (left_before cs (last_row ∷ [])) ++ all
unfolding definitions
rows-end m cs all h = ap (λ cs. map m (left_before cs (last_row ∷ [])) ++ all) (sym h)

pub rows-both :
    (m : Row → Row) (k : Command) (b : Cond) (c d : Command) (rows all held failed others : List Row) → k ≡ If b c d →
    held ≡ map m (map (test_before b) (before c rows)) → failed ≡ map m (map (test_before (otherwise b)) (before d rows)) → others ≡ failed ++ all →
    held ++ others ≡ map m (before k rows) ++ all
unfolding plan_definitions
rows-both m k b c d rows all held failed others h e f g =
    let y = map (test_before b) (before c rows) in
    let n = map (test_before (otherwise b)) (before d rows) in
    ap₂ ◌++◌ e (g ∙ ap (λ failed. failed ++ all) f) ∙ sym (append_assoc (map m y) (map m n) all)
    ∙ ap (λ rows. rows ++ all) (sym (map-append m y n) ∙ ap (λ k. map m (before k rows)) (sym h))

-- what one more stands for is behind what the others stand for
pub pushed-left : (cs ds : List (Bor LCommand)) (c : Bor LCommand) (k : Command) → ds ≡ cs ++ c ∷ [] → plain_lcommand c.now ≡ k → map (λ c. plain_lcommand c.now) ds ≡ map (λ c. plain_lcommand c.now) cs ++ k ∷ []
pushed-left cs ds c k h is =
    ap (map (λ c. plain_lcommand c.now)) h ∙ map_push (λ c. plain_lcommand c.now) cs c ∙ ap (λ k. map (λ c. plain_lcommand c.now) cs ++ k ∷ []) is

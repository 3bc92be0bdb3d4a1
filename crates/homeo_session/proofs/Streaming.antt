-- What is answered to a stream is a function of its bytes.
use Rattle.std.proofs.Common.{◌≡◌, ◌∙◌, ◌⊎◌, ◌+◌, ◌≤◌, ℕ, List, [], ◌∷◌, ◌++◌, length, Option, Some, None, refl, sym, ap, subst, append_assoc, append-nil, arith, length-append, inl, inr}
use Rattle.std.specs.List.{concat}
use Rattle.homeo_syntax.specs.declared.workload.Refusal.{Refusal}
use Rattle.homeo_frames.specs.Frames.{IsFrame, IsOpen, IsCut}
use Rattle.homeo_session.specs.Batches.{HeadValue, RefusesHead}
use Rattle.homeo_session.specs.Streams.{frame_limit, stream_limit, AreAnswered, AreShort, State, IsAfter, Decides, IsStopped, with_rest, IsServed, EndRefuses, Stops}
use Rattle.homeo_frames.proofs.Cutting.{one_cut, has_cut, cuts_on, frame_not_open, cut_one}
use Rattle.homeo_session.proofs.Batching.{one_refusal, one_answer, head_there, refused_answer}

same_state : (s t : State) → s.head ≡ t.head → s.rest ≡ t.rest → s.count ≡ t.count → s ≡ t
same_state s t h k l =
    ap (λ o. let x : State = record { head = o; rest = s.rest; count = s.count } in x) h
    ∙ ap (λ r. let x : State = record { head = t.head; rest = r; count = s.count } in x) k
    ∙ ap (λ n. let x : State = record { head = t.head; rest = t.rest; count = n } in x) l

-- ---- answers to frames one after another
pub one_row :
    (s : Option HeadValue) (frames : List (List ℕ)) (out out' : List ℕ) (t u : Option HeadValue) → AreAnswered s frames out t → AreAnswered s frames out' u →
    (out ≡ out') × (t ≡ u)
one_row s [] out out' t u h k = (h.0 ∙ sym k.0, h.1 ∙ sym k.1)
one_row s (f ∷ fs) out out' t u (a, m, n, is, first, more) (a', m', n', is', first', more') =
    let one = one_answer s f a a' n n' first first' in
    let same : n ≡ n' = one.1 in
    let rest = one_row n' fs m m' t u (subst (λ (x : Option HeadValue). AreAnswered x fs m t) same more) more' in
    let heads : a ≡ a' = one.0 in
    let tails : m ≡ m' = rest.0 in
    (cc, rest.1)

pub row_split :
    (s : Option HeadValue) (fs gs : List (List ℕ)) (out : List ℕ) (t : Option HeadValue) → AreAnswered s (fs ++ gs) out t →
    (a : List ℕ) × (b : List ℕ) × (mid : Option HeadValue) × (out ≡ a ++ b) × AreAnswered s fs a mid × AreAnswered mid gs b t
row_split s [] gs out t h = ([], out, s, refl, (refl, refl), h)
row_split s (f ∷ fs) gs out t (a, m, n, is, first, more) =
    let r = row_split n fs gs m t more in
    (a ++ r.0, r.1, r.2, is ∙ ap (λ l. a ++ l) r.3 ∙ sym (append_assoc a r.0 r.1), (a, r.0, n, refl, first, r.4), r.5)

pub row_join :
    (s : Option HeadValue) (fs gs : List (List ℕ)) (a b : List ℕ) (mid t : Option HeadValue) → AreAnswered s fs a mid → AreAnswered mid gs b t →
    AreAnswered s (fs ++ gs) (a ++ b) t
row_join s [] gs a b mid t (none, same) k =
    subst (λ l. AreAnswered s gs (l ++ b) t) (sym none) (subst (λ (x : Option HeadValue). AreAnswered x gs b t) same k)
row_join s (f ∷ fs) gs a b mid t (x, m, n, is, first, more) k =
    (x, m ++ b, n, ap (λ l. l ++ b) is ∙ append_assoc x m b, first, row_join n fs gs m b mid t more k)

-- the head is there once a frame has ended
pub row_head :
    (s : Option HeadValue) (f : List ℕ) (fs : List (List ℕ)) (out : List ℕ) (t : Option HeadValue) → AreAnswered s (f ∷ fs) out t →
    (there : HeadValue) × (t ≡ Some there)
row_head s f [] out t (a, m, n, is, first, (none, same)) = let there = head_there s f a n first in (there.0, same ∙ there.1)
row_head s f (g ∷ fs) out t (a, m, n, is, first, more) = row_head n g fs m t more

pub short_append : (fs gs : List (List ℕ)) → AreShort fs → AreShort gs → AreShort (fs ++ gs)
short_append [] gs h k = k
short_append (f ∷ fs) gs h k = (h.0, short_append fs gs h.1 k)

pub short_split : (fs gs : List (List ℕ)) → AreShort (fs ++ gs) → AreShort fs × AreShort gs
short_split [] gs h = (tt, h)
short_split (f ∷ fs) gs h = let r = short_split fs gs h.1 in ((h.0, r.0), r.1)

-- ---- one state after some bytes
pub one_after :
    (bytes out out' : List ℕ) (s t : State) → IsAfter bytes out s → IsAfter bytes out' t → (out ≡ out') × (s ≡ t)
one_after bytes out out' s t h k =
    let cuts = one_cut bytes h.frames k.frames s.rest t.rest h.cut k.cut in
    let same : h.frames ≡ k.frames = cuts.0 in
    let rests : s.rest ≡ t.rest = cuts.1 in
    let row = one_row None k.frames out out' s.head t.head (subst (λ fs. AreAnswered None fs out s.head) same h.answered) k.answered in
    let heads : s.head ≡ t.head = row.1 in
    let counts : s.count ≡ t.count = h.counted ∙ sym k.counted in
    (row.0, same_state s t heads rests counts)

-- ---- the first of two beginnings
pub fronts : (a b x y : List ℕ) → a ++ x ≡ b ++ y → ((z : List ℕ) × (b ≡ a ++ z)) ⊎ ((z : List ℕ) × (a ≡ b ++ z))
fronts [] b x y e = inl (b, refl)
fronts (c ∷ a) [] x y e = inr (c ∷ a, refl)
fronts (c ∷ a) (d ∷ b) x y e = go (fronts a b x y (cc))
  where
    same : c ≡ d
    same = cc

    go : ((z : List ℕ) × (b ≡ a ++ z)) ⊎ ((z : List ℕ) × (a ≡ b ++ z)) → ((z : List ℕ) × (d ∷ b ≡ (c ∷ a) ++ z)) ⊎ ((z : List ℕ) × (c ∷ a ≡ (d ∷ b) ++ z))
    go (inl (z, is)) = inl (z, let h = same in cc)
    go (inr (z, is)) = inr (z, let h = same in cc)

-- what hasn't ended is no longer than the frame that it becomes, or than what hasn't ended later
rest_short : (r x q : List ℕ) (gs : List (List ℕ)) → IsOpen r → IsCut (r ++ x) gs q → AreShort gs → length q ≤ frame_limit → length r ≤ frame_limit
rest_short r x q [] o c short h =
    let lengths = ap length c.whole in
    omega (arith, length-append r x)
rest_short r x q (g ∷ gs) o c short h =
    go (fronts r g x (concat gs ++ q) (c.whole ∙ append_assoc g (concat gs) q))
  where
    go : ((z : List ℕ) × (g ≡ r ++ z)) ⊎ ((z : List ℕ) × (r ≡ g ++ z)) → length r ≤ frame_limit
    go (inl (z, is)) = let small = short.0 in omega (arith, ap length is, length-append r z)
    go (inr (z, is)) = absurd (frame_not_open g r z c.each.0 o (sym is))

-- ---- the first bytes of a stream
pub record Before (bytes out : List ℕ) (s : State) (more : List ℕ) : Type 0 where
  pub state : State
  pub first : List ℕ
  pub then : List ℕ
  pub goes_on : IsAfter bytes first state
  pub are : out ≡ first ++ then
  pub gained : List (List ℕ)
  pub cut : IsCut (state.rest ++ more) gained s.rest
  pub answered : AreAnswered state.head gained then s.head
  pub short : AreShort gained

pub before_after : (bytes more out : List ℕ) (s : State) → IsAfter (bytes ++ more) out s → Before bytes out s more
before_after bytes more out s h =
    let cut = has_cut bytes in
    let next = has_cut (cut.1 ++ more) in
    let whole = cuts_on bytes more cut.0 next.0 cut.1 next.1 cut.2 next.2 in
    let same = one_cut (bytes ++ more) h.frames (cut.0 ++ next.0) s.rest next.1 h.cut whole in
    let rests : next.1 ≡ s.rest = sym same.1 in
    let row = row_split None cut.0 next.0 out s.head (subst (λ fs. AreAnswered None fs out s.head) same.0 h.answered) in
    let shorts = short_split cut.0 next.0 (subst AreShort same.0 h.short) in
    let here : IsCut (cut.1 ++ more) next.0 s.rest = subst (λ r. IsCut (cut.1 ++ more) next.0 r) rests next.2 in
    record {
      state = record { head = row.2; rest = cut.1; count = length bytes };
      first = row.0;
      then = row.1;
      goes_on = record {
        frames = cut.0;
        cut = cut.2;
        answered = row.4;
        short = shorts.0;
        rest_short = rest_short cut.1 more s.rest next.0 cut.2.open_rest here shorts.1 h.rest_short;
        counted = refl;
        within = let all = h.within in omega (arith, length-append bytes more);
      };
      are = row.3;
      gained = next.0;
      cut = here;
      answered = row.5;
      short = shorts.1;
    }

-- ---- a byte that decides a stop
length_push : (r : List ℕ) (b : ℕ) → length (r ++ b ∷ []) ≡ length r + 1
length_push r b = length-append r (b ∷ [])

-- a frame of one row is the frame
single : (f q : List ℕ) (gs : List (List ℕ)) → IsFrame f → IsCut f gs q → gs ≡ f ∷ []
single f q gs frame c = (one_cut f gs (f ∷ []) q [] c (cut_one f frame)).0

long_gained : (r q : List ℕ) (b : ℕ) (gs : List (List ℕ)) → length r ≡ frame_limit → IsOpen r → IsCut (r ++ b ∷ []) gs q → AreShort gs → length q ≤ frame_limit → ⊥
long_gained r q b [] full o c short h =
    let lengths = ap length c.whole in
    let more = length_push r b in
    omega arith
long_gained r q b (g ∷ gs) full o c short h =
    go (fronts r g (b ∷ []) (concat gs ++ q) (c.whole ∙ append_assoc g (concat gs) q))
  where
    go : ((z : List ℕ) × (g ≡ r ++ z)) ⊎ ((z : List ℕ) × (r ≡ g ++ z)) → ⊥
    go (inl (z, is)) = ends z is
      where
        ends : (z : List ℕ) → g ≡ r ++ z → ⊥
        ends [] e = frame_not_open g r [] c.each.0 o (append-nil g ∙ e ∙ append-nil r)
        ends (x ∷ z) e =
            let small = short.0 in
            let size = ap length e ∙ length-append r (x ∷ z) in
            omega arith
    go (inr (z, is)) = frame_not_open g r z c.each.0 o (sym is)

decided : (bytes out out' : List ℕ) (b : ℕ) (s t : State) (r : Refusal) → IsAfter bytes out s → Decides s b r → IsAfter (bytes ++ b ∷ []) out' t → ⊥
decided bytes out out' b s t r h d k = go (before_after bytes (b ∷ []) out' t k) d
  where
    go : Before bytes out' t (b ∷ []) → Decides s b r → ⊥
    go m (inl long) =
        let same : m.state ≡ s = (one_after bytes m.first out m.state s m.goes_on h).1 in
        let cut = subst (λ (x : State). IsCut (x.rest ++ b ∷ []) m.gained t.rest) same m.cut in
        long_gained s.rest t.rest b m.gained long.full h.cut.open_rest cut m.short k.rest_short
    go m (inr (inl much)) =
        let count = h.counted in
        let full = much.full in
        let size = length_push bytes b in
        let all = k.within in
        omega arith
    go m (inr (inr refused)) =
        let same : m.state ≡ s = (one_after bytes m.first out m.state s m.goes_on h).1 in
        let cut = subst (λ (x : State). IsCut (x.rest ++ b ∷ []) m.gained t.rest) same m.cut in
        let row = subst (λ (x : State). AreAnswered x.head m.gained m.then t.head) same m.answered in
        let is = single (s.rest ++ b ∷ []) t.rest m.gained refused.frame cut in
        let one = subst (λ fs. AreAnswered s.head fs m.then t.head) is row in
        refused_answer s.head one.2 (s.rest ++ b ∷ []) one.0 r refused.first refused.refused one.4

pub stops_there :
    (bytes more out out' : List ℕ) (b : ℕ) (s t : State) (r : Refusal) → IsAfter bytes out s → Decides s b r →
    IsAfter (bytes ++ b ∷ more) out' t → ⊥
stops_there bytes more out out' b s t r h d k =
    let m = before_after (bytes ++ b ∷ []) more out' t (subst (λ l. IsAfter l out' t) (sym (append_assoc bytes (b ∷ []) more)) k) in
    decided bytes out m.first b s m.state r h d m.goes_on

-- ---- one refusal
one_long : (s : State) (b : ℕ) (r q : Refusal) → Decides s b r → Decides s b q → r ≡ q
one_long s b r q (inl h) (inl k) = h.is ∙ sym k.is
one_long s b r q (inl h) (inr (inl k)) = let full = h.full in let short = k.short in absurd (omega arith)
one_long s b r q (inl h) (inr (inr k)) = let full = h.full in let short = k.short in absurd (omega arith)
one_long s b r q (inr (inl h)) (inl k) = let full = k.full in let short = h.short in absurd (omega arith)
one_long s b r q (inr (inl h)) (inr (inl k)) = h.is ∙ sym k.is
one_long s b r q (inr (inl h)) (inr (inr k)) = let full = h.full in let low = k.within in absurd (omega arith)
one_long s b r q (inr (inr h)) (inl k) = let full = k.full in let short = h.short in absurd (omega arith)
one_long s b r q (inr (inr h)) (inr (inl k)) = let full = k.full in let low = h.within in absurd (omega arith)
one_long s b r q (inr (inr h)) (inr (inr k)) = one_refusal (s.rest ++ b ∷ []) r q h.refused k.refused

-- ---- whole streams
pub cancel : (a x y : List ℕ) → a ++ x ≡ a ++ y → x ≡ y
cancel [] x y e = e
cancel (b ∷ a) x y e = cancel a x y (cc)

pub behind : (a z x y : List ℕ) (b c : ℕ) → a ++ b ∷ x ≡ (a ++ c ∷ z) ++ y → b ≡ c
behind a z x y b c e =
    let rest = cancel a (b ∷ x) (c ∷ (z ++ y)) (e ∙ append_assoc a (c ∷ z) y) in
    cc

first_stop :
    (bytes out out' : List ℕ) (r q : Refusal) (h : IsStopped bytes out r) (k : IsStopped bytes out' q) (z : List ℕ) →
    k.before ≡ h.before ++ z → (out ≡ out') × (r ≡ q)
first_stop bytes out out' r q h k [] e =
    let before : k.before ≡ h.before = e ∙ append-nil h.before in
    let rest = cancel h.before (h.byte ∷ h.after) (k.byte ∷ k.after) (sym h.are ∙ k.are ∙ ap (λ l. l ++ k.byte ∷ k.after) before) in
    let byte : k.byte ≡ h.byte = cc in
    let same = one_after h.before out out' h.state k.state h.goes_on (subst (λ l. IsAfter l out' k.state) before k.goes_on) in
    let state : k.state ≡ h.state = sym same.1 in
    (same.0, one_long h.state h.byte r q h.decides (subst (λ b. Decides h.state b q) byte (subst (λ (s : State). Decides s k.byte q) state k.decides)))
first_stop bytes out out' r q h k (c ∷ z) e =
    let byte : h.byte ≡ c = behind h.before z h.after (k.byte ∷ k.after) h.byte c (sym h.are ∙ k.are ∙ ap (λ l. l ++ k.byte ∷ k.after) e) in
    absurd (stops_there h.before z out out' h.byte h.state k.state r h.goes_on h.decides
    (subst (λ b. IsAfter (h.before ++ b ∷ z) out' k.state) (sym byte) (subst (λ l. IsAfter l out' k.state) e k.goes_on)))

one_stopped : (bytes out out' : List ℕ) (r q : Refusal) → IsStopped bytes out r → IsStopped bytes out' q → (out ≡ out') × (r ≡ q)
one_stopped bytes out out' r q h k =
    go (fronts h.before k.before (h.byte ∷ h.after) (k.byte ∷ k.after) (sym h.are ∙ k.are))
  where
    go : ((z : List ℕ) × (k.before ≡ h.before ++ z)) ⊎ ((z : List ℕ) × (h.before ≡ k.before ++ z)) → (out ≡ out') × (r ≡ q)
    go (inl (z, is)) = first_stop bytes out out' r q h k z is
    go (inr (z, is)) = let both = first_stop bytes out' out q r k h z is in (sym both.0, sym both.1)

-- what has stopped before doesn't go on to the end
stopped_not_after : (bytes out out' : List ℕ) (r : Refusal) (s : State) → IsStopped bytes out r → IsAfter bytes out' s → ⊥
stopped_not_after bytes out out' r s h k =
    stops_there h.before h.after out out' h.byte h.state s r h.goes_on h.decides (subst (λ l. IsAfter l out' s) h.are k)

one_end : (bytes : List ℕ) (r q : Refusal) → EndRefuses bytes r → EndRefuses bytes q → r ≡ q
one_end bytes r q h k =
    let same : k.state ≡ h.state = (one_after bytes [] [] k.state h.state k.goes_on h.goes_on).1 in
    one_refusal h.state.rest r q h.refused (subst (λ (s : State). RefusesHead s.rest q) same k.refused)

pub one_stop : (bytes out out' : List ℕ) (r q : Refusal) → Stops bytes out r → Stops bytes out' q → (out ≡ out') × (r ≡ q)
one_stop bytes out out' r q (inl h) (inl k) = one_stopped bytes out out' r q h k
one_stop bytes out out' r q (inl h) (inr (none, k)) = absurd (stopped_not_after bytes out [] r k.state h k.goes_on)
one_stop bytes out out' r q (inr (none, h)) (inl k) = absurd (stopped_not_after bytes out' [] q h.state k h.goes_on)
one_stop bytes out out' r q (inr (none, h)) (inr (none', k)) = (none ∙ sym none', one_end bytes r q h k)

pub record ServedAfter (bytes : List ℕ) (frames : List (List ℕ)) (rest : List ℕ) : Type 0 where
  pub state : State
  pub first : List ℕ
  pub goes_on : IsAfter bytes first state
  pub row : AreAnswered None frames first state.head
  pub rest_is : state.rest ≡ rest

served_after :
    (bytes out : List ℕ) (frames : List (List ℕ)) (rest : List ℕ) (last : Option HeadValue) → IsCut bytes frames rest →
    AreAnswered None (with_rest frames rest) out last → AreShort (with_rest frames rest) → length bytes ≤ stream_limit →
    ServedAfter bytes frames rest
served_after bytes out [] rest last cut row short within = record {
  state = record { head = None; rest = rest; count = length bytes };
  first = [];
  goes_on = record { frames = []; cut = cut; answered = (refl, refl); short = tt; rest_short = short.0; counted = refl; within = within };
  row = (refl, refl);
  rest_is = refl;
}
served_after bytes out (f ∷ fs) [] last cut row short within = record {
  state = record { head = last; rest = []; count = length bytes };
  first = out;
  goes_on = record { frames = f ∷ fs; cut = cut; answered = row; short = short; rest_short = omega arith; counted = refl; within = within };
  row = row;
  rest_is = refl;
}
served_after bytes out (f ∷ fs) (b ∷ rest) last cut row short within =
    let parts = row_split None (f ∷ fs) ((b ∷ rest) ∷ []) out last row in
    let shorts = short_split (f ∷ fs) ((b ∷ rest) ∷ []) short in
    record {
      state = record { head = parts.2; rest = b ∷ rest; count = length bytes };
      first = parts.0;
      goes_on = record { frames = f ∷ fs; cut = cut; answered = parts.4; short = shorts.0; rest_short = shorts.1.0; counted = refl; within = within };
      row = parts.4;
      rest_is = refl;
    }

pub one_served : (bytes out out' : List ℕ) → IsServed bytes out → IsServed bytes out' → out ≡ out'
one_served bytes out out' h k =
    let same = one_cut bytes h.frames k.frames h.rest k.rest h.cut k.cut in
    let row = subst (λ r. AreAnswered None (with_rest k.frames r) out h.last) same.1 (subst (λ fs. AreAnswered None (with_rest fs h.rest) out h.last) same.0 h.answered) in
    (one_row None (with_rest k.frames k.rest) out out' h.last k.last row k.answered).0

none_refused :
    (bytes out : List ℕ) (r : Refusal) (frames : List (List ℕ)) (rest : List ℕ) (last : Option HeadValue) → AreAnswered None (with_rest frames rest) out last →
    (s : ServedAfter bytes frames rest) → s.state.head ≡ None → RefusesHead rest r → ⊥
none_refused bytes out r [] rest last (a, m, n, is, first, more) s none refused = refused_answer None n rest a r refl refused first
none_refused bytes out r (f ∷ fs) rest last row s none refused =
    let there = row_head None f fs s.first s.state.head s.row in
    let head = there.1 in
    cc

pub not_both : (bytes out out' : List ℕ) (r : Refusal) → IsServed bytes out → Stops bytes out' r → ⊥
not_both bytes out out' r h (inl k) =
    let s = served_after bytes out h.frames h.rest h.last h.cut h.answered h.short h.within in
    stopped_not_after bytes out' s.first r s.state k s.goes_on
not_both bytes out out' r h (inr (none, k)) =
    let s = served_after bytes out h.frames h.rest h.last h.cut h.answered h.short h.within in
    let same : k.state ≡ s.state = (one_after bytes [] s.first k.state s.state k.goes_on s.goes_on).1 in
    none_refused bytes out r h.frames h.rest h.last h.answered s
    (ap (λ (x : State). x.head) (sym same) ∙ k.first)
    (subst (λ l. RefusesHead l r) (ap (λ (x : State). x.rest) same ∙ s.rest_is) k.refused)

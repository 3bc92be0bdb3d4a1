-- What is given, put together.
use Rattle.std.proofs.Common.{◌≡◌, List, [], ◌∷◌, ◌++◌, map, Option, refl, sym, ap, subst, ◌∙◌, append_assoc, append-nil}
use Rattle.std.proofs.lemmas.List.{map-append}
use Rattle.std.specs.Prelude.{Contains}
use Rattle.std.proofs.Common.{⊎_elim, arith}
use Rattle.std.proofs.lemmas.List.Elements.{Contains-append_left, Contains-append_right, Contains-append_cases, Contains-push_cases}
use Rattle.homeo_history.specs.Answers as h
use Rattle.homeo_nodes.specs.Nodes as n
use Rattle.homeo_desk.specs.declared.output.Output.{Output}
use Rattle.homeo_desk.specs.declared.output.Request.{Request}
use Rattle.homeo_desk.specs.DeskView.{Reply, last_answers}
use Rattle.homeo_desk.specs.Outputs.{packets_in, packets_of, AreIn, Given, answers_in, answers_of, replies_of, request_of, AreTold, none, told, Gives}
use Rattle.homeo_desk.specs.declared.places.Places.{Places}
use Rattle.homeo_desk.specs.inner.Keeping.{ArePut, Tells}
use Rattle.homeo_desk.proofs.Placing.{put_then}

-- ---- packets
pub in_itself : (ps : List n.Packet) → AreIn ps ps
in_itself ps p h = h

pub in_nothing : (ps : List n.Packet) → AreIn [] ps
in_nothing ps p h = let lt = h.1 in absurd (omega arith)

pub in_one : (p : n.Packet) (all : List n.Packet) → Contains all p → AreIn (p ∷ []) all
in_one p all at q h = ⊎_elim (λ a. absurd (let lt = a.1 in omega arith)) (λ e. subst (Contains all) e at) (Contains-push_cases [] p q h)

pub in_left : (ps qs all : List n.Packet) → AreIn ps all → AreIn ps (all ++ qs)
in_left ps qs all i p h = Contains-append_left all qs p (i p h)

pub in_right : (ps qs all : List n.Packet) → AreIn ps all → AreIn ps (qs ++ all)
in_right ps qs all i p h = Contains-append_right qs all p (i p h)

pub in_both : (ps qs rs ts : List n.Packet) → AreIn ps rs → AreIn qs ts → AreIn (ps ++ qs) (rs ++ ts)
in_both ps qs rs ts i j p h =
    ⊎_elim (λ a. Contains-append_left rs ts p (i p a)) (λ b. Contains-append_right rs ts p (j p b)) (Contains-append_cases ps qs p h)

pub packets_more : (xs ys : List Output) → packets_of (xs ++ ys) ≡ packets_of xs ++ packets_of ys
packets_more [] ys = refl
packets_more (x ∷ xs) ys = ap (λ ps. packets_in x ++ ps) (packets_more xs ys) ∙ sym (append_assoc (packets_in x) (packets_of xs) (packets_of ys))

-- ---- answers
pub answers_more : (xs ys : List Output) → answers_of (xs ++ ys) ≡ answers_of xs ++ answers_of ys
answers_more [] ys = refl
answers_more (x ∷ xs) ys = ap (λ gs. answers_in x ++ gs) (answers_more xs ys) ∙ sym (append_assoc (answers_in x) (answers_of xs) (answers_of ys))

pub told_both : (gs ks : List Given) (ts bs : List h.Answer) → AreTold gs ts → AreTold ks bs → AreTold (gs ++ ks) (ts ++ bs)
told_both gs ks ts bs none t = t
told_both gs ks ts bs (told g b more rest says m) t = told g b (more ++ ks) (rest ++ bs) says (told_both more ks rest bs m t)

pub last_more : (rs qs : List Reply) (last : List (Option Reply)) → last_answers (rs ++ qs) last ≡ last_answers qs (last_answers rs last)
last_more [] qs last = refl
last_more (r ∷ rs) qs last = last_more rs qs _

-- ---- outputs
pub gives_nothing : (ps : List n.Packet) (before : List Output) → Gives ps [] before before
gives_nothing ps before = record { more = []; after_is = sym (append-nil before); packets_are = in_nothing ps; answers_are = refl }

pub gives_then : (ps qs : List n.Packet) (gs ks : List Given) (x y z : List Output) → Gives ps gs x y → Gives qs ks y z → Gives (ps ++ qs) (gs ++ ks) x z
gives_then ps qs gs ks x y z g k = record {
  more = g.more ++ k.more;
  after_is = k.after_is ∙ ap (λ before. before ++ k.more) g.after_is ∙ append_assoc x g.more k.more;
  packets_are = subst (λ l. AreIn l (ps ++ qs)) (sym (packets_more g.more k.more)) (in_both (packets_of g.more) (packets_of k.more) ps qs g.packets_are k.packets_are);
  answers_are = answers_more g.more k.more ∙ ap (λ l. l ++ answers_of k.more) g.answers_are ∙ ap (λ l. gs ++ l) k.answers_are;
}

pub gives_wider : (ps qs : List n.Packet) (gs : List Given) (x y : List Output) → AreIn ps qs → Gives ps gs x y → Gives qs gs x y
gives_wider ps qs gs x y i g = record {
  more = g.more;
  after_is = g.after_is;
  packets_are = λ p h. i p (g.packets_are p h);
  answers_are = g.answers_are;
}

-- one output
pub gives_put : (ps : List n.Packet) (gs : List Given) (before after : List Output) (x : Output) → after ≡ before ++ x ∷ [] →
    AreIn (packets_in x) ps → answers_in x ≡ gs → Gives ps gs before after
gives_put ps gs before after x e i t = record {
  more = x ∷ [];
  after_is = e;
  packets_are = subst (λ l. AreIn l ps) (sym (append-nil (packets_in x))) i;
  answers_are = append-nil (answers_in x) ∙ t;
}

-- ---- requests that are answered
pub tells_nothing : (places : Places) (queue : List Request) (last : List (Option Reply)) (before : List Output) → Tells [] places places queue queue last last before before
tells_nothing places queue last before =
    record { given = []; gives = gives_nothing [] before; told = none; queue = refl; answered = refl; placed = refl }

pub tells_then : (ts bs : List h.Answer) (a b c : Places) (q r s : List Request) (last mid end : List (Option Reply)) (x y z : List Output) →
    Tells ts a b q r last mid x y → Tells bs b c r s mid end y z → Tells (ts ++ bs) a c q s last end x z
tells_then ts bs a b c q r s last mid end x y z t u = record {
  given = t.given ++ u.given;
  gives = gives_then [] [] t.given u.given x y z t.gives u.gives;
  told = told_both t.given u.given ts bs t.told u.told;
  queue = t.queue ∙ ap (λ l. map request_of t.given ++ l) u.queue ∙ sym (append_assoc (map request_of t.given) (map request_of u.given) s)
      ∙ ap (λ l. l ++ s) (sym (map-append request_of t.given u.given));
  answered = u.answered ∙ ap (last_answers (replies_of u.given)) t.answered ∙ sym (last_more (replies_of t.given) (replies_of u.given) last)
      ∙ ap (λ l. last_answers l last) (sym (map-append (λ (g : Given). g.reply) t.given u.given));
  placed = subst (λ l. ArePut a l c) (sym (map-append (λ (g : Given). g.reply) t.given u.given)) (put_then a b c (replies_of t.given) (replies_of u.given) t.placed u.placed);
}

-- they are the first of a queue
pub tells_before : (ts : List h.Answer) (a b : Places) (q r : List Request) (last after : List (Option Reply)) (x y : List Output) →
    Tells ts a b q [] last after x y → Tells ts a b (q ++ r) r last after x y
tells_before ts a b q r last after x y t = record {
  given = t.given;
  gives = t.gives;
  told = t.told;
  queue = ap (λ l. l ++ r) t.queue ∙ append_assoc (map request_of t.given) [] r;
  answered = t.answered;
  placed = t.placed;
}

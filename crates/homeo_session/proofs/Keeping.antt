-- What a session keeps of its head.
use Rattle.std.proofs.Common.{◌≡◌, ◌∙◌, ◌<◌, ℕ, ℤ, List, [], ◌∷◌, ◌++◌, length, map, Option, None, Some, Result, Ok, Err, IfOk, refl, sym, ap, ap₂, subst, inl, inr}
use Rattle.homeo_syntax.specs.declared.workload.Refusal.{Refusal}
use Rattle.homeo_syntax.specs.Reads.{Reads}
use Rattle.homeo_syntax.specs.Source as s
use Rattle.homeo_syntax.specs.Tokens.{scanned_from}
use Rattle.homeo_meaning.specs.Bounds.{IsWithin}
use Rattle.homeo_meaning.specs.Initial.{initial}
use Rattle.homeo_meaning.specs.Key.{definitions as meaning_definitions}
use Rattle.homeo_meaning.specs.Schema.{Schema, schema_of, declared_object, declared_relation}
use Rattle.homeo_meaning.specs.Verdict.{Accepts, IsRefused, text_limit}
use Rattle.homeo_meaning.specs.declared.call.Purpose.{Purpose}
use Rattle.homeo_meaning.specs.declared.call.Purpose.TheVariants.{Run, Steps}
use Rattle.homeo_reader.specs.Lines.{whole_lines}
use Rattle.homeo_reader.specs.Stands.{EndsLexeme, SameDeclarations}
use Rattle.homeo_reader.proofs.Texts.{texts_stand}
use Rattle.homeo_accept.specs.RefusalLine.{refusal_line}
use Rattle.homeo_session.specs.Key.{definitions}
use Rattle.homeo_session.specs.Batches.{HeadValue, RefusesHead, TakesHead, AnswersBatch, IsAnswered}
use Rattle.homeo_session.specs.inner.Heads.{IsHead, IsServedFrom}
use Rattle.homeo_frames.specs.LastLines.{EndsInEnd, without_last_line}
use Rattle.homeo_frames.proofs.EndLines.{lines_before}
use Rattle.homeo_session.proofs.FirstTokens.{HasToken, token_there}

-- ---- the head
-- a frame that ends in `end` without its last line
pub before_end : (frame : List ℕ) (e : EndsInEnd frame) → without_last_line frame ≡ whole_lines e.before
before_end frame e = ap without_last_line e.are ∙ lines_before e.before e.last e.line

pub head_begins :
    (frame text : List ℕ) (d : List ℤ) (w : s.Workload) (e : EndsInEnd frame) → Accepts frame Run w → text ≡ without_last_line frame → IsWithin (schema_of w) d → IsHead text d
head_begins frame text d w e a is within = record {
  lines = e.before;
  line = e.last;
  workload = w;
  are = is ∙ before_end frame e;
  reads = subst (λ l. Reads l w) e.are a.reads;
  ends = e.ends;
  within = within;
}

pub head_taken : (frame text : List ℕ) (d : List ℤ) (w : s.Workload) → Accepts frame Run w → text ≡ without_last_line frame → d ≡ initial w → TakesHead frame (record { text = text; database = d })
head_taken frame text d w a is starts = record {
  workload = w;
  accepted = a;
  is = ap₂ (λ t e. let x : HeadValue = record { text = t; database = e } in x) is starts;
}

-- ---- batches
-- the batch of a head whose text is accepted
pub batch_there : (text frame : List ℕ) (d : List ℤ) (w : s.Workload) (h : IsHead text d) → Accepts (text ++ frame) Steps w → HasToken (length text) frame
batch_there text frame d w h a =
    subst (λ l. HasToken (length l) frame) (sym h.are)
    (token_there h.lines h.line frame h.workload w h.reads h.ends (subst (λ l. Reads (l ++ frame) w) h.are a.reads))

same_schema : (v w : s.Workload) → SameDeclarations v w → schema_of v ≡ schema_of w
unfolding meaning_definitions
same_schema v w same =
    ap₂ (λ os rs. let x : Schema = record { objects = map declared_object os; relations = map declared_relation rs } in x) same.objects same.relations

-- the schema of a batch is that of its head
one_schema :
    (text frame : List ℕ) (d : List ℤ) (w : s.Workload) (h : IsHead text d) → Accepts (text ++ frame) Steps w → (t : HasToken (length text) frame) → EndsLexeme t.first.lexeme →
    schema_of h.workload ≡ schema_of w
one_schema text frame d w h a t word =
    same_schema h.workload w
    (texts_stand h.lines h.line frame h.workload w t.first t.others h.reads h.ends
    (subst (λ l. scanned_from 0 (length l) frame ≡ Ok (t.first ∷ t.others)) h.are t.begins) word
    (subst (λ l. Reads (l ++ frame) w) h.are a.reads))

pub base_within :
    (text frame : List ℕ) (d : List ℤ) (w : s.Workload) (h : IsHead text d) → Accepts (text ++ frame) Steps w → (t : HasToken (length text) frame) → EndsLexeme t.first.lexeme →
    IsWithin (schema_of w) d
base_within text frame d w h a t word = subst (λ x. IsWithin x d) (one_schema text frame d w h a t word) h.within

pub head_stays :
    (text frame : List ℕ) (d last : List ℤ) (w : s.Workload) (h : IsHead text d) → Accepts (text ++ frame) Steps w → (t : HasToken (length text) frame) → EndsLexeme t.first.lexeme →
    IsWithin (schema_of w) last → IsHead text last
head_stays text frame d last w h a t word inside = record {
  lines = h.lines;
  line = h.line;
  workload = h.workload;
  are = h.are;
  reads = h.reads;
  ends = h.ends;
  within = subst (λ x. IsWithin x last) (sym (one_schema text frame d w h a t word)) inside;
}

-- ---- answers
pub refused_by : (head next : HeadValue) (frame : List ℕ) (r : Refusal) → IsRefused (head.text ++ frame) Steps r → next ≡ head → AnswersBatch head frame (refusal_line r) next
unfolding definitions
refused_by head next frame r h stays = inl (record { refusal = r; refused = inl h; answer_is = refl; stays = stays })

pub begins_wrong :
    (head next : HeadValue) (frame : List ℕ) (w : s.Workload) (r : Refusal) → Accepts (head.text ++ frame) Steps w → (t : HasToken (length head.text) frame) →
    (EndsLexeme t.first.lexeme → ⊥) × (r ≡ record { code = 15; offset = t.first.offset }) → next ≡ head → AnswersBatch head frame (refusal_line r) next
unfolding definitions
begins_wrong head next frame w r a t wrong stays = inl (record {
  refusal = r;
  refused = inr (record {
    workload = w;
    first = t.first;
    batch = record { accepted = a; others = t.others; begins = t.begins };
    other = wrong.0;
    is = wrong.1;
  });
  answer_is = refl;
  stays = stays;
})

pub is_served :
    (text frame : List ℕ) (d : List ℤ) (w : s.Workload) (answer : List ℕ) (last : List ℤ) → Accepts (text ++ frame) Steps w → (t : HasToken (length text) frame) → EndsLexeme t.first.lexeme →
    IsServedFrom w d answer last → AnswersBatch (record { text = text; database = d }) frame answer (record { text = text; database = last })
unfolding definitions
is_served text frame d w answer last a t word served = inr (record {
  workload = w;
  first = t.first;
  batch = record { accepted = a; others = t.others; begins = t.begins };
  right = word;
  history = served.history;
  legal = served.legal;
  follows = served.follows;
  answer_is = served.answer_is;
  after = ap (λ l. let x : HeadValue = record { text = text; database = l } in x) served.after;
})

-- ---- texts
pub too_long : (text : List ℕ) (purpose : Purpose) (told r : Refusal) → text_limit < length text → told ≡ record { code = 2; offset = text_limit } → told ≡ r → IsRefused text purpose r
unfolding meaning_definitions
too_long text purpose told r long is same = inl (record { long = long; code = ap (λ (x : Refusal). x.code) (sym same ∙ is); offset = ap (λ (x : Refusal). x.offset) (sym same ∙ is) })

pub head_refused : (frame : List ℕ) (told r : Refusal) → IsRefused frame Run told → told ≡ r → RefusesHead frame r
unfolding definitions
head_refused frame told r refused same = subst (IsRefused frame Run) same refused

-- a head that is taken has no answer
pub taken_answer : (head : Option HeadValue) (taken : HeadValue) (frame : List ℕ) → head ≡ None → TakesHead frame taken → IsAnswered head frame [] (Some taken)
taken_answer head taken frame none takes = subst (λ (h : Option HeadValue). IsAnswered h frame [] (Some taken)) (sym none) (refl, taken, takes, refl)

-- ---- results
pub ok_more : {A E : Type 0} (P Q : A → Type 0) (x : Result A E) → ((a : A) → P a → Q a) → IfOk x P → IfOk x Q
ok_more P Q (Ok a) f h = f a h
ok_more P Q (Err e) f h = h

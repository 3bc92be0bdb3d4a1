-- A loop that reads one more item as long as one comes reads what the repetition reads.
use Rattle.std.proofs.Common.{◌≡◌, ℕ, ◌<◌, true, List, [], ◌∷◌, ◌++◌, length, map, refl, sym, ap, ◌∙◌}
use Rattle.std.specs.Prelude.{Option, Some, None, option_map, Result, Ok, Err, IsErrAnd}
use Rattle.std.proofs.lemmas.List.{map-append}
use Rattle.std.proofs.lemmas.Result.{err_from_is_err_and}
use Rattle.homeo_syntax.specs.declared.token.Token.{Token}
use Rattle.homeo_syntax.specs.Grammar.{many}
use Rattle.homeo_syntax.specs.Listed.{Listed}
use Rattle.homeo_syntax.specs.Rules.{Rule, rule}
use Rattle.homeo_reader.specs.declared.parser.Fault.{Fault}
use Rattle.homeo_reader.specs.inner.Engine.{Reading, calls_at, read, decides}
use Rattle.homeo_reader.specs.inner.FirstTokens.{classes}
use Rattle.homeo_reader.specs.inner.Reading.{Gives, same, opt_read, with_front}
use Rattle.homeo_reader.proofs.Lists.{step_some, step_smaller, step_none, step_err, gives_err}

-- How items are seen: one of them, one that may be there, and all.
pub record View (X Y : Type 0) : Type 0 where
  pub one : X → Y
  pub maybe : Option X → Option Y
  pub all : List X → List Y
  pub is_some : (x : X) → maybe (Some x) ≡ Some (one x)
  pub is_none : maybe None ≡ None
  pub added : (xs : List X) (x : X) → all (xs ++ x ∷ []) ≡ all xs ++ one x ∷ []

-- each item by this view
abbrev pub each : {X Y : Type 0} → (X → Y) → View X Y
each view = record {
  one = view;
  maybe = option_map view;
  all = map view;
  is_some = λ x. refl;
  is_none = refl;
  added = λ xs x. map-append view xs (x ∷ []);
}

-- each item as it is
abbrev pub plain : {X : Type 0} → View X X
plain = record { one = same; maybe = same; all = same; is_some = λ x. refl; is_none = refl; added = λ xs x. refl }

-- the items of a list after a push
pub pushed : {X : Type 0} → (new : Listed X) (items : List X) (item : X) (n : ℕ) → new ≡ record { items = items ++ item ∷ []; spare = n } →
    new.items ≡ items ++ item ∷ []
pushed new items item n h = ap (λ (l : Listed _). l.items) h

module _ (n : ℕ) {X Y : Type 0} (v : View X Y) (g : Rule Y) (d : decides classes (many g) ≡ true) where
  abbrev one_read : List Token → Reading (Option Y)
  one_read ts = opt_read (calls_at rule n) g ts

  abbrev all_read : List Token → Reading (List Y)
  all_read ts = read (calls_at rule n) (many g) ts

  is_read : (o : Option X) (item : X) (was is : List Token) → one_read was ≡ Ok (v.maybe o, is) → o ≡ Some item → one_read was ≡ Ok (Some (v.one item), is)
  is_read o item was is h e = h ∙ ap (λ (o : Option X). Ok (v.maybe o, is)) e ∙ ap (λ (y : Option Y). Ok (y, is)) (v.is_some item)

  -- an item was read, and stands behind the others
  pub goes_on : (old new : List X) (o : Option X) (item : X) (was is : List Token) (whole : Reading (List Y)) → one_read was ≡ Ok (v.maybe o, is) →
      o ≡ Some item → new ≡ old ++ item ∷ [] → with_front (v.all old) (all_read was) ≡ whole → with_front (v.all new) (all_read is) ≡ whole
  goes_on old new o item was is whole h e p so_far =
      ap (λ (l : List Y). with_front l (all_read is)) (ap v.all p ∙ v.added old item)
      ∙ sym (step_some n g d (v.all old) was is (v.one item) (is_read o item was is h e))
      ∙ so_far

  -- then fewer tokens are left
  pub fewer : (o : Option X) (item : X) (was is : List Token) → one_read was ≡ Ok (v.maybe o, is) → o ≡ Some item → length is < length was
  fewer o item was is h e = step_smaller n g d was is (v.one item) (is_read o item was is h e)

  -- no item comes, and the loop ends
  pub ends : (items : List X) (o : Option X) (was is : List Token) (whole : Reading (List Y)) → one_read was ≡ Ok (v.maybe o, is) → o ≡ None →
      with_front (v.all items) (all_read was) ≡ whole → whole ≡ Ok (v.all items, is)
  ends items o was is whole h e so_far =
      sym so_far ∙ step_none n g d (v.all items) was is (h ∙ ap (λ (o : Option X). Ok (v.maybe o, is)) e ∙ ap (λ (y : Option Y). Ok (y, is)) v.is_none)

  -- an item is at fault, or there was not enough memory
  pub fails : {L : Type 0} → (view : L → List Y) (items : List X) (r : Result L Fault) (f : Fault) (was is : List Token) (whole : Reading (List Y)) →
      Gives v.maybe (Err f) is (one_read was) → IsErrAnd r (λ e. e ≡ f) → with_front (v.all items) (all_read was) ≡ whole → Gives view r is whole
  fails view items r f was is whole h e so_far =
      let p = err_from_is_err_and r e in
      rw (p.1, p.2) (gives_err v.maybe view f is (one_read was) whole h (λ k. sym so_far ∙ step_err n g d (v.all items) was is k))

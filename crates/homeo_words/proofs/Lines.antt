-- Words put behind a line, one after another.
use Rattle.std.proofs.Common.{◌≡◌, ℕ, ◌+◌, ◌<◌, ◌≤◌, List, length, drop, get_or, refl, sym}
use Rattle.std.specs.Borrow.{Bor}
use Rattle.std.proofs.lemmas.List.{at_drop_more, at_drop_all}
use Rattle.clap.specs.Words.{App, Text}
use Rattle.homeo_words.specs.inner.App.{plain, with_word, with_words, with_plain}
use Rattle.homeo_words.specs.inner.Key.{definitions}
use Rattle.homeo_words.specs.inner.Said.{texts}

pub one_more :
    (words : List (Bor Text)) (i : ℕ) (none : Bor Text) (app : App) → i < length words →
    with_words (with_word app (get_or words i none).now) (texts (drop (i + 1) words)) ≡ with_words app (texts (drop i words))
unfolding definitions
one_more words i none app h = sym (at_drop_more (λ ws. with_words app (texts ws)) words i none h)

pub none_left :
    (words : List (Bor Text)) (i : ℕ) (app : App) → length words ≤ i → with_words app (texts (drop i words)) ≡ app
unfolding definitions
none_left words i app h = at_drop_all (λ ws. with_words app (texts ws)) words i h

pub plain_words : (app : App) → with_words app plain ≡ with_plain app
unfolding definitions
plain_words app = refl

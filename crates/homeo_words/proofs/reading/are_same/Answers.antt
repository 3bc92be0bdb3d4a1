use Rattle.std.proofs.Common.{◌≡◌, ◌∙◌, sym}
use Rattle.std.specs.Str.{bytes_eq}
use Rattle.std.specs.Cmp.Derive.Mapped.{pointwise-map}
use Rattle.std.specs.Cmp.Lexicographic.{pointwise}
use Rattle.std.proofs.lemmas.Slice.Eq.{slice_eq-Decides, bytes_eq-Decides}
use Rattle.homeo_words.specs.inner.Said.{texts}
use Rattle.homeo_words.proofs.Found.{text_of}
use Rattle.homeo_words.proofs.reading.are_same.Goals as goal

pub returns : goal.returns
returns c =
    let words = c.args.words.now in
    let others = c.args.others.now in
    let same : c.eq.result ≡ pointwise bytes_eq (texts words) (texts others) = c.eq.ensures ∙ sym (pointwise-map text_of bytes_eq words others) in
    slice_eq-Decides bytes_eq-Decides (texts words) (texts others) c.eq.result same

use Rattle.homeo_certificate.proofs.Soundness.{valid_text_is_sound}
use Rattle.homeo_certificate.proofs.laws.valid_texts_are_sound.Goals as goal

pub returns : goal.returns
returns c = valid_text_is_sound

-- One token decides at each place of the grammar.
use Rattle.std.proofs.Common.{◌≡◌, true, refl}
use Rattle.homeo_reader.specs.inner.Engine.{decides_call}
use Rattle.homeo_syntax.specs.declared.token.Version.TheVariants.{First, Second}
use Rattle.homeo_syntax.specs.Rules.{Deep, Factor, Test, Command, rule}
use Rattle.homeo_reader.specs.inner.FirstTokens.{classes}

pub decided : (c : Deep) → decides_call classes c (rule c) ≡ true
decided Factor = refl
decided Test = refl
decided (Command First) = refl
decided (Command Second) = refl

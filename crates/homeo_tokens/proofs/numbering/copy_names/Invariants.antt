use Rattle.std.proofs.Common.{◌≡◌, take}
use Rattle.homeo_tokens.proofs.Names.{seen_all}
use Rattle.homeo_tokens.proofs.numbering.copy_names.Given as goal

abbrev pub invariant-loop-name : goal.invariant-loop-name
invariant-loop-name l = l.texts.items ≡ seen_all (take l.name-index l.name-items)

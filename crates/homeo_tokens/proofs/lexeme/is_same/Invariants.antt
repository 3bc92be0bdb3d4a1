-- The texts are one where what is left of them is.
use Rattle.std.proofs.Common.{◌≡◌, length, drop}
use Rattle.std.specs.Str.{bytes_eq}
use Rattle.homeo_tokens.proofs.lexeme.is_same.Given as goal

abbrev pub invariant-loop-place : goal.invariant-loop-place
invariant-loop-place l = record {
  long : length l.left ≡ length l.right;
  same : bytes_eq (drop l.place l.left) (drop l.place l.right) ≡ bytes_eq l.left l.right;
}

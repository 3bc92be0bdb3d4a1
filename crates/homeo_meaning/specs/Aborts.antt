-- Which commands can end a call.
use Rattle.std.specs.Prelude.{Bool, true, false, ◌||◌}
use Rattle.homeo_syntax.specs.Source.{Command, Commands, If, Block, Foreach, Abort, NoCommand, MoreCommand}
use Rattle.homeo_meaning.specs.Key.{definitions}

abbrev mutual
  unfolding definitions

  -- whether a command is an abort, or has one in it
  pub holds_abort : Command → Bool
  holds_abort Abort = true
  holds_abort (If b c d) = holds_abort c || holds_abort d
  holds_abort (Block cs) = hold_abort cs
  holds_abort (Foreach r q b body) = hold_abort body
  holds_abort c = false

  pub hold_abort : Commands → Bool
  hold_abort NoCommand = false
  hold_abort (MoreCommand c cs) = holds_abort c || hold_abort cs

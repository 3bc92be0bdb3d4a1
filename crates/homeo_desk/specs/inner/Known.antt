-- What is known of a request, as it lies in memory.
use Rattle.std.specs.Prelude.{◌≡◌}
use Rattle.homeo_desk.specs.declared.callers.Known.{Known}
use Rattle.homeo_desk.specs.declared.callers.Known.TheVariants as k
use Rattle.homeo_desk.specs.DeskView.{plain_reply}
use Rattle.homeo_desk.specs.Requests.{Standing, Answered, Waits, Late, Full, New}

abbrev pub IsKnown : Known → Standing → Type 0
IsKnown (k.Answered answer) x = x ≡ Answered (plain_reply answer.now)
IsKnown k.Waits x = x ≡ Waits
IsKnown k.Late x = x ≡ Late
IsKnown k.Full x = x ≡ Full
IsKnown k.New x = x ≡ New

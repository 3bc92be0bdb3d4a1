-- What a value of the types of histories and answers stands for, wherever its parts lie in memory.
use Rattle.std.specs.Prelude.{List, map, option_map}
use Rattle.homeo_history.specs.Key.{definitions}
use Rattle.homeo_history.specs.Answers as answers
use Rattle.homeo_history.specs.History as h
use Rattle.homeo_history.specs.declared.answer.Answer.{Answer}
use Rattle.homeo_history.specs.declared.history.Entry.{Entry}
use Rattle.homeo_history.specs.declared.history.Segment.{Segment}
use Rattle.homeo_history.specs.declared.history.Closing.{Closing}
use Rattle.homeo_history.specs.declared.history.Round.{Round}
use Rattle.homeo_history.specs.declared.history.History.{History}

abbrev pub plain_entry : Entry → h.Entry
unfolding definitions
plain_entry e = record { call = e.call; prints = e.prints.items }

abbrev pub plain_segment : Segment → List h.Entry
unfolding definitions
plain_segment s = map plain_entry s.entries.items

abbrev pub plain_closing : Closing → h.Closing
unfolding definitions
plain_closing c = record { site = c.site; entry = plain_entry c.entry; broken = c.broken }

abbrev pub plain_round : Round → h.Round
unfolding definitions
plain_round r = record {
  base = r.base.items;
  segments = map plain_segment r.segments.items;
  closing = option_map plain_closing r.closing;
}

abbrev pub plain_history : History → h.History
unfolding definitions
plain_history h = record { rounds = map plain_round h.rounds.items; last = h.last.items }

abbrev pub plain_answer : Answer → answers.Answer
unfolding definitions
plain_answer a = record {
  client = a.client;
  seq = a.seq;
  site = a.site;
  round = a.round;
  path = a.path;
  prints = a.prints.items;
}

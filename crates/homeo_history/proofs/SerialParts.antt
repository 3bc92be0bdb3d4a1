-- A legal history is a serial one in order.
use Rattle.homeo_history.specs.Laws.{LegalIsSerial, Serially}

pub serially : Serially
serially w start counts h = record {
  serial = λ l. record { framed = l.framed; at_sites = l.at_sites; serial = l.serial; replayed = l.replayed };
  ordered = λ l. l.in_order;
  legal = λ k order. record { framed = k.framed; at_sites = k.at_sites; in_order = order; serial = k.serial; replayed = k.replayed };
}

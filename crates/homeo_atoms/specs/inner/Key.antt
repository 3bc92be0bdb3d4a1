-- What a proof names to look into the definitions that are recursive here.
unfoldable pub definitions : Unit {0}
definitions = tt

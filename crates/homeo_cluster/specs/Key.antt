-- What a proof names to look into the places of lines.
unfoldable pub places : Unit {0}
places = tt

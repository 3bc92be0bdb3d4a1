-- What stands at a place.
use Rattle.homeo_form.proofs.ItemForms.{temp_made, read_made}
use Rattle.homeo_form.proofs.items.place_read.Goals as goal

pub returns-in-Temp : goal.returns-in-Temp
returns-in-Temp c = temp_made c.args.e.now c.in-Temp.t c.place_of_temp.result c.in-Temp.is c.place_of_temp.ensures

pub returns-in-Read : goal.returns-in-Read
returns-in-Read c = read_made c.args.e.now c.in-Read.x c.place_of.result c.in-Read.is c.place_of.ensures

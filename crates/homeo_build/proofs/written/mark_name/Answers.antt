use Rattle.std.proofs.lemmas.Result.{on_ok_weaker}
use Rattle.homeo_build.proofs.WrittenDeltas.{name_marks, marks_divided}
use Rattle.homeo_build.proofs.written.mark_name.Goals as goal

pub returns-in-Whole : goal.returns-in-Whole
returns-in-Whole c = on_ok_weaker c.put.result (λ put. name_marks c.put.new.items.items c.args.row.now.items c.in-Whole.object c.args.name c.in-Whole.is put) c.put.ensures

pub returns-in-Base : goal.returns-in-Base
returns-in-Base c = marks_divided c.args.row.now.items c.args.name c.in-Base.is

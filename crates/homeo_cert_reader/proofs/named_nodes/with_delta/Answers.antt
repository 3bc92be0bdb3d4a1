use Rattle.serde_json.specs.View.{view}
use Rattle.homeo_cert_reader.proofs.NamedNodes.{no_two}
use Rattle.homeo_cert_reader.proofs.ReadLists.{is_none}
use Rattle.homeo_cert_reader.proofs.named_nodes.with_delta.Goals as goal

pub returns-in_err-delta : goal.returns-in_err-delta
returns-in_err-delta c =
    is_none _ _ _ c.from_residual.ensures
    (no_two c.args.extents.objects c.args.extents.sites c.args.name.now (view c.args.object.now) (view c.args.site.now) c.in_err-delta.ensures)

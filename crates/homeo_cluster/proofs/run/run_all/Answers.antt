use denote.Exit.{no}
use denote.Param.{param}
use denote.Param.Send.{param_sync, arg_sync, shr_sync}
use Rattle.std.proofs.Crossing.{sync}
use Rattle.homeo_cluster.proofs.Crossing.{captures-sync, Cluster-sync}
use Rattle.homeo_cluster.proofs.run.run_all.Goals as goal

pub map_vec-requires-sync-F : goal.map_vec-requires-sync-F
map_vec-requires-sync-F g c κs within =
    let cluster = Cluster-sync (param 0 g.row.N) g.N.Naming g.N.ClusterNaming c.type_bounds.send-N c.type_bounds.sync-N in
    param_sync 4 _ (arg_sync _ no _ (captures-sync _ _ _ _ _ (shr_sync _ _ _ c.type_bounds.sync-R) (shr_sync _ _ _ sync) (shr_sync _ _ _ cluster) (shr_sync _ _ _ c.type_bounds.sync-G)))

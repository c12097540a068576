use Rattle.std.specs.Prelude.{[], unwrap_or}
use Rattle.c_cluster.proofs.gateways.handle.GatewayHandle.take.Given as goal

abbrev pub ghost-into_loose : goal.ghost-into_loose
ghost-into_loose a = unwrap_or a.self.value (record { page = 0; tick = 0; store = record { peers = []; outputs = [] }; changes = []; out = [] })

use denote.Param.Send.{param_send}
use Rattle.merge_store.specs.contracts.store.Store as store
use Rattle.cov_workers.proofs.StoreParts.{store_send}
use Rattle.cov_workers.proofs.stores.serve_store.Goals as goal

pub serve_with-requires-send-C : goal.serve_with-requires-send-C
serve_with-requires-send-C g c κs within = record { owned = store_send.owned; leaving = (param_send 0 store.the_row store_send).leaving }

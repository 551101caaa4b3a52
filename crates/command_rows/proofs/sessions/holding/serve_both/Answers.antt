use denote.Param.Send.{param_send}
use Rattle.cov_workers.proofs.StoreParts.{store_send}
use Rattle.command_rows.proofs.sessions.holding.serve_both.Goals as goal

pub serve_held-requires-send-C : goal.serve_held-requires-send-C
serve_held-requires-send-C g c κs within = record { owned = store_send.owned; leaving = (param_send 0 _ store_send).leaving }

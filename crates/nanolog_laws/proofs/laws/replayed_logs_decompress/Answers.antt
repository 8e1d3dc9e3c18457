use Rattle.nanolog_laws.proofs.Replays.{replayed}
use Rattle.nanolog_laws.proofs.laws.replayed_logs_decompress.Goals as goal

pub returns : goal.returns
returns c = replayed

use Rattle.nanolog_laws.proofs.Replays.{as_direct}
use Rattle.nanolog_laws.proofs.laws.replayed_traces_print_as_direct.Goals as goal

pub returns : goal.returns
returns c = as_direct

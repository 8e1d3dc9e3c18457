use Rattle.nanolog_laws.proofs.Replays.{lawful_text}
use Rattle.nanolog_laws.proofs.laws.lawful_logs_give_the_text.Goals as goal

pub returns : goal.returns
returns c = lawful_text

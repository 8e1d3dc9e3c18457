use Rattle.arg_records.proofs.lemmas.Fitted.{Frame-unique-Fits}
use Rattle.arg_records.proofs.Unique.{Frame-unique}
use Rattle.arg_records.proofs.laws.one_frame_per_call.Goals as goal

pub returns : goal.returns
returns c = record { by_kinds = Frame-unique; by_types = Frame-unique-Fits }

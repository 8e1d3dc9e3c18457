use Rattle.schedule_text.proofs.lemmas.JudgedLaws.{one_holds, not_both, one_break, comes_judged, only_judged}
use Rattle.schedule_text.proofs.laws.texts_are_told_apart.Goals as goal

pub returns : goal.returns
returns c = record { one_holds = one_holds; not_both = not_both; one_break = one_break; comes = comes_judged; comes_once = only_judged }

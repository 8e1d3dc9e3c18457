use Rattle.word_ring.proofs.Events.{begins, parts, joins, settles}
use Rattle.word_ring.proofs.laws.rings_stay_where_no_step_is_made.Goals as goal

pub returns-clause-new : goal.returns-clause-new
returns-clause-new c = begins

pub returns-clause-parted : goal.returns-clause-parted
returns-clause-parted c size seat plan v table before at new = parts size plan seat v new table before at

pub returns-clause-joined : goal.returns-clause-joined
returns-clause-joined c size seat other v u table before at two there writes reads = joins size seat v other u writes reads table before at two there

pub returns-clause-loaded : goal.returns-clause-loaded
returns-clause-loaded c size seat v table before at = settles size seat v table before at

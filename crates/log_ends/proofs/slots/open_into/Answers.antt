use Rattle.std.proofs.Common.{ap, Some}
use Rattle.log_ends.proofs.HeldEnds.{none_in, opens_not, opens_short, opens_both}
use Rattle.log_ends.proofs.slots.open_into.Goals as goal

pub returns-in-Err : goal.returns-in-Err
returns-in-Err c =
    (none_in _ c.if-is_some.ensures, none_in _ c.if-is_some-2.ensures, opens_not _ _ c.in-Err.fault _ _ c.in-Err.ensures.out_of_range c.in-Err.ensures.refused c.in-Err.ensures.only (none_in _ c.if-is_some.ensures) (none_in _ c.if-is_some-2.ensures))

pub returns-in_default : goal.returns-in_default
returns-in_default c = (none_in _ c.if-is_some.ensures, none_in _ c.if-is_some-2.ensures, opens_short _ _ c.in-Ok.ends _ _ c.in-Ok.ensures.out_of_range (none_in _ c.if-is_some.ensures) (none_in _ c.if-is_some-2.ensures))

pub returns-in_default-new : goal.returns-in_default-new
returns-in_default-new c = (none_in _ c.if-is_some.ensures, none_in _ c.if-is_some-2.ensures, opens_short _ _ c.in-Ok.ends _ _ c.in-Ok.ensures.out_of_range (none_in _ c.if-is_some.ensures) (none_in _ c.if-is_some-2.ensures))

pub returns : goal.returns
returns c = (none_in _ c.if-is_some.ensures, none_in _ c.if-is_some-2.ensures, opens_both _ _ c.in-Ok.ends _ _ c.in-Ok.ensures.opened c.in-Ok.ensures.out_of_range c.in-Ok.ensures.only (ap Some c.in-Ok-new.ensures.ok) (ap Some c.in-Ok-new-2.ensures.ok))

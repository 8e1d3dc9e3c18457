use Rattle.log_ends.proofs.Logged.{takes_logged, in_log}
use Rattle.log_ends.proofs.settling.settle.Goals as goal

pub returns-clause-taken : goal.returns-clause-taken
returns-clause-taken c =
    takes_logged c.args.writer c.args.consumer c.args.number c.requires.end c.into_ends.result.items c.into_end.result c.swap_remove-out.result c.requires.there c.into_ends.ensures c.into_end.ensures.end c.swap_remove-out.ensures.value c.of.ensures.front c.of.ensures.whole

pub returns-clause-in_log : goal.returns-clause-in_log
returns-clause-in_log c =
    in_log c.args.writer c.args.consumer c.args.number
    (takes_logged c.args.writer c.args.consumer c.args.number c.requires.end c.into_ends.result.items c.into_end.result c.swap_remove-out.result c.requires.there c.into_ends.ensures c.into_end.ensures.end c.swap_remove-out.ensures.value c.of.ensures.front c.of.ensures.whole)

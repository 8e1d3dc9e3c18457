use Rattle.std.proofs.Common.{refl, rules}
use Rattle.nl_io.proofs.lemmas.DeskLaws.{visited, visited-whole, Opens-reading}
use Rattle.command_base.proofs.lemmas.HeldLaws.{all_held, such_held, opened_there}
use Rattle.command_base.proofs.input.read_file.Goals as goal

pub read_open-read-requires : goal.read_open-read-requires
read_open-read-requires g c = Opens-reading _ _ _ _ c.in_ok-id.ensures.opened

pub returns-in-Ok-clause-all : goal.returns-in-Ok-clause-all
returns-in-Ok-clause-all g c = all_held _ _ _ _ _ c.in_ok-id.ensures.opened c.in-Ok.ensures.all

pub returns-in-Ok-clause-same : goal.returns-in-Ok-clause-same
returns-in-Ok-clause-same g c =
    visited-whole _ _ _ _ _ _ c.in_ok-id.ensures.opened c.read_open-read.ensures.same (c.read_open-read.ensures.counted (search rules)) c.leave.ensures.left

pub returns-in-Err-TooLarge-clause-longer : goal.returns-in-Err-TooLarge-clause-longer
returns-in-Err-TooLarge-clause-longer g c = such_held _ _ _ _ _ c.in_ok-id.ensures.opened (c.read_open-read.ensures.too_large (search rules))

pub returns-in-Err-TooLarge-clause-same : goal.returns-in-Err-TooLarge-clause-same
returns-in-Err-TooLarge-clause-same g c =
    visited-whole _ _ _ _ _ _ c.in_ok-id.ensures.opened c.read_open-read.ensures.same (c.read_open-read.ensures.counted (search rules)) c.leave.ensures.left

pub returns-in-Err-Failed-clause-unread : goal.returns-in-Err-Failed-clause-unread
returns-in-Err-Failed-clause-unread g c = (refl, visited _ _ _ _ _ _ c.in_ok-id.ensures.opened c.read_open-read.ensures.same c.read_open-read.ensures.count c.leave.ensures.left, search rules)

pub returns-in-Err-NoMemory-clause-unread : goal.returns-in-Err-NoMemory-clause-unread
returns-in-Err-NoMemory-clause-unread g c = (
  visited-whole _ _ _ _ _ _ c.in_ok-id.ensures.opened c.read_open-read.ensures.same (c.read_open-read.ensures.counted (search rules)) c.leave.ensures.left,
  opened_there _ _ _ _ c.in_ok-id.ensures.opened,
)

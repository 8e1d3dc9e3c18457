use Rattle.std.proofs.Common.{◌*◌, ◌≤◌, take}
use Rattle.checkpoint_io.specs.Blocks.{SpellsEntries}
use Rattle.log_dictionary.specs.declared.binary_entry.TheConstants.{MAX_ENTRY}
use Rattle.roaming_consumer.proofs.fragments.put_entries.Given as goal

abbrev pub invariant-loop-message : goal.invariant-loop-message
invariant-loop-message l = record {
  within : l.end ≤ MAX_ENTRY * l.message-index;
  spelled : SpellsEntries (take l.message-index l.messages) (take l.end l.into);
}

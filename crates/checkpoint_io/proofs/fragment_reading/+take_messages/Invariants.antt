use Rattle.checkpoint_io.proofs.fragment_reading.+take_messages.Given as goal

abbrev pub decreases-take_messages : goal.decreases-take_messages
decreases-take_messages g l = l.count

use Rattle.std.proofs.Common.{◌≡◌, ◌<◌, lit<, ◌++◌, ◌∷◌, [], List, ap, sym, ◌∙◌, subst}
use Rattle.std.specs.List.{AllByRecursion}
use Rattle.log_dictionary.specs.declared.message.Message.{Message}
use Rattle.trace_generator.specs.Generated.{disk_pieces, disk_message, queue_pieces, queue_message, request_pieces, request_message, state_pieces, state_message}
use Rattle.trace_generator.proofs.GeneratedFormats.{disk, queue, request, state}
use Rattle.trace_generator.proofs.generating.messages.Goals as goal

-- behind these messages
pushed : (before is messages : List Message) (message : Message) → is ≡ before ++ message ∷ [] → before ≡ messages → is ≡ messages ++ message ∷ []
pushed before is messages message added same = added ∙ ap (λ (ms : List Message). ms ++ message ∷ []) same

pub add_message-requires-clause-spelled : goal.add_message-requires-clause-spelled
add_message-requires-clause-spelled c = (disk_pieces, disk)

pub add_message-requires-2-clause-spelled : goal.add_message-requires-2-clause-spelled
add_message-requires-2-clause-spelled c = (queue_pieces, queue)

pub add_message-requires-2-clause-later : goal.add_message-requires-2-clause-later
add_message-requires-2-clause-later c =
    let one = pushed _ _ [] disk_message (c.in_ok-add_message.ensures disk_pieces disk) c.make-messages.ensures in
    subst (AllByRecursion (λ (message : Message). message.line < 20)) (sym one) (lit< tt, tt)

pub add_message-requires-3-clause-spelled : goal.add_message-requires-3-clause-spelled
add_message-requires-3-clause-spelled c = (request_pieces, request)

pub add_message-requires-3-clause-later : goal.add_message-requires-3-clause-later
add_message-requires-3-clause-later c =
    let one = pushed _ _ [] disk_message (c.in_ok-add_message.ensures disk_pieces disk) c.make-messages.ensures in
    let two = pushed _ _ (disk_message ∷ []) queue_message (c.in_ok-add_message-2.ensures queue_pieces queue) one in
    subst (AllByRecursion (λ (message : Message). message.line < 30)) (sym two) (lit< tt, (lit< tt, tt))

pub add_message-requires-4-clause-spelled : goal.add_message-requires-4-clause-spelled
add_message-requires-4-clause-spelled c = (state_pieces, state)

pub add_message-requires-4-clause-later : goal.add_message-requires-4-clause-later
add_message-requires-4-clause-later c =
    let one = pushed _ _ [] disk_message (c.in_ok-add_message.ensures disk_pieces disk) c.make-messages.ensures in
    let two = pushed _ _ (disk_message ∷ []) queue_message (c.in_ok-add_message-2.ensures queue_pieces queue) one in
    let three = pushed _ _ (disk_message ∷ queue_message ∷ []) request_message (c.in_ok-add_message-3.ensures request_pieces request) two in
    subst (AllByRecursion (λ (message : Message). message.line < 40)) (sym three) (lit< tt, (lit< tt, (lit< tt, tt)))

pub returns : goal.returns
returns c =
    let one = pushed _ _ [] disk_message (c.in_ok-add_message.ensures disk_pieces disk) c.make-messages.ensures in
    let two = pushed _ _ (disk_message ∷ []) queue_message (c.in_ok-add_message-2.ensures queue_pieces queue) one in
    let three = pushed _ _ (disk_message ∷ queue_message ∷ []) request_message (c.in_ok-add_message-3.ensures request_pieces request) two in
    pushed _ _ (disk_message ∷ queue_message ∷ request_message ∷ []) state_message (c.in_ok-add_message-4.ensures state_pieces state) three

use Rattle.std.proofs.Common.{◌≡◌, ◌+◌, ◌<◌, length, get_or, sym, ap, ◌∙◌, arith}
use Rattle.std.specs.Prelude.{Some, None}
use Rattle.ring_core.specs.Plans.{plan_of}
use Rattle.ring_core.specs.Stored.{StoredEnd, end_after}
use Rattle.ring_core.specs.StoredInside.{answer_words}
use Rattle.ring_core.proofs.Storing.{next_short, taken_lawful, after_frame, after_pause}
use Rattle.ring_core.proofs.stored_out.StoredOut.answer.Goals as goal

pub copy_words-requires : goal.copy_words-requires
copy_words-requires c =
    let s = c.self.inside in
    let d = c.index-answer.result.now in
    let within : s.next < length s.answers.items = omega (arith, c.len.ensures, c.if-self-len.false) in
    let is : answer_words (get_or s.answers.items s.next d) ≡ Some c.in-Frame.words.items = ap answer_words (sym c.index-answer.ensures ∙ c.in-Frame.is) in
    rw c.as_slice.ensures.value (next_short (plan_of s.dictionary.now s.first) s.answers.items s.next d c.in-Frame.words.items (c.self.invariant.calls, c.self.invariant.lawful) within is)

pub returns-in-Frame-clause-after : goal.returns-in-Frame-clause-after
returns-in-Frame-clause-after c =
    let s = c.self.inside in
    let d = c.index-answer.result.now in
    let within : s.next < length s.answers.items = omega (arith, c.len.ensures, c.if-self-len.false) in
    let is : answer_words (get_or s.answers.items s.next d) ≡ Some c.in-Frame.words.items = ap answer_words (sym c.index-answer.ensures ∙ c.in-Frame.is) in
    after_frame s d c.in-Frame.words.items within is ∙ ap (λ (end : StoredEnd). end_after end.ahead end) c.self.view_is

pub returns-in-Frame-clause-lawful : goal.returns-in-Frame-clause-lawful
returns-in-Frame-clause-lawful c =
    let s = c.self.inside in
    taken_lawful (plan_of s.dictionary.now s.first) s.answers.items (s.next + 1) (c.self.invariant.calls, c.self.invariant.lawful)

pub returns-in-Pause-clause-after : goal.returns-in-Pause-clause-after
returns-in-Pause-clause-after c =
    let s = c.self.inside in
    let d = c.index-answer.result.now in
    let within : s.next < length s.answers.items = omega (arith, c.len.ensures, c.if-self-len.false) in
    let is : answer_words (get_or s.answers.items s.next d) ≡ None = ap answer_words (sym c.index-answer.ensures ∙ c.in-Pause.is) in
    after_pause s d c.saturating_add-self-inside-in-Pause.result within is c.saturating_add-self-inside-in-Pause.ensures
    ∙ ap (λ (end : StoredEnd). end_after end.ahead end) c.self.view_is

pub returns-in-Pause-clause-lawful : goal.returns-in-Pause-clause-lawful
returns-in-Pause-clause-lawful c =
    let s = c.self.inside in
    taken_lawful (plan_of s.dictionary.now s.first) s.answers.items (s.next + 1) (c.self.invariant.calls, c.self.invariant.lawful)

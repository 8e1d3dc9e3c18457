use Rattle.std.proofs.Common.{◌≡◌, ℕ, List, [], ◌∷◌, ◌++◌, length, Some, ap, sym, subst, ◌∙◌}
use Rattle.std.specs.Prelude.{map, slice_get, option_map}
use Rattle.std.proofs.lemmas.Option.{same_Some, slice_get-map}
use Rattle.printf_grammar.specs.declared.argument.Value.{Value}
use Rattle.printf_grammar.specs.Types.{argument_value, Types, Fits}
use Rattle.log_dictionary.specs.declared.clock.Clock.{Clock}
use Rattle.log_dictionary.specs.declared.message.Message.{Message}
use Rattle.log_dictionary.specs.Calls.{LogCall}
use Rattle.log_dictionary.specs.Times.{clock_at}
use Rattle.arg_records.specs.declared.call.Call.{Call}
use Rattle.direct_printf.specs.Lines.{Line, origin_text}
use Rattle.decompressor.specs.Waiting.{HoldsFirst}
use Rattle.trace_text.proofs.lemmas.ClockLines.{line_by_clock}
use Rattle.decompressor.proofs.printing.make_line_in.Given.{Over}
use Rattle.decompressor.proofs.printing.make_line_in.Goals.{After-as_slice}
use Rattle.decompressor.proofs.printing.make_line_in.Goals as goal

module _ (g : Over) (c : After-as_slice g) {call : Call} {others : List Call} (holds : HoldsFirst c.args.reader.now.messages c.args.reader.now.header.clock.tick c.args.queue.now call others) where
  -- what was unpacked is of the first record
  unpacked : (map argument_value c.unpack_first-left.new.args.items ≡ call.args) × (c.unpack_first-left.result ≡ length holds.goes_on.back)
  unpacked = (rw (c.dictionary.ensures) at c.unpack_first-left.ensures) _ call others holds

  head_is : c.head-head.result ≡ record { id = call.id; stamp = call.stamp }
  head_is = c.head-head.ensures ∙ holds.head_is

  args_are : map argument_value c.as_slice.result.now ≡ call.args
  args_are = ap (map argument_value) c.as_slice.ensures.value ∙ unpacked.0

  message_is : (message : Message) → slice_get c.args.reader.now.messages call.id ≡ Some message → c.message.result.now ≡ message
  message_is message known =
      same_Some c.message.result.now message
      (sym c.message.ensures ∙ (λ i. slice_get (c.dictionary-2.ensures i) (head_is i).id) ∙ known)

pub append-requires-clause-fitting : goal.append-requires-clause-fitting
append-requires-clause-fitting g c =
    let at = (goal.at.append-requires-clause-fitting g c).After-as_slice in
    let (call, others, holds, before) = c.requires.first in
    let right = holds.goes_on.right in
    subst (λ (values : List Value). Fits values (Types c.message.result.now.format.pieces)) (sym (args_are g at holds))
    (subst (λ (message : Message). Fits call.args (Types message.format.pieces)) (sym (message_is g at holds right.message right.known)) right.fits)

pub append-requires-clause-origin : goal.append-requires-clause-origin
append-requires-clause-origin g c =
    same_Some c.get.result.now (origin_text c.message.result.now)
    (sym c.get.ensures
    ∙ ap (λ (texts : List (List ℕ)). slice_get texts c.head-head.result.id) c.requires.origins
    ∙ slice_get-map origin_text c.args.reader.now.messages c.head-head.result.id
    ∙ ap (option_map origin_text) (ap (λ (messages : List Message). slice_get messages c.head-head.result.id) (sym c.dictionary-2.ensures) ∙ c.message.ensures))

pub returns-clause-left : goal.returns-clause-left
returns-clause-left g c call others holds = (unpacked g (goal.at.returns-clause-left g c).After-as_slice holds).1

pub returns-clause-line : goal.returns-clause-line
returns-clause-line g c call others holds message ordinal known =
    let at = (goal.at.returns-clause-line g c).After-as_slice in
    let clock = c.clock_at-clock.result in
    let counts : clock_at c.args.reader.now.times.clocks c.head-head.result.stamp ≡ Some clock = ap (λ (clocks : List Clock). clock_at clocks c.head-head.result.stamp) (sym c.clocks.ensures) ∙ c.clock_at-clock.ensures.counts in
    let made : LogCall = record { writer = c.args.writer; ordinal = ordinal; stamp = c.head-head.result.stamp; message = c.message.result.now; args = map argument_value c.as_slice.result.now } in
    c.in_ok-append.ensures.ok ordinal
    ∙ ap (λ (front : List ℕ). front ++ Line (clock ∷ []) made) c.clear.ensures.items
    ∙ line_by_clock c.args.reader.now.times.clocks clock made counts c.clock_at-clock.ensures.not_before
    ∙ (λ i. Line c.args.reader.now.times.clocks (record { writer = c.args.writer; ordinal = ordinal; stamp = (head_is g at holds i).stamp; message = message_is g at holds message known i; args = args_are g at holds i }))

-- A log of calls that were taken stands for the lines of these calls.
use Rattle.std.proofs.Common.{◌≡◌, ℕ, zero, suc, ◌+◌, List, [], ◌∷◌, ◌++◌, length, map, refl, sym, ap, subst, ◌∙◌}
use Rattle.std.specs.Prelude.{slice_get, option_map}
use Rattle.std.specs.List.{AllByRecursion, flat_map, filter_map, enumerate_from, range_with_len, cons_option}
use Rattle.log_dictionary.specs.declared.clock.Clock.{Clock}
use Rattle.log_dictionary.specs.declared.message.Message.{Message}
use Rattle.log_dictionary.specs.Calls.{LogCall}
use Rattle.arg_records.specs.declared.call.Call.{Call}
use Rattle.arg_records.specs.Calls.{IsCall, log_call, writer_calls, calls_by_writer}
use Rattle.checkpoint_io.specs.Blocks.{messages_of, clocks_of, all_records}
use Rattle.checkpoint_io.specs.Validity.{records_of}
use Rattle.checkpoint_io.proofs.lemmas.ValidityLaws.{slice_get-front, records_fit}
use Rattle.checkpoint_io.specs.Logs.{LogOf}
use Rattle.direct_printf.specs.Lines.{in_order, Line, Direct}
use Rattle.decompressor.specs.Decompression.{CallsOf, all_calls, whole_text, Decompressed}
use Rattle.decompressor.proofs.Rising.{all_as}
use Rattle.decompressor.proofs.LinesByClocks.{AreEarly, all_early, further_lines}
use Rattle.decompressor.proofs.lemmas.DecompressionLaws.{whole_is_text}
use Rattle.decompressor.proofs.lemmas.UnwrittenClocks.{IsUnreached, not_reached}

-- messages behind those that the records name change no call
pub same_calls : (messages more : List Message) (writer from : ℕ) (records : List Call) → AllByRecursion (IsCall messages) records → filter_map (log_call messages writer) (enumerate_from from records) ≡ filter_map (log_call (messages ++ more) writer) (enumerate_from from records)
same_calls messages more writer from [] all = refl
same_calls messages more writer from (logged ∷ records) all =
    let is = all.0 in
    let known : slice_get messages logged.id ≡ slice_get (messages ++ more) logged.id = is.known ∙ sym (slice_get-front messages more logged.id is.message is.known) in
    let others = same_calls messages more writer (from + 1) records all.1 in
    λ i. cons_option (option_map (λ message. record { writer = writer; ordinal = from; stamp = logged.stamp; message = message; args = logged.args }) (known i)) (others i)

pub same_flat : {X Y : Type 0} (f g : X → List Y) (xs : List X) → ((x : X) → f x ≡ g x) → flat_map f xs ≡ flat_map g xs
same_flat f g [] same = refl
same_flat f g (x ∷ xs) same = λ i. same x i ++ same_flat f g xs same i

-- lists that a function gives for numbers, each with its number
pub numbered : {X Y : Type 0} (f : ℕ × X → List Y) (g : ℕ → X) (from n : ℕ) → flat_map f (enumerate_from from (map g (range_with_len from n))) ≡ flat_map (λ k. f (k, g k)) (range_with_len from n)
numbered f g from zero = refl
numbered f g from (suc n) = ap (λ l. f (from, g from) ++ l) (numbered f g (from + 1) n)

-- the calls of the log are those that were taken
pub taken_are : (bytes : List ℕ) (taken : List (List Call)) (dictionary : List Message) (version : ℕ) (clocks : List Clock) (batch : ℕ) → (log : LogOf bytes taken dictionary version clocks batch) → all_calls log.header log.blocks ≡ calls_by_writer dictionary taken
taken_are bytes taken dictionary version clocks batch log =
    let own : (writer : ℕ) → CallsOf log.blocks writer ≡ writer_calls dictionary (writer, records_of writer log.blocks) =
    λ writer. same_calls (messages_of log.blocks) log.undefined writer 0 (records_of writer log.blocks) (records_fit log.header log.blocks writer log.valid)
    ∙ ap (λ (m : List Message). writer_calls m (writer, records_of writer log.blocks)) (sym log.messages_are) in
    ap (λ (n : ℕ). flat_map (CallsOf log.blocks) (range_with_len 0 n)) log.writers_are
    ∙ same_flat (CallsOf log.blocks) (λ (writer : ℕ). writer_calls dictionary (writer, records_of writer log.blocks)) (range_with_len 0 (length taken)) own
    ∙ sym (numbered (writer_calls dictionary) (λ (writer : ℕ). records_of writer log.blocks) 0 (length taken))
    ∙ ap (λ (t : List (List Call)). flat_map (writer_calls dictionary) (enumerate_from 0 t)) (sym log.records_are)

-- the clocks that the log doesn't have change no line
unwritten_change_nothing : (bytes : List ℕ) (taken : List (List Call)) (dictionary : List Message) (version : ℕ) (clocks : List Clock) (batch : ℕ) → (log : LogOf bytes taken dictionary version clocks batch) → Direct clocks (all_calls log.header log.blocks) ≡ whole_text log.header log.blocks
unfolding Direct
unwritten_change_nothing bytes taken dictionary version clocks batch log =
    let unreached = not_reached log.header clocks dictionary batch [] log.blocks log.unwritten log.laid_out log.clocks_are in
    let calls : List LogCall = in_order (all_calls log.header log.blocks) in
    let early : AllByRecursion (λ clock. AreEarly clock.tick calls) log.unwritten =
    all_as (IsUnreached (all_records log.blocks)) (λ (clock : Clock). AreEarly clock.tick calls) log.unwritten (λ clock all. all_early log.header log.blocks clock.tick all) unreached in
    ap (λ (l : List Clock). flat_map (Line l) calls) log.clocks_are ∙ further_lines (clocks_of log.header log.blocks) log.unwritten calls early

-- the log stands for the lines of the calls that were taken
pub log_is_text : (bytes : List ℕ) (taken : List (List Call)) (dictionary : List Message) (version : ℕ) (clocks : List Clock) (batch : ℕ) → LogOf bytes taken dictionary version clocks batch → Decompressed bytes (Direct clocks (calls_by_writer dictionary taken))
log_is_text bytes taken dictionary version clocks batch log =
    let calls = taken_are bytes taken dictionary version clocks batch log in
    let text : whole_text log.header log.blocks ≡ Direct clocks (calls_by_writer dictionary taken) =
    sym (unwritten_change_nothing bytes taken dictionary version clocks batch log) ∙ ap (Direct clocks) calls in
    subst (Decompressed bytes) text (whole_is_text log.header log.blocks bytes log.file log.valid)

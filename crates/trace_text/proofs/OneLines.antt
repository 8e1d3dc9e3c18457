-- No line of a trace has a line feed in it.
use Rattle.std.proofs.Common.{◌≢◌, ℕ, suc, List, [], ◌∷◌, ◌++◌, refl, sym, subst, inl, inr, arith, ℤ, pos, negsuc}
use Rattle.std.specs.Prelude.{codes}
use Rattle.std.specs.Char.{IsAsciiHexdigit}
use Rattle.std.specs.Fmt.{decimal, signed_decimal}
use Rattle.std.proofs.lemmas.List.Elements.{recursion_from_All}
use Rattle.printf_grammar.specs.declared.argument.Value.{Value}
use Rattle.printf_grammar.specs.declared.argument.Value.TheVariants as values
use Rattle.log_dictionary.specs.declared.clock.Clock.{Clock}
use Rattle.log_dictionary.specs.declared.message.Message.{Message}
use Rattle.log_dictionary.specs.declared.severity.Severity.{Severity}
use Rattle.log_dictionary.specs.Severities.{severity_name}
use Rattle.log_dictionary.specs.Texts.{IsPlain, SpellsByte, itself, quotation_mark, backslash, line_feed, tab, hexadecimal, SpellsText}
use Rattle.log_dictionary.specs.Messages.{SpellsMessage}
use Rattle.log_dictionary.proofs.lemmas.Lines.{none_by_test, severity_none, natural_none}
use Rattle.trace_text.specs.Dictionaries.{dictionary_line}
use Rattle.trace_text.specs.Lines.{first_line, last_line, clock_line, writers_line, SpellsArgument, SpellsArgumentFields, WriterCall, SpellsCall}
use Rattle.trace_text.specs.Reading.{IsOneLine}
use Rattle.trace_text.proofs.DecimalBytes.{decimal_all}

pub joined : (front back : List ℕ) → IsOneLine front → IsOneLine back → IsOneLine (front ++ back)
joined [] back first second = second
joined (byte ∷ front) back first second = (first.0, joined front back first.1 second)

-- ---- numbers

number_is_line : (n : ℕ) → IsOneLine (decimal n)
number_is_line n = decimal_all (λ byte. byte ≢ 10) (λ d small e. omega (arith, e)) n

signed_is_line : (z : ℤ) → IsOneLine (signed_decimal z)
signed_is_line (pos n) = number_is_line n
signed_is_line (negsuc n) = ((λ e. omega (arith, e)), number_is_line (suc n))

field_is_line : (n : ℕ) → IsOneLine (32 ∷ decimal n)
field_is_line n = ((λ e. omega (arith, e)), number_is_line n)

-- ---- texts

plain_is_none : (b : ℕ) → IsPlain b → b ≢ 10
plain_is_none b (inl h) e = omega (arith, h.0, e)
plain_is_none b (inr h) e = omega (arith, h.0, e)

digit_is_none : (b : ℕ) → IsAsciiHexdigit b → b ≢ 10
digit_is_none b (inl (inl h)) e = omega (arith, h.0, e)
digit_is_none b (inl (inr h)) e = omega (arith, h.0, e)
digit_is_none b (inr h) e = omega (arith, h.0, e)

unit_is_line : (unit : List ℕ) (b : ℕ) → SpellsByte unit b → IsOneLine unit
unit_is_line unit b (itself plain is) = subst IsOneLine (sym is) (plain_is_none b plain, tt)
unit_is_line unit b (quotation_mark is _) = subst IsOneLine (sym is) (none_by_test 10 (codes "\\\"") refl)
unit_is_line unit b (backslash is _) = subst IsOneLine (sym is) (none_by_test 10 (codes "\\\\") refl)
unit_is_line unit b (line_feed is _) = subst IsOneLine (sym is) (none_by_test 10 (codes "\\n") refl)
unit_is_line unit b (tab is _) = subst IsOneLine (sym is) (none_by_test 10 (codes "\\t") refl)
unit_is_line unit b (hexadecimal high low first second is _) =
    subst IsOneLine (sym is) (joined (codes "\\x") (high ∷ low ∷ []) (none_by_test 10 (codes "\\x") refl) (digit_is_none high first, (digit_is_none low second, tt)))

text_is_line : (spelled bytes : List ℕ) → SpellsText spelled bytes → IsOneLine spelled
text_is_line spelled [] is = subst IsOneLine (sym is) tt
text_is_line spelled (b ∷ bytes) (unit, rest, is, byte, others) = subst IsOneLine (sym is) (joined unit rest (unit_is_line unit b byte) (text_is_line rest bytes others))

-- ---- lines

pub first_is_line : (version : ℕ) → IsOneLine (first_line version)
first_is_line version = joined (codes "nanolog-trace ") (decimal version) (none_by_test 10 (codes "nanolog-trace ") refl) (number_is_line version)

pub dictionary_is_line : IsOneLine dictionary_line
dictionary_is_line = none_by_test 10 dictionary_line refl

pub last_is_line : IsOneLine last_line
last_is_line = none_by_test 10 last_line refl

pub clock_is_line : (clock : Clock) → IsOneLine (clock_line clock)
clock_is_line clock =
    joined (codes "clock " ++ decimal clock.tick ++ 32 ∷ decimal clock.nanos) (32 ∷ decimal clock.rate)
    (joined (codes "clock " ++ decimal clock.tick) (32 ∷ decimal clock.nanos) (joined (codes "clock ") (decimal clock.tick) (none_by_test 10 (codes "clock ") refl) (number_is_line clock.tick)) (field_is_line clock.nanos))
    (field_is_line clock.rate)

pub writers_is_line : (count : ℕ) → IsOneLine (writers_line count)
writers_is_line count = joined (codes "writers ") (decimal count) (none_by_test 10 (codes "writers ") refl) (number_is_line count)

severity_is_line : (severity : Severity) → IsOneLine (32 ∷ severity_name severity)
severity_is_line severity = ((λ e. omega (arith, e)), recursion_from_All (λ byte. byte ≢ 10) (severity_name severity) (severity_none 10 refl refl refl refl severity))

pub message_is_line : (line : List ℕ) (id : ℕ) (message : Message) → SpellsMessage line id message → IsOneLine line
message_is_line line id message spells =
    let id_line = recursion_from_All (λ byte. byte ≢ 10) spells.digits (natural_none 10 spells.digits id (inl (omega arith)) spells.numeral) in
    let front = codes "message " ++ spells.digits in
    let graded = front ++ 32 ∷ severity_name message.severity in
    let placed = graded ++ 32 ∷ decimal message.line in
    let opened = placed ++ codes " \"" in
    let named = opened ++ spells.name in
    let second = named ++ codes "\" \"" in
    let filled = second ++ spells.format in
    let front_line = joined (codes "message ") spells.digits (none_by_test 10 (codes "message ") refl) id_line in
    let graded_line = joined front (32 ∷ severity_name message.severity) front_line (severity_is_line message.severity) in
    let placed_line = joined graded (32 ∷ decimal message.line) graded_line (field_is_line message.line) in
    let opened_line = joined placed (codes " \"") placed_line (none_by_test 10 (codes " \"") refl) in
    let named_line = joined opened spells.name opened_line (text_is_line spells.name message.file spells.file) in
    let second_line = joined named (codes "\" \"") named_line (none_by_test 10 (codes "\" \"") refl) in
    let filled_line = joined second spells.format second_line (text_is_line spells.format message.format.bytes spells.bytes) in
    subst IsOneLine (sym spells.spelled) (joined filled (34 ∷ []) filled_line (none_by_test 10 (34 ∷ []) refl))

argument_is_line : (field : List ℕ) (value : Value) → SpellsArgument field value → IsOneLine field
argument_is_line field (values.Signed z) is = subst IsOneLine (sym is) (signed_is_line z)
argument_is_line field (values.Unsigned n) is = subst IsOneLine (sym is) (number_is_line n)
argument_is_line field (values.Text bytes) (spelled, is, text) =
    subst IsOneLine (sym is) (joined (34 ∷ spelled) (34 ∷ []) ((λ e. omega (arith, e)), text_is_line spelled bytes text) (none_by_test 10 (34 ∷ []) refl))

arguments_are_line : (fields : List ℕ) (args : List Value) → SpellsArgumentFields fields args → IsOneLine fields
arguments_are_line fields [] is = subst IsOneLine (sym is) tt
arguments_are_line fields (value ∷ args) (field, others, is, argument, rest) =
    subst IsOneLine (sym is) (joined (32 ∷ field) others ((λ e. omega (arith, e)), argument_is_line field value argument) (arguments_are_line others args rest))

pub call_is_line : (line : List ℕ) (made : WriterCall) → SpellsCall line made → IsOneLine line
call_is_line line made spells =
    let front = codes "call " ++ decimal made.writer in
    let stamped = front ++ 32 ∷ decimal made.call.stamp in
    let named = stamped ++ 32 ∷ decimal made.call.id in
    let front_line = joined (codes "call ") (decimal made.writer) (none_by_test 10 (codes "call ") refl) (number_is_line made.writer) in
    let stamped_line = joined front (32 ∷ decimal made.call.stamp) front_line (field_is_line made.call.stamp) in
    let named_line = joined stamped (32 ∷ decimal made.call.id) stamped_line (field_is_line made.call.id) in
    subst IsOneLine (sym spells.spelled) (joined named spells.fields named_line (arguments_are_line spells.fields made.call.args spells.arguments))

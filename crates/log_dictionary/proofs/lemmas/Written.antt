-- What is written of texts and messages spells them.
use Rattle.std.proofs.Common.{◌≡◌, ℕ, ◌+◌, ◌*◌, ◌/◌, ◌%◌, ◌<◌, ◌≤◌, ◌^◌, Bool, true, false, cond, eqb, leb, ltb, List, [], ◌∷◌, ◌++◌, refl, inl, inr, append_assoc, arith}
use Rattle.std.specs.Prelude.{codes, decimal, ◌&&◌}
use Rattle.std.specs.Char.{digit_char, digit_value, IsAsciiHexdigit}
use Rattle.std.proofs.lemmas.Bool.{eqb-true}
use Rattle.std.proofs.lemmas.Bool.Decides.{nat_tests}
use Rattle.std.proofs.lemmas.Str.{digit_value-digit_char}
use Rattle.std.proofs.lemmas.List.Elements.{All-head, All-tail}
use Rattle.nibble_pack.specs.Bytes.{AreBytes}
use Rattle.log_dictionary.specs.declared.message.Message.{Message}
use Rattle.log_dictionary.specs.Severities.{severity_name}
use Rattle.log_dictionary.specs.Texts.{IsPlain, SpellsByte, SpellsText}
use Rattle.log_dictionary.specs.Texts.SpellsByte.{itself, quotation_mark, backslash, line_feed, tab, hexadecimal}
use Rattle.log_dictionary.specs.Messages.{SpellsMessage}
use Rattle.log_dictionary.proofs.lemmas.NumberLaws.{decimal_natural}
use Rattle.log_dictionary.specs.Canonical.{canonical_byte, canonical_text, message_line, HasLine}

digit_at : (n : ℕ) (few : Bool) → n < 16 → (few ≡ true → n < 10) → (few ≡ false → 10 ≤ n) → IsAsciiHexdigit (cond few (48 + n) (87 + n))
digit_at n true small few many = let f = few refl in inl (inl (omega arith, omega arith))
digit_at n false small few many = let m = many refl in inr (omega arith, omega arith)

is_digit : (n : ℕ) → n < 16 → IsAsciiHexdigit (digit_char n)
is_digit n small = digit_at n (ltb n 10) small (λ t. grind (arith, nat_tests)) (λ t. grind (arith, nat_tests))

escaped : (b : ℕ) → b < 256 → SpellsByte (codes "\\x" ++ digit_char (b / 16) ∷ digit_char (b % 16) ∷ []) b
escaped b byte =
    let high : b / 16 < 16 = omega arith in
    let low : b % 16 < 16 = omega arith in
    let whole : b ≡ 16 * digit_value (digit_char (b / 16)) + digit_value (digit_char (b % 16)) =
    rw (digit_value-digit_char (b / 16) (omega arith), digit_value-digit_char (b % 16) (omega arith)) (omega arith) in
    hexadecimal (digit_char (b / 16)) (digit_char (b % 16)) (is_digit (b / 16) high) (is_digit (b % 16) low) refl whole

spelled_at : (b : ℕ) (mark slash line t shown : Bool) → (mark ≡ true → b ≡ 34) → (slash ≡ true → b ≡ 92) → (line ≡ true → b ≡ 10) → (t ≡ true → b ≡ 9) → (mark ≡ false → slash ≡ false → shown ≡ true → IsPlain b) → b < 256
    → SpellsByte (cond mark (codes "\\\"") (cond slash (codes "\\\\") (cond line (codes "\\n") (cond t (codes "\\t") (cond shown (b ∷ []) (codes "\\x" ++ digit_char (b / 16) ∷ digit_char (b % 16) ∷ [])))))) b
spelled_at b true slash line t shown em es el et plain byte = quotation_mark refl (em refl)
spelled_at b false true line t shown em es el et plain byte = backslash refl (es refl)
spelled_at b false false true t shown em es el et plain byte = line_feed refl (el refl)
spelled_at b false false false true shown em es el et plain byte = tab refl (et refl)
spelled_at b false false false false true em es el et plain byte = itself (plain refl refl refl) refl
spelled_at b false false false false false em es el et plain byte = escaped b byte

shown_plain : (b : ℕ) → eqb b 34 ≡ false → eqb b 92 ≡ false → (leb 32 b && leb b 126) ≡ true → IsPlain b
shown_plain b no_mark no_slash shown = grind (arith, nat_tests)

-- what is written of a byte spells it
pub written_byte : (b : ℕ) → b < 256 → SpellsByte (canonical_byte b) b
written_byte b byte = spelled_at b (eqb b 34) (eqb b 92) (eqb b 10) (eqb b 9) (leb 32 b && leb b 126) (eqb-true b 34) (eqb-true b 92) (eqb-true b 10) (eqb-true b 9) (shown_plain b) byte

-- what is written of a text spells it
pub written_text : (bytes : List ℕ) → AreBytes bytes → SpellsText (canonical_text bytes) bytes
written_text [] all = refl
written_text (b ∷ bytes) all =
    let byte = All-head (λ (b : ℕ). b < 256) b bytes all in
    let others = All-tail (λ (b : ℕ). b < 256) b bytes all in
    (canonical_byte b, canonical_text bytes, refl, written_byte b byte, written_text bytes others)

regroup : (w d s n name format : List ℕ) → (w ++ d ++ s ++ n ++ 32 ∷ []) ++ (34 ∷ name ++ 34 ∷ []) ++ (32 ∷ (34 ∷ format ++ 34 ∷ [])) ≡ w ++ d ++ s ++ n ++ (32 ∷ 34 ∷ []) ++ name ++ (34 ∷ 32 ∷ 34 ∷ []) ++ format ++ 34 ∷ []
regroup w d s n name format = simp append_assoc

-- what is written of a message spells it
pub written_message : (id : ℕ) (message : Message) → id < 2 ^ 64 → HasLine message → SpellsMessage (message_line id message) id message
written_message id message fits has = record {
  digits = decimal id;
  name = canonical_text message.file;
  format = canonical_text message.format.bytes;
  spelled = regroup (codes "message ") (decimal id) (32 ∷ severity_name message.severity) (32 ∷ decimal message.line) (canonical_text message.file) (canonical_text message.format.bytes);
  file = written_text message.file has.file;
  bytes = written_text message.format.bytes has.bytes;
  formed = has.formed;
  numeral = decimal_natural (decimal id) id fits refl;
  line_fits = has.line_fits;
}

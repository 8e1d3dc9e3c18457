-- A message line has one list of parts.
use Rattle.std.proofs.Common.{◌≡◌, ◌≢◌, ℕ, ◌<◌, ◌≤◌, ◌^◌, Bool, true, false, cond, eqb, List, [], ◌∷◌, ◌++◌, length, All, Option, Some, None, refl, sym, ap, subst, ◌∙◌, append_assoc, arith, inl}
use Rattle.std.specs.Prelude.{codes, decimal}
use Rattle.std.proofs.lemmas.Bool.{eqb-true}
use Rattle.std.proofs.lemmas.Option.{same_Some}
use Rattle.std.proofs.lemmas.List.{nil_from_length}
use Rattle.std.proofs.lemmas.Fmt.{decimal_injective}
use Rattle.printf_grammar.specs.declared.limits.TheConstants.{MAX_FORMAT}
use Rattle.log_dictionary.specs.declared.message.TheConstants.{MAX_FILE_NAME}
use Rattle.log_dictionary.specs.declared.severity.Severity.{Severity}
use Rattle.log_dictionary.specs.Numbers.{natural_of}
use Rattle.log_dictionary.specs.Severities.{severity_name}
use Rattle.log_dictionary.specs.Texts.{SpellsText, text_at}
use Rattle.log_dictionary.specs.Fields.{◌>>=◌, split_at_first, after}
use Rattle.log_dictionary.specs.MessageLines.{SpelledParts, parts_at, MessageLineFields, SpellsParts}
use Rattle.log_dictionary.proofs.lemmas.Splits.{split_again, split_takes, after_takes}
use Rattle.log_dictionary.proofs.lemmas.Lines.{severity_none, natural_none, decimal_none}
use Rattle.log_dictionary.proofs.lemmas.SameMessages.{same_names}
use Rattle.log_dictionary.proofs.lemmas.TextLaws.{opens_read, read_opens_text}

-- ---- a line with its parts

-- the line of these parts and these spellings of the texts
abbrev pub line_of : SpelledParts → List ℕ → List ℕ → List ℕ
line_of parts name text = codes "message " ++ parts.id ++ 32 ∷ parts.severity ++ 32 ∷ parts.number ++ codes " \"" ++ name ++ codes "\" \"" ++ text ++ 34 ∷ []

-- the same, nested to the right
abbrev nested : SpelledParts → List ℕ → List ℕ → List ℕ
nested parts name text = codes "message " ++ (parts.id ++ 32 ∷ (parts.severity ++ 32 ∷ (parts.number ++ 32 ∷ (34 ∷ name ++ 34 ∷ (32 ∷ (34 ∷ text ++ 34 ∷ []))))))

line_of-nested : (parts : SpelledParts) (name text : List ℕ) → line_of parts name text ≡ nested parts name text
line_of-nested parts name text = simp append_assoc

-- the line is `message`, these fields and spellings of these texts
pub record IsLineOf (line : List ℕ) (parts : SpelledParts) : Type 0 where
  pub name : List ℕ
  pub text : List ℕ
  pub spelled : line ≡ line_of parts name text
  pub file_spelled : SpellsText name parts.file
  pub format_spelled : SpellsText text parts.format

-- ---- a line's parts are found

text_again : (spelled value rest : List ℕ) → SpellsText spelled value → text_at (34 ∷ spelled ++ 34 ∷ rest) ≡ Some (value, rest)
text_again spelled value rest spells = opens_read (34 ∷ spelled ++ 34 ∷ rest) value rest (record { spelled = spelled; whole = refl; spells = spells })

pub parts_again : (line : List ℕ) (parts : SpelledParts) → IsLineOf line parts → All (λ byte. byte ≢ 32) parts.id → All (λ byte. byte ≢ 32) parts.severity → All (λ byte. byte ≢ 32) parts.number → parts_at line ≡ Some parts
unfolding parts_at
parts_again line parts is id severity number =
    ap parts_at (is.spelled ∙ line_of-nested parts is.name is.text)
    ∙ rw (split_again 32 parts.id _ id, split_again 32 parts.severity _ severity, split_again 32 parts.number _ number, text_again is.name parts.file _ is.file_spelled, text_again is.text parts.format [] is.format_spelled) refl

-- ---- what was found are a line's parts

-- what was found went through a part that was found
through : {A B : Type 0} (o : Option A) (next : A → Option B) (y : B) → (o >>= next) ≡ Some y → (x : A) × (o ≡ Some x) × (next x ≡ Some y)
through None next y e = absurd cc
through (Some x) next y e = (x, refl, e)

-- the steps of parts_at from the last to the first
abbrev Pair : Type 0
Pair = List ℕ × List ℕ

abbrev at_format : List ℕ → List ℕ → List ℕ → List ℕ → Pair → Option SpelledParts
at_format id severity number file format = cond (eqb (length format.1) 0) (Some (record { id = id; severity = severity; number = number; file = file; format = format.0 })) None

abbrev at_second : List ℕ → List ℕ → List ℕ → List ℕ → List ℕ → Option SpelledParts
at_second id severity number file second = text_at second >>= at_format id severity number file

abbrev at_file : List ℕ → List ℕ → List ℕ → Pair → Option SpelledParts
at_file id severity number file = after (codes " ") file.1 >>= at_second id severity number file.0

abbrev at_number : List ℕ → List ℕ → Pair → Option SpelledParts
at_number id severity number = text_at number.1 >>= at_file id severity number.0

abbrev at_severity : List ℕ → Pair → Option SpelledParts
at_severity id severity = split_at_first 32 severity.1 >>= at_number id severity.0

abbrev at_id : Pair → Option SpelledParts
at_id id = split_at_first 32 id.1 >>= at_severity id.0

abbrev at_fields : List ℕ → Option SpelledParts
at_fields fields = split_at_first 32 fields >>= at_id

ended : (id severity number file : List ℕ) (format : Pair) (parts : SpelledParts) (b : Bool) → eqb (length format.1) 0 ≡ b → cond b (Some (record { id = id; severity = severity; number = number; file = file; format = format.0 })) None ≡ Some parts
    → (format.1 ≡ []) × (record { id = id; severity = severity; number = number; file = file; format = format.0 } ≡ parts)
ended id severity number file format parts true t e = (nil_from_length format.1 (eqb-true _ _ t), same_Some _ _ e)
ended id severity number file format parts false t e = absurd cc

pub parts_found : (line : List ℕ) (parts : SpelledParts) → parts_at line ≡ Some parts → IsLineOf line parts
unfolding parts_at
parts_found line parts found =
    let (fields, e0, n0) = through (after (codes "message ") line) at_fields parts found in
    let (id, e1, n1) = through (split_at_first 32 fields) at_id parts n0 in
    let (severity, e2, n2) = through (split_at_first 32 id.1) (at_severity id.0) parts n1 in
    let (number, e3, n3) = through (split_at_first 32 severity.1) (at_number id.0 severity.0) parts n2 in
    let (file, e4, n4) = through (text_at number.1) (at_file id.0 severity.0 number.0) parts n3 in
    let (second, e5, n5) = through (after (codes " ") file.1) (at_second id.0 severity.0 number.0 file.0) parts n4 in
    let (format, e6, n6) = through (text_at second) (at_format id.0 severity.0 number.0 file.0) parts n5 in
    let end = ended id.0 severity.0 number.0 file.0 format parts _ refl n6 in
    let last = read_opens_text second format.0 format.1 e6 in
    let first = read_opens_text number.1 file.0 file.1 e4 in
    let m6 : second ≡ 34 ∷ last.spelled ++ 34 ∷ [] = last.whole ∙ ap (λ (r : List ℕ). 34 ∷ last.spelled ++ 34 ∷ r) end.0 in
    let m4 : number.1 ≡ 34 ∷ first.spelled ++ 34 ∷ (32 ∷ (34 ∷ last.spelled ++ 34 ∷ [])) = first.whole ∙ ap (λ (r : List ℕ). 34 ∷ first.spelled ++ 34 ∷ r) (after_takes (codes " ") file.1 second e5 ∙ ap (λ (r : List ℕ). 32 ∷ r) m6) in
    let m3 : severity.1 ≡ number.0 ++ 32 ∷ (34 ∷ first.spelled ++ 34 ∷ (32 ∷ (34 ∷ last.spelled ++ 34 ∷ []))) = (split_takes 32 severity.1 number.0 number.1 e3).parts ∙ ap (λ (r : List ℕ). number.0 ++ 32 ∷ r) m4 in
    let m2 : id.1 ≡ severity.0 ++ 32 ∷ (number.0 ++ 32 ∷ (34 ∷ first.spelled ++ 34 ∷ (32 ∷ (34 ∷ last.spelled ++ 34 ∷ [])))) = (split_takes 32 id.1 severity.0 severity.1 e2).parts ∙ ap (λ (r : List ℕ). severity.0 ++ 32 ∷ r) m3 in
    let m1 : fields ≡ id.0 ++ 32 ∷ (severity.0 ++ 32 ∷ (number.0 ++ 32 ∷ (34 ∷ first.spelled ++ 34 ∷ (32 ∷ (34 ∷ last.spelled ++ 34 ∷ []))))) = (split_takes 32 fields id.0 id.1 e1).parts ∙ ap (λ (r : List ℕ). id.0 ++ 32 ∷ r) m2 in
    let read : SpelledParts = record { id = id.0; severity = severity.0; number = number.0; file = file.0; format = format.0 } in
    let is : IsLineOf line read = record {
      name = first.spelled;
      text = last.spelled;
      spelled = after_takes (codes "message ") line fields e0 ∙ ap (λ (r : List ℕ). codes "message " ++ r) m1 ∙ sym (line_of-nested read first.spelled last.spelled);
      file_spelled = first.spells;
      format_spelled = last.spells;
    } in
    subst (IsLineOf line) end.1 is

-- ---- parts that fit

-- the parts as they are spelled, with these digits of the id
abbrev pub spelling_of : List ℕ → MessageLineFields → SpelledParts
spelling_of digits parts = record { id = digits; severity = severity_name parts.severity; number = decimal parts.number; file = parts.file; format = parts.format }

-- the parts that a line spells are found
pub parts_at-spelled : (line : List ℕ) (parts : MessageLineFields) → (spells : SpellsParts line parts) → parts_at line ≡ Some (spelling_of spells.digits parts)
parts_at-spelled line parts spells =
    parts_again line (spelling_of spells.digits parts) (record { name = spells.name; text = spells.text; spelled = spells.spelled; file_spelled = spells.file_spelled; format_spelled = spells.format_spelled })
    (natural_none 32 spells.digits parts.id (inl (omega arith)) spells.numeral) (severity_none 32 refl refl refl refl parts.severity) (decimal_none 32 parts.number (inl (omega arith)) (let small = spells.number_fits in omega arith))

-- parts that were found are those that the line spells
pub same_spelling : (line : List ℕ) (found : SpelledParts) (parts : MessageLineFields) → Some found ≡ parts_at line → (spells : SpellsParts line parts) → found ≡ spelling_of spells.digits parts
same_spelling line found parts e spells = same_Some found (spelling_of spells.digits parts) (e ∙ parts_at-spelled line parts spells)

-- a line spells one list of parts
pub same_parts : (line : List ℕ) (a b : MessageLineFields) → SpellsParts line a → SpellsParts line b → a ≡ b
same_parts line a b first second =
    let same = same_Some (spelling_of first.digits a) (spelling_of second.digits b) (sym (parts_at-spelled line a first) ∙ parts_at-spelled line b second) in
    let a_fits : a.number < 2 ^ 64 = let small = first.number_fits in omega arith in
    let b_fits : b.number < 2 ^ 64 = let small = second.number_fits in omega arith in
    let id = same_Some a.id b.id (sym first.numeral ∙ ap natural_of (ap (λ (p : SpelledParts). p.id) same) ∙ second.numeral) in
    let severity = same_names a.severity b.severity (ap (λ (p : SpelledParts). p.severity) same) in
    let number = decimal_injective a.number b.number a_fits b_fits (ap (λ (p : SpelledParts). p.number) same) in
    ap (λ (x : ℕ). made x a.severity a.number a.file a.format) id
    ∙ ap (λ (x : Severity). made b.id x a.number a.file a.format) severity
    ∙ ap (λ (x : ℕ). made b.id b.severity x a.file a.format) number
    ∙ ap (λ (p : SpelledParts). made b.id b.severity b.number p.file p.format) same
  where
    made : ℕ → Severity → ℕ → List ℕ → List ℕ → MessageLineFields
    made id severity number file format = record { id = id; severity = severity; number = number; file = file; format = format }

-- parts that were found, and are spelled and within their limits, are those that the line spells
pub spells_parts : (line : List ℕ) (found : SpelledParts) (digits : List ℕ) (parts : MessageLineFields) → Some found ≡ parts_at line → found ≡ spelling_of digits parts → natural_of digits ≡ Some parts.id → parts.number < 2 ^ 32 → 1 ≤ length parts.file → length parts.file ≤ MAX_FILE_NAME → length parts.format ≤ MAX_FORMAT → SpellsParts line parts
spells_parts line found digits parts e same numeral number_fits named short_name short_format =
    let is = parts_found line (spelling_of digits parts) (sym e ∙ ap (λ (p : SpelledParts). Some p) same) in
    record {
      digits = digits;
      name = is.name;
      text = is.text;
      spelled = is.spelled;
      numeral = numeral;
      file_spelled = is.file_spelled;
      format_spelled = is.format_spelled;
      number_fits = number_fits;
      named = named;
      short_name = short_name;
      short_format = short_format;
    }

-- What lines begin with, which lines are equal, and where fields end.
use Rattle.std.proofs.Common.{◌≡◌, ◌≢◌, eqb, ℕ, Bool, true, false, cond, List, [], ◌∷◌, ◌++◌, length, take, drop, Option, None, Some, refl, sym, ap, ◌∙◌}
use Rattle.std.specs.Prelude.{not, ◌&&◌, codes}
use Rattle.std.specs.Option.{is_some}
use Rattle.std.specs.List.{starts_with}
use Rattle.std.specs.Cmp.Lexicographic.{pointwise, bytes_decides}
use Rattle.std.proofs.lemmas.Bool.Decides.{Decides-eqb, same_from_decides}
use Rattle.std.proofs.lemmas.Bool.{false≢true, not-true}
use Rattle.std.proofs.lemmas.List.{take-append-drop}
use Rattle.log_dictionary.specs.Fields.{after}
use Rattle.log_dictionary.proofs.lemmas.Splits.{found}
use Rattle.trace_text.specs.LineFields.{begins_with, CallHead, head_of, head_at}

-- a line of a call begins with the word
pub call_begins : (line : List ℕ) (head : CallHead) → head_at line ≡ Some head → begins_with (codes "call ") line ≡ true
call_begins line head e =
    let rest = found (after (codes "call ") line) head_of head e in
    ap is_some rest.first

-- ---- lines that are equal, or begin with a word

eqb_comm : (a b : ℕ) → eqb a b ≡ eqb b a
eqb_comm a b = same_from_decides (eqb a b) (eqb b a) (Decides-eqb a b) (λ e. sym ((Decides-eqb b a).0 e), λ e. (Decides-eqb b a).1 (sym e))

begun : (test : Bool) (o : Option (List ℕ)) (b : Bool) → b ≡ is_some o → (test && b) ≡ is_some (cond test o None)
begun true o b e = e
begun false o b e = refl

-- what a test of the front says
pub begins_is : (front line : List ℕ) → starts_with eqb line front ≡ begins_with front line
begins_is [] line = refl
begins_is (x ∷ front) [] = refl
begins_is (x ∷ front) (byte ∷ line) = ap (λ (b : Bool). b && pointwise eqb front (take (length front) line)) (eqb_comm x byte) ∙ begun (eqb byte x) (after front line) (pointwise eqb front (take (length front) line)) (begins_is front line)

pub same_line : (line other : List ℕ) → pointwise eqb line other ≡ true → line ≡ other
same_line line other e = (bytes_decides line other).0 e

pub other_line : (line other : List ℕ) → pointwise eqb line other ≡ false → line ≢ other
other_line line other e is = false≢true (sym e ∙ (bytes_decides line other).1 is)

-- a line that begins with a word is the word, and what stands behind it
pub joined_again : (word line fields : List ℕ) → pointwise eqb (take (length word) line) word ≡ true → fields ≡ drop (length word) line → line ≡ word ++ fields
joined_again word line fields front back =
    sym (take-append-drop (length word) line) ∙ ap (λ (bytes : List ℕ). bytes ++ drop (length word) line) (same_line _ word front) ∙ ap (λ (bytes : List ℕ). word ++ bytes) (sym back)

-- what a test that the line is another one says
pub line_differs : (line other : List ℕ) (test : Bool) → test ≡ not (pointwise eqb line other) → test ≡ true → line ≢ other
line_differs line other test is e = other_line line other (not-true _ (sym is ∙ e))

-- what a line of a message begins with
abbrev pub message_word : List ℕ
message_word = codes "message "

-- what a test of the front says of lines of messages
pub line_begins : (line : List ℕ) (test : Bool) → test ≡ starts_with eqb line message_word → test ≡ true → begins_with message_word line ≡ true
line_begins line test is e = sym (begins_is message_word line) ∙ sym is ∙ e

pub line_begins_not : (line : List ℕ) (test : Bool) → test ≡ starts_with eqb line message_word → test ≡ false → begins_with message_word line ≡ false
line_begins_not line test is e = sym (begins_is message_word line) ∙ sym is ∙ e

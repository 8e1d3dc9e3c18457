-- Worked texts of dictionaries, and texts that are refused.
use Rattle.std.proofs.Common.{◌≢◌, ℕ, lit<, lit≤, true, eqb, not, List, [], ◌∷◌, ◌++◌, get_or, ◌≡◌, refl, ap, inl, inr, arith}
use Rattle.std.specs.Prelude.{codes}
use Rattle.std.specs.List.{list_all}
use Rattle.std.proofs.lemmas.List.Elements.{All-from_recursion}
use Rattle.log_dictionary.specs.Fields.{IsFirstSplit}
use Rattle.log_dictionary.specs.Rows.{row_message}
use Rattle.log_dictionary.proofs.lemmas.LineWorked.{row_spelled}
use Rattle.trace_text.specs.declared.cause.TraceCause.TheVariants as causes
use Rattle.trace_text.specs.Dictionaries.{dictionary_line, SpellsDictionary, DictionaryText, DictionaryBreak}
use Rattle.trace_text.specs.Rows.{dictionary_row}
use Rattle.trace_text.proofs.DictionaryLaws.{no_messages}
use Rattle.trace_text.proofs.DictionaryReads.{lacks_unended, lacks_other}
use Rattle.trace_text.proofs.WorkedRefusals.{is_line, no_message}

splits : (line behind : List ℕ) → list_all (λ byte. not (eqb byte 10)) line ≡ true → IsFirstSplit 10 (line ++ 10 ∷ behind) line behind
splits line behind e = record { parts = refl; first = All-from_recursion (λ byte. byte ≢ 10) line (is_line line e) }

pub none : DictionaryText (codes "nanolog-trace 1\n") []
none = (lit≤ tt, no_messages)

row : SpellsDictionary dictionary_row (row_message ∷ [])
row = record { message_lines = codes "message 0 NOTICE 12 \"srv.cc\" \"x=%d\"" ∷ []; whole = refl; messages_spelled = (row_spelled, tt); distinct = λ i j d earlier within. absurd (omega (arith, earlier, within)); few_messages = lit≤ tt }

pub one : DictionaryText dictionary_row (row_message ∷ [])
one = (lit≤ tt, row)

pub empty : DictionaryBreak [] 1 causes.Header
empty = inr (lit≤ tt, inl (lacks_unended [] tt, refl, refl))

pub no_line_feed : DictionaryBreak (codes "nanolog-trace 1") 1 causes.Header
no_line_feed = inr (lit≤ tt, inl (lacks_unended dictionary_line (is_line dictionary_line refl), refl, refl))

pub other_version : DictionaryBreak (codes "nanolog-trace 2\n") 1 causes.Header
other_version = inr (lit≤ tt, inl (lacks_other (codes "nanolog-trace 2\n") (codes "nanolog-trace 2") [] refl (is_line (codes "nanolog-trace 2") refl) (λ e. let wrong : ◌≡◌ {A = ℕ} 50 49 = ap (λ line. get_or line 14 0) e in omega arith), refl, refl))

pub other_id : DictionaryBreak (codes "nanolog-trace 1\nmessage 1 DEBUG 1 \"a\" \"b\"\n") 2 causes.Message
other_id = inr (
  lit≤ tt,
  inr (record {
    front = codes "nanolog-trace 1\n";
    rest = codes "message 1 DEBUG 1 \"a\" \"b\"\n";
    messages = [];
    parted = refl;
    spelled = no_messages;
    refused = inl (codes "message 1 DEBUG 1 \"a\" \"b\"", [], splits (codes "message 1 DEBUG 1 \"a\" \"b\"") [] refl, inl (refl, inr (lit< tt, no_message, refl)));
    line_is = refl;
  }),
)

pub other_line : DictionaryBreak (dictionary_row ++ codes "clock 1 2 3\n") 3 causes.Message
other_line = inr (
  lit≤ tt,
  inr (record {
    front = dictionary_row;
    rest = codes "clock 1 2 3\n";
    messages = row_message ∷ [];
    parted = refl;
    spelled = row;
    refused = inl (codes "clock 1 2 3", [], splits (codes "clock 1 2 3") [] refl, inr (refl, refl));
    line_is = refl;
  }),
)

pub last_line_cut : DictionaryBreak (codes "nanolog-trace 1\nmessage 0 NOTICE 12 \"srv.cc\" \"x=%d\"") 2 causes.Message
last_line_cut = inr (
  lit≤ tt,
  inr (record {
    front = codes "nanolog-trace 1\n";
    rest = codes "message 0 NOTICE 12 \"srv.cc\" \"x=%d\"";
    messages = [];
    parted = refl;
    spelled = no_messages;
    refused = inr (lit≤ tt, is_line (codes "message 0 NOTICE 12 \"srv.cc\" \"x=%d\"") refl, refl);
    line_is = refl;
  }),
)

-- What is said of words that are put into an output.
use Rattle.std.proofs.Common.{◌≡◌, ℕ, List, [], ◌∷◌, ◌++◌, Result, Ok, Err, codes, refl, inl, inr, append_assoc, append-nil}
use Rattle.std.specs.Fmt.{decimal}
use Rattle.std.specs.List.{concat}
use Rattle.std.specs.Prelude.{OnOk, OnErr, Some, None}
use Rattle.nl_io.specs.Count.{Rose}
use Rattle.nl_io.specs.Content.{Told, with_end, PutsFront}
use Rattle.nl_io.specs.TextWriters.{IsCutOff}
use Rattle.command_base.specs.declared.status.Status.TheVariants as statuses
use Rattle.command_base.specs.declared.note.Note.{Note}
use Rattle.command_base.specs.declared.note.Note.TheVariants as notes
use Rattle.command_base.specs.declared.refusal.Refusal.{Refusal}
use Rattle.command_base.specs.declared.refusal.Refusal.TheVariants as refusals
use Rattle.command_base.specs.Endings.{status_of, note_ending, refusal_ending}
use Rattle.command_base.specs.Words.{fault_words, words_of}
use Rattle.command_base.specs.Printing.{Says, Tells}

-- what a call on an output says of words
pub says : {T E : Type 0} (r : Result T E) (words : List ℕ) (was is : Told) (before after : ℕ) → OnOk r (is ≡ with_end words was) → OnOk r (after ≡ before)
    → OnErr r (PutsFront words was is) → OnErr r (Rose before after) → Says words was is before after
says (Ok x) words was is before after whole counted front cause = inl (whole, counted)
says (Err e) words was is before after whole counted front cause = inr (front, cause)

-- the same of words that were cut off
pub says_cut : {T E : Type 0} (r : Result T E) (words : List ℕ) (was is : Told) (before after : ℕ) → OnOk r (is ≡ with_end words was) → OnOk r (after ≡ before)
    → OnErr r (IsCutOff words was is before after) → Says words was is before after
says_cut (Ok x) words was is before after whole counted cut = inl (whole, counted)
says_cut (Err e) words was is before after whole counted cut = inr (cut.put, cut.rose)

-- a command that was done has that status, whatever there is to tell
pub note_done : (note : Note) → statuses.Done ≡ status_of (note_ending note)
note_done notes.Nothing = refl
note_done (notes.StillOpen log numbers) = refl

-- the words on a refusal are what is told of it
pub tells_refusal : (refusal : Refusal) (was is : Told) (before after : ℕ) → Says (words_of (refusal_ending refusal)) was is before after → Tells (refusal_ending refusal) was is before after
tells_refusal (refusals.Usage lines) was is before after said = said
tells_refusal (refusals.Absent name) was is before after said = said
tells_refusal (refusals.ReadFault name) was is before after said = said
tells_refusal (refusals.Refused name line cause) was is before after said = said
tells_refusal (refusals.RefusedSources lines) was is before after said = said
tells_refusal (refusals.Damaged name offset cause) was is before after said = said
tells_refusal (refusals.WriteFault name) was is before after said = said
tells_refusal refusals.NoMemory was is before after said = said

-- ---- words in pieces

pieces_joined : (a name b place what number d cause e : List ℕ) → concat (a ∷ name ∷ b ∷ place ∷ what ∷ number ∷ d ∷ cause ∷ e ∷ []) ≡ a ++ name ++ (b ++ place) ++ what ++ number ++ d ++ cause ++ e
pieces_joined a name b place what number d cause e = simp (append_assoc, append-nil)

-- the words on a cause are said in pieces
pub cause_pieces : (name colon place what number cause : List ℕ)
    → concat (codes "nanolog: " ∷ name ∷ colon ∷ place ∷ what ∷ number ∷ codes " " ∷ cause ∷ codes "\n" ∷ []) ≡ codes "nanolog: " ++ name ++ (colon ++ place) ++ what ++ number ++ codes " " ++ cause ++ codes "\n"
cause_pieces name colon place what number cause = pieces_joined (codes "nanolog: ") name colon place what number (codes " ") cause (codes "\n")

-- they are the words on a fault, at a place of a file
pub placed_words : (name what cause place_text number_text : List ℕ) (place number : ℕ) → place_text ≡ decimal place → number_text ≡ decimal number
    → codes "nanolog: " ++ name ++ (codes ":" ++ place_text) ++ what ++ number_text ++ codes " " ++ cause ++ codes "\n" ≡ fault_words name (Some place) what (record { number = number; name = cause })
placed_words name what cause place_text number_text place number place_is number_is =
    λ i. codes "nanolog: " ++ name ++ (codes ":" ++ place_is i) ++ what ++ number_is i ++ codes " " ++ cause ++ codes "\n"

-- and on one of the whole file
pub whole_words : (name what cause number_text : List ℕ) (number : ℕ) → number_text ≡ decimal number
    → codes "nanolog: " ++ name ++ [] ++ what ++ number_text ++ codes " " ++ cause ++ codes "\n" ≡ fault_words name None what (record { number = number; name = cause })
whole_words name what cause number_text number number_is = λ i. codes "nanolog: " ++ name ++ [] ++ what ++ number_is i ++ codes " " ++ cause ++ codes "\n"

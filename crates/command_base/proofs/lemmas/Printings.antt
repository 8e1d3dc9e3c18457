-- A text that is put into an output whole, or in pieces.
use Rattle.std.proofs.Common.{◌≡◌, ◌≢◌, ℕ, List, [], Result, Ok, Err, refl, sym, append-nil}
use Rattle.std.specs.Prelude.{OnOk, OnErr}
use Rattle.nl_io.specs.Count.{Rose}
use Rattle.nl_io.specs.Content.{Told, with_end, PutsFront}
use Rattle.nl_io.specs.TextWriters.{Carries, IsCutOff}
use Rattle.nl_io.specs.declared.failed.Failed.{Failed}
use Rattle.nl_io.proofs.lemmas.TextWriters.{carries_all, cut_held}
use Rattle.command_base.specs.Printing.{Prints, printed_ending}

-- a text that was written in one call is printed so
pub prints_written : {T : Type 0} (put : Result T Failed) (text : List ℕ) (was is : Told) (before after : ℕ) → OnOk put (is ≡ with_end text was) → OnOk put (after ≡ before)
    → OnErr put (PutsFront text was is) → OnErr put (Rose before after) → OnErr put (text ≢ []) → Prints text was is before after (printed_ending put)
prints_written (Ok x) text was is before after whole counted front rose some = (whole, counted)
prints_written (Err e) text was is before after whole counted front rose some = (refl, some, front, rose)

-- what was held back of a text was put, and so the text is
pub flushed_whole : {T E : Type 0} (r : Result T E) (text held : List ℕ) (was mid is : Told) → Carries text was mid held → OnOk r (is ≡ with_end held mid) → OnOk r (is ≡ with_end text was)
flushed_whole (Ok x) text held was mid is carried put = carries_all text held was mid is carried put
flushed_whole (Err e) text held was mid is carried put = tt

-- it was cut off, and so the text is
pub flushed_cut : {T E : Type 0} (r : Result T E) (text held : List ℕ) (was mid is : Told) (before now after : ℕ) → Carries text was mid held → now ≡ before → OnErr r (IsCutOff held mid is now after)
    → OnErr r (IsCutOff text was is before after)
flushed_cut (Ok x) text held was mid is before now after carried same cut = tt
flushed_cut (Err e) text held was mid is before now after carried same cut = cut_held text text [] held was mid is before now after (sym (append-nil text)) carried same cut

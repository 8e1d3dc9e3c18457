-- Which calls fit their messages, and which stamps fall.
use Rattle.std.proofs.Common.{◌≡◌, ℕ, ◌<◌, ◌≤◌, lit≤, List, [], ◌∷◌, ◌++◌, refl, subst, arith}
use Rattle.std.specs.Prelude.{Some, slice_get}
use Rattle.std.proofs.lemmas.List.{length-replicate}
use Rattle.printf_grammar.specs.Types.{Types, Fits}
use Rattle.log_dictionary.specs.declared.message.Message.{Message}
use Rattle.arg_records.specs.declared.call.Call.{Call}
use Rattle.arg_records.specs.Calls.{IsCall, NeverFalls}
use Rattle.arg_records.specs.Rows.{texts_message, texts_call}
use Rattle.arg_records.proofs.lemmas.Fitted.{copies_are_text}

pub falls : (least : ℕ) (before : List Call) (call next : Call) (others : List Call) → next.stamp < call.stamp → ¬ (NeverFalls least (before ++ call ∷ next ∷ others))
falls least [] call next others fall h = omega (arith, fall, h.1.0)
falls least (first ∷ before) call next others fall h = falls first.stamp before call next others fall h.1

pub texts_are_call : (n : ℕ) → n ≤ 64 → IsCall (texts_message ∷ []) (texts_call n)
texts_are_call n few = record {
  message = texts_message;
  known = refl;
  fits = (copies_are_text 4000 (lit≤ tt), (copies_are_text n (omega (arith, few)), tt));
  short = omega (arith, length-replicate {A = ℕ} n 97, length-replicate {A = ℕ} 4000 97, few);
}

pub unfit : (messages : List Message) (call : Call) (message : Message) → slice_get messages call.id ≡ Some message → ¬ (Fits call.args (Types message.format.pieces)) → ¬ (IsCall messages call)
unfit messages call message known wrong is = wrong (subst (λ (m : Message). Fits call.args (Types m.format.pieces)) (let same : is.message ≡ message = cc (is.known, known) in same) is.fits)

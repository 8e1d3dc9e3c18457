-- The calls that a writer's records stand for, and their lines.
use Rattle.std.proofs.Common.{◌≡◌, ℕ, ◌+◌, ◌≤◌, List, [], ◌∷◌, Some, refl, sym, arith}
use Rattle.std.specs.Prelude.{slice_get}
use Rattle.std.specs.List.{AllByRecursion, filter_map, enumerate_from}
use Rattle.log_dictionary.specs.declared.clock.Clock.{Clock}
use Rattle.log_dictionary.specs.declared.message.Message.{Message}
use Rattle.log_dictionary.specs.Calls.{LogCall}
use Rattle.arg_records.specs.declared.call.Call.{Call}
use Rattle.arg_records.specs.Calls.{IsCall, NeverFalls, log_call}
use Rattle.direct_printf.specs.Lines.{Line}

-- the call is the record's, and not before the tick
pub record IsCallOf (messages : List Message) (tick : ℕ) (call : LogCall) (logged : Call) : Type 0 where
  pub stamp : call.stamp ≡ logged.stamp
  pub args : call.args ≡ logged.args
  pub message : slice_get messages logged.id ≡ Some call.message
  pub right : IsCall messages logged
  pub not_before : tick ≤ logged.stamp

-- the calls are those of the records, one for each
abbrev pub AreCallsOf : List Message → ℕ → List LogCall → List Call → Type 0
AreCallsOf messages tick [] [] = Unit {0}
AreCallsOf messages tick [] (logged ∷ records) = ⊥
AreCallsOf messages tick (call ∷ calls) [] = ⊥
AreCallsOf messages tick (call ∷ calls) (logged ∷ records) = IsCallOf messages tick call logged × AreCallsOf messages tick calls records

pub calls_of_writer : (messages : List Message) (tick writer n least : ℕ) (records : List Call) → tick ≤ least → AllByRecursion (IsCall messages) records → NeverFalls least records
    → AreCallsOf messages tick (filter_map (log_call messages writer) (enumerate_from n records)) records
calls_of_writer messages tick writer n least [] from all rises = tt
calls_of_writer messages tick writer n least (logged ∷ records) from all rises =
    rw all.0.known (
      record { stamp = refl; args = refl; message = all.0.known; right = all.0; not_before = omega (arith, from, rises.0) },
      calls_of_writer messages tick writer (n + 1) logged.stamp records (omega (arith, from, rises.0)) all.1 rises.1,
    )

-- a call is printed as what its record says
pub line_is : (clocks : List Clock) {messages : List Message} {tick : ℕ} {call : LogCall} {logged : Call} {writer : ℕ} → IsCallOf messages tick call logged → call.writer ≡ writer
    → Line clocks (record { writer = writer; ordinal = call.ordinal; stamp = logged.stamp; message = call.message; args = logged.args }) ≡ Line clocks call
line_is clocks {call = call} is own = λ i. Line clocks (record { writer = sym own i; ordinal = call.ordinal; stamp = sym is.stamp i; message = call.message; args = sym is.args i })

-- A reader that has read the header of a log.
use Rattle.std.proofs.Common.{◌≡◌, ℕ, List, [], ◌++◌, length, Some, None, refl, sym, ap, subst, ◌∙◌, arith}
use Rattle.std.specs.Prelude.{IfSome, IfErr, Result, Err}
use Rattle.std.proofs.lemmas.List.{append-nil}
use Rattle.nl_io.specs.Content.{Told}
use Rattle.checkpoint_io.specs.declared.cause.Cause.{Cause}
use Rattle.checkpoint_io.specs.declared.cause.Cause.TheVariants as causes
use Rattle.checkpoint_io.specs.declared.fault.BlockFault.{BlockFault}
use Rattle.checkpoint_io.specs.declared.fault.BlockFault.TheVariants.{ReadFault}
use Rattle.checkpoint_io.specs.Versions.{header_len}
use Rattle.checkpoint_io.specs.Blocks.{header_bytes}
use Rattle.checkpoint_io.specs.Reading.{header_at}
use Rattle.checkpoint_io.specs.Fronts.{Break, at_header}
use Rattle.checkpoint_io.specs.Places.{UnreadBytes, with_front, log_place, StandsBetween, TookSuch, Refuses}
use Rattle.checkpoint_io.specs.Writers.{AreStatesOf}
use Rattle.checkpoint_io.specs.Times.{AreTimesOf}
use Rattle.checkpoint_io.specs.Readers.{ReaderState, StandsFor}
use Rattle.checkpoint_io.proofs.lemmas.VersionLaws.{few_len}
use Rattle.checkpoint_io.proofs.lemmas.BlockLaws.{length-header_bytes}
use Rattle.checkpoint_io.proofs.lemmas.FileLaws.{with_front-both}
use Rattle.checkpoint_io.proofs.lemmas.FrontLaws.{empty_file}
use Rattle.checkpoint_io.proofs.ReadingForms.{header_taken}

-- ---- the reader

no_front : (told : Told) → with_front [] told ≡ told
no_front None = refl
no_front (Some content) = refl

pub started : (reader : ReaderState) (none : UnreadBytes) (from to : Told) → none.bytes ≡ [] → none.offset ≡ 0 → reader.messages ≡ [] → AreStatesOf reader.writers reader.header [] → AreTimesOf reader.times reader.header [] → reader.offset ≡ reader.waiting.offset → StandsBetween header_at reader.header (log_place none from) (log_place reader.waiting to) → (taken : List ℕ) × (read : StandsFor reader taken) × (read.blocks ≡ []) × (from ≡ with_front (taken ++ reader.waiting.bytes) to)
started reader none from to no_bytes front messages states times offset takes =
    let header = reader.header in
    let read = header_taken takes.front header [] takes.passes.small (ap header_at (sym (append-nil takes.front)) ∙ takes.found []) in
    let is : takes.front ≡ header_bytes header = read.joined ∙ append-nil (header_bytes header) in
    let len : length takes.front ≡ header_len header.version = ap length is ∙ length-header_bytes header in
    let few = few_len header.version in
    let passes = takes.passes.offset in
    let start : from ≡ with_front none.bytes from = sym (ap (λ (b : List ℕ). with_front b from) no_bytes ∙ no_front from) in (
      header_bytes header,
      record {
        blocks = [];
        file = empty_file header;
        valid = record { header_right = read.right; blocks_right = tt };
        messages = messages;
        states = states;
        times = times;
        offset = omega (arith, offset, passes, front, len, few, length-header_bytes header);
        at = omega (arith, passes, front, len, few, length-header_bytes header);
        within = omega (arith, few, length-header_bytes header);
      },
      refl,
      start ∙ takes.passes.ahead ∙ ap (λ (b : List ℕ). with_front b (with_front reader.waiting.bytes to)) is ∙ sym (with_front-both (header_bytes header) reader.waiting.bytes to),
    )

-- where the header is broken
pub not_started : (bytes : List ℕ) (from : Told) (cause : Cause) → bytes ≡ [] → IfSome (with_front bytes from) (λ bytes. header_at bytes ≡ Err cause) → IfSome from (λ bytes. Break bytes 0 cause)
not_started bytes None cause none reads = tt
not_started bytes (Some content) cause none reads = at_header cause (subst (λ (b : List ℕ). header_at (b ++ content) ≡ Err cause) none reads)

-- where a read failed inside it
pub not_read : (none : UnreadBytes) (from behind : Told) → none.bytes ≡ [] → Refuses header_at (log_place none from) behind ReadFault → TookSuch (λ bytes. Break bytes 0 causes.Cut) from behind
not_read none from behind no_bytes (bytes, parted, reads) =
    (bytes, sym (ap (λ (b : List ℕ). with_front b from) no_bytes ∙ no_front from) ∙ parted, at_header causes.Cut reads)

pub told_fault : {T : Type 0} (r : Result T BlockFault) (P : BlockFault → Type 0) (fault : BlockFault) → r ≡ Err fault → IfErr r P → P fault
told_fault r P fault is holds = subst (λ x. IfErr x P) is holds

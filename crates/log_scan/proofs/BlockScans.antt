-- Blocks that are read one after the other, and folded.
use Rattle.std.proofs.Common.{◌≡◌, ℕ, ◌-◌, ◌<◌, List, [], ◌++◌, length, take, drop, Option, Some, None, refl, ap, sym, ◌∙◌, subst, arith}
use Rattle.std.specs.Prelude.{IfSome, IfOk, Result, Ok, Err}
use Rattle.std.proofs.lemmas.List.{append-nil, take-append-drop}
use Rattle.nl_io.specs.Content.{Told}
use Rattle.log_dictionary.specs.declared.message.Message.{Message}
use Rattle.checkpoint_io.specs.declared.cause.Cause.{Cause}
use Rattle.checkpoint_io.specs.declared.cause.Cause.TheVariants as causes
use Rattle.checkpoint_io.specs.declared.fault.BlockFault.{BlockFault}
use Rattle.checkpoint_io.specs.declared.fault.BlockFault.TheVariants as reading
use Rattle.checkpoint_io.specs.declared.header.Header.{Header}
use Rattle.checkpoint_io.specs.declared.block.Block.{Block as ReadBlock}
use Rattle.checkpoint_io.specs.Blocks.{Block, messages_of, FileOf}
use Rattle.checkpoint_io.specs.Validity.{Valid}
use Rattle.checkpoint_io.specs.Fronts.{Break, IsCutAt}
use Rattle.checkpoint_io.specs.Places.{with_front, TookSuch}
use Rattle.checkpoint_io.specs.Readers.{ReaderState, StandsFor}
use Rattle.checkpoint_io.specs.NextBlocks.{HasBody, TakesNext, EndsThere, AnswersNext, StopsAt}
use Rattle.checkpoint_io.proofs.lemmas.FileLaws.{file_behind, file_on, file_begins, file_ends, offset_rises, offset_within}
use Rattle.log_scan.specs.declared.scan.ScanEnd.{ScanEnd}
use Rattle.log_scan.specs.declared.scan.ScanEnd.TheVariants.{Whole, Damaged, ReadFault}
use Rattle.log_scan.specs.declared.scan.Scan.{Scan}
use Rattle.log_scan.specs.Parts.{LogPart, header_alone, with_block, log_part, StandsNext}
use Rattle.log_scan.specs.Scans.{IsDamagedScan, IsCutScan, EndsWhole, ReaderKnows, scan_of, Scans, EndsAtHeader}
use Rattle.log_scan.proofs.lemmas.Ends.{some_of, some_of_both, is_whole_scan, is_cut_scan, is_damaged_scan, header_damaged, header_cut}

-- the reader stands in the file behind blocks that were folded
pub record IsOn {V : Type 0} (has : V → Option LogPart → Type 0) (file : Told) (reader : ReaderState) (fold : V) (left : Told) : Type 0 where
  pub taken : List ℕ
  pub stands : StandsFor reader taken
  pub folded : has fold (Some (log_part reader stands.blocks))
  pub same : file ≡ with_front (taken ++ reader.waiting.bytes) left

-- behind the header stands nothing yet
pub begun_folds : {V : Type 0} (has : V → Option LogPart → Type 0) (fold : V) (reader : ReaderState) (taken : List ℕ) (header : Header) → (read : StandsFor reader taken) → read.blocks ≡ [] → header ≡ reader.header → has fold (Some (header_alone header)) → has fold (Some (log_part reader read.blocks))
begun_folds has fold reader taken header read none same folded = subst (λ (part : LogPart). has fold (Some part)) (λ i. record { header = same i; blocks = sym none i }) folded

module _ {V : Type 0} (has : V → Option LogPart → Type 0) (file : Told) (old new : ReaderState) (fold : V) (left behind : Told) (same_header : new.header ≡ old.header) (on : IsOn has file old fold left) where
  abbrev pub stood : StandsFor old on.taken
  stood = on.stands

  abbrev pub part : LogPart
  part = log_part old stood.blocks

  -- ---- a block

  abbrev pub Answer : Option ReadBlock → Type 0
  Answer answer = AnswersNext old new on.taken stood answer left behind

  pub some_next : (answer : Option ReadBlock) (told : ReadBlock) → answer ≡ Some told → Answer answer → TakesNext old new on.taken stood told left behind
  some_next answer told is next = subst Answer is next

  module _ (told : ReadBlock) (next : TakesNext old new on.taken stood told left behind) where
    abbrev pub bytes_behind : List ℕ
    bytes_behind = on.taken ++ next.front

    pub stands_next : StandsNext part new told next.block
    stands_next = record {
      tells = next.tells;
      header = same_header;
      body = subst (λ (h : Header). HasBody h.clock.tick new.messages next.block new.body) same_header next.body;
      bytes = bytes_behind;
      file = subst (λ (blocks : List Block). FileOf old.header blocks bytes_behind) next.blocks (subst (λ (h : Header). FileOf h next.stands.blocks bytes_behind) same_header next.stands.file);
      valid = subst (Valid old.header) next.blocks (subst (λ (h : Header). Valid h next.stands.blocks) same_header next.stands.valid);
      within = next.stands.within;
      known = next.stands.messages ∙ ap messages_of next.blocks;
    }

    -- the reader stands behind the block
    pub on_next : (changed : V) → has changed (Some (with_block part next.block)) → IsOn has file new changed behind
    on_next changed folded = record {
      taken = bytes_behind;
      stands = next.stands;
      folded = subst (λ (p : LogPart). has changed (Some p)) (λ i. record { header = sym same_header i; blocks = sym next.blocks i }) folded;
      same = on.same ∙ file_on on.taken next.front old.waiting.bytes new.waiting.bytes left behind next.joined;
    }

    -- fewer bytes are left to the most that are read
    pub falls : 134217728 - new.offset < 134217728 - old.offset
    falls = omega (arith, offset_rises old new on.taken stood told left behind next, offset_within old new on.taken stood told left behind next)

  -- ---- how reading ends

  abbrev Begins : List ℕ → Type 0
  Begins bytes = (rest : List ℕ) × (bytes ≡ on.taken ++ rest)

  begins : IfSome file Begins
  begins = subst (λ (told : Told). IfSome told Begins) (sym on.same) (file_begins on.taken old.waiting.bytes left)

  pub ends_whole : (answer : Option ReadBlock) → answer ≡ None → Answer answer → Scans has file behind fold (scan_of Whole new)
  ends_whole answer none next = record {
    part = Some part;
    folded = on.folded;
    read = record {
      header = same_header;
      valid = stood.valid;
      others = [];
      known = end.stands.messages ∙ ap messages_of end.blocks ∙ sym (append-nil (messages_of stood.blocks));
    };
    ends = some_of file (λ bytes. bytes ≡ on.taken) (λ bytes. EndsWhole bytes (Some part))
        (λ bytes all. is_whole_scan bytes part on.taken old.offset stood.file stood.valid stood.within stood.offset all)
        (subst (λ (told : Told). IfSome told (λ bytes. bytes ≡ on.taken)) (sym on.same) (file_ends on.taken old.waiting.bytes left end.ended));
    whole = λ _. (on.taken, end.stands, end.blocks);
  }
    where
      end : EndsThere old new on.taken stood left behind
      end = subst Answer none next

  -- what was defined stays
  abbrev pub HasMore : Type 0
  HasMore = take (length old.messages) new.messages ≡ old.messages

  read_so_far : HasMore → ReaderKnows new part
  read_so_far more = record {
    header = same_header;
    valid = stood.valid;
    others = drop (length old.messages) new.messages;
    known =
        sym (take-append-drop (length old.messages) new.messages)
        ∙ ap (λ (ms : List Message). ms ++ drop (length old.messages) new.messages) (more ∙ stood.messages);
  }

  pub ends_damaged : (offset : ℕ) (cause : Cause) → offset ≡ old.offset → HasMore → IfSome (with_front (on.taken ++ old.waiting.bytes) left) (λ bytes. StopsAt bytes old.offset cause) → Scans has file behind fold (scan_of (Damaged offset cause) new)
  ends_damaged offset cause same more stops = record {
    part = Some part;
    folded = on.folded;
    read = read_so_far more;
    ends = some_of_both file Begins (λ bytes. StopsAt bytes old.offset cause) (λ bytes. IsDamagedScan bytes (Some part) offset cause)
        (λ bytes front stop. is_damaged_scan bytes part on.taken offset stood.file stood.valid stood.within (same ∙ stood.offset) front cause (subst (λ (n : ℕ). StopsAt bytes n cause) (sym same) stop))
        begins (subst (λ (told : Told). IfSome told (λ bytes. StopsAt bytes old.offset cause)) (sym on.same) stops);
    whole = λ wrong. absurd cc;
  }

  pub ends_failed : HasMore → TookSuch (λ bytes. IsCutAt (on.taken ++ bytes) old.offset) (with_front old.waiting.bytes left) behind → Scans has file behind fold (scan_of ReadFault new)
  ends_failed more (bytes, parted, cut) = record {
    part = Some part;
    folded = on.folded;
    read = read_so_far more;
    ends = (
      on.taken ++ bytes,
      on.same ∙ file_behind on.taken old.waiting.bytes bytes left behind parted,
      is_cut_scan (on.taken ++ bytes) part on.taken old.offset stood.file stood.valid stood.within stood.offset (bytes, refl) cut,
    );
    whole = λ wrong. absurd cc;
  }

-- ---- no header

pub without_header : {V E : Type 0} (has : V → Option LogPart → Type 0) (file left : Told) (fold : V) (fault : BlockFault) (result : Result Scan E) → has fold None → IfOk result (λ scan. (scan.reader ≡ None) × EndsAtHeader fault scan.end)
    → ((cause : Cause) → fault ≡ reading.Damaged cause → IfSome file (λ bytes. Break bytes 0 cause)) → (fault ≡ reading.ReadFault → TookSuch (λ bytes. Break bytes 0 causes.Cut) file left) → IfOk result (Scans has file left fold)
without_header has file left fold fault (Err e) folded ended breaks cut = tt
without_header has file left fold fault (Ok scan) folded (none, ended) breaks cut =
    subst (Scans has file left fold) (λ i. record { end = scan.end; reader = sym none i }) (by_fault fault scan.end ended breaks cut)
  where
    cut_header : TookSuch (λ bytes. Break bytes 0 causes.Cut) file left → TookSuch (λ bytes. IsCutScan bytes None) file left
    cut_header (bytes, parted, broken) = (bytes, parted, header_cut bytes broken)

    by_fault : (f : BlockFault) (end : ScanEnd) → EndsAtHeader f end → ((cause : Cause) → f ≡ reading.Damaged cause → IfSome file (λ bytes. Break bytes 0 cause)) → (f ≡ reading.ReadFault → TookSuch (λ bytes. Break bytes 0 causes.Cut) file left) → Scans has file left fold (record { end = end; reader = None })
    by_fault (reading.Damaged cause) end is breaks cut =
        subst (λ (e : ScanEnd). Scans has file left fold (record { end = e; reader = None })) (sym is) (record {
          part = None;
          folded = folded;
          read = tt;
          ends = some_of file (λ bytes. Break bytes 0 cause) (λ bytes. IsDamagedScan bytes None 0 cause) (λ bytes broken. header_damaged bytes cause broken) (breaks cause refl);
          whole = λ wrong. absurd cc;
        })
    by_fault reading.ReadFault end is breaks cut =
        subst (λ (e : ScanEnd). Scans has file left fold (record { end = e; reader = None })) (sym is) (record {
          part = None;
          folded = folded;
          read = tt;
          ends = cut_header (cut refl);
          whole = λ wrong. absurd cc;
        })
    by_fault reading.NoMemory end is breaks cut = absurd is

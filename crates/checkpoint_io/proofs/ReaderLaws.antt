-- The next block of a reader.
use Rattle.std.proofs.Common.{Bool, false, ◌||◌, ◌≡◌, ℕ, ◌<◌, ◌≤◌, List, [], ◌∷◌, ◌++◌, length, Some, None, refl, sym, ap, subst, ◌∙◌, inl, inr, append_assoc, arith}
use Rattle.std.specs.Prelude.{IfSome, Result, Ok, Err}
use Rattle.std.specs.List.{list_any}
use Rattle.std.proofs.lemmas.Bool.{cases_lt}
use Rattle.std.proofs.lemmas.Bool.Decides.{eqb_tells}
use Rattle.std.proofs.lemmas.List.{append-nil, length-append}
use Rattle.nl_io.specs.Content.{Told, IsAtEnd}
use Rattle.log_dictionary.specs.declared.clock.Clock.{Clock}
use Rattle.log_dictionary.specs.declared.message.Message.{Message}
use Rattle.log_dictionary.specs.Clocks.{last_tick}
use Rattle.checkpoint_io.specs.declared.cause.Cause.{Cause}
use Rattle.checkpoint_io.specs.declared.cause.Cause.TheVariants as causes
use Rattle.checkpoint_io.specs.declared.fault.BlockFault.{BlockFault}
use Rattle.checkpoint_io.specs.declared.fault.BlockFault.TheVariants.{Damaged, ReadFault, NoMemory}
use Rattle.checkpoint_io.specs.declared.header.Header.{Header}
use Rattle.checkpoint_io.specs.declared.writers.WriterState.{WriterState}
use Rattle.checkpoint_io.specs.declared.block.Block.{Block as ReadBlock}
use Rattle.checkpoint_io.specs.Blocks.{Block, Fragment, Extent, NewClock, Close, messages_of, clocks_of, SpellsBlock, FileOf}
use Rattle.checkpoint_io.specs.Validity.{closes, IsRightAfter, AreRightAfter, Valid}
use Rattle.checkpoint_io.specs.Reading.{block_at}
use Rattle.checkpoint_io.specs.Fronts.{Break, at_block, IsCutAt}
use Rattle.checkpoint_io.specs.Places.{UnreadBytes, LogPlace, with_front, log_place, StandsBetween, TookSuch, Refuses, TookFewer}
use Rattle.checkpoint_io.specs.Writers.{closed_kept, AreStatesOf}
use Rattle.checkpoint_io.specs.Times.{TimeState, AreTimesOf}
use Rattle.checkpoint_io.specs.Readers.{ReaderState, StandsFor}
use Rattle.checkpoint_io.specs.NextBlocks.{Describes, HasBody, times_behind, MayCount, TakesBlock, TakesNext, EndsThere, StopsAt}
use Rattle.checkpoint_io.proofs.lemmas.FileLaws.{with_front-both}
use Rattle.checkpoint_io.proofs.lemmas.FrontLaws.{file_goes_on}
use Rattle.checkpoint_io.proofs.lemmas.ValidityLaws.{goes_on, messages_differ}
use Rattle.checkpoint_io.proofs.ReadingForms.{block_taken}
use Rattle.checkpoint_io.proofs.WriterLaws.{far_kept}

-- ---- the end

no_bytes : (bytes : List ℕ) → length bytes < 1 → bytes ≡ []
no_bytes [] short = refl
no_bytes (byte ∷ bytes) short = absurd (omega (arith, short))

at_end : (bytes : List ℕ) (told : Told) → bytes ≡ [] → IsAtEnd told → IsAtEnd (with_front bytes told)
at_end bytes None none ended = tt
at_end bytes (Some content) none ended = ap (λ (b : List ℕ). b ++ content) none ∙ ended

pub ends_there : (old new : ReaderState) (taken : List ℕ) (before : StandsFor old taken) (left behind : Told) → new.header ≡ old.header → new.messages ≡ old.messages → new.writers ≡ old.writers → new.times ≡ old.times → new.offset ≡ old.offset → new.waiting.offset ≡ old.waiting.offset → with_front new.waiting.bytes behind ≡ with_front old.waiting.bytes left → length new.waiting.bytes < 1 → IsAtEnd behind
    → EndsThere old new taken before left behind
ends_there old new taken before left behind header messages writers times offset start same short ended = record {
  ended = subst IsAtEnd same (at_end new.waiting.bytes behind (no_bytes new.waiting.bytes short) ended);
  joined = sym same;
  stands = record {
    blocks = before.blocks;
    file = subst (λ (h : Header). FileOf h before.blocks taken) (sym header) before.file;
    valid = subst (λ (h : Header). Valid h before.blocks) (sym header) before.valid;
    messages = messages ∙ before.messages;
    states = subst (λ (h : Header). AreStatesOf new.writers h before.blocks) (sym header) (subst (λ (w : List WriterState). AreStatesOf w old.header before.blocks) (sym writers) before.states);
    times = subst (λ (h : Header). AreTimesOf new.times h before.blocks) (sym header) (subst (λ (t : TimeState). AreTimesOf t old.header before.blocks) (sym times) before.times);
    offset = offset ∙ before.offset;
    at = start ∙ before.at;
    within = before.within;
  };
  blocks = refl;
}

-- ---- a block

-- the block that was taken is spelled by the bytes between, and is right
record IsRight (header : Header) (before : List Block) (block : Block) (front : List ℕ) : Type 0 where
  spelled : SpellsBlock (messages_of before) header block front
  right : IsRightAfter header before block

is_right : (header : Header) (before : List Block) (block : Block) (from to : LogPlace) → Valid header before → (takes : StandsBetween (block_at header before) block from to) → IsRight header before block takes.front
is_right header before block from to valid takes =
    let whole = ap (block_at header before) (sym (append-nil takes.front)) ∙ takes.found [] in
    let read = block_taken header before takes.front block [] (messages_differ header before valid).distinct takes.passes.small whole in
    let same : read.front ≡ takes.front = sym (append-nil read.front) ∙ sym read.joined in
    record { spelled = subst (SpellsBlock (messages_of before) header block) same read.spelled; right = read.right }

-- a clock that was read is one that may follow
may_count : (told : ReadBlock) (block : Block) (times : TimeState) (header : Header) (before : List Block) → Describes told block → times.clocks ≡ clocks_of header before → IsRightAfter header before block → MayCount told times
may_count told (Fragment first messages) times header before tells clocks right = subst (λ (b : ReadBlock). MayCount b times) (sym tells) tt
may_count told (Extent writer records) times header before tells clocks right = subst (λ (b : ReadBlock). MayCount b times) (sym tells) tt
may_count told (NewClock clock) times header before tells clocks right =
    subst (λ (b : ReadBlock). MayCount b times) (sym tells)
    (omega (arith, right.few, ap length clocks), subst (λ (l : List Clock). last_tick l < clock.tick) (sym clocks) right.rising, right.rate)
may_count told (Close writer) times header before tells clocks right = subst (λ (b : ReadBlock). MayCount b times) (sym tells) tt

pub takes_next : (old new : ReaderState) (taken : List ℕ) (before : StandsFor old taken) (told : ReadBlock) (times : TimeState) (mid : UnreadBytes) (left between behind : Told) → with_front mid.bytes between ≡ with_front old.waiting.bytes left → mid.offset ≡ old.waiting.offset → new.header ≡ old.header → (MayCount told times → new.times ≡ times_behind told times) → new.offset ≡ new.waiting.offset → new.waiting.offset ≤ 134217728 → times.clocks ≡ old.times.clocks
    → TakesBlock old.header before.blocks told new.messages new.writers times new.body (log_place mid between) (log_place new.waiting behind) → TakesNext old new taken before told left behind
takes_next old new taken before told times mid left between behind same start header counts offset within clocks takes =
    let block = takes.block in
    let front = takes.takes.front in
    let is = is_right old.header before.blocks block (log_place mid between) (log_place new.waiting behind) before.valid takes.takes in
    let passes = takes.takes.passes.offset in
    let at = before.at in
    let len = length-append taken front in
    let blocks = before.blocks ++ block ∷ [] in
    record {
      block = block;
      tells = takes.tells;
      body = subst (λ (h : Header). HasBody h.clock.tick new.messages block new.body) (sym header) takes.body;
      front = front;
      joined = sym same ∙ takes.takes.passes.ahead ∙ sym (with_front-both front new.waiting.bytes behind);
      stands = record {
        blocks = blocks;
        file = subst (λ (h : Header). FileOf h blocks (taken ++ front)) (sym header) (file_goes_on old.header before.blocks block taken front before.file is.spelled);
        valid = subst (λ (h : Header). Valid h blocks) (sym header) (goes_on old.header before.blocks block before.valid is.right);
        messages = takes.defined;
        states = subst (λ (h : Header). AreStatesOf new.writers h blocks) (sym header) takes.states;
        times = subst (λ (h : Header). AreTimesOf new.times h blocks) (sym header) (subst (λ (t : TimeState). AreTimesOf t old.header blocks) (sym (counts (may_count told block times old.header before.blocks takes.tells (clocks ∙ before.times.clocks_are) is.right))) takes.times_are);
        offset = omega (arith, offset, passes, start, at, len, within);
        at = omega (arith, passes, start, at, len, within);
        within = omega (arith, passes, start, at, len, within);
      };
      blocks = refl;
    }

-- ---- where it stops

pub same_damage : {T : Type 0} (a b : Cause) → ◌≡◌ {A = Result T BlockFault} (Err (Damaged a)) (Err (Damaged b)) → a ≡ b
same_damage {T} a b e = ap damage e
  where
    damage : Result T BlockFault → Cause
    damage (Ok x) = a
    damage (Err (Damaged cause)) = cause
    damage (Err ReadFault) = a
    damage (Err NoMemory) = a

-- what holds of the whole file
in_file : (taken waiting : List ℕ) (left : Told) (P : List ℕ → Type 0) → IfSome (with_front waiting left) (λ bytes. P (taken ++ bytes)) → IfSome (with_front (taken ++ waiting) left) P
in_file taken waiting None P there = tt
in_file taken waiting (Some content) P there = subst P (sym (append_assoc taken waiting content)) there

pub breaks_next : (old : ReaderState) (taken : List ℕ) (before : StandsFor old taken) (mid : UnreadBytes) (left between behind : Told) (cause : Cause) → with_front mid.bytes between ≡ with_front old.waiting.bytes left → 1 ≤ length mid.bytes → Refuses (block_at old.header before.blocks) (log_place mid between) behind (Damaged cause)
    → IfSome (with_front (taken ++ old.waiting.bytes) left) (λ bytes. StopsAt bytes old.offset cause)
breaks_next old taken before mid left between behind cause same some refused =
    in_file taken old.waiting.bytes left (λ bytes. StopsAt bytes old.offset cause) (subst (λ (told : Told). IfSome told (λ bytes. StopsAt (taken ++ bytes) old.offset cause)) same (there between refused))
  where
    there : (told : Told) → IfSome (with_front mid.bytes told) (λ bytes. block_at old.header before.blocks bytes ≡ Err cause) → IfSome (with_front mid.bytes told) (λ bytes. StopsAt (taken ++ bytes) old.offset cause)
    there None reads = tt
    there (Some content) reads =
        inl (subst (λ (n : ℕ). Break (taken ++ (mid.bytes ++ content)) n cause) (sym before.offset)
        (at_block old.header before.blocks taken (mid.bytes ++ content) cause refl before.file before.valid (omega (arith, some, length-append mid.bytes content)) reads))

-- where no bytes stand behind what the reader stood for, or those that do end inside a block
cut_behind : (old : ReaderState) (taken : List ℕ) (before : StandsFor old taken) (bytes : List ℕ) → block_at old.header before.blocks bytes ≡ Err causes.Cut → IsCutAt (taken ++ bytes) old.offset
cut_behind old taken before [] reads =
    subst (λ (b : List ℕ). IsCutAt b old.offset) (sym (append-nil taken)) (inr (old.header, before.blocks, before.file, before.valid, before.offset))
cut_behind old taken before (byte ∷ rest) reads =
    inl (subst (λ (n : ℕ). Break (taken ++ byte ∷ rest) n causes.Cut) (sym before.offset) (at_block old.header before.blocks taken (byte ∷ rest) causes.Cut refl before.file before.valid (omega arith) reads))

-- a read failed behind what the reader stood for
pub cut_next : (old : ReaderState) (taken : List ℕ) (before : StandsFor old taken) (mid : UnreadBytes) (left between behind : Told) → with_front mid.bytes between ≡ with_front old.waiting.bytes left → Refuses (block_at old.header before.blocks) (log_place mid between) behind ReadFault
    → TookSuch (λ bytes. IsCutAt (taken ++ bytes) old.offset) (with_front old.waiting.bytes left) behind
cut_next old taken before mid left between behind same (bytes, split, reads) = (bytes, sym same ∙ split, cut_behind old taken before bytes reads)

-- a read failed before any byte of a block came
pub none_next : (header : Header) (blocks : List Block) (from : LogPlace) (left : Told) → TookFewer 1 from left → Refuses (block_at header blocks) from left ReadFault
none_next header blocks from left (bytes, split, none) = (bytes, split, ap (block_at header blocks) (no_bytes bytes none))

pub too_large : (old : ReaderState) (taken : List ℕ) (before : StandsFor old taken) (told : ReadBlock) (mid : UnreadBytes) (left between : Told) (to : LogPlace) (messages : List Message) (writers : List WriterState) (times : TimeState) (kept_body : List ℕ) → with_front mid.bytes between ≡ with_front old.waiting.bytes left → mid.offset ≡ old.waiting.offset → 134217728 < to.offset → TakesBlock old.header before.blocks told messages writers times kept_body (log_place mid between) to
    → IfSome (with_front (taken ++ old.waiting.bytes) left) (λ bytes. StopsAt bytes old.offset causes.TooLarge)
too_large old taken before told mid left between to messages writers times kept_body same start large takes =
    in_file taken old.waiting.bytes left (λ bytes. StopsAt bytes old.offset causes.TooLarge)
    (subst (λ (t : Told). IfSome t (λ bytes. StopsAt (taken ++ bytes) old.offset causes.TooLarge)) (sym takes.takes.passes.ahead ∙ same) (there to.ahead))
  where
    there : (told : Told) → IfSome (with_front takes.takes.front told) (λ bytes. StopsAt (taken ++ bytes) old.offset causes.TooLarge)
    there None = tt
    there (Some rest) =
        let front = takes.takes.front in
        let is = is_right old.header before.blocks takes.block (log_place mid between) to before.valid takes.takes in
        let passes = takes.takes.passes.offset in
        let at = before.at in
        inr (
          refl,
          record {
            header = old.header;
            blocks = before.blocks;
            block = takes.block;
            front = taken;
            rest = front ++ rest;
            joined = refl;
            file = before.file;
            ends = before.offset;
            count = length (taken ++ front);
            begins = record {
              prefix = taken ++ front;
              rest = rest;
              whole = sym (append_assoc taken front rest);
              taken = refl;
              file = file_goes_on old.header before.blocks takes.block taken front before.file is.spelled;
              valid = goes_on old.header before.blocks takes.block before.valid is.right;
            };
            large = omega (arith, large, passes, start, at, length-append taken front);
          },
        )

-- ---- closed writers

none_far : (header : Header) (before blocks : List Block) (writer : ℕ) → AreRightAfter header before blocks → header.writers ≤ writer → list_any (closes writer) blocks ≡ false
none_far header before [] writer right far = refl
none_far header before (Fragment first messages ∷ blocks) writer right far = none_far header _ blocks writer right.1 far
none_far header before (Extent w records ∷ blocks) writer right far = none_far header _ blocks writer right.1 far
none_far header before (NewClock clock ∷ blocks) writer right far = none_far header _ blocks writer right.1 far
none_far header before (Close w ∷ blocks) writer right far =
    let known = right.0.known in
    elim (eqb_tells w writer) [
      | inl same ↦ absurd (omega (arith, known, far, same.1))
      | inr differs ↦ ap (λ (b : Bool). b || list_any (closes writer) blocks) differs.0 ∙ none_far header _ blocks writer right.1 far
    ]

-- what is kept tells of each number whether its mark was read
pub closed_answer : (reader : ReaderState) (taken : List ℕ) (stands : StandsFor reader taken) (writer : ℕ) → closed_kept reader.writers writer ≡ list_any (closes writer) stands.blocks
closed_answer reader taken stands writer = elim (cases_lt writer reader.header.writers) [
  | inl known ↦ stands.states.closed writer known
  | inr far ↦ far_kept reader.writers writer (omega (arith, stands.states.many, far)) ∙ sym (none_far reader.header [] stands.blocks writer stands.valid.blocks_right far)
]

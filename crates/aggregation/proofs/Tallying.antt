-- Blocks that are read one after the other, and their tally.
use Rattle.std.proofs.Common.{◌≡◌, ℕ, ◌+◌, ◌≤◌, List, [], ◌∷◌, ◌++◌, length, ap, sym, ◌∙◌, subst, arith}
use Rattle.std.proofs.lemmas.List.{append-nil, length-append}
use Rattle.log_dictionary.specs.declared.message.Message.{Message}
use Rattle.buffer_extent.specs.Bodies.{IsBody}
use Rattle.checkpoint_io.specs.declared.header.Header.{Header}
use Rattle.checkpoint_io.specs.Readers.{ReaderState}
use Rattle.arg_records.specs.declared.call.Call.{Call}
use Rattle.checkpoint_io.specs.declared.block.Block.{Block as ReadBlock}
use Rattle.checkpoint_io.specs.declared.block.Block.TheVariants as read
use Rattle.checkpoint_io.specs.Blocks.{Block, Extent, messages_of, all_records, FileOf}
use Rattle.checkpoint_io.specs.NextBlocks.{Describes}
use Rattle.checkpoint_io.proofs.lemmas.FileLaws.{is_extent}
use Rattle.checkpoint_io.proofs.lemmas.ValidityLaws.{messages-push, all_records-push}
use Rattle.log_scan.specs.Parts.{LogPart, StandsNext}
use Rattle.log_scan.proofs.lemmas.Records.{file_short}
use Rattle.aggregation.specs.declared.totals.Totals.{Totals}
use Rattle.aggregation.specs.declared.tally.Tally.{Tally}
use Rattle.aggregation.specs.Totals.{totals_of, argument_totals, numbers_in, Adds}
use Rattle.aggregation.specs.Tallying.{IsTally}
use Rattle.aggregation.proofs.Records.{numbers_few, numbers-push}

-- ---- what a block adds

module _ (part : LogPart) (reader : ReaderState) (told : ReadBlock) (block : Block) (next : StandsNext part reader told block) (tally : Tally) (is : IsTally part.blocks tally) where
  abbrev behind : List Block
  behind = part.blocks ++ block ∷ []

  -- the tally is of the same argument
  abbrev pub IsSame : Tally → Type 0
  IsSame changed = (changed.id ≡ tally.id) × (changed.nth ≡ tally.nth)

  same_argument : (changed : Tally) → IsSame changed → argument_totals behind tally.id tally.nth ≡ argument_totals behind changed.id changed.nth
  same_argument changed same = λ i. argument_totals behind (sym same.0 i) (sym same.1 i)

  -- ---- an extent

  module _ (writer : ℕ) (named : told ≡ read.Extent writer) where
    extent : (records : List Call) × (block ≡ Extent writer records) × (last : ℕ) × IsBody reader.messages part.header.clock.tick last records reader.body
    extent = is_extent part.header.clock.tick writer reader.messages reader.body block (subst (λ (t : ReadBlock). Describes t block) named next.tells) next.body

    abbrev records : List Call
    records = extent.0

    extent_is : block ≡ Extent writer records
    extent_is = extent.1

    -- its records are no more than the most bytes that are read, with those before
    few_records : tally.totals.count + length records ≤ 134217728
    few_records =
        let blocks : List Block = part.blocks ++ Extent writer records ∷ [] in
        let file : FileOf part.header blocks next.bytes = subst (λ (b : Block). FileOf part.header (part.blocks ++ b ∷ []) next.bytes) extent_is next.file in
        let all : length (all_records blocks) ≡ length (all_records part.blocks) + length records =
        ap length (all_records-push part.blocks (Extent writer records)) ∙ length-append (all_records part.blocks) records in
        omega (
          arith,
          all,
          ap (λ (t : Totals). t.count) is.totals,
          numbers_few tally.id tally.nth (all_records part.blocks),
          file_short part.header blocks next.bytes file,
          next.within,
        )

    -- the reader has its body
    own_body : (header : Header) (messages : List Message) (body : List ℕ) → header ≡ reader.header → messages ≡ reader.messages → body ≡ reader.body → IsBody messages header.clock.tick extent.2 records body
    own_body header messages body header_is messages_are body_is =
        subst (λ (b : List ℕ). IsBody messages header.clock.tick extent.2 records b) (sym body_is)
        (subst (λ (ms : List Message). IsBody ms header.clock.tick extent.2 records reader.body) (sym messages_are)
        (subst (λ (h : Header). IsBody reader.messages h.clock.tick extent.2 records reader.body) (sym (header_is ∙ next.header)) extent.3))

    pub its_body : (header : Header) (messages : List Message) (body : List ℕ) → header ≡ reader.header → messages ≡ reader.messages → body ≡ reader.body
        → (last : ℕ) × (own : List Call) × IsBody messages header.clock.tick last own body × (tally.totals.count + length own ≤ 134217728)
    its_body header messages body header_is messages_are body_is = (extent.2, records, own_body header messages body header_is messages_are body_is, few_records)

    pub extent_tallied : (header : Header) (messages : List Message) (body : List ℕ) (changed : Tally) → header ≡ reader.header → messages ≡ reader.messages → body ≡ reader.body → IsSame changed → changed.defined ≡ tally.defined
        → ((last : ℕ) (own : List Call) → IsBody messages header.clock.tick last own body → Adds tally.totals changed.totals (numbers_in tally.id tally.nth own) (length own)) → IsTally behind changed
    extent_tallied header messages body changed header_is messages_are body_is same kept each =
        let adds : Adds tally.totals changed.totals (numbers_in tally.id tally.nth records) (length records) = each extent.2 records (own_body header messages body header_is messages_are body_is) in
        let numbers = numbers-push tally.id tally.nth part.blocks (Extent writer records) in
        let blocks : part.blocks ++ Extent writer records ∷ [] ≡ behind = ap (λ (b : Block). part.blocks ++ b ∷ []) (sym extent_is) in
        let defined : messages_of (part.blocks ++ Extent writer records ∷ []) ≡ messages_of part.blocks = messages-push part.blocks (Extent writer records) ∙ append-nil (messages_of part.blocks) in
        record {
          defined = kept ∙ is.defined ∙ ap length (sym defined) ∙ ap (λ (bs : List Block). length (messages_of bs)) blocks;
          totals =
              adds.totals (numbers_in tally.id tally.nth (all_records part.blocks)) is.totals
              ∙ ap totals_of (sym numbers)
              ∙ ap (λ (bs : List Block). argument_totals bs tally.id tally.nth) blocks
              ∙ same_argument changed same;
          within = adds.within;
        }

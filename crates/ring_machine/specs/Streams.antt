-- The words that an end of a ring stores or reads, one behind the other, and what they come to. A position counts the
-- places that were filled or skipped since the ring was made; the place of a position is its remainder by the ring's size.
use Rattle.std.specs.Prelude.{◌≡◌, ℕ, ◌+◌, ◌-◌, ◌%◌, ◌/◌, ◌<◌, ◌≤◌, ◌⊎◌, ◌==◌, nat_le, Bool, false, if◌then◌else◌, List, [], ◌∷◌, ◌++◌, length}
use Rattle.arg_records.specs.declared.frame.TheConstants.{MAX_FRAME_WORDS}
use Rattle.log_dictionary.specs.declared.dictionary.TheConstants.{MAX_MESSAGES}

-- Where a stream of words has come to: the position behind it, the frames that are whole, and the words of one that isn't
-- whole yet.
pub record Walk : Type 0 where
  pub at : ℕ
  pub frames : List (List ℕ)
  pub part : List ℕ

-- before the first word
abbrev pub start : Walk
start = record { at = 0; frames = []; part = [] }

-- how many words the frame has that begins with these: its first word tells it
abbrev pub frame_len : List ℕ → ℕ
frame_len [] = 0
frame_len (head ∷ words) = head % 65536

-- the frame that begins with these words is whole
abbrev pub is_whole_frame : List ℕ → Bool
is_whole_frame words = frame_len words == length words

-- the word is a wrap mark, behind these words of a frame that isn't whole
abbrev pub is_wrap_mark : List ℕ → ℕ → Bool
is_wrap_mark [] word = word == 0
is_wrap_mark (head ∷ words) word = false

-- the position of the ring's next beginning
abbrev pub next_lap : ℕ → ℕ → ℕ
next_lap size at = at + (size - at % size)

-- the walk with a wrap mark more: it goes on at the ring's next beginning
abbrev pub skipped : ℕ → Walk → Walk
skipped size w = record { at = next_lap size w.at; frames = w.frames; part = w.part }

-- the walk with a word more, which makes these words a whole frame
abbrev pub framed : Walk → List ℕ → Walk
framed w words = record { at = w.at + 1; frames = w.frames ++ words ∷ []; part = [] }

-- the walk with a word more, the last of these words of a frame that isn't whole
abbrev pub parted : Walk → List ℕ → Walk
parted w words = record { at = w.at + 1; frames = w.frames; part = words }

-- a word more, in a ring of this size
unfoldable pub onward : ℕ → Walk → ℕ → Walk
onward size w word =
    if is_wrap_mark w.part word then skipped size w
    else (if is_whole_frame (w.part ++ word ∷ []) then framed w (w.part ++ word ∷ [])
    else parted w (w.part ++ word ∷ []))

-- these words more
abbrev pub walk_from : ℕ → Walk → List ℕ → Walk
walk_from size w [] = w
walk_from size w (word ∷ words) = walk_from size (onward size w word) words

-- where these words come to
abbrev pub walk : ℕ → List ℕ → Walk
walk size words = walk_from size start words

-- a frame may begin with this word, in a ring of so many words, at this position: its length and its id are in their ranges,
-- and it doesn't cross the ring's end
pub record Begins (size at word : ℕ) : Type 0 where
  pub least : 2 ≤ word % 65536
  pub most : word % 65536 ≤ MAX_FRAME_WORDS
  pub id : word / 65536 < MAX_MESSAGES
  pub inside : at % size + word % 65536 ≤ size

-- the word is a wrap mark where there is something to skip
pub record Wraps (size at word : ℕ) : Type 0 where
  pub mark : word ≡ 0
  pub inside : 1 ≤ at % size

-- the word may come next
abbrev pub MayCome : ℕ → Walk → ℕ → Type 0
MayCome size w word = w.part ≡ [] → Wraps size w.at word ⊎ Begins size w.at word

-- the word may come next, and what it begins, a frame or a skip, ends at the limit or before it
abbrev pub FitsWithin : ℕ → ℕ → Walk → ℕ → Type 0
FitsWithin size limit w word =
    w.part ≡ []
    → (Wraps size w.at word × (next_lap size w.at ≤ limit)) ⊎ (Begins size w.at word × (w.at + word % 65536 ≤ limit))

-- these words may come next, one behind the other
abbrev pub AllMayCome : ℕ → Walk → List ℕ → Type 0
AllMayCome size w [] = Unit {0}
AllMayCome size w (word ∷ words) = MayCome size w word × AllMayCome size (onward size w word) words

-- the words are frames and wrap marks, the last frame perhaps not whole
abbrev pub IsStream : ℕ → List ℕ → Type 0
IsStream size words = AllMayCome size start words

-- a frame was begun at a position and isn't whole yet. It doesn't cross the ring's end, and ends at the limit or before it
pub record IsBegun (size limit : ℕ) (w : Walk) : Type 0 where
  pub begin : ℕ
  pub at_is : w.at ≡ begin + length w.part
  pub short : length w.part < frame_len w.part
  pub inside : begin % size + frame_len w.part ≤ size
  pub room : begin + frame_len w.part ≤ limit

-- at this position stands the stream's beginning, or the end of a whole frame or of a skip
pub record FrameEndsAt (size : ℕ) (words : List ℕ) (position : ℕ) : Type 0 where
  pub front : List ℕ
  pub back : List ℕ
  pub words_are : words ≡ front ++ back
  pub at_is : (walk size front).at ≡ position
  pub whole : (walk size front).part ≡ []

-- the frames that these words complete, up to this position
abbrev pub frames_up_to : ℕ → ℕ → Walk → List ℕ → List (List ℕ)
frames_up_to size position w [] = w.frames
frames_up_to size position w (word ∷ words) =
    if nat_le (onward size w word).at position then frames_up_to size position (onward size w word) words else w.frames

-- the words begin with these
pub record WordsBeginWith (words front : List ℕ) : Type 0 where
  pub rest : List ℕ
  pub words_are : words ≡ front ++ rest

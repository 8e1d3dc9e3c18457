-- What taking does to a roamer's end.
use Rattle.std.specs.Prelude.{◌≡◌, ℕ, ◌+◌, ◌%◌, ◌≤◌, ◌⊎◌, Bool, true, false, if◌then◌else◌, List, [], ◌∷◌, ◌++◌, length, take}
use Rattle.arg_records.specs.declared.frame.TheConstants.{MAX_FRAME_WORDS}
use Rattle.nl_io.specs.Count.{counted}
use Rattle.ring_core.specs.declared.answers.Taken.{Taken}
use Rattle.ring_core.specs.declared.answers.Taken.TheVariants as answers
use Rattle.ring_core.specs.Plans.{Lawful}
use Rattle.ring_core.specs.Counts.{RisesBy}
use Rattle.word_ring.specs.Ends.{WordRoamerEnd}

-- the producer word was loaded once at most
pub record LoadsOnce (before after : ℕ) : Type 0 where
  pub once : (after ≡ before) ⊎ (after ≡ counted before)
  pub rises : before ≤ after

-- ---- parts of a call

-- the frame that was next among the words that are loaded was taken and released
pub record TakesLoaded (old : WordRoamerEnd) (frame : List ℕ) (new : WordRoamerEnd) : Type 0 where
  pub same : new ≡ record old {
    got = old.got ++ frame ∷ [];
    at = old.at + length frame;
    released = old.at + length frame;
    steps = new.steps;
  }
  pub lawful : Lawful old.plan new.got
  pub steps : RisesBy (length frame + 1) old.steps new.steps

-- a wrap mark was next, behind which the ring begins anew
pub record SkipsMark (old new : WordRoamerEnd) : Type 0 where
  pub same : new ≡ record old { at = new.at; steps = new.steps }
  pub mark : 1 ≤ old.at % old.words
  pub beginning : new.at % old.words ≡ 0
  pub steps : RisesBy 1 old.steps new.steps

-- the answer where no words are left, by whether the ring is known to be closed
abbrev pub answer_of : Bool → Taken
answer_of learnt = if learnt then answers.Ended else answers.Nothing

-- ---- a call

-- a frame was taken, which is lawful behind the others, and its places are released
pub record TakesFrame (old : WordRoamerEnd) (frame : List ℕ) (new : WordRoamerEnd) : Type 0 where
  pub not_ended : old.ended ≡ false
  pub same : new ≡ record old {
    got = old.got ++ frame ∷ [];
    at = new.at;
    released = new.at;
    loaded = new.loaded;
    learnt = new.learnt;
    loads = new.loads;
    steps = new.steps;
  }
  pub lawful : Lawful old.plan new.got
  pub loads : LoadsOnce old.loads new.loads
  pub steps : RisesBy (length frame + 3) old.steps new.steps

-- all was taken that was published when the producer word was loaded, once in this call, and the ring wasn't closed then
pub record TakesNothing (old new : WordRoamerEnd) : Type 0 where
  pub not_ended : old.ended ≡ false
  pub same : new ≡ record old {
    at = new.at;
    loaded = new.loaded;
    learnt = false;
    loads = counted old.loads;
    steps = new.steps;
  }
  pub all : new.at ≡ new.loaded
  pub loads : old.loads ≤ new.loads
  pub steps : RisesBy 3 old.steps new.steps

-- all was taken that was ever published, and the ring is known to be closed
pub record TakesEnd (old new : WordRoamerEnd) : Type 0 where
  pub same : new ≡ record old {
    at = new.at;
    loaded = new.loaded;
    learnt = true;
    ended = true;
    loads = new.loads;
    steps = new.steps;
  }
  pub all : new.at ≡ new.loaded
  pub again : old.ended ≡ true → new ≡ old
  pub loads : LoadsOnce old.loads new.loads
  pub steps : RisesBy 3 old.steps new.steps

-- the frame, if there is one, stands at the front of `into`
abbrev pub IsTaken : WordRoamerEnd → List ℕ → Taken → WordRoamerEnd → Type 0
IsTaken old into (answers.Frame n) new = (n ≤ MAX_FRAME_WORDS) × TakesFrame old (take n into) new
IsTaken old into answers.Nothing new = TakesNothing old new
IsTaken old into answers.Ended new = TakesEnd old new

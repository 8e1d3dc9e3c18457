-- What the lines of the version, of clocks and of the number of writers say.
use Rattle.std.proofs.Common.{◌≡◌, ◌≢◌, ℕ, ◌<◌, ◌≤◌, ◌^◌, Bool, true, false, cond, eqb, leb, List, ◌∷◌, ◌++◌, length, ⊎_elim, Option, Some, None, Result, Ok, refl, sym, ap, ◌∙◌, subst, append_assoc, inl, arith}
use Rattle.std.specs.Prelude.{codes, decimal, ◌&&◌}
use Rattle.std.specs.Option.{ok_or}
use Rattle.std.proofs.lemmas.Bool.{eqb-false, ne_eqb, and_parts, leb-true, leb-false, le-leb, lt-leb, and_right, or_cases, eqb-true}
use Rattle.std.proofs.lemmas.Option.{cond_some}
use Rattle.log_dictionary.specs.declared.clock.Clock.{Clock}
use Rattle.log_dictionary.specs.declared.clocks.TheConstants.{MAX_CLOCKS}
use Rattle.log_dictionary.specs.Clocks.{FitsClock, FollowsClocks, last_tick}
use Rattle.log_dictionary.specs.Fields.{◌>>=◌, after, split_at_first}
use Rattle.log_dictionary.proofs.lemmas.Splits.{split_again, split_takes, after_takes, found}
use Rattle.log_dictionary.proofs.lemmas.Lines.{decimal_none}
use Rattle.session_options.specs.Versions.{is_known, has_clocks, most_writers}
use Rattle.session_options.proofs.lemmas.VersionLimits.{few_writers}
use Rattle.trace_text.specs.declared.cause.TraceCause.{TraceCause}
use Rattle.trace_text.specs.declared.cause.TraceCause.TheVariants as causes
use Rattle.trace_text.specs.Lines.{first_line, clock_line, writers_line}
use Rattle.trace_text.specs.LineFields.{field_number, clock_of, clock_at, version_at, writers_at}
use Rattle.trace_text.specs.CallReading.{refused_if, ◌>>=◌ as ◌>>>◌}
use Rattle.trace_text.specs.Reading.{is_later_clock, later_clock}
use Rattle.trace_text.proofs.NumberFields.{number_read, number_taken}
use Rattle.trace_text.proofs.Arguments.{bind-ok, ok_or-ok, refused_if-ok}

pub split_number : (n : ℕ) (back : List ℕ) → n < 2 ^ 64 → split_at_first 32 (decimal n ++ 32 ∷ back) ≡ Some (decimal n, back)
split_number n back small = split_again 32 (decimal n) back (decimal_none 32 n (inl (omega arith)) small)

-- a word and three fields, the parts of a line
pub three_joined : (word line fields first rest second last a b c : List ℕ) → line ≡ word ++ fields → fields ≡ first ++ 32 ∷ rest → first ≡ a → rest ≡ second ++ 32 ∷ last → second ≡ b → last ≡ c → line ≡ word ++ (a ++ 32 ∷ (b ++ 32 ∷ c))
three_joined word line fields first rest second last a b c whole parted first_is parted_again second_is last_is = cc

-- ---- a word, and a number that passes a test

module _ (test : ℕ → Bool) where
  abbrev passing : ℕ → Option ℕ
  passing n = cond (test n) (Some n) None

  numbered_read : (n : ℕ) → n < 2 ^ 64 → test n ≡ true → (field_number (decimal n) >>= passing) ≡ Some n
  numbered_read n small passes = rw (number_read n small, passes) refl

  numbered_taken : (word line : List ℕ) (n : ℕ) → (after word line >>= field_number >>= passing) ≡ Some n → (line ≡ word ++ decimal n) × (test n ≡ true)
  numbered_taken word line n e =
      let number = found (after word line >>= field_number) passing n e in
      let field = found (after word line) field_number number.x number.first in
      let last = cond_some (test number.x) number.x n number.second in
      let spelled : line ≡ word ++ decimal number.x = after_takes word line field.x field.first ∙ ap (λ back. word ++ back) (number_taken field.x number.x field.second).0 in
      subst (λ m. (line ≡ word ++ decimal m) × (test m ≡ true)) last.1 (spelled, last.0)

-- ---- the version

known_small : (version : ℕ) → is_known version ≡ true → version ≤ 2
known_small version known = ⊎_elim
    (λ first. omega (arith, eqb-true version 1 first))
    (λ second. omega (arith, eqb-true version 2 second))
    (or_cases (eqb version 1) (eqb version 2) known)

-- the first line of a version is read as that version
pub version_read : (version : ℕ) → is_known version ≡ true → version_at (first_line version) ≡ Some version
version_read version known = numbered_read is_known version (omega (arith, known_small version known)) known

-- what a first line says
pub record SaysVersion (line : List ℕ) (version : ℕ) : Type 0 where
  pub spelled : line ≡ first_line version
  pub known : is_known version ≡ true

-- the first line of which a version is read is that version's
pub version_taken : (line : List ℕ) (version : ℕ) → version_at line ≡ Some version → SaysVersion line version
version_taken line version e =
    let says = numbered_taken is_known (codes "nanolog-trace ") line version e in
    record { spelled = says.0; known = says.1 }

-- ---- the number of writers

abbrev within : ℕ → ℕ → Bool
within version count = leb 1 count && leb count (most_writers version)

-- the line of a number of writers is read as that number
pub writers_read : (version count : ℕ) → 1 ≤ count → count ≤ most_writers version → writers_at version (writers_line count) ≡ Some count
writers_read version count some few =
    numbered_read (within version) count (omega (arith, few, few_writers version)) (rw (le-leb 1 count some, le-leb count (most_writers version) few) refl)

-- what a line of a number of writers says
pub record SaysWriters (version : ℕ) (line : List ℕ) (count : ℕ) : Type 0 where
  pub spelled : line ≡ writers_line count
  pub some : 1 ≤ count
  pub few : count ≤ most_writers version

-- the line of which a number of writers is read is that number's
pub writers_taken : (version : ℕ) (line : List ℕ) (count : ℕ) → writers_at version line ≡ Some count → SaysWriters version line count
writers_taken version line count e =
    let says = numbered_taken (within version) (codes "writers ") line count e in
    let both = and_parts (leb 1 count) (leb count (most_writers version)) says.1 in
    record { spelled = says.0; some = leb-true 1 count both.0; few = leb-true count (most_writers version) both.1 }

-- ---- a clock

abbrev nested : Clock → List ℕ
nested clock = codes "clock " ++ (decimal clock.tick ++ 32 ∷ (decimal clock.nanos ++ 32 ∷ decimal clock.rate))

clock_line-nested : (clock : Clock) → clock_line clock ≡ nested clock
clock_line-nested clock = simp append_assoc

-- the line of a clock is read as that clock
pub clock_read : (clock : Clock) → FitsClock clock → 1 ≤ clock.rate → clock_at (clock_line clock) ≡ Some clock
clock_read clock fits ticks =
    let some : eqb clock.rate 0 ≡ false = ne_eqb clock.rate 0 (λ e. omega (arith, e, ticks)) in
    let tick = split_number clock.tick (decimal clock.nanos ++ 32 ∷ decimal clock.rate) fits.tick in
    let nanos = split_number clock.nanos (decimal clock.rate) fits.nanos in
    ap clock_at (clock_line-nested clock) ∙ rw (tick, number_read clock.tick fits.tick, nanos, number_read clock.nanos fits.nanos, number_read clock.rate fits.rate, some) refl

-- what a line of a clock says
pub record SaysClock (line : List ℕ) (clock : Clock) : Type 0 where
  pub spelled : line ≡ clock_line clock
  pub fits : FitsClock clock
  pub ticks : 1 ≤ clock.rate

-- the steps by which a line of a clock is read, from the last to the first
abbrev at_rate : ℕ → ℕ → ℕ → Option Clock
at_rate tick nanos rate = cond (eqb rate 0) None (Some (record { tick = tick; nanos = nanos; rate = rate }))

abbrev at_nanos : ℕ → List ℕ → ℕ → Option Clock
at_nanos tick last nanos = field_number last >>= at_rate tick nanos

abbrev at_second : ℕ → List ℕ × List ℕ → Option Clock
at_second tick parts = field_number parts.0 >>= at_nanos tick parts.1

abbrev at_tick : List ℕ → ℕ → Option Clock
at_tick rest tick = split_at_first 32 rest >>= at_second tick

abbrev at_first : List ℕ × List ℕ → Option Clock
at_first parts = field_number parts.0 >>= at_tick parts.1

made_at : (b : Bool) (made clock : Clock) → cond b None (Some made) ≡ Some clock → (b ≡ false) × (made ≡ clock)
made_at true made clock e = absurd cc
made_at false made clock e = (refl, cc)

-- the line of which a clock is read is that clock's
pub clock_taken : (line : List ℕ) (clock : Clock) → clock_at line ≡ Some clock → SaysClock line clock
clock_taken line clock e =
    let fields = found (after (codes "clock ") line) clock_of clock e in
    let first = found (split_at_first 32 fields.x) at_first clock fields.second in
    let tick = found (field_number first.x.0) (at_tick first.x.1) clock first.second in
    let second = found (split_at_first 32 first.x.1) (at_second tick.x) clock tick.second in
    let nanos = found (field_number second.x.0) (at_nanos tick.x second.x.1) clock second.second in
    let rate = found (field_number second.x.1) (at_rate tick.x nanos.x) clock nanos.second in
    let made : Clock = record { tick = tick.x; nanos = nanos.x; rate = rate.x } in
    let last = made_at (eqb rate.x 0) made clock rate.second in
    let tick_is = number_taken first.x.0 tick.x tick.first in
    let nanos_is = number_taken second.x.0 nanos.x nanos.first in
    let rate_is = number_taken second.x.1 rate.x rate.first in
    let parted = split_takes 32 fields.x first.x.0 first.x.1 first.first in
    let parted_again = split_takes 32 first.x.1 second.x.0 second.x.1 second.first in
    let joined = three_joined (codes "clock ") line fields.x first.x.0 first.x.1 second.x.0 second.x.1 (decimal tick.x) (decimal nanos.x) (decimal rate.x) (after_takes (codes "clock ") line fields.x fields.first) parted.parts tick_is.0 parted_again.parts nanos_is.0 rate_is.0 in
    let spelled : line ≡ clock_line made = joined ∙ sym (clock_line-nested made) in
    let some : rate.x ≢ 0 = eqb-false rate.x 0 last.0 in
    let ticks : 1 ≤ rate.x = omega arith in
    subst (SaysClock line) last.1 (record { spelled = spelled; fits = record { tick = tick_is.1; nanos = nanos_is.1; rate = rate_is.1 }; ticks = ticks })

-- ---- a clock behind others

-- the line of a clock that may follow is read as that clock
pub later_read : (times : List Clock) (clock : Clock) → length times < MAX_CLOCKS → last_tick times < clock.tick → FitsClock clock → 1 ≤ clock.rate → later_clock times (clock_line clock) ≡ Ok clock
later_read times clock room above fits ticks =
    rw (lt-leb MAX_CLOCKS (length times) room, clock_read clock fits ticks, lt-leb clock.tick (last_tick times) above) refl

-- what a line of a clock says behind others
pub record SaysLaterClock (times : List Clock) (line : List ℕ) (clock : Clock) : Type 0 where
  pub spelled : line ≡ clock_line clock
  pub fits : FitsClock clock
  pub follows : FollowsClocks times clock

-- the steps by which such a line is read, from the last to the first
abbrev when_risen : List Clock → Clock → Result Clock TraceCause
when_risen times time = refused_if (leb time.tick (last_tick times)) causes.ClockOrder >>> (λ _. Ok time)

abbrev when_few : List Clock → List ℕ → Result Clock TraceCause
when_few times line = ok_or (clock_at line) causes.Clock >>> when_risen times

-- the line of which such a clock is read is that clock's
pub later_taken : (times : List Clock) (line : List ℕ) (clock : Clock) → later_clock times line ≡ Ok clock → SaysLaterClock times line clock
later_taken times line clock e =
    let few = bind-ok (refused_if (leb MAX_CLOCKS (length times)) causes.TooManyClocks) (λ _. when_few times line) clock e in
    let told = bind-ok (ok_or (clock_at line) causes.Clock) (when_risen times) clock few.2 in
    let risen = bind-ok (refused_if (leb told.0.tick (last_tick times)) causes.ClockOrder) (λ _. Ok told.0) clock told.2 in
    let says = clock_taken line told.0 (ok_or-ok _ _ _ told.1) in
    let same : told.0 ≡ clock = cc in
    subst (SaysLaterClock times line) same (record {
      spelled = says.spelled;
      fits = says.fits;
      follows = record { few = leb-false _ _ (refused_if-ok _ _ _ few.1); above = leb-false _ _ (refused_if-ok _ _ _ risen.1); rate = says.ticks };
    })

-- ---- which of these lines this is

-- behind a clock's line that of a clock is read as one more, in a version that has more
pub is_later : (clock : Clock) → is_later_clock 2 (clock_line clock) ≡ true
is_later clock = refl

-- that of the writers is read as none
pub not_later : (version count : ℕ) → is_later_clock version (writers_line count) ≡ false
not_later version count = and_right (has_clocks version) false refl

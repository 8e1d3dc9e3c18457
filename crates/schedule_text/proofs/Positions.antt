-- How far the rings of a schedule come.
use Rattle.std.proofs.Common.{◌≡◌, ℕ, ◌+◌, ◌*◌, ◌-◌, ◌≤◌, Bool, true, false, List, [], ◌∷◌, ◌++◌, length, refl, sym, subst, arith}
use Rattle.std.specs.Prelude.{if◌then◌else◌, Option, None, Some, IfSome, slice_get}
use Rattle.std.proofs.lemmas.List.{length-set, length-append, length-replicate}
use Rattle.std.proofs.lemmas.List.Elements.{All-set, All-replicate, All-weaker}
use Rattle.session_options.specs.declared.limits.TheConstants.{MIN_RING}
use Rattle.ring_core.specs.declared.limits.TheConstants.{MAX_POSITION}
use Rattle.ring_machine.specs.declared.rings.TheConstants.{MAX_RINGS}
use Rattle.ring_machine.specs.declared.steps.StepKind.{StepKind}
use Rattle.ring_machine.specs.declared.steps.StepKind.TheVariants as steps
use Rattle.ring_machine.specs.declared.steps.Event.{Event}
use Rattle.ring_machine.specs.Streams.{Walk, start, is_wrap_mark, is_whole_frame, skipped, framed, parted, onward, walk_from}
use Rattle.ring_machine.specs.RingStates.{RingState, new_ring, written}
use Rattle.ring_machine.specs.Steps.{after_step, rings_after, IsEvent}
use Rattle.ring_machine.specs.Rings.{new_rings}
use Rattle.ring_machine.proofs.lemmas.Schedules.{All-get}
use Rattle.schedule_text.specs.declared.head_line.TheConstants.{MAX_WORDS}
use Rattle.schedule_text.specs.declared.playing.TheConstants.{MAX_STEPS}
use Rattle.schedule_text.specs.Playing.{HasStored, Reached}

-- ---- one ring

-- a word brings a stream on by a lap at most
onward_near : (size : ℕ) (w : Walk) (word : ℕ) → 1 ≤ size → size ≤ MAX_WORDS → (onward size w word).at ≤ w.at + MAX_WORDS
unfolding onward
onward_near size w word some few = by_tests (is_wrap_mark w.part word) (is_whole_frame (w.part ++ word ∷ []))
  where
    by_tests : (mark whole : Bool) → (if mark then skipped size w else (if whole then framed w (w.part ++ word ∷ []) else parted w (w.part ++ word ∷ []))).at ≤ w.at + MAX_WORDS
    by_tests true whole = omega (arith, few)
    by_tests false true = omega (arith, some, few)
    by_tests false false = omega (arith, some, few)

walk_near : (size : ℕ) (w : Walk) (words : List ℕ) → 1 ≤ size → size ≤ MAX_WORDS → (walk_from size w words).at ≤ w.at + MAX_WORDS * length words
walk_near size w [] some few = omega arith
walk_near size w (word ∷ words) some few = omega (arith, onward_near size w word some few, walk_near size (onward size w word) words some few)

-- no ring of a schedule comes near the greatest position
near : (made : ℕ) (s : RingState) → HasStored made s → made ≤ MAX_STEPS → (written s).at ≤ MAX_POSITION
near made s has few = omega (arith, walk_near s.size start s.writer.stream has.least has.most, has.few, few)

more : (made : ℕ) (s : RingState) → HasStored made s → HasStored (made + 1) s
more made s has = record { least = has.least; most = has.most; few = omega (arith, has.few) }

-- a step stores one word at most
stored_after : (made : ℕ) (s : RingState) (step : StepKind) → HasStored made s → HasStored (made + 1) (after_step s step)
stored_after made s (steps.Store word) has = record { least = has.least; most = has.most; few = omega (arith, has.few, length-append s.writer.stream (word ∷ [])) }
stored_after made s steps.Skip has = record { least = has.least; most = has.most; few = omega (arith, has.few, length-append s.writer.stream (0 ∷ [])) }
stored_after made s steps.Look has = record { least = has.least; most = has.most; few = omega (arith, has.few) }
stored_after made s steps.Publish has = record { least = has.least; most = has.most; few = omega (arith, has.few) }
stored_after made s steps.Close has = record { least = has.least; most = has.most; few = omega (arith, has.few) }
stored_after made s steps.Load has = record { least = has.least; most = has.most; few = omega (arith, has.few) }
stored_after made s steps.Read has = record { least = has.least; most = has.most; few = omega (arith, has.few) }
stored_after made s steps.Release has = record { least = has.least; most = has.most; few = omega (arith, has.few) }

-- ---- several rings

pub reached_new : (count words : ℕ) → count ≤ MAX_RINGS → MIN_RING ≤ words → words ≤ MAX_WORDS → Reached 0 (new_rings count words)
reached_new count words few least most = record {
  few = omega (arith, length-replicate count (new_ring words), few);
  stored = All-replicate (HasStored 0) count (new_ring words) (record { least = omega (arith, least); most = most; few = omega arith });
}

reached_at : (made : ℕ) (rings : List RingState) (ring : ℕ) (step : StepKind) (o : Option RingState) → slice_get rings ring ≡ o → Reached made rings → Reached (made + 1) (rings_after rings ring o step)
reached_at made rings ring step None is reached = record { few = reached.few; stored = All-weaker (HasStored made) (HasStored (made + 1)) (more made) rings reached.stored }
reached_at made rings ring step (Some s) is reached = record {
  few = omega (arith, length-set rings ring (after_step s step), reached.few);
  stored = All-set (HasStored (made + 1)) rings ring (after_step s step) (stored_after made s step (All-get (HasStored made) rings ring s reached.stored is)) (All-weaker (HasStored made) (HasStored (made + 1)) (more made) rings reached.stored);
}

pub reached_after : (made : ℕ) (rings next : List RingState) (event : Event) → Reached made rings → IsEvent rings event next → Reached (made + 1) next
reached_after made rings next event reached is = subst (Reached (made + 1)) (sym is.next_is) (reached_at made rings event.ring event.step (slice_get rings event.ring) refl reached)

pub position_fits : (made : ℕ) (rings : List RingState) (ring : ℕ) → Reached made rings → made ≤ MAX_STEPS → IfSome (slice_get rings ring) (λ s. (written s).at ≤ MAX_POSITION)
position_fits made rings ring reached few = at (slice_get rings ring) refl
  where
    at : (o : Option RingState) → slice_get rings ring ≡ o → IfSome o (λ s. (written s).at ≤ MAX_POSITION)
    at None is = tt
    at (Some s) is = near made s (All-get (HasStored made) rings ring s reached.stored is) few

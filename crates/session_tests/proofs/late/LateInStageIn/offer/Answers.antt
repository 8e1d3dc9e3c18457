use Rattle.std.proofs.Common.{ℕ, ◌≤◌, List, length, refl, ap, arith}
use Rattle.std.proofs.lemmas.List.Elements.{All-contains, Contains-push}
use Rattle.arg_records.specs.declared.frame.TheConstants.{MAX_FRAME_WORDS}
use Rattle.ring_core.proofs.lemmas.Frames.{Lawful-lengths}
use Rattle.ring_core.proofs.lemmas.Needs.{Need-least}
use Rattle.session_tests.proofs.late.LateInStageIn.offer.Goals as goal

pub learn_room-requires : goal.learn_room-requires
learn_room-requires c =
    let end = c.args.self.now.end in
    let frame = c.args.frame.now in
    let long : (2 ≤ length frame) × (length frame ≤ MAX_FRAME_WORDS) =
    All-contains (λ (words : List ℕ). (2 ≤ length words) × (length words ≤ MAX_FRAME_WORDS)) _ frame (Lawful-lengths end.plan _ c.requires.lawful) (Contains-push end.sent frame)
    in
    omega (arith, long.0, Need-least end.at (length frame) end.words, c.in-Ok.ensures.exact.0 refl, ap (λ w. w.at) c.in-Ok.ensures.ok.same, ap (λ w. w.words) c.in-Ok.ensures.ok.same)

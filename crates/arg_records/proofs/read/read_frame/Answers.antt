use Rattle.std.proofs.Common.{◌<◌, ◌^◌, ℕ, refl}
use Rattle.std.proofs.lemmas.List.{take_rest}
use Rattle.std.proofs.lemmas.List.Elements.{All-from_get_or}
use Rattle.arg_records.proofs.Reading.{frame_parts, frame_made, IsFrameOf-unique}
use Rattle.arg_records.proofs.read.read_frame.Goals as goal

pub returns-in_default-clause-broken : goal.returns-in_default-clause-broken
returns-in_default-clause-broken c = (λ e. absurd cc, λ none. let it = c.if-not-is_frame.ensures.0 refl in absurd (none it.0 it.1))

pub returns-clause-ok : goal.returns-clause-ok
returns-clause-ok c =
    let types = c.args.types.now in
    let frame = c.args.frame.now in
    let below = All-from_get_or (λ (w : ℕ). w < 2 ^ 64) frame 0 (λ i _. (c.type_inv.frame i).fits) in
    let it = c.if-not-is_frame.ensures.0 refl in
    let parts = frame_parts types it.0 frame it.1 in
    let spelled = rw (take_rest frame 2) at c.in-Ok.ensures.ok in
    frame_made types c.in-Ok.args frame c.requires below (record { some = parts.some; within = parts.within; id_in_range = parts.id_in_range; len_is = parts.len_is; spelled = spelled })

pub returns-clause-only : goal.returns-clause-only
returns-clause-only c = λ args is. IsFrameOf-unique c.args.types.now c.in-Ok.args args c.args.frame.now (returns-clause-ok c) is

pub returns-clause-broken : goal.returns-clause-broken
returns-clause-broken c = (λ e. absurd cc, λ none. absurd (none c.in-Ok.args (returns-clause-ok c)))

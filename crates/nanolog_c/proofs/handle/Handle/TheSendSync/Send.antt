-- A handle may go to another thread, since what it owns may.
use mir.Raw.{raw}
use base.Shift.{Keyless}
use denote.Memory.{lone}
use denote.RawPtr.{Ptr, block_ptr, null_ptr}
use denote.Struct.Struct.{exits_of}
use denote.Struct.Owning.{shape, fields, to}
use denote.Param.Send.{IsSend, AllSend, owning_send, struct_send, sendable}
use Rattle.std.specs.Prelude.{Option, Some, None}
use Rattle.std.proofs.Crossing as heap
use Rattle.std_alloc.proofs.SendSync.{quiet, lies}
use Rattle.log_ends.specs.contracts.end.End as End
use Rattle.log_ends.proofs.end.End.TheSendSync.{the_send as end}
use Rattle.nanolog_c.specs.Handles.{handle_owns, heap as the_heap}
use Rattle.nanolog_c.specs.contracts.handle.Handle.{the_row, the_type}

owned : (p : Ptr) (held : Option (End.the_row).Denot) → Keyless (handle_owns p held)
owned null_ptr None = tt
owned null_ptr (Some x) = tt
owned (block_ptr b o) None = tt
owned (block_ptr b o) (Some x) = (lies End.the_row end (block_ptr b o) x, heap.frees.frees the_heap (raw (lone (End.the_row).mir)) (block_ptr b o))

pub send : IsSend the_row
send =
    let all : AllSend (fields the_type) = (search sendable, tt) in
    owning_send the_type all (λ d. owned d.ptr d.value)
    (λ k. quiet (to the_type) (exits_of k (fields the_type)) ((struct_send (shape the_type) all).leaving k))

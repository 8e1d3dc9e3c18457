-- What a handle owns: what the box of an end owns, or nothing where it is null.
use Rattle.std.specs.Prelude.{Option, Some, None}
use base.Fml.{Fml, ftrue, ffalse}
use base.Stored.{Coded}
use denote.RawPtr.{Ptr, block_ptr, null_ptr}
use Rattle.std.specs.Box.Ownership.{box_owns}
use Rattle.std.specs.Global.{Global}
use Rattle.std.specs.contracts.impls.GlobalAllocator.TheImpl.{ghosts}
use Rattle.std.specs.contracts.option.Option as option
use Rattle.log_ends.specs.contracts.end.End.{the_row}

-- the one allocator of the C library
abbrev pub heap : Global
heap = record { memory = record { seal = tt } }

-- what the box of an end owns
abbrev pub end_owns : Ptr → the_row.Denot → Fml
end_owns = box_owns (ghosts.dealloc_token heap) the_row

abbrev pub handle_owns : Ptr → Option the_row.Denot → Fml
handle_owns (block_ptr b o) (Some end) = end_owns (block_ptr b o) end
handle_owns (block_ptr b o) None = ffalse
handle_owns null_ptr (Some end) = ffalse
handle_owns null_ptr None = ftrue

abbrev pub handle_coded : Coded (Option the_row.Denot)
handle_coded = (option.the_row the_row).coded

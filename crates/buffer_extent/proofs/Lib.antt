pub mod lemmas
mod TypeKinds
mod PackedNumbers
mod Packing
mod Arguments
mod RecordForms
mod Bodies
mod Staging
mod Putting
mod Writes
mod Worked
mod Joining

pub mod Printings
pub mod HeldLaws
pub mod SoundTasks
pub mod EffectLaws
pub mod TaskLaws

pub mod Heading
pub mod Injecting

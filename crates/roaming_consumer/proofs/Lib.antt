pub mod lemmas
mod Used
mod Lists
mod DueClocks
mod Growth
mod Drafting
mod Fragmenting
mod Due
mod TakenFrames
mod Standing
mod Additions
mod Stopping
mod Holding

pub mod CallLists
pub mod Fitted
pub mod Lengths
pub mod Places
pub mod TextWords
pub mod Walks

pub mod lemmas
mod Comments
mod Lists
mod LineLists
mod Literals
mod Numbers
mod SomeParts
mod Splicing
mod Standings

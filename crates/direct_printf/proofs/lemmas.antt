pub mod Origins
pub mod Sorting

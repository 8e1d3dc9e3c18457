pub mod Table
pub mod TableViews
pub mod Commands
pub mod CommandViews
pub mod Apps
pub mod Uses
pub mod Rows
pub mod Usage

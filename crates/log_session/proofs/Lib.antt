mod Logging
mod Rings

mod Library
pub mod Endian
pub mod RoundTrip

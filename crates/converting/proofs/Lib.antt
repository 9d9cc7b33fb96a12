pub mod Ways
pub mod Networks
pub mod RoundTrips

pub mod Partners
pub mod Promise
pub mod Fewer

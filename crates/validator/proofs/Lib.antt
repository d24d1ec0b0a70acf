-- The laws on the check.
pub mod Texts
pub mod Reports
pub mod Promise
pub mod Determined
pub mod Demand
pub mod Examples
pub mod Impostors

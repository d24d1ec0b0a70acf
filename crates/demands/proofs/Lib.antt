-- The claims, proved.
pub mod Refusals
pub mod Inside
pub mod Demand1
pub mod Examples
pub mod Impostors

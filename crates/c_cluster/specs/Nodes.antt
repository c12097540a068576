pub mod Results
pub mod Status
pub mod Lifetime
pub mod Outcome
pub mod NodeJob
pub mod HostCalls
pub mod Suspension

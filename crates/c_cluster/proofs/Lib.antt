mod AsBox
mod BundleCalls
mod Called
mod HostCalls
mod Opened
mod Outcomes

-- What every call keeps. The promises follow from it; their statements, in the other files of specs, name none of it
pub mod Secured
pub mod Sound
pub mod Tidy
pub mod Gated
pub mod Exact

pub mod Results
pub mod Word

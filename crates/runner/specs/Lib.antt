pub mod Orders
pub mod Run
pub mod Reports
pub mod Inside
pub mod Rest
pub mod Why

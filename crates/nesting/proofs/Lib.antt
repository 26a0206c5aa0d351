pub mod Most
pub mod Tells

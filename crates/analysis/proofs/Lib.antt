pub mod Joined
pub mod Tells

pub mod Counting
pub mod First
pub mod Heads
pub mod Joined
pub mod Makes
pub mod Removals
pub mod Settled
pub mod Walks

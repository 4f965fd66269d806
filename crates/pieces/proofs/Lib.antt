pub mod TickLaws
pub mod SeatLaws
pub mod CallLaws
pub mod Solo
pub mod Ordinaries
mod KindLaws
mod Filling
mod Ticks
mod Bounds
mod Making
mod Reaching
pub mod Keeping
mod Stack
mod Late
pub mod Soundness
mod Meaning
mod Sameness
pub mod Returning
mod Kept

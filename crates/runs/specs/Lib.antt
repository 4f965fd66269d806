pub mod Events
pub mod HeldFeeder
pub mod NoReturn

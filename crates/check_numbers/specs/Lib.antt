pub mod InnerHeld

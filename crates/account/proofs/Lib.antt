pub mod Users
pub mod Printed

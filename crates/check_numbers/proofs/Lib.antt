pub mod Places
pub mod Tables
pub mod Runs

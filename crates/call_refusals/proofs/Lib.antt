pub mod Refused
mod RunsOpen
mod Closings

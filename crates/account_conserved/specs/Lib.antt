pub mod Conservation

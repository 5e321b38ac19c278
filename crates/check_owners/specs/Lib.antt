pub mod InnerOwners

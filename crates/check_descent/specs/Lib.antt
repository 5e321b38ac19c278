pub mod InnerDescent

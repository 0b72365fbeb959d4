pub mod Field
pub mod ProductTable

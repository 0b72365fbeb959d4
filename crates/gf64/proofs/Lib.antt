pub mod SumLaws
pub mod Pairs
pub mod ProductLaws
pub mod ProductTableLaws

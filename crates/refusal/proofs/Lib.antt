pub mod Laws
pub mod KindLaws
pub mod Within
pub mod AnyTo
pub mod Among
pub mod WalkLaws

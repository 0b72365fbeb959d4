pub mod RefusalLaws
pub mod ReadLaws
pub mod SampleLaws
pub mod SendLaws
pub mod TripLaws

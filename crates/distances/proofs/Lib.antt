pub mod CountLaws
pub mod DistanceLaws
pub mod BetweenLaws
pub mod ShiftLaws
pub mod PremiseLaws
pub mod AnswerLaws
